-- `plans::terms_of` meets its contract: of a valid table the top speed is the last F. Assumes nothing.
use borrow.Author.Rules.{rules}
use Rattle.plans.proofs.Deciding.{terms_in_range, terms_of_table}
use Rattle.plans.proofs.terms_of.Goals as goal

pub returns-clause-of_table : goal.returns-clause-of_table
returns-clause-of_table c plannable = (
  terms_of_table plannable (search (rules, c.fits-table)) (search (rules, c.fits-table)),
  terms_in_range plannable (search (rules, c.fits-table)),
)
