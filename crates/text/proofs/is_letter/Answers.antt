-- `text::is_letter` meets its contract: `field_count` gives the count that `is_letter` tests. Assumes nothing.
use Rattle.rules.specs.TableText.{is_letter}
use Rattle.text.proofs.is_letter.Goals as goal

pub returns : goal.returns
unfolding is_letter
returns c = rw (← c.field_count.ensures.0)
