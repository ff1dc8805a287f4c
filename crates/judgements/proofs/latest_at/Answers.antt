-- Behind the last entry there is no bound. Assumes nothing.
use mathlib.Core.Path.{sym}
use borrow.Author.Tests.{ltb-false}
use lib.ListN.{drop_of_length-le, length}
use Rattle.steps.specs.Deadlines.{latest_of}
use Rattle.judgements.proofs.latest_at.Goals as goal

pub returns-in-None : goal.returns-in-None
unfolding latest_of
returns-in-None c = record {
  latest = λ cycles deadline told.
      rw (drop_of_length-le c.args.planned.now {i = c.args.i}
      (ltb-false c.args.i (length c.args.planned.now) (sym c.in-None.ensures.lookup.0)));
}
