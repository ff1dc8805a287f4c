-- `plans::course_of` meets its contract: steps 1 and 2, and then those behind them on what these leave. Assumes nothing.
use borrow.Author.Rules.{rules}
use Rattle.plans.proofs.Running.{left_by}
use Rattle.plans.proofs.course_of.Goals as goal

pub returns-clause-run : goal.returns-clause-run
returns-clause-run c =
    let run = c.run_turns.ensures.run in
    record {
      placed = run.placed;
      totalled = run.totalled;
      course = λ t of. run.course t (left_by (search rules) c.holders.ensures c.take_out.ensures t of);
    }

pub returns-clause-noted : goal.returns-clause-noted
returns-clause-noted c =
    let noted = c.run_turns.ensures.noted in
    record {
      few = noted.few;
      order_whole = noted.order_whole;
      rooms_whole = noted.rooms_whole;
      noted = λ t of. noted.noted t (left_by (search rules) c.holders.ensures c.take_out.ensures t of);
    }
