-- `planner::before_table` meets its contract: its tests are those of the refusals, in their order. Assumes nothing.
use mathlib.Core.Path.{sym, ◌∙◌}
use borrow.Author.Tests.{not-false, not-true}
use Rattle.planner.specs.Promises.{bad_budget, first_too_small, second_too_small}
use Rattle.planner.proofs.before_table.Goals as goal

pub returns-then-first-lt-MOST_JOBS : goal.returns-then-first-lt-MOST_JOBS
returns-then-first-lt-MOST_JOBS c = rw c.at.ensures (first_too_small c.if-first-lt-MOST_JOBS.true)

pub returns-then-second-lt-MOST_JOBS : goal.returns-then-second-lt-MOST_JOBS
returns-then-second-lt-MOST_JOBS c = rw c.at-then-second-lt-MOST_JOBS.ensures (second_too_small c.if-second-lt-MOST_JOBS.true)

pub returns-then-not-budget_in_range : goal.returns-then-not-budget_in_range
returns-then-not-budget_in_range c =
    let asked = c.budget_in_range in
    rw c.at-then-not-budget_in_range.ensures
    (bad_budget c.if-first-lt-MOST_JOBS.false c.if-second-lt-MOST_JOBS.false
    (sym asked.ensures ∙ not-true asked.result c.if-not-budget_in_range.true-raw))

pub returns : goal.returns
returns c =
    let asked = c.budget_in_range in
    record {
      first_whole = c.if-first-lt-MOST_JOBS.false;
      second_whole = c.if-second-lt-MOST_JOBS.false;
      in_range = sym asked.ensures ∙ not-false asked.result c.if-not-budget_in_range.false-raw;
    }
