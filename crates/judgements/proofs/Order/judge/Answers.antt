-- `judgements::Order::judge` meets its contract: the run begins behind the entries before the first change, goes through the changes
-- and to the last entry that leaves, and what comes behind is judged by its latest beginning. In the ranges nothing wraps. Assumes
-- nothing.
use mathlib.Core.Path.{◌≡◌}
use Prim.Native.Nat.{ℕ}
use Rattle.std.specs.Prelude.{Err, IsErrAnd, None, Ok, Option, Result, ok_or}
use Rattle.judgements.proofs.Onwards.{through_of}
use Rattle.judgements.proofs.Judging.{begins_late, front_so_far, late_behind, late_on_the_way, over_budget, planned}
use Rattle.judgements.specs.declared.Run.{Run}
use Rattle.rules.specs.declared.Fate.{Fate}
use Rattle.judgements.proofs.Order.judge.Goals as goal

-- a run that is none is told as time that ran out
told_late : (o : Option Run) (q : Result Run Fate) (why : Fate) (r : Result ℕ Fate) → o ≡ None → q ≡ ok_or o Fate.Time
    → q ≡ Err why → IsErrAnd r (λ e. e ≡ why) → r ≡ Err Fate.Time
told_late o q why (Ok n) none e f told = absurd told
told_late o q why (Err w) none e f told = rw told (cc (let g : q ≡ Err Fate.Time = rw none at e in g))

pub run_changes-requires : goal.run_changes-requires
run_changes-requires c =
    (c.requires.well_noted, front_so_far (through_of c.args.self.now c.requires.well_noted) c.requires c.run_before.ensures)

pub returns-in_err-changes_run : goal.returns-in_err-changes_run
returns-in_err-changes_run c =
    rw (told_late c.run_changes.result c.ok_or.result c.in_err-changes_run.field-0.0 c.from_residual.result
    c.in_err-changes_run.ensures.ok_part c.ok_or.ensures.value c.in_err-changes_run.was c.from_residual.ensures.1)
    (late_on_the_way (through_of c.args.self.now c.requires.well_noted) c.requires c.run_before.ensures
    (rw c.in_err-changes_run.ensures.ok_part at c.run_changes.ensures))

pub returns-in_err-run : goal.returns-in_err-run
returns-in_err-run c =
    rw (told_late c.run_to_moved.result c.ok_or-2.result c.in_err-run.field-0.0 c.from_residual-in_err-run.result
    c.in_err-run.ensures.ok_part c.ok_or-2.ensures.value c.in_err-run.was c.from_residual-in_err-run.ensures.1)
    (late_behind (through_of c.args.self.now c.requires.well_noted) c.requires c.run_before.ensures
    (rw c.in_ok-changes_run.ensures.ok_part at c.run_changes.ensures) (rw c.in_err-run.ensures.ok_part at c.run_to_moved.ensures))

pub returns-then-latest_at-run : goal.returns-then-latest_at-run
returns-then-latest_at-run c =
    begins_late (through_of c.args.self.now c.requires.well_noted) c.requires c.run_before.ensures
    (rw c.in_ok-changes_run.ensures.ok_part at c.run_changes.ensures) (rw c.in_ok-run.ensures.ok_part at c.run_to_moved.ensures)
    c.latest_at.ensures c.if-latest_at-run.true

pub returns-then-terms-all_cycles : goal.returns-then-terms-all_cycles
returns-then-terms-all_cycles c =
    over_budget (through_of c.args.self.now c.requires.well_noted) c.requires c.run_before.ensures
    (rw c.in_ok-changes_run.ensures.ok_part at c.run_changes.ensures) (rw c.in_ok-run.ensures.ok_part at c.run_to_moved.ensures)
    c.latest_at.ensures c.if-latest_at-run.false c.if-terms-all_cycles.true

pub returns : goal.returns
returns c =
    planned (through_of c.args.self.now c.requires.well_noted) c.requires c.run_before.ensures
    (rw c.in_ok-changes_run.ensures.ok_part at c.run_changes.ensures) (rw c.in_ok-run.ensures.ok_part at c.run_to_moved.ensures)
    c.latest_at.ensures c.if-latest_at-run.false c.if-terms-all_cycles.false
