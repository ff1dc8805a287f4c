-- `trials::walk` meets its contract. The job is noted first; then, with each step, the changes that are noted and those that the
-- members that are left make, with the limit as it is, are all changes of the rules. Assumes nothing.
use native.Mathlib.Omega.{arith}
use Prim.Native.Nat.{◌+◌, ◌-◌}
use Rattle.rules.specs.TableText.{most_holds}
use Rattle.trials.proofs.Walking.{begins, comes_in_there, ends, moves_to_limit, over_after_all, over_at_nobody, stays_there}
use Rattle.trials.proofs.walk.Goals.{else-key-lt-NOT_PLANNED, then-key-lt-NOT_PLANNED}
use Rattle.trials.proofs.walk.Goals as goal

pub loop-init : goal.loop-init
loop-init c = begins c.requires

pub loop-preserved-then-key-limit : goal.loop-preserved-then-key-limit
loop-preserved-then-key-limit c =
    stays_there c.loop.invariant c.if-at-ge-MOST_JOBS.false (most_holds - (c.loop.counter + 1)) (omega arith) c.if-key-limit.true

pub loop-preserved : goal.loop-preserved
loop-preserved c =
    elim c.if-key-lt-NOT_PLANNED.branch [
      | then-key-lt-NOT_PLANNED w ↦
          rw (w.limit-is, w.noted-is, w.added-is)
          (moves_to_limit c.loop.invariant c.if-at-ge-MOST_JOBS.false (most_holds - (c.loop.counter + 1)) (omega arith)
          w.if-key-lt-NOT_PLANNED.true c.if-key-limit.false)
      | else-key-lt-NOT_PLANNED w ↦
          rw (w.limit-is, w.noted-is, w.added-is, w.min-limit.ensures)
          (comes_in_there c.loop.invariant c.if-at-ge-MOST_JOBS.false (most_holds - (c.loop.counter + 1)) (omega arith)
          c.requires.cycles_small w.if-key-lt-NOT_PLANNED.false)
    ]

pub returns-after-loop : goal.returns-after-loop
returns-after-loop c =
    ends c.loop.invariant (over_after_all c.args.waits.now (most_holds - c.loop.counter) c.loop.at (omega arith))

pub returns-then-at-ge-MOST_JOBS : goal.returns-then-at-ge-MOST_JOBS
returns-then-at-ge-MOST_JOBS c =
    ends c.loop.invariant
    (over_at_nobody c.args.waits.now (most_holds - c.loop.counter) c.loop.at c.if-at-ge-MOST_JOBS.true)
