use Prim.Native.Nat.{◌-◌}
use lib.ListN.{length}
use Rattle.judgements.proofs.Onwards.{Behind}
use Rattle.judgements.proofs.Order.run_to_moved.Given as goal

abbrev pub invariant-loop-run : goal.invariant-loop-run
invariant-loop-run l = let o = l.self in Behind o.planned.now o.changes.now.places o.noted o.cycles.now o.deadline.now l.fn.from l.run

abbrev pub decreases-loop-run : goal.decreases-loop-run
decreases-loop-run l = length l.self.planned.now - l.run.passed
