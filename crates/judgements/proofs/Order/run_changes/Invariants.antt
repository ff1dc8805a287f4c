use Prim.Native.Nat.{suc, ◌-◌}
use lib.ListN.{length}
use Rattle.judgements.proofs.Onwards.{Onwards}
use Rattle.judgements.proofs.Order.run_changes.Given as goal

abbrev pub invariant-loop-left : goal.invariant-loop-left
invariant-loop-left l = let o = l.self in Onwards o.planned.now o.keys.now o.changes.now.places o.changes.now.keys o.noted o.cycles.now o.deadline.now l.fn.from l.run l.left

abbrev pub invariant-loop-run : goal.invariant-loop-run
invariant-loop-run l = let o = l.self in Onwards o.planned.now o.keys.now o.changes.now.places o.changes.now.keys o.noted o.cycles.now o.deadline.now l.fn.from l.run (suc l.left)

abbrev pub decreases-loop-run : goal.decreases-loop-run
decreases-loop-run l = length l.self.planned.now - l.run.passed
