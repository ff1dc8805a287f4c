-- `remaining::walk_end` meets its contract. Where the walk from the place come to ends, that from the first place does. Assumes
-- nothing.
use native.Mathlib.Omega.{arith}
use Rattle.remaining.proofs.Ending.{ends_before}
use Rattle.remaining.proofs.walk_end.Goals as goal

pub loop-preserved : goal.loop-preserved
loop-preserved c = λ e. c.loop.invariant (ends_before _ c.loop.at (omega arith) e)
