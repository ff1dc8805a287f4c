-- `remaining::mark_walk` meets its contract. Each place passed has its mark, and where that says so the walk from the place
-- come to ends. Assumes nothing.
use native.Mathlib.Omega.{arith}
use Rattle.remaining.proofs.Ending.{ends_on}
use Rattle.remaining.proofs.Settling.{one_more_settled}
use Rattle.remaining.proofs.mark_walk.Goals as goal

pub loop-preserved : goal.loop-preserved
loop-preserved c =
    let loop = c.loop in (
      one_more_settled _ _ loop.marks loop.at c.args.end loop.invariant.0 (omega arith) c.requires.1.known loop.invariant.1,
      λ e. ends_on _ loop.at (omega arith) (loop.invariant.1 e),
    )
