-- `listing::PlanLines::list` meets its contract: the lines are put at the front of the buffer where they fit. Assumes nothing.
use native.Mathlib.Omega.{arith}
use Rattle.beside.proofs.Listed.{fits, no_room}
use Rattle.listing.specs.Texts.{plan_text}
use Rattle.listing.proofs.PlanLines.list.Goals as goal

pub returns-then-out-length : goal.returns-then-out-length
returns-then-out-length c =
    rw c.at.ensures (no_room (plan_text c.args.self.now) c.args.out.now (omega (arith, c.length.ensures, c.if-out-length.true)))

pub returns : goal.returns
returns c =
    fits (plan_text c.args.self.now) c.args.out.now c.put.result c.put.new.out
    (omega (arith, c.length.ensures, c.if-out-length.false)) c.put.ensures.0 c.put.ensures.1
