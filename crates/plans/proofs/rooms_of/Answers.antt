-- `plans::rooms_of` meets its contract: the turns of the table are noted in both buffers while its plan is decided, and then the
-- places become the numbers of their jobs. Assumes nothing.
use native.Mathlib.Omega.{arith}
use Rattle.plans.proofs.Leaving.{rooms_left}
use Rattle.plans.proofs.rooms_of.Goals as goal

pub returns : goal.returns
returns c =
    let noted = c.decide-decided.ensures.noted in
    rooms_left c.args.jobs.now.number (noted.noted c.requires.1 c.requires.2) c.requires.0.columns_of.number
    (omega (arith, noted.rooms_whole, noted.few, c.requires.2)) c.decide-decided.ensures.decides.room c.args.turns.now c.args.rooms.now
    noted.order_whole noted.rooms_whole c.name_order.ensures c.clear_behind.ensures
