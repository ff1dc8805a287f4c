-- `remaining::take_out` meets its contract: each call promises its part of steps 1 and 2, of the columns that the calls
-- before it left. Assumes nothing.
use Rattle.remaining.proofs.Staging.{steps_1_and_2}
use Rattle.remaining.proofs.take_out.Goals as goal

pub returns : goal.returns
returns c = steps_1_and_2 c.late_fates.ensures c.waits_column.ensures c.ring_fates.ensures c.waits_column-2.ensures
