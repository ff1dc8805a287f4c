-- `plans::conclude` meets its contract: the speed and the energy that step 9 names for the plan, and 1 for the planned.
-- Assumes nothing.
use Rattle.plans.proofs.Concluding.{steps_8_and_9}
use Rattle.plans.proofs.conclude.Goals as goal

pub returns : goal.returns
returns c =
    steps_8_and_9 c.args.plan.now _ c.choose_speed-chosen.result c.args.turns _ c.requires.placed c.requires.totalled
    c.choose_speed-chosen.ensures c.mark_planned.ensures c.room_left.ensures
