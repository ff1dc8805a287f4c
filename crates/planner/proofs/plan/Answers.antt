-- `planner::plan` meets its contract: what `plan_into` leaves, and the front part of the order buffer that `hand_back` makes of it.
-- Assumes nothing.
use Rattle.planner.proofs.Answers.{plan_promised}
use Rattle.rules.specs.Plan.{taken_with}
use Rattle.planner.proofs.plan.Goals as goal

pub returns : goal.returns
returns c =
    let into = c.plan_into-decision in
    plan_promised (taken_with c.args.table c.args.budget) c.args.order.now c.args.fates.now into.new.order into.new.fates
    c.args.order.ref_ptr into.result c.hand_back.result into.ensures c.hand_back.ensures
