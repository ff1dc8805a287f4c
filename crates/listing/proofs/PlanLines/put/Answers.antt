-- `listing::PlanLines::put` meets its contract: each part is written behind those before it, and all of them have room. Assumes
-- nothing.
use native.Mathlib.Omega.{arith}
use Rattle.listing.proofs.PlanTexts.{length_parts, parts_at_front}
use Rattle.listing.proofs.PlanLines.put.Goals as goal

pub put_line-behind_plan-requires : goal.put_line-behind_plan-requires
put_line-behind_plan-requires c = omega (arith, c.requires, length_parts c.args.self.now)

pub put_rows-behind_orders-requires : goal.put_rows-behind_orders-requires
put_rows-behind_orders-requires c = (
  omega arith,
  omega (arith, c.requires, c.put_line-behind_plan.ensures.0, c.put_line-behind_plan.auto.out, length_parts c.args.self.now),
)

pub put_rows-requires : goal.put_rows-requires
put_rows-requires c = (
  omega arith,
  omega (
    arith,
    c.requires,
    c.put_line-behind_plan.ensures.0,
    c.put_line-behind_plan.auto.out,
    c.put_rows-behind_orders.ensures.0,
    c.put_rows-behind_orders.auto.out,
    length_parts c.args.self.now,
  ),
)

pub returns : goal.returns
returns c =
    let plan = c.put_line-behind_plan in
    let orders = c.put_rows-behind_orders in (
      omega (arith, plan.ensures.0, orders.ensures.0, c.put_rows.ensures.0, length_parts c.args.self.now),
      parts_at_front c.args.self.now c.args.out.now plan.new.out orders.new.out c.put_rows.new.out plan.result orders.result
          plan.ensures.0 plan.ensures.1 orders.ensures.0 orders.ensures.1 c.put_rows.ensures.1,
    )
