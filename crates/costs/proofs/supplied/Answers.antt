-- `costs::supplied` meets its contract: a model below 1 or above 3 is refused, as the rules refuse it, and the code's
-- rows are those that document 01 prints, which the rule gives. Assumes nothing.
use Prim.Native.Nat.{◌≤◌}
use native.Mathlib.Omega.{arith}
use borrow.Author.Tests.{ltb-false}
use Rattle.laws.proofs.Costs.{printed_by_rule}
use Rattle.laws.proofs.Tests.{within_above, within_below, within_holds}
use Rattle.rules.specs.Costs.{supplied_costs}
use Rattle.costs.proofs.supplied.Goals.{Else-model-gt3, then-model-lt1-via-else-model-lt1+then-model-gt3, then-model-lt1-via-then-model-lt1}
use Rattle.costs.proofs.supplied.Goals as goal

pub returns-then-model-lt1 : goal.returns-then-model-lt1
unfolding supplied_costs
returns-then-model-lt1 c =
    let model = c.args.model in
    elim c.then-model-lt1.branch [
      | then-model-lt1-via-then-model-lt1 below ↦ rw (c.at.ensures, within_below 1 3 model below.if-model-lt1.true)
      | then-model-lt1-via-else-model-lt1+then-model-gt3 above ↦ rw (c.at.ensures, within_above 1 3 model above.if-model-gt3.true)
    ]

to-3 : (c : Else-model-gt3) → c.args.model ≤ 3
to-3 c = ltb-false 3 _ c.if-model-gt3.false-raw

pub offset_bounds-model : goal.offset_bounds-model
offset_bounds-model c = omega (arith, to-3 (goal.at.offset_bounds-model c).Else-model-gt3)

pub bounds-model-model : goal.bounds-model-model
bounds-model-model c = omega (arith, to-3 (goal.at.bounds-model-model c).Else-model-gt3)

pub returns : goal.returns
unfolding supplied_costs
returns c =
    let model = c.args.model in
    rw (within_holds 1 3 model c.if-model-lt1.false (to-3 (goal.at.returns c).Else-model-gt3), ← printed_by_rule)
