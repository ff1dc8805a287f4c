-- `cycles::enough` meets its contract: it computes the rules' test. In range no product reaches 2^64: an excess of at
-- most 10^6 has a square of at most 10^12, and neither side is above 10^15. Assumes nothing.
use mathlib.Core.Path.{refl}
use Prim.Native.Nat.{◌-◌, ◌≤◌}
use native.Mathlib.Nat.{mul-le-mul, sub-le}
use native.Mathlib.Omega.{arith}
use Rattle.laws.proofs.Allocation.{InRanges, in_ranges}
use Rattle.rules.specs.Cycles.{enough}
use Rattle.rules.specs.TableText.{most_cycles}
use Rattle.cycles.proofs.enough.Goals.{Start}
use Rattle.cycles.proofs.enough.Goals as goal

ranges : (c : Start) → InRanges c.args.mean c.args.variance c.args.assurance
ranges c = in_ranges _ _ _ c.requires.0

excess-to : (c : Start) → c.args.c - c.args.mean ≤ most_cycles
excess-to c = omega arith

pub overflow_mul-result : goal.overflow_mul-result
overflow_mul-result c = omega (arith, mul-le-mul (ranges (goal.at.overflow_mul-result c).Start).assurance_to (ranges (goal.at.overflow_mul-result c).Start).variance_to)

pub overflow_mul-result-2 : goal.overflow_mul-result-2
overflow_mul-result-2 c = omega (arith, mul-le-mul (excess-to (goal.at.overflow_mul-result-2 c).Start) (excess-to (goal.at.overflow_mul-result-2 c).Start))

pub overflow_sub-result : goal.overflow_sub-result
overflow_sub-result c = omega (arith, (ranges (goal.at.overflow_sub-result c).Start).assurance_to)

pub overflow_mul-result-3 : goal.overflow_mul-result-3
overflow_mul-result-3 c =
    omega (arith, mul-le-mul (mul-le-mul (excess-to (goal.at.overflow_mul-result-3 c).Start) (excess-to (goal.at.overflow_mul-result-3 c).Start)) (sub-le 1000 c.args.assurance))

pub returns : goal.returns
unfolding enough
returns c = refl
