use mathlib.Core.Bool.{true}
use mathlib.Core.Path.{◌≡◌}
use Prim.Native.Nat.{ℕ, ◌-◌, ◌≤◌}
use Rattle.laws.proofs.Allocation.{Nowhere}
use Rattle.rules.specs.Cycles.{enough}
use Rattle.rules.specs.TableText.{most_cycles}
use Rattle.cycles.proofs.least.Given as goal

-- the least lies between low and high
pub record Between (mean variance assurance low high : ℕ) : Type 0 where
  pub from_mean : mean ≤ low
  pub in_order : low ≤ high
  pub to_most : high ≤ most_cycles
  pub high-enough : enough mean variance assurance high ≡ true
  pub none_below : Nowhere (enough mean variance assurance) mean low

abbrev pub invariant-loop-low : goal.invariant-loop-low
invariant-loop-low l = Between l.mean l.variance l.assurance l.low l.high

abbrev pub decreases-loop-low : goal.decreases-loop-low
decreases-loop-low l = l.high - l.low
