-- Which speeds qualify: those at which all jobs end in time and the energy is within budget. The two parts, each way.
-- Assumes nothing.
use mathlib.Core.Bool.{true, false}
use mathlib.Core.List.{List}
use mathlib.Core.Path.{◌≡◌}
use Prim.Native.Nat.{◌≤◌, ◌<◌}
use native.Mathlib.Omega.{arith}
use borrow.Author.Tests.{le-leb, leb-true}
use lib.Dec.{leb}
use Rattle.laws.proofs.Choices.{clash}
use Rattle.laws.proofs.Tests.{both_true, not_true_false}
use Rattle.rules.specs.Plan.{energy_at, in_time, qualifies}
use Rattle.rules.specs.TableText.{Records}
use Rattle.rules.specs.declared.Job.{Job}
use Rattle.rules.specs.declared.Speed.{Speed}

module _ (t : Records) (js : List Job) (f : Speed) where
  pub both_qualify : in_time t.clock f.mhz js ≡ true → energy_at f js ≤ t.budget → qualifies t js f ≡ true
  unfolding qualifies
  both_qualify e l = rw e (le-leb (energy_at f js) t.budget l)

  pub qualified_both : qualifies t js f ≡ true → (in_time t.clock f.mhz js ≡ true) × (energy_at f js ≤ t.budget)
  unfolding qualifies
  qualified_both q =
      let both = both_true (in_time t.clock f.mhz js) (leb (energy_at f js) t.budget) q in
      (both.0, leb-true (energy_at f js) t.budget both.1)

  pub late_not_qualified : in_time t.clock f.mhz js ≡ false → qualifies t js f ≡ false
  late_not_qualified e = not_true_false (qualifies t js f) (λ q. clash (qualified_both q).0 e)

  pub dear_not_qualified : t.budget < energy_at f js → qualifies t js f ≡ false
  dear_not_qualified l = not_true_false (qualifies t js f) (λ q. omega (arith, (qualified_both q).1))
