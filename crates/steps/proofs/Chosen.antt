-- What step 9 names, as a statement by itself: `Speeds` proves it of every sound plan. Assumes nothing.
use mathlib.Core.Bool.{true}
use mathlib.Core.List.{List}
use mathlib.Core.Path.{◌≡◌}
use Prim.Native.Nat.{ℕ, ◌<◌, ◌≤◌}
use lib.ListN.{get_or, length}
use Rattle.rules.specs.Lists.{Each}
use Rattle.rules.specs.Plan.{energy_at, qualifies}
use Rattle.rules.specs.TableText.{Records, no_speed}
use Rattle.rules.specs.declared.Job.{Job}
use Rattle.rules.specs.declared.Speed.{Speed}

-- The speed that step 9 names: it is one of the table's and qualifies, none that qualifies has less energy, and no lower one
-- as little.
pub record SpeedChosen (t : Records) (js : List Job) (f : Speed) : Type 0 where
  pub of_table : (k : ℕ) × (k < length t.speeds) × (get_or t.speeds k no_speed ≡ f)
  pub qualified : qualifies t js f ≡ true
  pub cheapest : Each (λ (g : Speed). qualifies t js g ≡ true → energy_at f js ≤ energy_at g js) t.speeds
  pub lowest : Each (λ (g : Speed). qualifies t js g ≡ true → g.mhz < f.mhz → energy_at f js < energy_at g js) t.speeds
