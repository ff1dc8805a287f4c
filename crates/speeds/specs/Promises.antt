-- What the functions of step 9 ask and promise. What is chosen is the rules' speed and energy, whatever rule chooses the speed.
use Rattle.std.specs.Prelude.{true, false, List, Option, Some, None, [], ◌≡◌, ℕ, ◌*◌, ◌≤◌, ◌<◌, get_or, length}
use Rattle.columns.specs.Columns.{RunsOf, TermsOf, jobs_at}
use Rattle.columns.specs.Ranges.{RunsInRange, TermsInRange}
use Rattle.columns.specs.declared.Terms.{Terms}
use Rattle.entries.specs.Promises.{JobPlaces}
use Rattle.rules.specs.Plan.{energy_at, in_time, speed_for}
use Rattle.rules.specs.TableText.{Records, most_cost, most_cycles, most_jobs, most_mhz, most_speeds, no_speed}
use Rattle.rules.specs.Valid.{Valid}
use Rattle.rules.specs.declared.Speed.{Speed}
use Rattle.speeds.specs.declared.Chosen.{Chosen}

-- Speeds and costs in their ranges.
pub record SpeedsInRange (speeds : List Speed) : Type 0 where
  pub few : length speeds ≤ most_speeds
  pub mhz : (i : ℕ) → i < length speeds → (get_or speeds i no_speed).mhz ≤ most_mhz
  pub cost : (i : ℕ) → i < length speeds → (get_or speeds i no_speed).cost ≤ most_cost

-- Speeds, places of jobs, columns and terms in their ranges: no sum or product wraps.
pub record Choosable (speeds : List Speed) (places cycles termination : List ℕ) (terms : Terms) : Type 0 where
  pub in-range : SpeedsInRange speeds
  pub job-places : JobPlaces places
  pub runs_small : RunsInRange cycles termination
  pub terms_small : TermsInRange terms

-- The speeds, the columns and the terms are those of the table.
pub record SpeedsOf (t : Records) (speeds : List Speed) (cycles termination : List ℕ) (terms : Terms) : Type 0 where
  pub terms_of : TermsOf t terms
  pub runs-of : RunsOf t.jobs cycles termination
  pub speeds_of : speeds ≡ t.speeds

-- At the speeds before this place some job ends late, from it on none does.
pub record FirstInTime (speeds : List Speed) (places cycles termination : List ℕ) (terms : Terms) (r : ℕ) : Type 0 where
  pub at_most : r ≤ length speeds
  pub late_before : (t : Records) → Valid t → SpeedsOf t speeds cycles termination terms
      → (i : ℕ) → i < r → in_time t.clock (get_or speeds i no_speed).mhz (jobs_at t.jobs places) ≡ false
  pub in_time_from : (t : Records) → Valid t → SpeedsOf t speeds cycles termination terms
      → (i : ℕ) → r ≤ i → i < length speeds → in_time t.clock (get_or speeds i no_speed).mhz (jobs_at t.jobs places) ≡ true

-- Speeds in their ranges, and no more cycles than a plan can have: no energy wraps.
pub record EnergiesInRange (speeds : List Speed) (total : ℕ) : Type 0 where
  pub in-range : SpeedsInRange speeds
  pub total_small : total ≤ most_cycles * most_jobs

-- Of these speeds none has less energy than the one at this place, and none before it as little.
pub record CheapestAt (speeds : List Speed) (total r : ℕ) : Type 0 where
  pub inside : r < length speeds
  pub none_less : (i : ℕ) → i < length speeds → total * (get_or speeds r no_speed).cost ≤ total * (get_or speeds i no_speed).cost
  pub before_more : (i : ℕ) → i < r → total * (get_or speeds r no_speed).cost < total * (get_or speeds i no_speed).cost

-- Such a speed, wherever it stands, unless there is none at all.
abbrev pub Cheapest : List Speed → ℕ → Option Speed → Type 0
Cheapest speeds total (Some speed) = (r : ℕ) × CheapestAt speeds total r × (speed ≡ get_or speeds r no_speed)
Cheapest speeds total None = speeds ≡ []

-- The speed that step 9 names for the jobs at these places of a valid table, whose speeds rise; and their energy at it.
pub record ChosenSpeed (speeds : List Speed) (places cycles termination : List ℕ) (terms : Terms) (r : Chosen) : Type 0 where
  pub speed : (t : Records) → Valid t → SpeedsOf t speeds cycles termination terms → r.speed ≡ speed_for t (jobs_at t.jobs places)
  pub energy : (t : Records) → SpeedsOf t speeds cycles termination terms → r.energy ≡ energy_at r.speed (jobs_at t.jobs places)
