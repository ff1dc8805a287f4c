-- The tables that document 01 calls valid: what "The table text", and 5 to 7 of "Numbers a refusal carries", ask of the
-- records, each part by name.
use Rattle.std.specs.Prelude.{◌≡◌, true, false, ℕ, ◌≤◌, length}
use Rattle.rules.specs.Lists.{Each, Rising, any}
use Rattle.rules.specs.Refusals.{asks_own, is_holder}
use Rattle.rules.specs.TableText.{Record, Records, in_range, most_holds, most_jobs, most_speeds}
use Rattle.rules.specs.declared.Speed.{Speed}
use Rattle.rules.specs.declared.Job.{Job}
use Rattle.rules.specs.declared.Hold.{Hold}
use Rattle.rules.specs.declared.Table.{Table}

pub record ValidUpTo (most : ℕ) (r : Records) : Type 0 where
  -- every number is in its range
  pub clock_range : in_range (Record.T r.clock r.budget) ≡ true
  pub speed_ranges : Each (λ f. in_range (Record.F f) ≡ true) r.speeds
  pub job_ranges : Each (λ j. in_range (Record.J j) ≡ true) r.jobs
  pub hold_ranges : Each (λ h. in_range (Record.H h) ≡ true) r.holds
  -- "1 to 16 F, speeds strictly rising"
  pub some_speed : 1 ≤ length r.speeds
  pub few_speeds : length r.speeds ≤ most_speeds
  pub speeds_rise : Rising (λ (f : Speed). f.mhz) r.speeds
  -- "0 to 64 J, numbers strictly rising"
  pub few_jobs : length r.jobs ≤ most
  pub jobs_rise : Rising (λ (j : Job). j.number) r.jobs
  -- "H, resources strictly rising"
  pub holds_rise : Rising (λ (h : Hold). h.resource) r.holds
  -- critical is not after termination
  pub critical_first : Each (λ (j : Job). j.critical ≤ j.termination) r.jobs
  -- each holder is in the table, and does not request what it holds; so there is an H "only if there is a J"
  pub holders_known : Each (λ h. any (is_holder h) r.jobs ≡ true) r.holds
  pub none_asks_own : Each (λ h. any (asks_own h) r.jobs ≡ false) r.holds

abbrev pub Valid : Records → Type 0
Valid = ValidUpTo most_jobs

-- No count is "beyond the table's places".
pub record WithinPlacesUpTo (most : ℕ) (t : Table) : Type 0 where
  pub speeds_fit : t.speed_count ≤ most_speeds
  pub jobs_fit : t.job_count ≤ most
  pub holds_fit : t.hold_count ≤ most_holds

abbrev pub WithinPlaces : Table → Type 0
WithinPlaces = WithinPlacesUpTo most_jobs
