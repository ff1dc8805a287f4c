-- What the functions of steps 1 and 2 and the deadlines ask and promise: a job is known by its place, and read from the columns.
use Rattle.std.specs.Prelude.{Bool, List, ◌≡◌, ℕ, ◌+◌, ◌*◌, ◌/◌, ◌≤◌, ◌<◌, get_or, length}
use Rattle.std.specs.List.{All}
use Rattle.std.proofs.Math.Option.{Option}
use Rattle.chains.specs.Waits.{HolderAt, PlaceOrNobody, Remaining, Waits, at_place}
use Rattle.chains.specs.declared.Weight.{Weight}
use Rattle.columns.specs.Columns.{AtMost, Column, TermsOf}
use Rattle.columns.specs.declared.Columns.{Columns}
use Rattle.columns.specs.declared.Terms.{Terms}
use Rattle.rules.specs.Lists.{Rising, find, keep}
use Rattle.rules.specs.Plan.{awaited, goes_rather, leaves_ring, top_of, waits_for}
use Rattle.rules.specs.Refusals.{is_holder}
use Rattle.rules.specs.TableText.{Records, most_cycles, most_holds, most_jobs, most_mhz, most_time, most_worth, no_job}
use Rattle.rules.specs.declared.Hold.{Hold}
use Rattle.rules.specs.declared.Job.{Job}
use Rattle.steps.specs.Deadlines.{deadline_of}

-- A chain has a job, and at most one for each resource behind it.
abbrev pub most_members : ℕ
most_members = most_holds + 1

-- A clock, a speed, the cycles of a chain and a time in their ranges: no product of them wraps.
pub record Comparable (clock mhz cycles termination : ℕ) : Type 0 where
  pub clock_small : clock ≤ most_time
  pub mhz_small : mhz ≤ most_mhz
  pub cycles_small : cycles ≤ most_cycles * most_members
  pub termination_small : termination ≤ most_time

-- The place of the job of this number, or `most_jobs` where there is none.
pub record PlaceOf (numbers : List ℕ) (number r : ℕ) : Type 0 where
  pub place : (js : List Job) → length js ≡ length numbers → Rising (λ j. j.number) js → Column (λ j. j.number) js numbers
      → (h : Hold) → h.holder ≡ number → at_place js r ≡ find (is_holder h) js
  pub place_or_nobody : (js : List Job) → length js ≡ length numbers → PlaceOrNobody js r

-- Jobs and resources in their ranges: each has a place.
pub record Holdable (holds : List Hold) (numbers : List ℕ) : Type 0 where
  pub few_jobs : length numbers ≤ most_jobs
  pub resources_small : All (λ h. h.resource ≤ most_holds) holds

-- The holders of the resources, by their places.
pub record Holders (holds : List Hold) (numbers : List ℕ) (r : List ℕ) : Type 0 where
  pub holders : (js : List Job) → length js ≡ length numbers → Rising (λ j. j.number) js
      → Column (λ j. j.number) js numbers → HolderAt js holds r

-- The place of the job that the job at this place waits for among those that remain, or `most_jobs` for nobody.
pub record WaitsFor (place : ℕ) (requests holder-at fates : List ℕ) (r : ℕ) : Type 0 where
  pub whom : (js : List Job) (holds : List Hold) (remains : Job → Bool) → Rising (λ j. j.number) js
      → Column (λ j. j.request) js requests → HolderAt js holds holder-at → Remaining js remains fates
      → at_place js r ≡ waits_for holds (keep remains js) (get_or js place no_job)
  pub place_or_nobody : (js : List Job) (holds : List Hold) → HolderAt js holds holder-at → PlaceOrNobody js r

-- A job with this worth, these cycles and this number.
pub record Weighs (j : Job) (w : Weight) : Type 0 where
  pub worth_of : j.worth ≡ w.worth
  pub cycles-of : j.cycles ≡ w.cycles
  pub number_of : j.number ≡ w.number

-- what the columns tell of the job at a place
abbrev pub weight_at : Columns → ℕ → Weight
weight_at jobs p = record { worth = get_or jobs.worth p 0; cycles = get_or jobs.cycles p 0; number = get_or jobs.number p 0 }

-- Worth and cycles in their ranges: no product of them wraps.
pub record Weighable (w : Weight) : Type 0 where
  pub worth_small : w.worth ≤ most_worth
  pub cycles_small : w.cycles ≤ most_cycles

-- Whether the job of the first weight goes rather than that of the other.
pub record Rather (w other : Weight) (r : Bool) : Type 0 where
  pub rather : (t : Records) (j k : Job) → Weighs j w → Weighs k other → r ≡ goes_rather t j k

-- Whether the job at this place is the one of its ring that is taken out.
pub record LeavesRing (place : ℕ) (waits : List ℕ) (jobs : Columns) (r : Bool) : Type 0 where
  pub leaves : (t : Records) (js : List Job) (next : Job → Option Job) → Rising (λ j. j.number) js
      → Waits js next waits → place < length js → Column (λ j. j.number) js jobs.number
      → Column (λ j. j.worth) js jobs.worth → Column (λ j. j.cycles) js jobs.cycles
      → r ≡ leaves_ring t (awaited next (get_or js place no_job)) (get_or js place no_job)

-- The latest deadline, in cycles.
abbrev pub most_deadline : ℕ
most_deadline = most_time * most_mhz / 1000

-- At each place the deadline of the job there, in cycles; beyond the jobs 0.
pub record Deadlines (termination : List ℕ) (terms : Terms) (r : List ℕ) : Type 0 where
  pub deadlines_of : (t : Records) → TermsOf t terms → Column (λ j. j.termination) t.jobs termination
      → Column (deadline_of t.clock (top_of t).mhz) t.jobs r
  pub at_most : AtMost most_deadline r
