-- Whom the jobs wait for, as a column: at the place of each job the place of the one it waits for, or `most_jobs` for nobody.
use Rattle.std.specs.Prelude.{Bool, cond, List, [], ◌∷◌, ◌⊎◌, ◌≡◌, ℕ, zero, suc, ◌+◌, ◌≤◌, ◌<◌, eqb, ltb, get_or, length}
use Rattle.std.proofs.Math.Option.{Option, none, some}
use Rattle.rules.specs.Lists.{find}
use Rattle.rules.specs.Plan.{holder_in}
use Rattle.rules.specs.TableText.{most_holds, most_jobs, no_job}
use Rattle.rules.specs.declared.Hold.{Hold}
use Rattle.rules.specs.declared.Job.{Job}

-- the job at a place; beyond the jobs there is nobody
unfoldable pub at_place : List Job → ℕ → Option Job
at_place js p = cond (ltb p (length js)) (some (get_or js p no_job)) none

-- a place of a job, or `most_jobs` for nobody
abbrev pub PlaceOrNobody : List Job → ℕ → Type 0
PlaceOrNobody js p = (p < length js) ⊎ (p ≡ most_jobs)

-- the column stands for the rules' `next`
pub record Waits (js : List Job) (next : Job → Option Job) (waits : List ℕ) : Type 0 where
  pub few : length js ≤ most_jobs
  pub whom : (i : ℕ) → i < length js → at_place js (get_or waits i 0) ≡ next (get_or js i no_job)
  pub place_or_nobody : (i : ℕ) → i < length js → PlaceOrNobody js (get_or waits i 0)

-- the places that a walk along the column meets from one place on: n of them, or fewer where one waits for nobody
unfoldable pub places_from : List ℕ → ℕ → ℕ → List ℕ
places_from waits zero at = []
places_from waits (suc n) at = cond (ltb at most_jobs) (at ∷ places_from waits n (get_or waits at 0)) []

-- The resources, counted from 0.
abbrev pub most_resources : ℕ
most_resources = most_holds + 1

-- At each resource the place of the job that its H line names, or `most_jobs` where no H line names the resource or no job of the
-- table is so numbered. (No H line names resource 0.)
pub record HolderAt (js : List Job) (holds : List Hold) (holder-at : List ℕ) : Type 0 where
  pub few : length js ≤ most_jobs
  pub whom : (resource : ℕ) → resource ≤ most_holds
      → at_place js (get_or holder-at resource 0) ≡ holder_in js (find (λ h. eqb h.resource resource) holds)
  pub place_or_nobody : (resource : ℕ) → resource ≤ most_holds → PlaceOrNobody js (get_or holder-at resource 0)

-- the jobs that remain are those of fate 0
abbrev pub Remaining : List Job → (Job → Bool) → List ℕ → Type 0
Remaining js remains fates = (i : ℕ) → i < length js → remains (get_or js i no_job) ≡ eqb (get_or fates i 0) 0
