-- The changes of a trial as the code notes them, places of jobs with keys; and the run through the order that they make.
use Rattle.std.specs.Prelude.{Bool, cond, ◌&&◌, List, [], ◌∷◌, ◌++◌, map, Option, Some, None, option_map, ◌≡◌, ℕ, zero, suc, ◌+◌, ◌-◌, ◌≤◌, ◌<◌, eqb, ltb, get_or}
use Rattle.std.specs.Prelude.{false}
use Rattle.judgements.specs.declared.Noted.{Noted}
use Rattle.judgements.specs.declared.Run.{Run}
use Rattle.laws.specs.Pairs.{Pairwise}
use Rattle.rules.specs.Lists.{Each}
use Rattle.rules.specs.Plan.{Entry}
use Rattle.rules.specs.TableText.{most_holds, most_jobs, most_time, no_job}
use Rattle.rules.specs.declared.Job.{Job}
use Rattle.steps.specs.Deadlines.{timely_behind}

-- A trial changes each member of the chain at most.
abbrev pub most_changes : ℕ
most_changes = most_holds + 1

-- the job at this place comes in at this key, or is moved there
pub record Change : Type 0 where
  pub place : ℕ
  pub key : ℕ

-- the first n changes that were noted, from the far end on: the last first
abbrev pub far_first : ℕ → List ℕ → List ℕ → List Change
far_first zero changed fresh = []
far_first (suc n) changed fresh = record { place = get_or changed n 0; key = get_or fresh n 0 } ∷ far_first n changed fresh

abbrev pub places_of : List Change → List ℕ
places_of ds = map (λ (c : Change). c.place) ds

-- the entries that changes make
abbrev pub entries_of : List Job → List Change → List Entry
entries_of js ds = map (λ (c : Change). record { job = get_or js c.place no_job; key = c.key }) ds

-- Changes from the far end on: no place twice; their keys never fall, are times, and are not above the keys that the places have.
pub record WellNoted (ds : List Change) (keys : List ℕ) : Type 0 where
  pub below : Each (λ c. c.place < most_jobs) ds
  pub apart : Pairwise (λ c d. eqb c.place d.place ≡ false) ds
  pub no_fall : Pairwise (λ c d. c.key ≤ d.key) ds
  pub times : Each (λ c. c.key ≤ most_time) ds
  pub forward : Each (λ c. c.key ≤ get_or keys c.place 0) ds

-- the next that is to leave the plan is at this place
abbrev pub is_next_to_go : List ℕ → Noted → ℕ → ℕ → Bool
is_next_to_go changed noted gone place = ltb gone noted.moved && eqb place (get_or changed (noted.changes - 1 - gone) 0)

-- the cycles run by the end of the job at a place, behind so many; none if it ends after its deadline
abbrev pub run_on : List ℕ → List ℕ → ℕ → ℕ → Option ℕ
run_on cycles deadline run p =
    cond (ltb (get_or deadline p 0) (run + get_or cycles p 0)) None (Some (run + get_or cycles p 0))

-- a run that goes on with so many cycles
abbrev pub going_on : ℕ → ℕ → Option ℕ → Option Run
going_on passed gone ran = option_map (λ n. record { cycles = n; passed = passed; gone = gone }) ran

-- an entry of the plan passed: it has left, or is run
abbrev pub pass_on : List ℕ → Noted → List ℕ → List ℕ → Run → ℕ → Option Run
pass_on changed noted cycles deadline run p =
    cond (is_next_to_go changed noted run.gone p)
    (Some (record { cycles = run.cycles; passed = run.passed + 1; gone = run.gone + 1 }))
    (going_on (run.passed + 1) run.gone (run_on cycles deadline run.cycles p))

-- a change run
abbrev pub change_on : List ℕ → List ℕ → Run → ℕ → Option Run
change_on cycles deadline run p = going_on run.passed run.gone (run_on cycles deadline run.cycles p)

-- entries that run behind so many cycles end by what is due
abbrev pub timely_entries : (Job → ℕ) → ℕ → List Entry → Bool
timely_entries due run es = timely_behind (λ (e : Entry). e.job.cycles) (λ (e : Entry). due e.job) run es

-- the last of these entries are those
pub record EndsWith (xs ys : List Entry) : Type 0 where
  pub front : List Entry
  pub parts : xs ≡ front ++ ys
