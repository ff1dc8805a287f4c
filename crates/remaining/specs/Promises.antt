-- What the functions of steps 1 and 2 ask and promise for a whole table.
use Rattle.std.specs.Prelude.{Bool, true, cond, List, ◌≡◌, ℕ, ◌<◌, eqb, get_or, length}
use Rattle.std.proofs.Math.Option.{Option}
use Rattle.chains.specs.Stage.{Stage, fate_if_late}
use Rattle.chains.specs.Waits.{HolderAt, Remaining, Waits}
use Rattle.columns.specs.Columns.{AtMost, Column, RunsOf, TermsOf}
use Rattle.columns.specs.Ranges.{RunsInRange, TermsInRange}
use Rattle.columns.specs.declared.Columns.{Columns}
use Rattle.columns.specs.declared.Terms.{Terms}
use Rattle.remaining.specs.Ends.{EndMarks, Ends, is_walked, mark_at}
use Rattle.remaining.specs.declared.Mark.{Mark}
use Rattle.rules.specs.Lists.{Rising, keep}
use Rattle.rules.specs.Plan.{awaited, fate_deadlock, leaves_ring, waits_for}
use Rattle.rules.specs.TableText.{Records, most_jobs, most_resource, most_worth, no_job}
use Rattle.rules.specs.Valid.{Valid}
use Rattle.rules.specs.declared.Hold.{Hold}
use Rattle.rules.specs.declared.Job.{Job}

-- The fates of step 1.
pub record LateFates (jobs : Columns) (terms : Terms) (r : List ℕ) : Type 0 where
  pub whole : length r ≡ most_jobs
  pub late : (t : Records) → TermsOf t terms → RunsOf t.jobs jobs.cycles jobs.termination → (i : ℕ) → i < length t.jobs → get_or r i 0 ≡ fate_if_late t (get_or t.jobs i no_job)

-- Whom each job waits for among those of fate 0.
pub record WaitsColumn (request holder-at fates : List ℕ) (job-count : ℕ) (r : List ℕ) : Type 0 where
  pub whole : length r ≡ most_jobs
  pub waits : (js : List Job) (holds : List Hold) (remains : Job → Bool) → length js ≡ job-count
      → Rising (λ j. j.number) js → Column (λ j. j.request) js request → HolderAt js holds holder-at
      → Remaining js remains fates → Waits js (waits_for holds (keep remains js)) r

-- none of the first jobs, up to a count, waits for the job at a place
abbrev pub NobodyWaits : List ℕ → ℕ → ℕ → Type 0
NobodyWaits waits count place = (k : ℕ) → k < count → get_or waits k 0 ≡ place → ⊥

-- Who has no mark is one for whom none of the jobs waits; where a mark says that the walk ends, it does.
pub record Awaited (waits : List ℕ) (job-count : ℕ) (r : List Mark) : Type 0 where
  pub whole : length r ≡ most_jobs
  pub unmarked : (place : ℕ) → place < most_jobs → mark_at r place ≡ Mark.Unawaited → NobodyWaits waits job-count place
  pub ended : EndMarks waits r

-- How a walk comes out, which is known; that it ends only where it does.
pub record WalkEnd (place : ℕ) (waits : List ℕ) (r : Mark) : Type 0 where
  pub known : is_walked r ≡ true
  pub ends : r ≡ Mark.Ends → Ends waits place

-- Marks of which none was taken away, and none says that a walk ends but where it does.
pub record Settled (waits : List ℕ) (before r : List Mark) : Type 0 where
  pub whole : length r ≡ most_jobs
  pub unmarked : (place : ℕ) → mark_at r place ≡ Mark.Unawaited → mark_at before place ≡ Mark.Unawaited
  pub ended : EndMarks waits r

-- The fate before, or 3 for a job of fate 0 that leaves its ring, provided that nobody waits for a job without a mark and that
-- the walk from one whose mark says so ends.
pub record RingFate (late : ℕ) (mark : Mark) (place : ℕ) (waits : List ℕ) (jobs : Columns) (r : ℕ) : Type 0 where
  pub fate : (t : Records) (js : List Job) (next : Job → Option Job)
      → (mark ≡ Mark.Unawaited → NobodyWaits waits (length js) place) → (mark ≡ Mark.Ends → Ends waits place)
      → Rising (λ j. j.number) js → Waits js next waits → place < length js → Column (λ j. j.number) js jobs.number
      → Column (λ j. j.worth) js jobs.worth → Column (λ j. j.cycles) js jobs.cycles
      → r
      ≡ cond (eqb late 0)
      (cond (leaves_ring t (awaited next (get_or js place no_job)) (get_or js place no_job)) fate_deadlock 0) late

-- The fates before, and 3 for each job of fate 0 that leaves its ring.
pub record RingFates (late waits : List ℕ) (jobs : Columns) (job-count : ℕ) (r : List ℕ) : Type 0 where
  pub whole : length r ≡ most_jobs
  pub fates : (t : Records) (js : List Job) (next : Job → Option Job) → length js ≡ job-count
      → Rising (λ j. j.number) js → Waits js next waits → Column (λ j. j.number) js jobs.number
      → Column (λ j. j.worth) js jobs.worth → Column (λ j. j.cycles) js jobs.cycles
      → (i : ℕ) → i < length js
      → get_or r i 0
      ≡ cond (eqb (get_or late i 0) 0)
      (cond (leaves_ring t (awaited next (get_or js i no_job)) (get_or js i no_job)) fate_deadlock 0) (get_or late i 0)

-- Columns and terms in their ranges.
pub record Stageable (jobs : Columns) (terms : Terms) : Type 0 where
  pub runs_small : RunsInRange jobs.cycles jobs.termination
  pub worth_small : AtMost most_worth jobs.worth
  pub request_small : AtMost most_resource jobs.request
  pub terms_small : TermsInRange terms

-- What steps 1 and 2 leave.
pub record Staged (holder-at : List ℕ) (jobs : Columns) (terms : Terms) (fates waits : List ℕ) : Type 0 where
  pub fates_whole : length fates ≡ most_jobs
  pub waits_whole : length waits ≡ most_jobs
  pub stage : (t : Records) → Valid t → TermsOf t terms → HolderAt t.jobs t.holds holder-at
      → Column (λ j. j.number) t.jobs jobs.number → RunsOf t.jobs jobs.cycles jobs.termination
      → Column (λ j. j.worth) t.jobs jobs.worth → Column (λ j. j.request) t.jobs jobs.request
      → Stage t fates waits
