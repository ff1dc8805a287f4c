-- Steps 1 and 2 put together: who has fate 0 after a step is who remains after it, so that the column looked up among
-- those of fate 0 stands for whom a job waits for among those that remain. Assumes nothing.
use mathlib.Core.Bool.{Bool, true, false, cond}
use mathlib.Core.List.{List}
use mathlib.Core.Option.{Option}
use mathlib.Core.Path.{◌≡◌, sym, ◌∙◌}
use Prim.Native.Nat.{ℕ, ◌<◌}
use lib.Dec.{eqb}
use lib.ListN.{get_or, length}
use Rattle.chains.proofs.Stage.{left_are, stays_left, stays_timely, timely_are}
use Rattle.chains.specs.Stage.{FatesSoFar, fate_if_late, fate_so_far}
use Rattle.chains.specs.Waits.{Remaining, Waits}
use Rattle.columns.specs.declared.Columns.{Columns}
use Rattle.columns.specs.declared.Terms.{Terms}
use Rattle.remaining.specs.Promises.{LateFates, RingFates, Staged, WaitsColumn}
use Rattle.rules.specs.Lists.{keep}
use Rattle.rules.specs.Plan.{awaited, fate_deadlock, fate_late, late_in, leaves_its_ring, leaves_ring, waits_for, waits_left}
use Rattle.rules.specs.Plan.{waits_timely}
use Rattle.rules.specs.TableText.{Records, no_job}
use Rattle.rules.specs.declared.Job.{Job}

-- the fate after step 2 of a job with a fate of step 1, which leaves its ring or not
so_far_by : (late leaves : Bool) (fate : ℕ) → fate ≡ cond late fate_late 0
    → cond (eqb fate 0) (cond leaves fate_deadlock 0) fate ≡ cond late fate_late (cond leaves fate_deadlock 0)
so_far_by true leaves fate e = rw e
so_far_by false leaves fate e = rw e

module _ (t : Records) where
  -- whom a job waits for among those of fate 0 after step 1
  abbrev next_timely : Job → Option Job
  next_timely = waits_for t.holds (keep (stays_timely t) t.jobs)

  leaves-its-ring : (j : Job) → leaves_ring t (awaited next_timely j) j ≡ leaves_its_ring t j
  unfolding leaves_its_ring waits_timely
  leaves-its-ring j = rw (← timely_are t)

  fate-so-far : (j : Job) (fate : ℕ) → fate ≡ fate_if_late t j
      → cond (eqb fate 0) (cond (leaves_ring t (awaited next_timely j) j) fate_deadlock 0) fate ≡ fate_so_far t j
  unfolding fate_if_late fate_so_far
  fate-so-far j fate e = rw (leaves-its-ring j) (so_far_by (late_in t j) (leaves_its_ring t j) fate e)

  waits-left : (waits : List ℕ) → Waits t.jobs (waits_for t.holds (keep (stays_left t) t.jobs)) waits
      → Waits t.jobs (waits_left t) waits
  unfolding waits_left
  waits-left waits w = rw (← left_are t) at w

  timely_remain : (late : List ℕ)
      → ((i : ℕ) → i < length t.jobs → get_or late i 0 ≡ fate_if_late t (get_or t.jobs i no_job))
      → Remaining t.jobs (stays_timely t) late
  timely_remain late e i l = rw (e i l)

  left_remain : (fates : List ℕ) → FatesSoFar t fates → Remaining t.jobs (stays_left t) fates
  left_remain fates e i l = rw (e i l)

module _ {jobs : Columns} {terms : Terms} {late holder-at timely_waits fates waits : List ℕ}
    (late-fates : LateFates jobs terms late)
    (among_timely : WaitsColumn jobs.request holder-at late terms.job_count timely_waits)
    (ring-fates : RingFates late timely_waits jobs terms.job_count fates)
    (among_left : WaitsColumn jobs.request holder-at fates terms.job_count waits) where
  pub steps_1_and_2 : Staged holder-at jobs terms fates waits
  steps_1_and_2 = record {
    fates_whole = ring-fates.whole;
    waits_whole = among_left.whole;
    stage = λ t valid terms_of at number_of_lem runs worth_of request_of.
        let long = sym terms_of.job-count in
        let rising = valid.jobs_rise in
        let late_of : (i : ℕ) → i < length t.jobs → get_or late i 0 ≡ fate_if_late t (get_or t.jobs i no_job) =
        late-fates.late t terms_of runs in
        let timely_waits_of =
        among_timely.waits t.jobs t.holds (stays_timely t) long rising request_of at
        (timely_remain t late late_of) in
        let fates-of : FatesSoFar t fates =
        λ i l.
        ring-fates.fates t t.jobs (next_timely t) long rising timely_waits_of number_of_lem worth_of runs.cycles-of i l
        ∙ fate-so-far t (get_or t.jobs i no_job) (get_or late i 0) (late_of i l) in
        record {
          fates_so_far = fates-of;
          waits-left =
              waits-left t waits
              (among_left.waits t.jobs t.holds (stays_left t) long rising request_of at
              (left_remain t fates fates-of));
        };
  }
