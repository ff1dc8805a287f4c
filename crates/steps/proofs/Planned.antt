-- What the course's invariant says of the final plan: each job's holder stands before it, each job stands once, and fate 1
-- is for the planned alone, since an own turn that gave 1 left its job in the plan, and there it stays. Assumes nothing.
use mathlib.Core.Bool.{Bool, true, false, cond, ◌||◌}
use mathlib.Core.List.{List, [], ◌∷◌, map}
use mathlib.Core.Option.{Option, none, some}
use mathlib.Core.Path.{◌≡◌, refl, sym, ap, ◌∙◌}
use Prim.Native.Nat.{ℕ, zero, ◌≤◌}
use borrow.Author.Tests.{eqb-true}
use lib.Dec.{eqb}
use lib.ListN.{length}
use Rattle.laws.proofs.Choices.{clash, or_front, split, split_option, two_numbers}
use Rattle.steps.proofs.Course.{Sound, Way, ends-late, fates_of_course, over_budget, passed_over, plan_sound, ratio_is_zero, taken_in, to_the_end, turn_keeps, way_of}
use Rattle.laws.proofs.Elements.{each_map, each_too}
use Rattle.steps.proofs.Entries.{is-of, no_entry, out_of_plan, planned_as, trial_has_own}
use Rattle.steps.proofs.Jobs.{Listed, each_left, jobs_in_order, jobs_listed, left_on_time, left_stays, listed_has, one-job, waits_listed}
use Rattle.laws.proofs.Lookups.{found_each, found_passes, keep_map, length-map, total_ones}
use Rattle.laws.specs.Pairs.{Distinct, Pairwise, no_pair, ◌then◌}
use Rattle.laws.proofs.Pairs.{pairs_map, pairs_too}
use Rattle.steps.proofs.Rings.{no_ring_left}
use Rattle.steps.proofs.Totals.{plan_weight, weight, weight_agree, weight_kept}
use Rattle.steps.proofs.Trials.{Ordered, Stand, WaitsNotFor, nobody}
use Rattle.rules.specs.Lists.{Each, any, find, keep, none_left, total, ◌and◌}
use Rattle.rules.specs.Plan.{Course, Entry, Fated, Turn, course_of, fate_deadlock, fate_in, fate_late, fate_planned, fate_told, fates_of, in_plan, is_of, jobs_of, late_in, leaves_its_ring, left, numbers_of, own_fate, plan_from, plan_of, same, turn, waits_left, run_order}
use Rattle.rules.specs.TableText.{Records}
use Rattle.rules.specs.Valid.{Valid}
use Rattle.rules.specs.declared.Job.{Job}
use Rattle.steps.proofs.RunOrder.{run-order}

-- each job comes after its holder; `seen` are the jobs that came already
abbrev pub HoldersBefore : (Job → Option Job) → List Job → List Job → Type 0
HoldersBefore next seen [] = Unit {0}
HoldersBefore next seen (j ∷ js) = ((k : Job) → next j ≡ some k → any (same k) seen ≡ true) × HoldersBefore next (j ∷ seen) js

already_seen : (a b c : Bool) → b ≡ false → c ≡ false → a || (b || c) ≡ true → a ≡ true
already_seen true b c f g h = refl
already_seen false b c f g h = clash h (rw f g)

module _ (next : Job → Option Job) where
  holders_before_from : (seen : List Job) {p : List Entry} → Pairwise (Stand next nobody) p
      → Each (λ e. WaitsNotFor next e e.job) p
      → Each (λ e. (k : Job) → next e.job ≡ some k → any (same k) seen || in_plan k p ≡ true) p
      → HoldersBefore next seen (jobs_of p)
  unfolding in_plan is_of jobs_of
  holders_before_from seen no_pair none_left none_left = tt
  holders_before_from seen {p = e ∷ es} (r then rs) (f and fs) (c and cs) = (
    (λ k n. already_seen (any (same k) seen) (same k e.job) (in_plan k es) (f k n)
        (out_of_plan k (each_too (λ g s. s.waits_not refl k n) r)) (c k n)),
    holders_before_from (e.job ∷ seen) rs fs
        (each_too (λ g q k n. sym (or_front (any (same k) seen) (same k e.job) (in_plan k es)) ∙ q k n) cs),
  )

distinct_jobs : {p : List Entry} → Pairwise (λ e f. same e.job f.job ≡ false) p → Distinct (numbers_of (jobs_of p))
unfolding numbers_of jobs_of same
distinct_jobs r = pairs_map (λ (j : Job). j.number) (pairs_map (λ (e : Entry). e.job) r)

-- a fate that is not 1, 2 or 3 is that of the own turn
decided : (a b d : Bool) (x y z m n : ℕ) → eqb x n ≡ false → eqb y n ≡ false → eqb z n ≡ false
    → cond a x (cond b y (cond d z m)) ≡ n
    → (a ≡ false) × (b ≡ false) × (d ≡ false) × (m ≡ n)
decided true b d x y z m n nx ny nz h = two_numbers x x n nx refl h
decided false true d x y z m n nx ny nz h = two_numbers y y n ny refl h
decided false false true x y z m n nx ny nz h = two_numbers z z n nz refl h
decided false false false x y z m n nx ny nz h = (refl, refl, refl, h)

-- the fates of a plan, without their jobs
pub fates_alone : (t : Records) (c : Course) (js : List Job)
    → map (λ (i : Fated). i.fate) (map (λ j. record { job = j; fate = fate_in t c j }) js) ≡ map (fate_in t c) js
fates_alone t c [] = refl
fates_alone t c (j ∷ js) = rw (fates_alone t c js)

-- the own turn that gave a fate
pub record OwnTurn (t : Records) (c : Course) (j : Job) (fate : ℕ) : Type 0 where
  pub on_time : late_in t j ≡ false
  pub stays : leaves_its_ring t j ≡ false
  pub not-planned : in_plan j c.plan ≡ false
  pub told : Fated
  pub found : find (λ (i : Fated). same j i.job) c.own_fates ≡ some told
  pub is_fate : told.fate ≡ fate

pub own_turn : (t : Records) (c : Course) (j : Job) (n : ℕ) → eqb 0 n ≡ false → eqb fate_late n ≡ false
    → eqb fate_deadlock n ≡ false
    → eqb fate_planned n ≡ false → fate_in t c j ≡ n → OwnTurn t c j n
unfolding fate_in own_fate fate_told
own_turn t c j n n0 n2 n3 n1 h =
    let d = decided (late_in t j) (leaves_its_ring t j) (in_plan j c.plan) fate_late fate_deadlock fate_planned
    (own_fate j c) n n2 n3 n1 h in
    split_option (find (λ (i : Fated). same j i.job) c.own_fates)
    (λ e. two_numbers 0 0 n n0 refl (sym (ap fate_told e) ∙ d.3))
    (λ i e. record {
      on_time = d.0;
      stays = d.1;
      not-planned = d.2;
      told = i;
      found = e;
      is_fate = sym (ap fate_told e) ∙ d.3;
    })

-- what holds of each job of the table and its fate holds of the plan's fates
pub each_fated : {Q : Fated → Type 0} (t : Records)
    → Each (λ j. Q (record { job = j; fate = fate_in t (course_of t) j })) t.jobs → Each Q (plan_of t).fates
unfolding plan_of plan_from
each_fated t e = each_map (λ j. record { job = j; fate = fate_in t (course_of t) j }) e

module _ (t : Records) (v : Valid t) where
  -- In a sound plan a job stands behind the job it waits for.
  pub sound_holders_before : {p : List Entry} → Sound t p → HoldersBefore (waits_left t) [] (run_order t p)
  sound_holders_before {p} s =
      let o = s.ordered in
      rw (run-order t p) (holders_before_from (waits_left t) [] o.lined.pairs
      (each_too (λ e l i n. split (same i e.job)
      (λ h. absurd (no_ring_left t v e.job
      (zero, n ∙ ap {B = Option Job} some (one-job (left t) i e.job (waits_listed t v e.job i n) l h))))
      (λ h. h)) o.lined.listed)
      (each_too (λ e q k n. q refl k n) o.closed))

  pub holders_before : HoldersBefore (waits_left t) [] (plan_of t).jobs
  unfolding plan_of plan_from
  holders_before = sound_holders_before (plan_sound t v)

  -- no two entries are of one job
  pub apart : {p : List Entry} → Ordered (waits_left t) (left t) nobody p
      → Pairwise (λ e f. same e.job f.job ≡ false) p
  apart o = pairs_too (λ e f a b s. s.apart) o.lined.listed o.lined.pairs

  -- Keys never fall along the plan,
  pub keys_never_fall : Pairwise (λ e f. e.key ≤ f.key) (course_of t).plan
  keys_never_fall =
      let o = (plan_sound t v).ordered in
      pairs_too (λ e f a b s. s.keys) o.lined.listed o.lined.pairs

  -- and none is later than its job's critical time.
  pub keys_by_critical : Each (λ e. e.key ≤ e.job.critical) (course_of t).plan
  keys_by_critical = (plan_sound t v).ordered.lined.by_critical

  -- What holds of each job of the table holds of each planned.
  pub each_planned : {P : Job → Type 0} → Each P t.jobs → Each P (plan_of t).jobs
  unfolding plan_of plan_from jobs_of
  each_planned e =
      rw (run-order t (course_of t).plan)
      (each_map (λ (x : Entry). x.job)
      (each_too (λ x listed. listed_has (each_left t e) listed) (plan_sound t v).ordered.lined.listed))

  -- No number stands twice in the plan.
  pub planned_once : Distinct (numbers_of (plan_of t).jobs)
  unfolding plan_of plan_from
  planned_once = rw (run-order t (course_of t).plan) (distinct_jobs (apart (plan_sound t v).ordered))

  -- who is planned was left by steps 1 and 2
  pub planned_left : (j : Job) → Listed t.jobs j → in_plan j (course_of t).plan ≡ true → Listed (left t) j
  planned_left j l h =
      let o = (plan_sound t v).ordered in
      split_option (find (is_of j) (course_of t).plan)
      (λ e. clash h (no_entry j (course_of t).plan e))
      (λ e f. let le : Listed (left t) e.job = found_each (is_of j) o.lined.listed f in
      let lj : Listed t.jobs e.job = listed_has (each_left t (jobs_listed t v)) le in
      rw (one-job t.jobs j e.job l lj (is-of j e (found_passes (is_of j) (course_of t).plan f))) le)

  -- an own turn that gave 1 is that of a planned job
  pub own_one_planned : Each (λ (d : Fated). d.fate ≡ fate_planned → in_plan d.job (course_of t).plan ≡ true)
      (course_of t).own_fates
  own_one_planned =
      fates_of_course t v (λ i is c r s e f. to_the_end t (course_of t) i is c e i.job
      (step i c.plan (way_of t i c.plan) f))
    where
      step : (i : Turn) (p : List Entry) → Way t i p → (turn t i p).fate ≡ fate_planned
          → in_plan i.job (turn t i p).plan ≡ true
      step i p (passed_over n e) f = turn_keeps t i p i.job n
      step i p (ratio_is_zero n z e) f = two_numbers (turn t i p).fate 4 1 refl (rw e) f
      step i p (ends-late n l e) f = two_numbers (turn t i p).fate 5 1 refl (rw e) f
      step i p (over_budget n d e) f = two_numbers (turn t i p).fate 6 1 refl (rw e) f
      step i p (taken_in n l d e) f = rw e (trial_has_own i p)

  -- A job's fate is 1 exactly if it is planned.
  pub one_exactly_for_planned : Each (λ j. eqb (fate_in t (course_of t) j) fate_planned ≡ in_plan j (course_of t).plan) t.jobs
  unfolding fate_in own_fate fate_told
  one_exactly_for_planned =
      each_too
      (λ j l. split (in_plan j (course_of t).plan)
      (λ h. let k = planned_left j l h in
      rw (listed_has (left_on_time t) k) (rw (listed_has (left_stays t) k) (rw h)))
      (λ h. rw h
      (split (late_in t j) (λ a. rw a)
      (λ a. rw a (split (leaves_its_ring t j) (λ b. rw b)
      (λ b. rw b (own_not_one j h (find (λ (i : Fated). same j i.job) (course_of t).own_fates) refl)))))))
      (jobs_listed t v)
    where
      own_not_one : (j : Job) → in_plan j (course_of t).plan ≡ false → (o : Option Fated)
          → find (λ (i : Fated). same j i.job) (course_of t).own_fates ≡ o → eqb (fate_told o) fate_planned ≡ false
      own_not_one j h none e = refl
      own_not_one j h (some i) e =
          split (eqb i.fate fate_planned)
          (λ g. clash (found_each (λ (i : Fated). same j i.job) own_one_planned e (eqb-true i.fate fate_planned g))
          (sym (planned_as j i.job (course_of t).plan
          (found_passes (λ (i : Fated). same j i.job) (course_of t).own_fates e)) ∙ h))
          (λ g. g)

  -- Counting the fates 1 counts the plan.
  pub plan_counts_ones : length (keep (λ f. eqb f fate_planned) (fates_of (plan_of t).fates)) ≡ length (plan_of t).jobs
  unfolding plan_of plan_from fates_of
  plan_counts_ones =
      let p = (course_of t).plan in
      let o = (plan_sound t v).ordered in
      let ones : Job → ℕ = λ j. 1 in
      let is-one : ℕ → Bool = λ f. eqb f fate_planned in
      let fate : Job → ℕ = fate_in t (course_of t) in
      let weighed : total ones (jobs_of p) ≡ weight ones (λ x. in_plan x p) t.jobs =
      plan_weight ones (jobs_in_order t v) (apart o)
      (each_too (λ e l. listed_has (each_left t (jobs_listed t v)) l) o.lined.listed) in
      ap (λ fs. length (keep is-one fs)) (fates_alone t (course_of t) t.jobs)
      ∙ ap length (keep_map is-one fate t.jobs)
      ∙ length-map fate (keep (λ j. is-one (fate j)) t.jobs)
      ∙ sym (total_ones (keep (λ j. is-one (fate j)) t.jobs))
      ∙ sym (weight_kept ones (λ j. is-one (fate j)) t.jobs)
      ∙ weight_agree ones (λ j. is-one (fate j)) (λ x. in_plan x p) one_exactly_for_planned
      ∙ sym weighed
      ∙ total_ones (jobs_of p)
      ∙ ap length (sym (run-order t p))
