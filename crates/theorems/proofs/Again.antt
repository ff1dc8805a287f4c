-- Planning again with only the planned jobs, and what they hold. What a planned job asks for may be held by a job that was
-- late or left a ring: it waits for nobody then, and again. Whom it waits for otherwise is planned with it. So the planned
-- jobs wait as they did, none is late or on a ring, and they are planned as in the whole table. Assumes nothing.
use mathlib.Core.Bool.{Bool, true, false, not}
use mathlib.Core.List.{List, ◌∷◌}
use mathlib.Core.Option.{Option, none, some}
use mathlib.Core.Path.{◌≡◌, refl, sym, ap, ◌∙◌}
use Prim.Native.Nat.{ℕ, ◌<◌}
use native.Mathlib.Omega.{arith}
use borrow.Author.Tests.{eqb-true, ne_eqb}
use lib.Dec.{eqb}
use Rattle.laws.proofs.Choices.{clash, one_there, split, split_option}
use Rattle.steps.proofs.Course.{plan_sound, planned_next}
use Rattle.laws.proofs.Elements.{each_map, each_too}
use Rattle.steps.proofs.Entries.{own_planned}
use Rattle.steps.proofs.Jobs.{Listed, each_left, each_timely, is-holder, jobs_cycles, jobs_listed, left_listed, left_stays, listed_has, waits_listed}
use Rattle.laws.proofs.Lookups.{each_always, each_both, each_keep, find_keep, find_keep_none, find_keep_some, found_passes, keep_agree, keep_all, keep_passes, keep_through, none_found}
use Rattle.theorems.proofs.Outside.{Alone, Parted, late_same, leaves_same, only_outside, planned_alone}
use Rattle.laws.specs.Pairs.{Pairwise, no_pair, ◌then◌}
use Rattle.laws.proofs.Pairs.{pairs_too, rising_pairs}
use Rattle.steps.proofs.Planned.{one_exactly_for_planned, planned_left}
use Rattle.steps.proofs.Rings.{walk_never_comes_back}
use Rattle.steps.proofs.Walks.{same_walk}
use Rattle.theorems.specs.Demand3.{outer_fated, outer_hold, outer_job}
use Rattle.rules.specs.Lists.{Each, any, find, keep}
use Rattle.rules.specs.Plan.{Entry, Fated, asks_for, awaited, course_of, fate_in, fate_planned, follow, holder_in, in_plan, is_of, late_in, leaves_its_ring, leaves_ring, left, plan_from, plan_of, same, timely, waits_for, waits_left, waits_timely}
use Rattle.rules.specs.Refusals.{is_holder}
use Rattle.rules.specs.TableText.{Records, most_holds}
use Rattle.rules.specs.Valid.{Valid}
use Rattle.rules.specs.declared.Hold.{Hold}
use Rattle.rules.specs.declared.Job.{Job}

-- what p alone finds, and q does not keep, is not found in what q keeps
not_kept_not_found : {A : Type 0} (p q : A → Bool) {xs : List A} {y : A} → Pairwise (λ x z. p x ≡ true → p z ≡ false) xs
    → find p xs ≡ some y → q y ≡ false → find p (keep q xs) ≡ none
not_kept_not_found p q no_pair h g = refl
not_kept_not_found {A} p q {xs = x ∷ xs} {y} (r then rs) h g =
    split (p x)
    (λ i. let e : x ≡ y = one_there {o = some x} refl (rw i at h) in
    rw (ap q e ∙ g) (none_found p (each_keep q (each_too (λ z n. n i) r))))
    (λ i. let ih = not_kept_not_found p q rs (rw i at h) g in split (q x) (λ k. rw k (rw i ih)) (λ k. rw k ih))

module _ (t : Records) where
  -- the set of planned numbers
  unfoldable pub planned : ℕ → Bool
  planned n = any (λ (e : Entry). eqb n e.job.number) (course_of t).plan

  planned_is : (j : Job) → outer_job planned j ≡ in_plan j (course_of t).plan
  unfolding planned in_plan is_of same
  planned_is j = refl

  -- what is left of the table when only planned jobs and their holds stay
  abbrev pub again : Records
  again = only_outside planned t

  one_asked : (j : Job) (g h : Hold) → g.resource < h.resource → asks_for j g ≡ true → asks_for j h ≡ false
  unfolding asks_for
  one_asked j g h l e =
      let q = eqb-true g.resource j.request e in
      ne_eqb h.resource j.request (omega arith)

  module _ (v : Valid t) where
    -- the jobs left that are planned
    abbrev kept_jobs : List Job
    kept_jobs = keep (outer_job planned) (left t)

    waits_again : Job → Option Job
    waits_again = waits_for (keep (outer_hold planned) t.holds) kept_jobs

    -- left, and in the final plan
    abbrev PlannedJob : Job → Type 0
    PlannedJob j = Listed (left t) j × (in_plan j (course_of t).plan ≡ true)

    planned_job_next : (j k : Job) → PlannedJob j → waits_left t j ≡ some k → PlannedJob k
    planned_job_next j k f w = (waits_listed t v j k w, planned_next t v (course_of t).plan (plan_sound t v) j k f.0 f.1 w)

    jobs_fine : Each (λ j. outer_job planned j ≡ true → PlannedJob j) t.jobs
    jobs_fine =
        each_too (λ j l h. let p = sym (planned_is j) ∙ h in (planned_left t v j l p, p)) (jobs_listed t v)

    kept_fine : Each PlannedJob kept_jobs
    kept_fine =
        each_both (λ j l h. (l, sym (planned_is j) ∙ h)) (each_keep (outer_job planned) (left_listed t v))
        (keep_passes (outer_job planned) (left t))

    timely_again : timely again ≡ kept_jobs
    unfolding timely left only_outside
    timely_again =
        keep_agree (outer_job planned) (λ j. not (late_in t j)) (λ j. not (late_in again j))
        (each_always t.jobs (λ j o. ap not (sym (late_same planned t j))))
        ∙ sym (keep_through (λ j. not (leaves_its_ring t j)) (outer_job planned)
        (each_too (λ j f o. ap not (listed_has (left_stays t) (f o).0)) (each_timely t jobs_fine)))

    -- a planned job's holder is the same again
    waits-again : (j : Job) → PlannedJob j → waits_left t j ≡ waits_again j
    unfolding waits_again waits_left waits_for holder_in
    waits-again j f =
        split_option (find (asks_for j) t.holds)
        (λ e. rw e (rw (find_keep_none (asks_for j) (outer_hold planned) t.holds e)))
        (λ h e. rw e (split (outer_hold planned h)
        (λ q. rw (find_keep_some (asks_for j) (outer_hold planned) t.holds e q)
        (sym (find_keep (is_holder h) (outer_job planned) (each_always (left t) (λ k i. ap planned (is-holder h k i) ∙ q)))))
        (λ q. rw (not_kept_not_found (asks_for j) (outer_hold planned) asked_once e q)
        (holder_gone h e q (find (is_holder h) (left t)) refl))))
      where
        asked_once : Pairwise (λ g h. asks_for j g ≡ true → asks_for j h ≡ false) t.holds
        asked_once =
            pairs_too {P = λ (h : Hold). Unit {0}} (λ g h a b l. one_asked j g h l) (each_always t.holds (λ h. tt))
            (rising_pairs v.holds_rise)

        holder_gone : (h : Hold) → find (asks_for j) t.holds ≡ some h → outer_hold planned h ≡ false → (o : Option Job)
            → find (is_holder h) (left t) ≡ o → find (is_holder h) (left t) ≡ none
        holder_gone h e q none g = g
        holder_gone h e q (some y) g =
            clash (planned_is y ∙ (planned_job_next j y f (rw e g)).1)
            (ap planned (is-holder h y (found_passes (is_holder h) (left t) g)) ∙ q)

    waits_timely_again : (j : Job) → PlannedJob j → waits_left t j ≡ waits_timely again j
    unfolding waits_timely only_outside waits_again
    waits_timely_again j f = waits-again j f ∙ ap (λ js. waits_for (keep (outer_hold planned) t.holds) js j) (sym timely_again)

    none_leaves_again : (j : Job) → PlannedJob j → leaves_its_ring again j ≡ false
    unfolding leaves_its_ring leaves_ring awaited
    none_leaves_again j f =
        leaves_same planned t (follow (waits_timely again) most_holds (waits_timely again j)) j
        ∙ rw (sym (same_walk (waits_left t) (waits_timely again) waits_timely_again planned_job_next most_holds j f))
        (rw (listed_has (walk_never_comes_back t v most_holds) f.0))

    left_again : left again ≡ kept_jobs
    unfolding left
    left_again =
        rw timely_again (keep_all (λ j. not (leaves_its_ring again j))
        (each_too (λ j f. ap not (none_leaves_again j f)) kept_fine))

    waits_left_again : (j : Job) → PlannedJob j → waits_left t j ≡ waits_left again j
    unfolding waits_left only_outside waits_again
    waits_left_again j f = waits-again j f ∙ ap (λ js. waits_for (keep (outer_hold planned) t.holds) js j) (sym left_again)

    parted_again : Parted planned t
    unfolding awaited
    parted_again =
        record {
          left_same = left_again;
          awaited_same = each_too
              (λ j l o. same_walk (waits_left t) (waits_left again) waits_left_again planned_job_next most_holds j
              (l, sym (planned_is j) ∙ o))
              (left_listed t v);
          leaves_same = each_too (λ j f o. listed_has (left_stays t) (f o).0 ∙ sym (none_leaves_again j (f o))) jobs_fine;
          cycles = each_left t (jobs_cycles t v);
          none_in = each_too (λ e h. planned_is e.job ∙ h) (own_planned (course_of t).plan);
        }

    -- 10. Planning again with only the planned jobs gives the same plan, speed and energy, and the same fates to these jobs.
    pub planned_again : Alone planned t
    planned_again = planned_alone planned t parted_again

    -- Each of them is planned.
    pub all_planned_again : Each (λ (i : Fated). i.fate ≡ fate_planned) (plan_of again).fates
    unfolding plan_of plan_from
    all_planned_again =
        rw planned_again.fates
        (each_both {P = λ (i : Fated). outer_fated planned i ≡ true → i.fate ≡ fate_planned} (λ i h o. h o)
        (each_keep (outer_fated planned)
        (each_map (λ j. record { job = j; fate = fate_in t (course_of t) j })
        (each_too (λ j e o. eqb-true (fate_in t (course_of t) j) fate_planned (e ∙ (sym (planned_is j) ∙ o)))
        (one_exactly_for_planned t v))))
        (keep_passes (outer_fated planned) (plan_of t).fates))
