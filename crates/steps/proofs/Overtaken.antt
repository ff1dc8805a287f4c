-- How the plan grows, and what a fate still says at its end. An accepted trial has more jobs, so more cycles. What a trial
-- weighed, the final plan and the job's chain together weigh no less: a 6 stays true. A planned job's whole chain is
-- planned, so a 6 is not overtaken; behind a turn of ratio 0 all have ratio 0, so neither is a 4. Assumes nothing.
use mathlib.Core.Bool.{Bool, true, false, not, ◌&&◌, ◌||◌}
use mathlib.Core.List.{List, ◌∷◌}
use mathlib.Core.Logic.{◌⊎◌, inl, inr, ⊎_elim}
use mathlib.Core.Path.{◌≡◌, refl, sym, ap, ◌∙◌}
use Prim.Native.Nat.{ℕ, ◌+◌, ◌*◌, ◌<◌, ◌≤◌}
use native.Mathlib.Nat.{le-mul_of_pos_right, mul-le-mul_right, zero-mul}
use native.Mathlib.Omega.{arith}
use borrow.Author.Tests.{eq-eqb, eqb-true, ltb-false, ltb-true}
use Rattle.laws.proofs.Choices.{clash, neither, or_left, or_right, or_split, split, two_numbers}
use Rattle.steps.proofs.Course.{AtEachTurn, Coming, Sound, Way, at_each_turn_of, chain_planned, ends-late, fates_of_course, over_budget, passed_over, plan_sound, ratio_is_zero, taken_in, to_the_end, trial_sound, turn_chain, turn_keeps, way_of}
use Rattle.laws.proofs.Elements.{each_too}
use Rattle.steps.proofs.Entries.{planned_as, planned_trial, trial_has_own, trial_keeps}
use Rattle.steps.proofs.Jobs.{Listed, each_left, jobs_cycles, jobs_listed, left_in_order, listed_has, listed_left, one-job}
use Rattle.laws.proofs.Lookups.{each_both, each_first, found_each, found_passes}
use Rattle.laws.specs.Pairs.{Pairwise, ◌then◌}
use Rattle.steps.proofs.Planned.{apart, own_turn}
use Rattle.steps.proofs.Totals.{plan_weight, weight, weight_kept, weight_le, weight_lt, weight_parts}
use Rattle.steps.proofs.Trials.{Ordered, nobody}
use Rattle.steps.proofs.Turns.{OfLeft, Runs}
use Rattle.rules.specs.Lists.{Each, any, keep, none_left, ◌and◌}
use Rattle.rules.specs.Plan.{Course, Entry, Fated, Turn, after, before, chain_of, course, course_of, cycles_of, fate_budget, fate_in, fate_planned, fate_ratio_zero, fate_time, in_plan, left, less, ratio_zero, same, no_turn_yet, too_dear, top_of, trial, turn, turns, waits_left, run_order}
use Rattle.rules.specs.TableText.{Records}
use Rattle.rules.specs.Valid.{Valid}
use Rattle.rules.specs.declared.Job.{Job}
use Rattle.steps.proofs.RunOrder.{run-order}

abbrev job_cycles : Job → ℕ
job_cycles j = j.cycles

-- what is the same as one of planned jobs is planned
same_planned : (p : List Entry) {ks : List Job} (x : Job) → Each (λ k. in_plan k p ≡ true) ks → any (same x) ks ≡ true
    → in_plan x p ≡ true
same_planned p x none_left h = clash h refl
same_planned p {ks = k ∷ ks} x (e and es) h =
    split (same x k) (λ i. planned_as x k p i ∙ e) (λ i. same_planned p x es (rw i at h))

module _ (t : Records) where
  -- a turn that takes its job in, with a greater cycle total
  pub record TakesIn (i : Turn) (p : List Entry) : Type 0 where
    pub fate : (turn t i p).fate ≡ fate_planned
    pub was_out : in_plan i.job p ≡ false
    pub is_in : in_plan i.job (turn t i p).plan ≡ true
    pub more : cycles_of (run_order t p) < cycles_of (run_order t (turn t i p).plan)

  -- the final plan and j's chain, as jobs of the table
  abbrev with_chain : Job → List Job
  with_chain j = keep (λ x. any (same x) (chain_of t j) || in_plan x (course_of t).plan) (left t)

  -- what the final plan lacks of j's chain
  unfoldable pub lacking : Job → List Job
  lacking j = keep (λ x. any (same x) (chain_of t j) && not (in_plan x (course_of t).plan)) (left t)

  ratio-zero : (i : Turn) → ratio_zero i ≡ true → i.ratio.over ≡ 0
  unfolding ratio_zero
  ratio-zero i h = eqb-true i.ratio.over 0 h

  -- turns of ratio 0 change nothing
  zero_turns_idle : {is : List Turn} (c : Course) → Each (λ (i : Turn). i.ratio.over ≡ 0) is → (course t is c).plan ≡ c.plan
  unfolding course after turn ratio_zero
  zero_turns_idle c none_left = refl
  zero_turns_idle {is = i ∷ is} c (z and zs) =
      zero_turns_idle (after t i c) zs
      ∙ split (in_plan i.job c.plan) (λ h. rw h) (λ h. rw h (rw (eq-eqb i.ratio.over 0 z)))

  -- behind a turn of ratio 0 the ratio is 0
  behind_zero : (i k : Turn) → Runs i → i.ratio.over ≡ 0 → before k i ≡ false → k.ratio.over ≡ 0
  unfolding before less
  behind_zero i k g z b =
      let l : k.ratio.over * i.ratio.under ≤ i.ratio.over * k.ratio.under =
      ltb-false (i.ratio.over * k.ratio.under) (k.ratio.over * i.ratio.under)
      (neither (less i.ratio k.ratio) _ b).0 in
      let m : k.ratio.over * i.ratio.under ≤ 0 * k.ratio.under = rw z at l in
      omega (arith, m, zero-mul k.ratio.under, le-mul_of_pos_right k.ratio.over g)

  module _ (v : Valid t) where
    plan-cycles : {p : List Entry} → Ordered (waits_left t) (left t) nobody p
        → cycles_of (run_order t p) ≡ weight job_cycles (λ x. in_plan x p) (left t)
    unfolding cycles_of
    plan-cycles {p} o = rw (run-order t p) (plan_weight job_cycles (left_in_order t v) (apart t v o) o.lined.listed)

    -- 6. At each turn of the course an accepted trial takes its job in and makes the cycle total greater; any other turn
    -- leaves the plan as it stood.
    pub plan_grows : AtEachTurn t (λ i c. TakesIn i c.plan ⊎ ((turn t i c.plan).plan ≡ c.plan)) (turns t) no_turn_yet
    plan_grows = at_each_turn_of t v (λ i is c r s e. step i c.plan (each_first r.of_left) s (way_of t i c.plan))
      where
        grows : (i : Turn) (p : List Entry) → OfLeft t i → Sound t p → in_plan i.job p ≡ false
            → cycles_of (run_order t p) < cycles_of (run_order t (trial i p))
        grows i p o s n =
            rw (plan-cycles s.ordered) (rw (plan-cycles (trial_sound t v i p o n s))
            (weight_lt job_cycles (λ x. in_plan x p) (λ x. in_plan x (trial i p)) (left t) i.job
            (λ x h. trial_keeps x i p h) o.listed
            (listed_has (each_left t (jobs_cycles t v)) o.listed) n (trial_has_own i p)))

        step : (i : Turn) (p : List Entry) → OfLeft t i → Sound t p → Way t i p → TakesIn i p ⊎ ((turn t i p).plan ≡ p)
        step i p o s (passed_over n e) = inr (rw e)
        step i p o s (ratio_is_zero n z e) = inr (rw e)
        step i p o s (ends-late n l e) = inr (rw e)
        step i p o s (over_budget n d e) = inr (rw e)
        step i p o s (taken_in n l d e) =
            inl (record { fate = rw e; was_out = n; is_in = rw e (trial_has_own i p); more = rw e (grows i p o s n) })

    -- 6. Whoever is planned at some turn is planned at the end.
    pub planned_stays : AtEachTurn t (λ i c. (k : Job) → in_plan k c.plan ≡ true → in_plan k (course_of t).plan ≡ true)
        (turns t) no_turn_yet
    planned_stays = at_each_turn_of t v (λ i is c r s e k h. to_the_end t (course_of t) i is c e k (turn_keeps t i c.plan k h))

    -- a trial on the way has no cycles that the final plan with the chain has not
    trial_weighs_within : (i : Turn) (p : List Entry) → OfLeft t i → in_plan i.job p ≡ false → Sound t p
        → ((k : Job) → in_plan k p ≡ true → in_plan k (course_of t).plan ≡ true)
        → cycles_of (run_order t (trial i p)) ≤ cycles_of (with_chain i.job)
    unfolding cycles_of chain_of
    trial_weighs_within i p o n s m =
        let chain = chain_of t i.job in
        rw (plan-cycles (trial_sound t v i p o n s))
        (rw (sym (weight_kept job_cycles (λ x. any (same x) chain || in_plan x (course_of t).plan) (left t)))
        (weight_le job_cycles (λ x. in_plan x (trial i p)) (λ x. any (same x) chain || in_plan x (course_of t).plan) (left t)
        (λ x h. ⊎_elim
        (λ a. or_left (any (same x) chain) (in_plan x (course_of t).plan)
        (ap (λ ks. any (same x) (i.job ∷ ks)) (sym (turn_chain t i o)) ∙ a))
        (λ b. or_right (any (same x) chain) (in_plan x (course_of t).plan) (m x b))
        (or_split (any (same x) (i.job ∷ i.awaited)) (in_plan x p) (sym (planned_trial x i p) ∙ h)))))

    -- an own turn that gave 6 would give it at the end
    own_six_true : Each (λ (d : Fated). Listed (left t) d.job
        × (d.fate ≡ fate_budget → t.budget < cycles_of (with_chain d.job) * (top_of t).cost)) (course_of t).own_fates
    unfolding too_dear
    own_six_true =
        fates_of_course t v
        (λ i is c r s e. let o = each_first r.of_left in (
          o.listed,
          step i c.plan o s (λ k h. to_the_end t (course_of t) i is c e k (turn_keeps t i c.plan k h))
              (way_of t i c.plan),
        ))
      where
        step : (i : Turn) (p : List Entry) → OfLeft t i → Sound t p
            → ((k : Job) → in_plan k p ≡ true → in_plan k (course_of t).plan ≡ true)
            → Way t i p → (turn t i p).fate ≡ fate_budget → t.budget < cycles_of (with_chain i.job) * (top_of t).cost
        step i p o s m (passed_over n e) f = two_numbers (turn t i p).fate 1 6 refl (rw e) f
        step i p o s m (ratio_is_zero n z e) f = two_numbers (turn t i p).fate 4 6 refl (rw e) f
        step i p o s m (ends-late n l e) f = two_numbers (turn t i p).fate 5 6 refl (rw e) f
        step i p o s m (over_budget n d e) f =
            let b = ltb-true t.budget (cycles_of (run_order t (trial i p)) * (top_of t).cost) d in
            omega (arith, b, mul-le-mul_right (top_of t).cost (trial_weighs_within i p o n s m))
        step i p o s m (taken_in n l d e) f = two_numbers (turn t i p).fate 1 6 refl (rw e) f

    -- their cycles are the final plan's and those it lacks
    with_chain_is : (j : Job) → cycles_of (with_chain j) ≡ cycles_of (run_order t (course_of t).plan) + cycles_of (lacking j)
    unfolding lacking cycles_of
    with_chain_is j =
        let one : Job → Bool = λ x. any (same x) (chain_of t j) in
        let other : Job → Bool = λ x. in_plan x (course_of t).plan in
        sym (weight_kept job_cycles (λ x. one x || other x) (left t)) ∙ weight_parts job_cycles one other (left t)
        ∙ rw (weight_kept job_cycles (λ x. one x && not (other x)) (left t)) (rw (sym (plan-cycles (plan_sound t v).ordered)))

    -- 7. A 6 stays true at the end: the final plan's cycles and those of the job's chain that it has not, at top cost, are
    -- above the budget.
    pub six_stays_true : Each (λ j. fate_in t (course_of t) j ≡ fate_budget
        → t.budget < (cycles_of (run_order t (course_of t).plan) + cycles_of (lacking j)) * (top_of t).cost) t.jobs
    six_stays_true =
        each_too
        (λ j l f. let o = own_turn t (course_of t) j fate_budget refl refl refl refl f in
        let d = found_each (λ (i : Fated). same j i.job) own_six_true o.found in
        let e : j ≡ o.told.job =
        one-job (left t) j o.told.job (listed_left t j l o.on_time o.stays) d.0
        (found_passes (λ (i : Fated). same j i.job) (course_of t).own_fates o.found) in
        rw (sym (with_chain_is j)) (rw e (d.1 o.is_fate)))
        (jobs_listed t v)

    -- with a job, the plan has its chain already
    with_chain_planned : (j : Job) → Listed (left t) j → in_plan j (course_of t).plan ≡ true
        → cycles_of (with_chain j) ≤ cycles_of (run_order t (course_of t).plan)
    unfolding cycles_of
    with_chain_planned j l h =
        let p = (course_of t).plan in
        rw (plan-cycles (plan_sound t v).ordered)
        (rw (sym (weight_kept job_cycles (λ x. any (same x) (chain_of t j) || in_plan x p) (left t)))
        (weight_le job_cycles (λ x. any (same x) (chain_of t j) || in_plan x p) (λ x. in_plan x p) (left t)
        (λ x w. ⊎_elim (λ a. same_planned p x (chain_planned t v p (plan_sound t v) j l h) a) (λ a. a)
        (or_split (any (same x) (chain_of t j)) (in_plan x p) w))))

    -- A job whose own turn gave 6 is not in the final plan,
    pub six_not_overtaken : Each (λ (d : Fated). d.fate ≡ fate_budget → in_plan d.job (course_of t).plan ≡ false)
        (course_of t).own_fates
    six_not_overtaken =
        each_too
        (λ d w f. split (in_plan d.job (course_of t).plan)
        (λ h. absurd (omega (
          arith,
          w.1 f,
          (plan_sound t v).in_budget,
          mul-le-mul_right (top_of t).cost (with_chain_planned d.job w.0 h),
        )))
        (λ h. h))
        own_six_true

    -- nor is one whose own turn gave 4.
    pub four_not_overtaken : Each (λ (d : Fated). d.fate ≡ fate_ratio_zero → in_plan d.job (course_of t).plan ≡ false)
        (course_of t).own_fates
    unfolding after
    four_not_overtaken = fates_of_course t v (λ i is c r s e. step i is c r e (way_of t i c.plan))
      where
        step : (i : Turn) (is : List Turn) (c : Course) → Coming t (i ∷ is) → course t is (after t i c) ≡ course_of t
            → Way t i c.plan
            → (turn t i c.plan).fate ≡ fate_ratio_zero → in_plan i.job (course_of t).plan ≡ false
        step i is c r e (passed_over n a) f = two_numbers (turn t i c.plan).fate 1 4 refl (rw a) f
        step i is c r e (ratio_is_zero n z a) f =
            rw (sym e) (rw (zero_turns_idle (after t i c)
            (each_too (λ k b. behind_zero i k (each_first r.run) (ratio-zero i z) b) (first_of r.in_order)))
            (rw a n))
          where
            first_of : Pairwise (λ i k. before k i ≡ false) (i ∷ is) → Each (λ k. before k i ≡ false) is
            first_of (b then bs) = b
        step i is c r e (ends-late n l a) f = two_numbers (turn t i c.plan).fate 5 4 refl (rw a) f
        step i is c r e (over_budget n d a) f = two_numbers (turn t i c.plan).fate 6 4 refl (rw a) f
        step i is c r e (taken_in n l d a) f = two_numbers (turn t i c.plan).fate 1 4 refl (rw a) f

    -- an own turn gave 1 or 5, or else 4 or 6
    pub four_fates : Each (λ (d : Fated).
        ((d.fate ≡ fate_planned) ⊎ (d.fate ≡ fate_time)) ⊎ ((d.fate ≡ fate_ratio_zero) ⊎ (d.fate ≡ fate_budget)))
        (course_of t).own_fates
    four_fates = fates_of_course t v (λ i is c r s e. step i c.plan (way_of t i c.plan))
      where
        step : (i : Turn) (p : List Entry) → Way t i p
            → (((turn t i p).fate ≡ 1) ⊎ ((turn t i p).fate ≡ 5)) ⊎ (((turn t i p).fate ≡ 4) ⊎ ((turn t i p).fate ≡ 6))
        step i p (passed_over n e) = inl (inl (rw e))
        step i p (ratio_is_zero n z e) = inr (inl (rw e))
        step i p (ends-late n l e) = inl (inr (rw e))
        step i p (over_budget n d e) = inr (inr (rw e))
        step i p (taken_in n l d e) = inl (inl (rw e))

    -- 8. So of a planned job the own turn gave 1 or 5.
    pub only_five_overtaken : Each (λ (d : Fated). in_plan d.job (course_of t).plan ≡ true
        → (d.fate ≡ fate_planned) ⊎ (d.fate ≡ fate_time))
        (course_of t).own_fates
    only_five_overtaken =
        each_both (λ d w u h. ⊎_elim (λ f. f) (λ f. clash h (u f)) w) four_fates
        (each_both {R = λ (d : Fated). ((d.fate ≡ 4) ⊎ (d.fate ≡ 6)) → in_plan d.job (course_of t).plan ≡ false}
        (λ d a b. ⊎_elim a b) four_not_overtaken six_not_overtaken)
