-- Demand 3: jobs that are not planned do not matter. An outside job that asks for nothing that a job inside holds waits,
-- alone, for whom it waits for in the whole table. So each of the two tables gives what it gives without the set, and
-- without the set they are one table. Assumes nothing.
use mathlib.Core.Bool.{Bool, true, not}
use mathlib.Core.List.{List}
use mathlib.Core.Option.{some}
use mathlib.Core.Path.{◌≡◌, sym, ap, ◌∙◌}
use Prim.Native.Nat.{ℕ, ◌<◌}
use Rattle.grammar.proofs.BudgetBeside.{valid_at}
use Rattle.laws.proofs.Choices.{split_option}
use Rattle.laws.proofs.Elements.{each_too}
use Rattle.steps.proofs.Jobs.{each_left, each_timely, is-holder, jobs_cycles, waits_by, waits_each, waits_number}
use Rattle.laws.proofs.Lookups.{each_always, each_unmap, find_keep, found_each, found_passes, keep_agree}
use Rattle.theorems.proofs.Outside.{AllOut, Alone, Parted, late_same, leaves_same, only_outside, planned_alone}
use Rattle.steps.proofs.Walks.{same_walk}
use Rattle.theorems.specs.Demand3.{Agree, Alike, NoneAsksInside, NonePlanned, out_of, outer_hold, outer_job}
use Rattle.rules.specs.Lists.{Each, find, keep}
use Rattle.rules.specs.Plan.{Entry, asks_for, awaited, course_of, holder_in, jobs_of, late_in, leaves_its_ring, leaves_ring, left, plan_from, plan_of, timely, waits_for, waits_left, waits_timely}
use Rattle.rules.specs.Refusals.{is_holder}
use Rattle.rules.specs.TableText.{Records, is_budget, most_holds, with_budget}
use Rattle.rules.specs.Valid.{Valid}
use Rattle.rules.specs.declared.Hold.{Hold}
use Rattle.rules.specs.declared.Job.{Job}
use Rattle.steps.proofs.RunOrder.{run-order}

module _ (out : ℕ → Bool) where
  -- every hold that j asks for is held outside
  abbrev pub AsksOutside : List Hold → Job → Type 0
  AsksOutside hs j = Each (λ h. asks_for j h ≡ true → outer_hold out h ≡ true) hs

  -- what demand 3 asks of each of the two tables
  pub record Fit (t : Records) : Type 0 where
    pub asks : Each (λ j. outer_job out j ≡ true → AsksOutside t.holds j) t.jobs
    pub cycles : Each (λ (j : Job). 0 < j.cycles) t.jobs
    pub none_in : AllOut out (course_of t).plan

  -- outside itself, and asking outside only
  abbrev OuterFree : List Hold → Job → Type 0
  OuterFree hs j = (outer_job out j ≡ true) × AsksOutside hs j

  waits_alone : (hs : List Hold) (js : List Job) (j : Job) → AsksOutside hs j
      → waits_for hs js j ≡ waits_for (keep (outer_hold out) hs) (keep (outer_job out) js) j
  unfolding waits_for holder_in
  waits_alone hs js j a =
      rw (find_keep (asks_for j) (outer_hold out) a)
      (split_option (find (asks_for j) hs)
      (λ e. rw e)
      (λ h e. rw e (sym (find_keep (is_holder h) (outer_job out)
      (each_always js (λ k i. ap out (is-holder h k i) ∙ found_each (asks_for j) a e (found_passes (asks_for j) hs e)))))))

  outer_free_next : (hs : List Hold) (js : List Job) → Each (λ k. outer_job out k ≡ true → AsksOutside hs k) js → (j k : Job)
      → OuterFree hs j
      → waits_for hs js j ≡ some k → OuterFree hs k
  outer_free_next hs js e j k f w =
      let b = waits_by hs js j k w in
      let o : outer_job out k ≡ true =
      ap out (waits_number hs js j k w) ∙ found_each (asks_for j) f.1 b.1 (found_passes (asks_for j) hs b.1) in
      (o, waits_each hs js j k w e o)

  module _ (t : Records) (asks : Each (λ j. outer_job out j ≡ true → AsksOutside t.holds j) t.jobs) where
    timely_alone : timely (only_outside out t) ≡ keep (outer_job out) (timely t)
    unfolding timely only_outside
    timely_alone =
        keep_agree (outer_job out) (λ j. not (late_in t j)) (λ j. not (late_in (only_outside out t) j))
        (each_always t.jobs (λ j o. ap not (sym (late_same out t j))))

    waits-timely : (j : Job) → OuterFree t.holds j → waits_timely t j ≡ waits_timely (only_outside out t) j
    unfolding waits_timely only_outside
    waits-timely j f =
        waits_alone t.holds (timely t) j f.1
        ∙ ap (λ js. waits_for (keep (outer_hold out) t.holds) js j) (sym timely_alone)

    timely_next : (j k : Job) → OuterFree t.holds j → waits_timely t j ≡ some k → OuterFree t.holds k
    unfolding waits_timely
    timely_next j k f w = outer_free_next t.holds (timely t) (each_timely t asks) j k f w

    leaves_alone : (j : Job) → OuterFree t.holds j → leaves_its_ring t j ≡ leaves_its_ring (only_outside out t) j
    unfolding leaves_its_ring awaited
    leaves_alone j f =
        ap (λ ring. leaves_ring t ring j)
        (same_walk (waits_timely t) (waits_timely (only_outside out t)) waits-timely timely_next most_holds j f)
        ∙ sym (leaves_same out t (awaited (waits_timely (only_outside out t)) j) j)

    left_alone : left (only_outside out t) ≡ keep (outer_job out) (left t)
    unfolding left
    left_alone =
        rw timely_alone
        (keep_agree (outer_job out) (λ j. not (leaves_its_ring t j)) (λ j. not (leaves_its_ring (only_outside out t) j))
        (each_too (λ j a o. ap not (leaves_alone j (o, a o))) (each_timely t asks)))

    waits-left : (j : Job) → OuterFree t.holds j → waits_left t j ≡ waits_left (only_outside out t) j
    unfolding waits_left only_outside
    waits-left j f =
        waits_alone t.holds (left t) j f.1 ∙ ap (λ js. waits_for (keep (outer_hold out) t.holds) js j) (sym left_alone)

    left_next : (j k : Job) → OuterFree t.holds j → waits_left t j ≡ some k → OuterFree t.holds k
    unfolding waits_left
    left_next j k f w = outer_free_next t.holds (left t) (each_left t asks) j k f w

    awaited_alone : (j : Job) → OuterFree t.holds j → awaited (waits_left t) j ≡ awaited (waits_left (only_outside out t)) j
    unfolding awaited
    awaited_alone j f = same_walk (waits_left t) (waits_left (only_outside out t)) waits-left left_next most_holds j f

  pub fit_parted : (t : Records) → Fit t → Parted out t
  fit_parted t f =
      record {
        left_same = left_alone t f.asks;
        awaited_same = each_too (λ j a o. awaited_alone t f.asks j (o, a o)) (each_left t f.asks);
        leaves_same = each_too (λ j a o. leaves_alone t f.asks j (o, a o)) f.asks;
        cycles = each_left t f.cycles;
        none_in = f.none_in;
      }

  -- A table whose plan has nobody of the set, and whose other jobs ask for nothing that the set holds, gives what it gives
  -- without the set.
  pub set_does_not_matter : (t : Records) → Fit t → Alone out t
  set_does_not_matter t f = planned_alone out t (fit_parted t f)

  -- Demand 3, with the premises that its proof uses.
  pub demand_3 : (a b : Records) → only_outside out a ≡ only_outside out b → Fit a → Fit b → Alike out a b
  demand_3 a b e fa fb =
      let x = set_does_not_matter a fa in
      let y = set_does_not_matter b fb in
      record {
        jobs = sym x.jobs ∙ ap (λ t. (plan_of t).jobs) e ∙ y.jobs;
        speed = sym x.speed ∙ ap (λ t. (plan_of t).speed) e ∙ y.speed;
        energy = sym x.energy ∙ ap (λ t. (plan_of t).energy) e ∙ y.energy;
        fates = sym x.fates ∙ ap (λ t. (plan_of t).fates) e ∙ y.fates;
      }

-- Demand 3 as it is demanded, for a set of job numbers.
module _ (set : ℕ → Bool) where
  pub fits : (t : Records) → Valid t → NoneAsksInside set t → NonePlanned set t → Fit (out_of set) t
  unfolding plan_of plan_from jobs_of
  fits t v a n =
      record {
        asks = a;
        cycles = jobs_cycles t v;
        none_in = each_unmap (λ (e : Entry). e.job) (course_of t).plan (rw (run-order t (course_of t).plan) at n);
      }

  module _ (budget : ℕ) (in-range : is_budget budget ≡ true) (a b : Records) where
    pub same_outside : Agree set a b
        → only_outside (out_of set) (with_budget a budget) ≡ only_outside (out_of set) (with_budget b budget)
    unfolding only_outside
    same_outside g = rw (g.clock, g.speeds, g.jobs, g.holds)

    -- Jobs that are not planned do not matter.
    pub unplanned_do_not_matter : Valid a → Valid b → Agree set a b → NoneAsksInside set a → NoneAsksInside set b
        → NonePlanned set (with_budget a budget) → NonePlanned set (with_budget b budget)
        → Alike (out_of set) (with_budget a budget) (with_budget b budget)
    unplanned_do_not_matter va vb g aa ab na nb =
        demand_3 (out_of set) (with_budget a budget) (with_budget b budget) (same_outside g)
        (fits (with_budget a budget) (valid_at va budget in-range) aa na)
        (fits (with_budget b budget) (valid_at vb budget in-range) ab nb)
