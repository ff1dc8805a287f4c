-- The jobs outside a set, planned alone. Where they wait alone for whom they wait for in the whole table, and the plan has
-- nobody of the set, each turn of the set's jobs leaves the plan as it was, since a job that is taken in stays; so these
-- turns may be left out, and all else is the same. Assumes nothing.
use mathlib.Core.Bool.{Bool, true, false}
use mathlib.Core.List.{List, [], ◌∷◌}
use mathlib.Core.Path.{◌≡◌, refl, sym, ap, ◌∙◌}
use Prim.Native.Nat.{ℕ, ◌<◌}
use Rattle.laws.proofs.Choices.{clash, split, split_option}
use Rattle.steps.proofs.Course.{to_the_end, turn_own}
use Rattle.laws.proofs.Elements.{each_too}
use Rattle.steps.proofs.Entries.{is-of, no_entry}
use Rattle.steps.proofs.Jobs.{same_number}
use Rattle.laws.proofs.Lookups.{each_always, find_keep, found_each, found_passes, keep_map, map_agree, total_agree}
use Rattle.steps.proofs.Cheapest.{same_speed}
use Rattle.steps.proofs.Turns.{keep_turns, turns_run}
use Rattle.theorems.specs.Demand3.{outer_fated, outer_hold, outer_job}
use Rattle.rules.specs.Lists.{Each, all, find, keep, sorted}
use Rattle.rules.specs.Plan.{Course, Entry, Fated, Run, Turn, after, awaited, before, chain_of, course, course_of, cycles_of, ends_late, fate_in, gives, goes_rather, in_plan, far_end_first, is_of, judge, late_in, leaves_its_ring, leaves_ring, left, own_fate, plan_from, plan_of, ratio_of, runs_of, same, speed_for, no_turn_yet, too_dear, top_of, turn, turn_of, turns, waits_left, weight_in, run_order}
use Rattle.rules.specs.TableText.{Records, with_holds, with_jobs}
use Rattle.rules.specs.declared.Job.{Job}

-- `out n`: the job of number n lies outside the set
module _ (out : ℕ → Bool) where
  abbrev pub outer_turn : Turn → Bool
  outer_turn i = out i.job.number

  -- nobody of the set is in the plan
  abbrev pub AllOut : List Entry → Type 0
  AllOut p = Each (λ e. out e.job.number ≡ true) p

  -- what is left of a table when the set's jobs and their holds are gone
  unfoldable pub only_outside : Records → Records
  only_outside t = with_holds (with_jobs t (keep (outer_job out) t.jobs)) (keep (outer_hold out) t.holds)

  -- the course, less the own fates of the set's jobs
  unfoldable pub seen_outside : Course → Course
  seen_outside c = record { plan = c.plan; own_fates = keep (outer_fated out) c.own_fates }

  planned_out : (k : Job) (p : List Entry) → in_plan k p ≡ true → AllOut p → outer_job out k ≡ true
  planned_out k p h a =
      split_option (find (is_of k) p)
      (λ e. clash h (no_entry k p e))
      (λ e f. ap out (same_number k e.job (is-of k e (found_passes (is_of k) p f))) ∙ found_each (is_of k) a f)

  module _ (t : Records) where
    -- a turn of the set changes no plan that ends without the set
    pub inside_idle : (i : Turn) (is : List Turn) (c : Course) → AllOut (course t is (after t i c)).plan → outer_turn i ≡ false
        → (turn t i c.plan).plan ≡ c.plan
    inside_idle i is c a n =
        turn_own t i c.plan
        (split (in_plan i.job (turn t i c.plan).plan)
        (λ h. clash (planned_out i.job (course t is (after t i c)).plan
        (to_the_end t (course t is (after t i c)) i is c refl i.job h) a) n)
        (λ h. h))

    -- so the set's turns may be left out
    without_inside : (is : List Turn) (c : Course) → AllOut (course t is c).plan
        → seen_outside (course t is c) ≡ course t (keep outer_turn is) (seen_outside c)
    unfolding seen_outside course after
    without_inside [] c a = refl
    without_inside (i ∷ is) c a =
        split (outer_turn i)
        (λ h. without_inside is (after t i c) a ∙ rw h)
        (λ h. without_inside is (after t i c) a ∙ rw h (rw (inside_idle i is c a h)))

    -- nothing but clock, budget and speeds is asked of the table by these
    pub late_same : (j : Job) → late_in (only_outside t) j ≡ late_in t j
    unfolding late_in top_of only_outside
    late_same j = refl

    gives_same : (r : Run) → gives (only_outside t) r ≡ gives t r
    unfolding gives top_of only_outside
    gives_same r = refl

    weight_same : (j : Job) → weight_in (only_outside t) j ≡ weight_in t j
    unfolding weight_in
    weight_same j = refl

    ratio_same : (chain : List Job) → ratio_of (only_outside t) chain ≡ ratio_of t chain
    unfolding ratio_of
    ratio_same chain =
        ap (λ n. record { over = n; under = cycles_of chain })
        (total_agree (gives (only_outside t)) (gives t) (each_always (runs_of (far_end_first chain)) gives_same))

    goes_same : (j k : Job) → goes_rather (only_outside t) j k ≡ goes_rather t j k
    unfolding goes_rather
    goes_same j k = rw (weight_same j, weight_same k)

    pub leaves_same : (ring : List Job) (j : Job) → leaves_ring (only_outside t) ring j ≡ leaves_ring t ring j
    unfolding leaves_ring
    leaves_same ring j = rw (all_same ring)
      where
        all_same : (ks : List Job) → all (goes_rather (only_outside t) j) ks ≡ all (goes_rather t j) ks
        all_same [] = refl
        all_same (k ∷ ks) = rw (goes_same j k, all_same ks)

    course_same : (is : List Turn) (c : Course) → course (only_outside t) is c ≡ course t is c
    unfolding course after turn judge ends_late too_dear top_of only_outside run_order
    course_same [] c = refl
    course_same (i ∷ is) c = course_same is (after t i c)

    -- what it takes for the jobs outside to be planned alone as they are in the whole table
    pub record Parted : Type 0 where
      pub left_same : left (only_outside t) ≡ keep (outer_job out) (left t)
      pub awaited_same : Each (λ j. outer_job out j ≡ true → awaited (waits_left t) j ≡ awaited (waits_left (only_outside t)) j) (left t)
      pub leaves_same : Each (λ j. outer_job out j ≡ true → leaves_its_ring t j ≡ leaves_its_ring (only_outside t) j) t.jobs
      pub cycles : Each (λ (j : Job). 0 < j.cycles) (left t)
      pub none_in : AllOut (course_of t).plan

    -- the jobs outside, planned alone
    pub record Alone : Type 0 where
      pub jobs : (plan_of (only_outside t)).jobs ≡ (plan_of t).jobs
      pub fates : (plan_of (only_outside t)).fates ≡ keep (outer_fated out) (plan_of t).fates
      pub speed : (plan_of (only_outside t)).speed ≡ (plan_of t).speed
      pub energy : (plan_of (only_outside t)).energy ≡ (plan_of t).energy

    module _ (parted : Parted) where
      turn_same : (j : Job) → awaited (waits_left t) j ≡ awaited (waits_left (only_outside t)) j
          → turn_of t j ≡ turn_of (only_outside t) j
      unfolding turn_of chain_of
      turn_same j e = rw (ratio_same (j ∷ awaited (waits_left (only_outside t)) j)) (rw e)

      pub turns_same : turns (only_outside t) ≡ keep outer_turn (turns t)
      unfolding turns turn_of
      turns_same =
          rw parted.left_same
          (ap (sorted before)
          (map_agree (outer_job out) (turn_of t) (turn_of (only_outside t)) (each_too (λ j e o. turn_same j (e o)) parted.awaited_same)
          ∙ sym (keep_map outer_turn (turn_of t) (left t)))
          ∙ sym (keep_turns outer_turn (turns_run t parted.cycles)))

      pub seen_same : course_of (only_outside t) ≡ seen_outside (course_of t)
      unfolding course_of seen_outside no_turn_yet
      seen_same =
          rw turns_same (course_same (keep outer_turn (turns t)) no_turn_yet ∙ sym (without_inside (turns t) no_turn_yet parted.none_in))

      pub plan_same : (course_of (only_outside t)).plan ≡ (course_of t).plan
      unfolding seen_outside
      plan_same = ap (λ (c : Course). c.plan) seen_same

      fate_same : (j : Job) → outer_job out j ≡ true → leaves_its_ring t j ≡ leaves_its_ring (only_outside t) j
          → fate_in t (course_of t) j ≡ fate_in (only_outside t) (course_of (only_outside t)) j
      unfolding fate_in own_fate seen_outside same
      fate_same j o l =
          rw seen_same (rw (late_same j) (rw (sym l)
          (rw (find_keep (λ (i : Fated). same j i.job) (outer_fated out)
          (each_always (course_of t).own_fates (λ i e. ap out (sym (same_number j i.job e)) ∙ o))))))

      speed_same : speed_for (only_outside t) (run_order t (course_of (only_outside t)).plan) ≡ speed_for t (run_order t (course_of t).plan)
      unfolding only_outside
      speed_same = rw plan_same (same_speed (only_outside t) t (run_order t (course_of t).plan) refl refl refl)

      fated : Records → Course → Job → Fated
      fated u c j = record { job = j; fate = fate_in u c j }

      pub planned_alone : Alone
      unfolding plan_of plan_from only_outside fated run_order
      planned_alone =
          record {
            jobs = ap (run_order t) plan_same;
            fates = map_agree (outer_job out) (fated t (course_of t)) (fated (only_outside t) (course_of (only_outside t)))
                (each_too (λ j l o. ap (λ n. record { job = j; fate = n }) (fate_same j o (l o))) parted.leaves_same)
                ∙ sym (keep_map (outer_fated out) (fated t (course_of t)) t.jobs);
            speed = speed_same;
            energy = rw speed_same (rw plan_same);
          }
