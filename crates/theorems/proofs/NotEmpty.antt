-- Not empty: the turn of a job that waits for nobody, has worth and fits the budget alone finds a plan that has someone, or
-- is accepted, since the job alone ends in time; and who is planned stays. Assumes nothing.
use mathlib.Core.Bool.{true, false}
use mathlib.Core.List.{List, [], ◌∷◌, map}
use mathlib.Core.Option.{none}
use mathlib.Core.Path.{◌≡◌, refl, sym, ◌∙◌}
use Prim.Native.Nat.{◌*◌, ◌<◌, ◌≤◌}
use native.Mathlib.Nat.{add-zero, zero-add}
use native.Mathlib.Omega.{arith}
use borrow.Author.Tests.{eqb-true, ltb-true, ne_eqb, not-false}
use Rattle.laws.proofs.Choices.{clash}
use Rattle.steps.proofs.Course.{Way, at_each_turn_of, each_from_turns, ends-late, over_budget, passed_over, ratio_is_zero, taken_in, to_the_end, turn_keeps, way_of}
use Rattle.laws.proofs.Elements.{each_too}
use Rattle.steps.proofs.Entries.{trial_has_own}
use Rattle.steps.proofs.Jobs.{left_on_time, same_self}
use Rattle.laws.proofs.Lookups.{each_both, each_unmap, none_found, sorted_each}
use Rattle.grammar.proofs.Ranges.{hold_ranges}
use Rattle.steps.proofs.Walks.{walk_of_nobody}
use Rattle.rules.specs.Lists.{Each}
use Rattle.rules.specs.Plan.{Entry, Turn, asks_for, awaited, before, begin, chain_of, course_of, cycles_of, ends_by, ends_in_time, ends_late, gives, holder_in, in_plan, far_end_first, in_time, insert, is_of, jobs_of, late_in, left, members, ratio_of, ratio_zero, runs_from, runs_of, too_dear, top_of, trial, turn, turn_of, turns, waits_for, waits_left, run_order}
use Rattle.rules.specs.TableText.{Records, most_holds}
use Rattle.rules.specs.Valid.{Valid}
use Rattle.rules.specs.declared.Job.{Job}
use Rattle.steps.proofs.RunOrder.{run-order}
use Rattle.steps.proofs.Given.{timely_gives_worth}

nobody_planned : (p : List Entry) → ((k : Job) → in_plan k p ≡ true → ⊥) → p ≡ []
unfolding in_plan is_of
nobody_planned [] h = refl
nobody_planned (e ∷ p) h = absurd (h e.job (rw (same_self e.job)))

none_in_empty : (k : Job) (p : List Entry) → p ≡ [] → in_plan k p ≡ true → ⊥
unfolding in_plan
none_in_empty k p e h = clash h (rw e)

module _ (t : Records) where
  -- a turn of a job alone, that by itself is in time, gives something and is within budget
  record Single (i : Turn) : Type 0 where
    alone : i.awaited ≡ []
    on_time : late_in t i.job ≡ false
    gives_some : 0 < i.ratio.over
    affordable : i.job.cycles * (top_of t).cost ≤ t.budget

  single_trial : (i : Turn) → i.awaited ≡ [] → run_order t (trial i []) ≡ i.job ∷ []
  unfolding trial members begin insert jobs_of
  single_trial i h = rw (run-order t (trial i [])) (rw h)

  single_in_time : (i : Turn) → Single i → ends_late t (trial i []) ≡ false
  unfolding ends_late in_time runs_of runs_from ends_in_time late_in
  single_in_time i l =
      rw (single_trial i l.alone) (rw (zero-add i.job.cycles)
      (rw (not-false (ends_by t.clock (top_of t).mhz i.job.cycles i.job.termination) l.on_time)))

  single_cycles : (i : Turn) → Single i → cycles_of (run_order t (trial i [])) ≡ i.job.cycles
  unfolding cycles_of
  single_cycles i l = rw (single_trial i l.alone) (add-zero i.job.cycles)

  single_fills : (i : Turn) (p : List Entry) → Single i → p ≡ [] → Way t i p → (turn t i p).plan ≡ [] → ⊥
  unfolding ratio_zero too_dear
  single_fills i p l z (passed_over n e) q = none_in_empty i.job p z n
  single_fills i p l z (ratio_is_zero n o e) q = omega (arith, eqb-true i.ratio.over 0 o, l.gives_some)
  single_fills i p l z (ends-late n o e) q = clash (rw z at o) (single_in_time i l)
  single_fills i p l z (over_budget n o e) q =
      let w : t.budget < cycles_of (run_order t (trial i [])) * (top_of t).cost =
      ltb-true t.budget (cycles_of (run_order t (trial i [])) * (top_of t).cost) (rw z at o) in
      let u : t.budget < i.job.cycles * (top_of t).cost = rw (single_cycles i l) at w in
      omega (arith, u, l.affordable)
  single_fills i p l z (taken_in n a b e) q = none_in_empty i.job (trial i p) (sym (rw e) ∙ q) (trial_has_own i p)

  -- what a lone job gives when it ends in time
  single_gives : (j : Job) → late_in t j ≡ false → gives t (record { job = j; cycles_by_end = j.cycles }) ≡ j.worth
  unfolding late_in
  single_gives j h =
      timely_gives_worth t (record { job = j; cycles_by_end = j.cycles }) t.clock (top_of t).mhz j.cycles j.termination
      refl refl refl refl (not-false (ends_by t.clock (top_of t).mhz j.cycles j.termination) h)

  single_job : (j : Job) → late_in t j ≡ false → waits_left t j ≡ none → 0 < j.worth → j.cycles * (top_of t).cost ≤ t.budget
      → Single (turn_of t j)
  unfolding turn_of chain_of awaited ratio_of far_end_first runs_of runs_from
  single_job j a w g b =
      let nobody : awaited (waits_left t) j ≡ [] = rw w (walk_of_nobody (waits_left t) most_holds) in
      record {
        alone = nobody;
        on_time = a;
        gives_some = rw nobody (rw (zero-add j.cycles) (rw (single_gives j a) (omega arith)));
        affordable = b;
      }

  module _ (v : Valid t) where
    single_turns : Each (λ i. Single i → (course_of t).plan ≡ [] → ⊥) (turns t)
    single_turns =
        each_from_turns t (at_each_turn_of t v
        (λ i is c r s e l z.
        let stays : (k : Job) → in_plan k (turn t i c.plan).plan ≡ true → ⊥ =
        λ k h. none_in_empty k (course_of t).plan z (to_the_end t (course_of t) i is c e k h) in
        single_fills i c.plan l (nobody_planned c.plan (λ k h. stays k (turn_keeps t i c.plan k h)))
        (way_of t i c.plan)
        (nobody_planned (turn t i c.plan).plan stays)))

    -- 9. A remaining job that waits for nobody, has worth and fits the budget alone at top cost makes the plan non-empty.
    pub not_empty : Each (λ j. waits_left t j ≡ none → 0 < j.worth → j.cycles * (top_of t).cost ≤ t.budget
        → (course_of t).plan ≡ [] → ⊥) (left t)
    unfolding turns
    not_empty =
        each_both (λ j h a w g b. h (single_job j a w g b))
        (each_unmap (turn_of t) (left t) (sorted_each before (map (turn_of t) (left t)) single_turns)) (left_on_time t)

    -- nobody holds what a request of 0 names
    pub nothing_requested : (j : Job) → j.request ≡ 0 → waits_left t j ≡ none
    unfolding waits_left waits_for holder_in asks_for
    nothing_requested j z =
        rw (none_found (asks_for j)
        (each_too (λ h r. ne_eqb h.resource j.request (let l = (hold_ranges h r).resource_from in omega arith))
        v.hold_ranges))
