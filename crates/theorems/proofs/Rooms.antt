-- The rooms that document 02's A2 asks for, along the course of a valid table. Each plan of the course is within budget at top cost,
-- so that the room left and the plan's cycles at top cost make up the budget. A turn leaves the plan as it stood, and the room with
-- it, or accepts its trial, which has more cycles, by those of whom it adds. Rows, rooms and fates go along the turns, one by one.
-- Assumes nothing.
use mathlib.Core.Bool.{true, false}
use mathlib.Core.List.{List, [], ◌∷◌, map, reverse, reverse_aux}
use mathlib.Core.Logic.{◌↔◌}
use mathlib.Core.Path.{◌≡◌, refl, sym, ap, ◌∙◌}
use Prim.Native.Nat.{ℕ, ◌+◌, ◌*◌, ◌≤◌, ◌<◌}
use native.Mathlib.Nat.{add-mul, mul-pos}
use native.Mathlib.Omega.{arith}
use borrow.Author.Tests.{ltb-false, ltb-true}
use Rattle.laws.proofs.Choices.{clash, split, two_numbers}
use Rattle.laws.proofs.Elements.{each_last, each_too}
use Rattle.laws.proofs.Lookups.{each_first}
use Rattle.laws.proofs.Tests.{both_true, within_true}
use Rattle.laws.specs.Pairs.{Pairwise, no_pair, ◌then◌}
use Rattle.rules.specs.Lists.{last_or, none_left, ◌and◌}
use Rattle.rules.specs.Plan.{Course, Entry, Turn, after, course, course_of, cycles_of, ends_late, energy_at, fate_budget, fate_time, in_plan, judge, no_turn_yet, plan_from, plan_of, run_order, too_dear, top_of, trial, turn, turns}
use Rattle.rules.specs.Rooms.{TurnRoom, last_room, room_left, rooms_from, rooms_of}
use Rattle.rules.specs.TableText.{Records, in_range, is_cost, is_mhz, most_cost, no_speed}
use Rattle.rules.specs.Valid.{Valid}
use Rattle.rules.specs.declared.Speed.{Speed}
use Rattle.steps.proofs.Course.{AtEachTurn, Sound, Way, and_on, at_each_turn_of, ends-late, no-turn, over_budget, passed_over, plan_sound, ratio_is_zero, taken_in, turn_sound, way_of}
use Rattle.steps.proofs.Jobs.{each_left, jobs_cycles, listed_has}
use Rattle.steps.proofs.RunOrder.{none_run}
use Rattle.steps.proofs.Turns.{OfLeft}
use Rattle.theorems.proofs.Added.{trial_cycles}
use Rattle.theorems.specs.Rooms.{Accepted, ComesToTrial, InBudget, MakesBudget, added_by, fated_in, rooms_along}

no_greater_before : (n : ℕ) {m : ℕ} {ms : List ℕ} → m ≤ n → Pairwise (λ earlier later. later ≤ earlier) (m ∷ ms)
    → Pairwise (λ earlier later. later ≤ earlier) (n ∷ m ∷ ms)
no_greater_before n l (r then rs) = (l and each_too (λ k h. omega arith) r) then (r then rs)

module _ (t : Records) where
  makes_budget : (p : List Entry) → InBudget t p → MakesBudget t p
  unfolding room_left
  makes_budget p l = omega arith

  -- a turn accepts its trial, or leaves the plan as it stood
  data Turned (i : Turn) (p : List Entry) : Type 0 where
    accepts : Accepted t i p → (turn t i p).plan ≡ trial i p → Turned i p
    leaves : (Accepted t i p → ⊥) → (turn t i p).plan ≡ p → Turned i p

  turned : (i : Turn) (p : List Entry) → Turned i p
  turned i p = from (way_of t i p)
    where
      from : Way t i p → Turned i p
      from (passed_over n e) = leaves (λ a. clash n a.0) (rw e)
      from (ratio_is_zero n z e) = leaves (λ a. two_numbers (turn t i p).fate 4 1 refl (rw e) a.1) (rw e)
      from (ends-late n l e) = leaves (λ a. two_numbers (turn t i p).fate 5 1 refl (rw e) a.1) (rw e)
      from (over_budget n d e) = leaves (λ a. two_numbers (turn t i p).fate 6 1 refl (rw e) a.1) (rw e)
      from (taken_in n l d e) = accepts (n, rw e) (rw e)

  -- the rows go along the turns
  row_fates : (is : List Turn) (c : Course)
      → (course t is c).own_fates ≡ reverse_aux (map fated_in (rooms_from t is c.plan)) c.own_fates
  unfolding rooms_from course after
  row_fates [] c = refl
  row_fates (i ∷ is) c = row_fates is (after t i c)

  row_last : (is : List Turn) (c : Course)
      → last_or (room_left t c.plan) (map (λ (r : TurnRoom). r.room) (rooms_from t is c.plan)) ≡ room_left t (course t is c).plan
  unfolding rooms_from course after
  row_last [] c = refl
  row_last (i ∷ is) c = row_last is (after t i c)

  never_rise_from : {is : List Turn} (c : Course)
      → AtEachTurn t (λ i c. room_left t (turn t i c.plan).plan ≤ room_left t c.plan) is c
      → Pairwise (λ earlier later. later ≤ earlier)
      (room_left t c.plan ∷ map (λ (r : TurnRoom). r.room) (rooms_from t is c.plan))
  unfolding rooms_from after
  never_rise_from c no-turn = none_left then no_pair
  never_rise_from {is = i ∷ is} c (and_on l more) =
      no_greater_before (room_left t c.plan) l (never_rise_from (after t i c) more)

  -- The rows have the fates of the own turns, in the order of turns: the course tells the last first.
  pub rows_tell_own_fates : (course_of t).own_fates ≡ reverse (map fated_in (rooms_of t))
  unfolding rooms_of course_of no_turn_yet
  rows_tell_own_fates = row_fates (turns t) no_turn_yet

  -- Before the first turn the room is the whole budget.
  pub room_before_all : room_left t no_turn_yet.plan ≡ t.budget
  unfolding room_left no_turn_yet cycles_of
  room_before_all = rw (none_run t) (omega arith)

  -- The last room is that of the last row, or the budget where there is none.
  pub last_room_is_the_last_row : last_room t ≡ last_or t.budget (rooms_along t)
  unfolding last_room course_of rooms_of
  last_room_is_the_last_row =
      sym (row_last (turns t) no_turn_yet) ∙ ap (λ first. last_or first (rooms_along t)) room_before_all

  -- A trial that does not end in time gets a 5, whatever the room.
  pub five_whatever_room : (i : Turn) (p : List Entry) → ComesToTrial i p → ends_late t (trial i p) ≡ true
      → (turn t i p).fate ≡ fate_time
  unfolding turn judge
  five_whatever_room i p c l = rw c.0 (rw c.1 (rw l))

  module _ (v : Valid t) where
    top_cost_positive : 1 ≤ (top_of t).cost
    unfolding top_of in_range is_mhz is_cost
    top_cost_positive =
        each_last {P = λ (f : Speed). 1 ≤ f.cost} no_speed v.some_speed
        (each_too (λ f e. (within_true 1 most_cost f.cost (both_true (is_mhz f.mhz) (is_cost f.cost) e).1).0)
        v.speed_ranges)

    -- what holds of any turn of a job left and any sound plan before it
    along : {P : Turn → List Entry → Type 0} → ((i : Turn) (p : List Entry) → OfLeft t i → Sound t p → P i p)
        → AtEachTurn t (λ i c. P i c.plan) (turns t) no_turn_yet
    along gives = at_each_turn_of t v (λ i is c r s e. gives i c.plan (each_first r.of_left) s)

    -- No plan of the course is over the budget at top cost: before a turn and after it, the room and the plan's cycles at top cost
    -- make up the budget.
    pub always_makes_budget : AtEachTurn t (λ i c. MakesBudget t c.plan × MakesBudget t (turn t i c.plan).plan)
        (turns t) no_turn_yet
    always_makes_budget =
        along (λ i p o s. (makes_budget p s.in_budget, makes_budget (turn t i p).plan (turn_sound t v i p o s).in_budget))

    module _ (i : Turn) (p : List Entry) (o : OfLeft t i) (s : Sound t p) where
      abbrev added_cost : ℕ
      added_cost = cycles_of (added_by i p) * (top_of t).cost

      -- whoever is added has cycles
      added_costs : in_plan i.job p ≡ false → 0 < added_cost
      unfolding added_by cycles_of
      added_costs n =
          let own : 0 < i.job.cycles = listed_has (each_left t (jobs_cycles t v)) o.listed in
          rw n (mul-pos {m = i.job.cycles + _} (omega arith) (omega (arith, top_cost_positive)))

      -- the trial's cycles at top cost are the plan's and the added
      trial_cost : in_plan i.job p ≡ false
          → cycles_of (run_order t (trial i p)) * (top_of t).cost ≡ cycles_of (run_order t p) * (top_of t).cost + added_cost
      trial_cost n = rw (trial_cycles t v i p o s n) (add-mul (cycles_of (run_order t p)) (cycles_of (added_by i p)) (top_of t).cost)

      -- an accepted trial takes them from the room, and any other turn takes nothing
      room_taken : Turned i p → Accepted t i p → room_left t (turn t i p).plan + added_cost ≡ room_left t p
      room_taken (accepts a e) b =
          let after_turn : MakesBudget t (trial i p) =
          rw e at (makes_budget (turn t i p).plan (turn_sound t v i p o s).in_budget) in
          rw e (omega (arith, after_turn, makes_budget p s.in_budget, trial_cost a.0))
      room_taken (leaves n e) b = absurd (n b)

      room_kept : Turned i p → (Accepted t i p → ⊥) → room_left t (turn t i p).plan ≡ room_left t p
      room_kept (accepts a e) n = absurd (n a)
      room_kept (leaves n e) m = ap (room_left t) e

      room_falls : Turned i p → (room_left t (turn t i p).plan < room_left t p) ↔ Accepted t i p
      room_falls (accepts a e) = ((λ l. a), λ b. omega (arith, room_taken (accepts a e) a, added_costs a.0))
      room_falls (leaves n e) = ((λ l. absurd (omega (arith, l, room_kept (leaves n e) n))), λ b. absurd (n b))

      room_never_rises : Turned i p → room_left t (turn t i p).plan ≤ room_left t p
      room_never_rises (accepts a e) = omega (arith, room_taken (accepts a e) a)
      room_never_rises (leaves n e) = omega (arith, room_kept (leaves n e) n)

      six_by_room : ComesToTrial i p → ends_late t (trial i p) ≡ false
          → ((turn t i p).fate ≡ fate_budget) ↔ (room_left t p < added_cost)
      unfolding turn judge too_dear
      six_by_room c l =
          let whole = makes_budget p s.in_budget in
          let cost = cycles_of (run_order t (trial i p)) * (top_of t).cost in
          rw c.0 (rw c.1 (rw l
          (split (too_dear t (trial i p))
          (λ d. rw d ((λ f. omega (arith, whole, trial_cost c.0, ltb-true t.budget cost d)), λ h. refl))
          (λ d. rw d (
            (λ f. two_numbers 1 1 6 refl refl f),
            λ h. absurd (omega (arith, whole, trial_cost c.0, ltb-false t.budget cost d)),
          )))))

    -- An accepted trial takes from the room what it adds, at top cost;
    pub accepted_takes_what_it_adds : AtEachTurn t (λ i c. Accepted t i c.plan
        → room_left t (turn t i c.plan).plan + cycles_of (added_by i c.plan) * (top_of t).cost ≡ room_left t c.plan)
        (turns t) no_turn_yet
    accepted_takes_what_it_adds = along (λ i p o s. room_taken i p o s (turned i p))

    -- so the room falls exactly where a trial is accepted,
    pub falls_where_accepted : AtEachTurn t (λ i c.
        (room_left t (turn t i c.plan).plan < room_left t c.plan) ↔ Accepted t i c.plan) (turns t) no_turn_yet
    falls_where_accepted = along (λ i p o s. room_falls i p o s (turned i p))

    -- and else it is the same.
    pub else_the_same : AtEachTurn t (λ i c. (Accepted t i c.plan → ⊥)
        → room_left t (turn t i c.plan).plan ≡ room_left t c.plan)
        (turns t) no_turn_yet
    else_the_same = along (λ i p o s. room_kept i p o s (turned i p))

    -- So no room is greater than the budget, or than one before it.
    pub rooms_never_rise : Pairwise (λ earlier later. later ≤ earlier) (t.budget ∷ rooms_along t)
    unfolding rooms_of
    rooms_never_rise =
        rw room_before_all at (never_rise_from no_turn_yet (along (λ i p o s. room_never_rises i p o s (turned i p))))

    -- The last room and the plan's energy at top speed make up the budget.
    pub last_room_makes_budget : last_room t + energy_at (top_of t) (plan_of t).jobs ≡ t.budget
    unfolding last_room plan_of plan_from energy_at
    last_room_makes_budget = makes_budget (course_of t).plan (plan_sound t v).in_budget

    -- A trial's cycles are the plan's and those of whom it adds.
    pub each_trial_adds : AtEachTurn t (λ i c. in_plan i.job c.plan ≡ false
        → cycles_of (run_order t (trial i c.plan)) ≡ cycles_of (run_order t c.plan) + cycles_of (added_by i c.plan))
        (turns t) no_turn_yet
    each_trial_adds = along (trial_cycles t v)

    -- One that ends in time gets a 6 exactly where what it adds, at top cost, exceeds the room before it.
    pub six_exactly_by_room : AtEachTurn t (λ i c. ComesToTrial i c.plan → ends_late t (trial i c.plan) ≡ false
        → ((turn t i c.plan).fate ≡ fate_budget) ↔ (room_left t c.plan < cycles_of (added_by i c.plan) * (top_of t).cost))
        (turns t) no_turn_yet
    six_exactly_by_room = along six_by_room
