-- The thirteen theorems for testers, of every valid table's plan, in one place. Each is proved where its reason is: Speeds (1, 2
-- and 11), Planned (3, 4), Fates (4), Rings (5), Overtaken (6, 7, 8), NotEmpty (9), Again (10), SpeedRules (11), Rooms, Added and
-- steps/proofs/Rooms (13), and the twelfth here. What is planned are a table's records with the budget beside it (`promises_beside`), so that "the budget" is that
-- one. `Promised` proves them. Assumes nothing.
use mathlib.Core.Bool.{Bool, true, false}
use mathlib.Core.List.{List, [], ◌∷◌, map, reverse}
use mathlib.Core.Logic.{◌⊎◌, ◌↔◌}
use mathlib.Core.Option.{none}
use mathlib.Core.Path.{◌≡◌, refl}
use Prim.Native.Nat.{ℕ, ◌+◌, ◌*◌, ◌≤◌, ◌<◌}
use lib.Dec.{eqb}
use lib.ListN.{get_or, length, take}
use Rattle.theorems.proofs.Again.{again, planned}
use Rattle.steps.proofs.Course.{AtEachTurn}
use Rattle.theorems.proofs.Outside.{Alone}
use Rattle.steps.proofs.Overtaken.{TakesIn, lacking}
use Rattle.laws.specs.Pairs.{Distinct, Pairwise}
use Rattle.steps.proofs.Planned.{HoldersBefore}
use Rattle.steps.proofs.Rings.{OnRing, Reaches}
use Rattle.steps.proofs.Chosen.{SpeedChosen}
use Rattle.theorems.proofs.SpeedRules.{SinceVersionFour}
use Rattle.theorems.specs.Rooms.{Accepted, ComesToTrial, MakesBudget, added_by, fated_in, rooms_along}
use Rattle.theorems.specs.SpeedRules.{SpeedRule, plan_by}
use Rattle.rules.specs.Listing.{finish}
use Rattle.rules.specs.Lists.{Each, keep, last_or}
use Rattle.rules.specs.Plan.{Entry, Fated, Turn, chain_of, course, course_of, gives, goes_rather, on_ring, ratio_of, turn_of, weight_in, cycles_of, ends_in_time, ends_late, energy_at, fate_budget, fate_planned, fate_time, fates_of, in_plan, in_time, late_in, leaves_its_ring, leaves_ring, left, numbers_of, plan_of, runs_of, no_turn_yet, speed_for, timely, top_of, trial, turn, turns, waits_left, waits_timely, run_order}
use Rattle.rules.specs.Rooms.{TurnRoom, last_room, room_left, rooms_of}
use Rattle.rules.specs.TableText.{Records, no_job, no_speed, with_budget}
use Rattle.rules.specs.Valid.{Valid}
use Rattle.rules.specs.declared.Job.{Job}
use Rattle.rules.specs.declared.Speed.{Speed}

-- the job is in the final plan
abbrev pub is_planned : Records → Job → Bool
is_planned t j = in_plan j (course_of t).plan

pub record Promises (t : Records) : Type 0 where
  -- 1. The energy is within budget, and so are all cycles at top cost. Step 9 always finds a speed: one that qualifies, the
  -- cheapest that does, and among equals the lowest.
  pub energy_within_budget : (plan_of t).energy ≤ t.budget
  pub top_cost_within_budget : energy_at (top_of t) (plan_of t).jobs ≤ t.budget
  pub speed_found : SpeedChosen t (plan_of t).jobs (plan_of t).speed
  -- 2. Every planned job ends by its termination at the chosen speed, and so does the finish that the listing prints.
  pub ends-in-time : Each (λ r. ends_in_time t.clock (plan_of t).speed.mhz r ≡ true) (runs_of (plan_of t).jobs)
  pub finish_by_termination : Each (λ r. finish t.clock (plan_of t).speed.mhz r ≤ r.job.termination)
      (runs_of (plan_of t).jobs)
  -- 3. A job never stands before the job it waits for: whom it waits for is planned, and stands before it. So it is in the
  -- final plan, and in the plan before each turn, whatever earlier trials moved.
  pub holder_before_waiter : HoldersBefore (waits_left t) [] (plan_of t).jobs
  pub holder_before_waiter_always : AtEachTurn t (λ i c. HoldersBefore (waits_left t) [] (run_order t c.plan)) (turns t) no_turn_yet
  -- 4. Each job is at most once in the plan. Fate 1 is exactly for the planned; the count of the plan is the number of 1s;
  -- each fate is one of the six.
  pub at_most_once : Distinct (numbers_of (plan_of t).jobs)
  pub one_for_the_planned : Each (λ (i : Fated). eqb i.fate fate_planned ≡ is_planned t i.job) (plan_of t).fates
  pub count_of_ones : length (keep (λ f. eqb f fate_planned) (fates_of (plan_of t).fates)) ≡ length (plan_of t).jobs
  pub one_of_six : Each (λ (i : Fated). (1 ≤ i.fate) × (i.fate ≤ 6)) (plan_of t).fates
  -- 5. Exactly one job goes from each ring, and none that is on no ring. After step 2 no ring is left; a chain has at most
  -- 33 members, and its last waits for nobody.
  pub one_from_each_ring : (j : Job) → OnRing (waits_timely t) j
      → (w : Job) × Reaches (waits_timely t) j w × (leaves_its_ring t w ≡ true)
      × ((u : Job) → Reaches (waits_timely t) j u → leaves_its_ring t u ≡ true → u ≡ w)
  pub none_without_ring : Each (λ j. leaves_its_ring t j ≡ true → OnRing (waits_timely t) j) (timely t)
  pub no_ring_after : (j : Job) → OnRing (waits_left t) j → ⊥
  pub chain_short : (j : Job) → length (chain_of t j) ≤ 33
  pub chain_ends : (j : Job) → waits_left t (last_or no_job (chain_of t j)) ≡ none
  -- 6. A job in the plan never leaves it. A turn takes its job in and makes the cycle total greater, or leaves the plan as
  -- it stands.
  pub never_leaves : AtEachTurn t (λ i c. (k : Job) → in_plan k c.plan ≡ true → is_planned t k ≡ true) (turns t) no_turn_yet
  pub total_grows : AtEachTurn t (λ i c. TakesIn t i c.plan ⊎ ((turn t i c.plan).plan ≡ c.plan)) (turns t) no_turn_yet
  -- 7. A 6 stays true at the end: the final plan, with what it lacks of the job's chain, would break the budget.
  pub six_true_at_end : Each (λ (i : Fated). i.fate ≡ fate_budget
      → t.budget < (cycles_of (plan_of t).jobs + cycles_of (lacking t i.job)) * (top_of t).cost) (plan_of t).fates
  -- 8. Step 8 can only overtake a 5: the own turn of a planned job gave 1 or 5, never 4 or 6.
  pub only_five : Each (λ (i : Fated). is_planned t i.job ≡ true → (i.fate ≡ fate_planned) ⊎ (i.fate ≡ fate_time))
      (course_of t).own_fates
  -- 9. A remaining job that waits for nobody, as one that requests nothing does, has worth and fits the budget alone at top
  -- cost makes the plan non-empty.
  pub not_empty_if : Each (λ j. waits_left t j ≡ none → 0 < j.worth → j.cycles * (top_of t).cost ≤ t.budget
      → (plan_of t).jobs ≡ [] → ⊥) (left t)
  pub no_request_no_wait : (j : Job) → j.request ≡ 0 → waits_left t j ≡ none
  -- 10. The planned jobs alone, with what they hold, are a valid table. Planning it gives the same plan, speed and energy,
  -- and each of its jobs is planned.
  pub again_valid : Valid (again t)
  pub same_again : Alone (planned t) t
  pub planned_all_again : Each (λ (i : Fated). i.fate ≡ fate_planned) (plan_of (again t)).fates
  -- 11. Of all speeds at which every planned job ends in time, none has less energy than the plan, and no lower one as little:
  -- also of those over the budget, which cost more than what is within it. With nothing planned it is the first speed. The
  -- energy never exceeds that at top speed. Plan and fates do not depend on the rule of step 9; against version four's, the
  -- lowest speed that qualifies, nothing ends later.
  pub least-energy : Each (λ (g : Speed). in_time t.clock g.mhz (plan_of t).jobs ≡ true
      → (plan_of t).energy ≤ energy_at g (plan_of t).jobs) t.speeds
  pub lowest_of_equals : Each (λ (g : Speed). in_time t.clock g.mhz (plan_of t).jobs ≡ true
      → g.mhz < (plan_of t).speed.mhz → (plan_of t).energy < energy_at g (plan_of t).jobs) t.speeds
  pub first_speed_for_nothing : (plan_of t).jobs ≡ [] → ((plan_of t).speed ≡ get_or t.speeds 0 no_speed) × ((plan_of t).energy ≡ 0)
  pub at_most_top_energy : (plan_of t).energy ≤ energy_at (top_of t) (plan_of t).jobs
  pub by_step_9 : plan_by speed_for t ≡ plan_of t
  pub any_speed_rule : (rule : SpeedRule) → ((plan_by rule t).jobs ≡ (plan_of t).jobs) × ((plan_by rule t).fates ≡ (plan_of t).fates)
  pub against_version_four : SinceVersionFour t
  -- 12. Whatever budget is beside the table, the same jobs are late alone and the same are taken from rings, and the turns come
  -- in the same order.
  pub any_budget_late : (budget : ℕ) (j : Job) → late_in (with_budget t budget) j ≡ late_in t j
  pub any_budget_rings : (budget : ℕ) (j : Job) → leaves_its_ring (with_budget t budget) j ≡ leaves_its_ring t j
  pub any_budget_turns : (budget : ℕ) → turns (with_budget t budget) ≡ turns t
  -- 13. No plan on the way is over the budget at top cost: the room that it leaves and its cycles at top cost make up the budget.
  -- Before the first turn the room is the whole budget. It falls exactly where a trial is accepted, by what the trial adds, at top
  -- cost, and is the same after any other turn. The last room is what the plan leaves of the budget at top cost, and the last row's.
  -- The rows are the turns in their order, each with the room after it and the fate that its own turn gave. A trial adds the cycles of its job and of those
  -- of its chain that are not in the plan. If it ends in time, it gets a 6 exactly where these, at top cost, exceed the room before
  -- it; if not, a 5 at any room.
  pub room_makes_budget : AtEachTurn t (λ i c. MakesBudget t c.plan × MakesBudget t (turn t i c.plan).plan) (turns t) no_turn_yet
  pub room_at_first : room_left t no_turn_yet.plan ≡ t.budget
  pub room_falls_exactly_if_accepted : AtEachTurn t (λ i c.
      (room_left t (turn t i c.plan).plan < room_left t c.plan) ↔ Accepted t i c.plan) (turns t) no_turn_yet
  pub room_falls_by_added : AtEachTurn t (λ i c. Accepted t i c.plan
      → room_left t (turn t i c.plan).plan + cycles_of (added_by i c.plan) * (top_of t).cost ≡ room_left t c.plan)
      (turns t) no_turn_yet
  pub room_else_the_same : AtEachTurn t (λ i c. (Accepted t i c.plan → ⊥)
      → room_left t (turn t i c.plan).plan ≡ room_left t c.plan) (turns t) no_turn_yet
  pub rooms_fall_or_stay : Pairwise (λ earlier later. later ≤ earlier) (t.budget ∷ rooms_along t)
  pub last_room_and_top_cost : last_room t + energy_at (top_of t) (plan_of t).jobs ≡ t.budget
  pub last_room_of_rows : last_room t ≡ last_or t.budget (rooms_along t)
  pub row_for_each_turn : map (λ (r : TurnRoom). r.job) (rooms_of t) ≡ map (λ (i : Turn). i.job) (turns t)
  pub room_in_each_row : (k : ℕ) → k < length (turns t)
      → get_or (rooms_along t) k 0 ≡ room_left t (course t (take (k + 1) (turns t)) no_turn_yet).plan
  pub rows_in_own_fates : (course_of t).own_fates ≡ reverse (map fated_in (rooms_of t))
  pub trial_adds_cycles : AtEachTurn t (λ i c. in_plan i.job c.plan ≡ false
      → cycles_of (run_order t (trial i c.plan)) ≡ cycles_of (run_order t c.plan) + cycles_of (added_by i c.plan))
      (turns t) no_turn_yet
  pub six_exactly_if_no_room : AtEachTurn t (λ i c. ComesToTrial i c.plan → ends_late t (trial i c.plan) ≡ false
      → ((turn t i c.plan).fate ≡ fate_budget) ↔ (room_left t c.plan < cycles_of (added_by i c.plan) * (top_of t).cost))
      (turns t) no_turn_yet
  pub five_at_any_room : (i : Turn) (p : List Entry) → ComesToTrial i p → ends_late t (trial i p) ≡ true
      → (turn t i p).fate ≡ fate_time

module _ (t : Records) (budget : ℕ) where
  pub same_late : (j : Job) → late_in (with_budget t budget) j ≡ late_in t j
  unfolding late_in top_of
  same_late j = refl

  pub same_rings : (j : Job) → leaves_its_ring (with_budget t budget) j ≡ leaves_its_ring t j
  unfolding leaves_its_ring leaves_ring on_ring goes_rather weight_in waits_timely timely late_in top_of
  same_rings j = refl

  pub same_turns : turns (with_budget t budget) ≡ turns t
  unfolding turns turn_of ratio_of gives chain_of left waits_left leaves_its_ring leaves_ring on_ring goes_rather weight_in waits_timely timely late_in top_of
  same_turns = refl
