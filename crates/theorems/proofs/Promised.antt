-- The thirteen theorems of `Testers`, proved of every valid table's plan. They stand beside the statement, so that a statement that is
-- not true is refused by itself. Assumes nothing.
use mathlib.Core.List.{List, [], ◌∷◌, cons≢nil, map}
use mathlib.Core.Path.{◌≡◌, refl}
use Prim.Native.Nat.{ℕ, ◌+◌, ◌*◌, ◌<◌}
use Rattle.theorems.proofs.Again.{all_planned_again, planned, planned_again}
use Rattle.grammar.proofs.BudgetBeside.{taken_beside}
use Rattle.steps.proofs.Course.{at_each_turn_of}
use Rattle.laws.proofs.Elements.{each_too}
use Rattle.steps.proofs.Fates.{fates_1_to_6}
use Rattle.theorems.proofs.NotEmpty.{not_empty, nothing_requested}
use Rattle.theorems.proofs.OutsideValid.{outside_valid}
use Rattle.steps.proofs.Overtaken.{lacking, only_five_overtaken, plan_grows, planned_stays, six_stays_true}
use Rattle.steps.proofs.Planned.{each_fated, holders_before, one_exactly_for_planned, plan_counts_ones, planned_once, sound_holders_before}
use Rattle.steps.proofs.Rings.{chain_at_most_33, last_waits_for_nobody, no_ring_left, one_leaves_each_ring, taken_only_from_rings}
use Rattle.theorems.proofs.Rooms.{accepted_takes_what_it_adds, always_makes_budget, each_trial_adds, else_the_same, falls_where_accepted, five_whatever_room, last_room_is_the_last_row, last_room_makes_budget, room_before_all, rooms_never_rise, rows_tell_own_fates, six_exactly_by_room}
use Rattle.steps.proofs.Rooms.{one_row_each_turn, room_after_turn}
use Rattle.steps.proofs.Speeds.{energy_at_most_top, energy_in_budget, finish_in_time, no_lower_as_little, none_has_less, nothing_planned, plan_speed, planned_end_in_time, top_cost_in_budget}
use Rattle.theorems.proofs.SpeedRules.{by_the_rule, rule_leaves_plan_and_fates, since_version_four}
use Rattle.rules.specs.Lists.{Each}
use Rattle.rules.specs.Plan.{Entry, Fated, course_of, taken_with, cycles_of, fate_budget, jobs_of, plan_from, plan_of, top_of}
use Rattle.rules.specs.Refusals.{taken}
use Rattle.rules.specs.TableText.{Records}
use Rattle.rules.specs.Valid.{Valid}
use Rattle.rules.specs.declared.Table.{Table}
use Rattle.steps.proofs.RunOrder.{run-order}
use Rattle.theorems.proofs.Testers.{Promises, same_late, same_rings, same_turns}

module _ (t : Records) (v : Valid t) where
  six_in_plan : Each (λ (i : Fated). i.fate ≡ fate_budget
      → t.budget < (cycles_of (plan_of t).jobs + cycles_of (lacking t i.job)) * (top_of t).cost) (plan_of t).fates
  unfolding plan_of plan_from
  six_in_plan = each_fated t (six_stays_true t v)

  no_job_no_entry : (plan_of t).jobs ≡ [] → (course_of t).plan ≡ []
  unfolding plan_of plan_from jobs_of
  no_job_no_entry e = from (course_of t).plan (rw (run-order t (course_of t).plan) at e)
    where
      from : (p : List Entry) → map (λ (e : Entry). e.job) p ≡ [] → p ≡ []
      from [] e = refl
      from (x ∷ p) e = absurd (cons≢nil e)

  pub promises : Promises t
  promises =
      record {
        energy_within_budget = energy_in_budget t v;
        top_cost_within_budget = top_cost_in_budget t v;
        speed_found = plan_speed t v;
        ends-in-time = planned_end_in_time t v;
        finish_by_termination = finish_in_time t v;
        holder_before_waiter = holders_before t v;
        holder_before_waiter_always = at_each_turn_of t v (λ i is c r s e. sound_holders_before t v s);
        at_most_once = planned_once t v;
        one_for_the_planned = each_fated t (one_exactly_for_planned t v);
        count_of_ones = plan_counts_ones t v;
        one_of_six = fates_1_to_6 t v;
        one_from_each_ring = one_leaves_each_ring t v;
        none_without_ring = taken_only_from_rings t v;
        no_ring_after = no_ring_left t v;
        chain_short = chain_at_most_33 t v;
        chain_ends = last_waits_for_nobody t v;
        never_leaves = planned_stays t v;
        total_grows = plan_grows t v;
        six_true_at_end = six_in_plan;
        only_five = only_five_overtaken t v;
        not_empty_if = each_too (λ j h w g b e. h w g b (no_job_no_entry e)) (not_empty t v);
        no_request_no_wait = nothing_requested t v;
        again_valid = outside_valid (planned t) t v;
        same_again = planned_again t v;
        planned_all_again = all_planned_again t v;
        least-energy = none_has_less t v;
        lowest_of_equals = no_lower_as_little t v;
        first_speed_for_nothing = nothing_planned t v;
        at_most_top_energy = energy_at_most_top t v;
        by_step_9 = by_the_rule t;
        any_speed_rule = λ rule. rule_leaves_plan_and_fates rule t;
        against_version_four = since_version_four t v;
        any_budget_late = same_late t;
        any_budget_rings = same_rings t;
        any_budget_turns = same_turns t;
        room_makes_budget = always_makes_budget t v;
        room_at_first = room_before_all t;
        room_falls_exactly_if_accepted = falls_where_accepted t v;
        room_falls_by_added = accepted_takes_what_it_adds t v;
        room_else_the_same = else_the_same t v;
        rooms_fall_or_stay = rooms_never_rise t v;
        last_room_and_top_cost = last_room_makes_budget t v;
        last_room_of_rows = last_room_is_the_last_row t;
        row_for_each_turn = one_row_each_turn t;
        room_in_each_row = room_after_turn t;
        rows_in_own_fates = rows_tell_own_fates t;
        trial_adds_cycles = each_trial_adds t v;
        six_exactly_if_no_room = six_exactly_by_room t v;
        five_at_any_room = five_whatever_room t;
      }

-- They hold of whatever planning takes, and its budget is the one beside the table.
pub promises_beside : (table : Table) (budget : ℕ) (t : Records) → taken_with table budget ≡ taken t
    → (t.budget ≡ budget) × Promises t
promises_beside table budget t e =
    let (same, valid) = taken_beside table budget t e in (same, promises t valid)
