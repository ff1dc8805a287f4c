-- Step 9 for a sound plan. Top speed qualifies, so that a speed is found; no speed that qualifies has less energy, so that
-- the energy is at most that at top speed. A speed that is in time and over the budget has more energy than one within it: so
-- no speed in time at all has less. At the speed found each planned job ends in time, and so does its finish rounded up, since
-- its termination is whole. Assumes nothing.
use mathlib.Core.Bool.{Bool, true, false}
use mathlib.Core.List.{List, [], ◌∷◌}
use mathlib.Core.Logic.{◌⊎◌, inl, inr, ⊎_elim}
use mathlib.Core.Path.{◌≡◌, refl, sym, ap, ◌∙◌}
use Prim.Native.Nat.{ℕ, ◌+◌, ◌*◌, ◌-◌, ◌/◌, ◌<◌, ◌≤◌}
use native.Mathlib.Nat.{add-mul, lt_of_mul-lt-mul_right, mul_comm, mul-div-le}
use native.Mathlib.Omega.{arith}
use borrow.Author.Tests.{leb-false, leb-true}
use lib.Dec.{leb}
use lib.ListN.{get_or, length}
use Rattle.laws.proofs.Choices.{or_left, or_right, split}
use Rattle.steps.proofs.Cheapest.{CheapestAt, cheapest_taken, cheapest_there, empty_costs_nothing, empty_takes_first}
use Rattle.steps.proofs.Chosen.{SpeedChosen}
use Rattle.steps.proofs.Course.{Sound, plan_sound}
use Rattle.steps.proofs.Qualified.{both_qualify, qualified_both}
use Rattle.laws.proofs.Elements.{each_at_place, each_last, each_of_places, each_too}
use Rattle.laws.proofs.Lookups.{all_each}
use Rattle.laws.proofs.Numbered.{later_greater, lower_first}
use Rattle.grammar.proofs.Ranges.{SpeedRanges, speed_ranges}
use Rattle.rules.specs.Costs.{rounded_up}
use Rattle.rules.specs.Listing.{finish}
use Rattle.rules.specs.Lists.{Each, any, last_or}
use Rattle.rules.specs.Plan.{Entry, Run, course_of, ends_by, ends_in_time, energy_at, in_time, plan_from, plan_of, qualifies, runs_of, speed_for, top_of, run_order}
use Rattle.rules.specs.TableText.{Records, no_speed}
use Rattle.rules.specs.Valid.{Valid}
use Rattle.rules.specs.declared.Job.{Job}
use Rattle.rules.specs.declared.Speed.{Speed}

-- where the last passes, some does
last_passes : (p : Speed → Bool) (d : Speed) (fs : List Speed) → 1 ≤ length fs → p (last_or d fs) ≡ true → any p fs ≡ true
last_passes p d [] n h = absurd (omega arith)
last_passes p d (f ∷ []) n h = or_left (p f) false h
last_passes p d (f ∷ (g ∷ fs)) n h = or_right (p f) (any p (g ∷ fs)) (last_passes p f (g ∷ fs) (omega arith) h)

top_qualifies : (t : Records) (p : List Entry) → Sound t p → qualifies t (run_order t p) (top_of t) ≡ true
unfolding energy_at
top_qualifies t p s = both_qualify t (run_order t p) (top_of t) s.in-time s.in_budget

-- speeds rise, so that a lower one stands before
chosen_at : (t : Records) → Valid t → (js : List Job) (k : ℕ) → CheapestAt t js k → SpeedChosen t js (get_or t.speeds k no_speed)
chosen_at t v js k c =
    record {
      of_table = (k, c.inside, refl);
      qualified = c.passes;
      cheapest = each_of_places no_speed t.speeds c.none_less;
      lowest = each_of_places no_speed t.speeds (λ i h q l.
          c.before_more i
          (lower_first (λ n. (get_or t.speeds n no_speed).mhz) (length t.speeds)
          (later_greater (λ (f : Speed). f.mhz) no_speed t.speeds v.speeds_rise) i k h l) q);
    }

-- Step 9 finds a speed for any sound plan.
pub speed_chosen : (t : Records) → Valid t → (p : List Entry) → Sound t p → SpeedChosen t (run_order t p) (speed_for t (run_order t p))
unfolding top_of
speed_chosen t v p s =
    let js = run_order t p in
    let there = cheapest_there t js (last_passes (qualifies t js) no_speed t.speeds v.some_speed (top_qualifies t p s)) in
    rw (cheapest_taken t js there.0 there.1) at (chosen_at t v js there.0 there.1)

-- an end in time is in time rounded up
rounded : (clock mhz : ℕ) (r : Run) → 1 ≤ mhz → ends_in_time clock mhz r ≡ true → finish clock mhz r ≤ r.job.termination
unfolding finish rounded_up ends_in_time ends_by
rounded clock mhz r p h =
    let c = r.cycles_by_end * 1000 in
    let end = r.job.termination in
    let q = (c + (mhz - 1)) / mhz in
    let e : clock * mhz + c ≤ end * mhz = leb-true (clock * mhz + c) (end * mhz) h in
    let l : clock + q < end + 1 =
    lt_of_mul-lt-mul_right mhz
    (omega (arith, mul-div-le (c + (mhz - 1)) mhz, mul_comm mhz q, add-mul clock q mhz, add-mul end 1 mhz)) in
    omega arith

module _ (t : Records) (v : Valid t) where
  pub plan_speed : SpeedChosen t (plan_of t).jobs (plan_of t).speed
  unfolding plan_of plan_from
  plan_speed = speed_chosen t v (course_of t).plan (plan_sound t v)

  pub energy_in_budget : (plan_of t).energy ≤ t.budget
  unfolding plan_of plan_from
  energy_in_budget = (qualified_both t (plan_of t).jobs (plan_of t).speed plan_speed.qualified).1

  -- "An empty plan takes the first speed and energy 0."
  pub nothing_planned : (plan_of t).jobs ≡ [] → ((plan_of t).speed ≡ get_or t.speeds 0 no_speed) × ((plan_of t).energy ≡ 0)
  unfolding plan_of plan_from
  nothing_planned e =
      (ap (speed_for t) e ∙ sym (empty_takes_first t v.some_speed), ap (energy_at (plan_of t).speed) e ∙ empty_costs_nothing (plan_of t).speed)

  -- all cycles at top cost are within budget
  pub top_cost_in_budget : energy_at (top_of t) (plan_of t).jobs ≤ t.budget
  unfolding plan_of plan_from energy_at
  top_cost_in_budget = (plan_sound t v).in_budget

  -- a speed in time qualifies, or is over the budget
  in_time_dear : (g : Speed) → in_time t.clock g.mhz (plan_of t).jobs ≡ true
      → (qualifies t (plan_of t).jobs g ≡ true) ⊎ (t.budget < energy_at g (plan_of t).jobs)
  in_time_dear g e =
      split (leb (energy_at g (plan_of t).jobs) t.budget)
      (λ l. inl (both_qualify t (plan_of t).jobs g e (leb-true _ _ l)))
      (λ l. inr (leb-false _ _ l))

  -- of all speeds in time, within budget or not, none has less energy
  pub none_has_less : Each (λ (g : Speed). in_time t.clock g.mhz (plan_of t).jobs ≡ true
      → (plan_of t).energy ≤ energy_at g (plan_of t).jobs) t.speeds
  unfolding plan_of plan_from
  none_has_less =
      each_too
      (λ g least e.
      ⊎_elim least (λ (dear : t.budget < energy_at g (plan_of t).jobs). omega (arith, energy_in_budget)) (in_time_dear g e))
      plan_speed.cheapest

  -- and no lower one as little
  pub no_lower_as_little : Each (λ (g : Speed). in_time t.clock g.mhz (plan_of t).jobs ≡ true
      → g.mhz < (plan_of t).speed.mhz → (plan_of t).energy < energy_at g (plan_of t).jobs) t.speeds
  unfolding plan_of plan_from
  no_lower_as_little =
      each_too
      (λ g more e l.
      ⊎_elim (λ (q : qualifies t (plan_of t).jobs g ≡ true). more q l)
      (λ (dear : t.budget < energy_at g (plan_of t).jobs). omega (arith, energy_in_budget)) (in_time_dear g e))
      plan_speed.lowest

  pub energy_at_most_top : (plan_of t).energy ≤ energy_at (top_of t) (plan_of t).jobs
  unfolding top_of plan_of plan_from
  energy_at_most_top = each_last no_speed v.some_speed none_has_less (plan_sound t v).in-time

  pub planned_end_in_time : Each (λ r. ends_in_time t.clock (plan_of t).speed.mhz r ≡ true) (runs_of (plan_of t).jobs)
  unfolding in_time
  planned_end_in_time =
      all_each (ends_in_time t.clock (plan_of t).speed.mhz) (runs_of (plan_of t).jobs)
      (qualified_both t (plan_of t).jobs (plan_of t).speed plan_speed.qualified).0

  -- the speed is one of the table's
  pub plan_speed_in_range : SpeedRanges (plan_of t).speed
  plan_speed_in_range =
      let place = plan_speed.of_table in
      rw place.2 at (each_at_place no_speed (each_too speed_ranges v.speed_ranges) place.0 place.1)

  pub finish_in_time : Each (λ r. finish t.clock (plan_of t).speed.mhz r ≤ r.job.termination) (runs_of (plan_of t).jobs)
  finish_in_time = each_too (λ r h. rounded t.clock (plan_of t).speed.mhz r plan_speed_in_range.mhz_from h) planned_end_in_time
