-- Steps 1 to 8 do not look at the rule of step 9: whatever it is, plan and fates are the same. Against version four's rule, the
-- lowest speed that qualifies, the speed is no lower, the energy no greater and no job ends later, since both choose among the
-- same speeds, version four the lowest and A1 the cheapest. Assumes nothing.
use mathlib.Core.Bool.{Bool, true}
use mathlib.Core.List.{List, ◌∷◌}
use mathlib.Core.Option.{some}
use mathlib.Core.Path.{◌≡◌, refl, ap}
use Prim.Native.Nat.{ℕ, ◌*◌, ◌<◌, ◌≤◌}
use native.Mathlib.Nat.{mul-le-mul}
use native.Mathlib.Omega.{arith}
use Rattle.grammar.proofs.Ranges.{speed_ranges}
use Rattle.laws.proofs.Choices.{clash, one_there, split, split_option}
use Rattle.laws.proofs.Costs.{rounded_up_enough, rounded_up_least}
use Rattle.laws.proofs.Elements.{each_at_place, each_too}
use Rattle.laws.proofs.Lookups.{any_none, each_always, found_each, found_passes, not_found}
use Rattle.laws.proofs.Pairs.{rising_pairs}
use Rattle.laws.specs.Pairs.{Pairwise, no_pair, ◌then◌}
use Rattle.rules.specs.Costs.{rounded_up}
use Rattle.rules.specs.Listing.{finish}
use Rattle.rules.specs.Lists.{Each, find, none_left, ◌and◌}
use Rattle.rules.specs.Plan.{Run, energy_at, plan_from, plan_of, qualifies, runs_of, speed_for, speed_or}
use Rattle.rules.specs.TableText.{Records, no_speed}
use Rattle.rules.specs.Valid.{Valid}
use Rattle.rules.specs.declared.Job.{Job}
use Rattle.rules.specs.declared.Speed.{Speed}
use Rattle.steps.proofs.Chosen.{SpeedChosen}
use Rattle.steps.proofs.Speeds.{plan_speed}
use Rattle.theorems.specs.SpeedRules.{SpeedRule, lowest_for, plan_by}

pub by_the_rule : (t : Records) → plan_by speed_for t ≡ plan_of t
unfolding plan_by plan_of plan_from
by_the_rule t = refl

-- they are those of the course
pub rule_leaves_plan_and_fates : (rule : SpeedRule) (t : Records)
    → ((plan_by rule t).jobs ≡ (plan_of t).jobs) × ((plan_by rule t).fates ≡ (plan_of t).fates)
unfolding plan_by plan_of plan_from
rule_leaves_plan_and_fates rule t = (refl, refl)

-- what is found in a rising list is the least that passes
found_least : {A : Type 0} (f : A → ℕ) (p : A → Bool) {xs : List A} {y : A} → Pairwise (λ x z. f x < f z) xs
    → find p xs ≡ some y
    → Each (λ x. p x ≡ true → f y ≤ f x) xs
found_least f p no_pair h = none_left
found_least f p {xs = x ∷ xs} {y} (r then rs) h =
    split (p x)
    (λ g. let e : x ≡ y = one_there {o = some x} refl (rw g at h) in
    let same : f x ≡ f y = ap f e in
    (λ c. omega arith) and each_too (λ z l c. omega arith) r)
    (λ g. (λ c. clash c g) and found_least f p rs (rw g at h))

-- at a higher speed nothing ends later
faster_finish : (clock slow fast : ℕ) (r : Run) → 1 ≤ slow → slow ≤ fast → finish clock fast r ≤ finish clock slow r
unfolding finish
faster_finish clock slow fast r some_speed faster =
    let work : ℕ = r.cycles_by_end * 1000 in
    let slowly : ℕ = rounded_up work slow in
    let more : slowly * slow ≤ slowly * fast = mul-le-mul (omega arith) faster in
    omega (
      arith,
      rounded_up_least work fast (omega arith) slowly (omega (arith, rounded_up_enough work slow some_speed)),
    )

module _ (t : Records) (v : Valid t) (js : List Job) (f : Speed) (c : SpeedChosen t js f) where
  -- f qualifies, so that version four finds a speed
  lowest_there : (g : Speed) × (find (qualifies t js) t.speeds ≡ some g)
  lowest_there =
      split_option (find (qualifies t js) t.speeds)
      (λ e. clash (rw c.of_table.2 c.qualified)
      (each_at_place no_speed (any_none (qualifies t js) t.speeds (not_found (qualifies t js) t.speeds e)) c.of_table.0
      c.of_table.1))
      (λ g e. (g, e))

  lowest_found : lowest_for t js ≡ lowest_there.0
  unfolding lowest_for speed_or
  lowest_found = rw lowest_there.1

  lowest_runs : 1 ≤ (lowest_for t js).mhz
  lowest_runs =
      rw lowest_found
      (found_each {P = λ g. 1 ≤ g.mhz} (qualifies t js) (each_too (λ g r. (speed_ranges g r).mhz_from) v.speed_ranges) lowest_there.1)

  no_lower : (lowest_for t js).mhz ≤ f.mhz
  no_lower =
      rw lowest_found
      (rw c.of_table.2 at
      (each_at_place no_speed (found_least (λ (g : Speed). g.mhz) (qualifies t js) (rising_pairs v.speeds_rise) lowest_there.1)
      c.of_table.0 c.of_table.1 (rw c.of_table.2 c.qualified)))

  no_dearer : energy_at f js ≤ energy_at (lowest_for t js) js
  no_dearer =
      rw lowest_found
      (found_each (qualifies t js) c.cheapest lowest_there.1 (found_passes (qualifies t js) t.speeds lowest_there.1))

  higher_for_less : (lowest_for t js).mhz < f.mhz → energy_at f js < energy_at (lowest_for t js) js
  higher_for_less =
      rw lowest_found
      (found_each (qualifies t js) c.lowest lowest_there.1 (found_passes (qualifies t js) t.speeds lowest_there.1))

  no_later : (clock : ℕ) (r : Run) → finish clock f.mhz r ≤ finish clock (lowest_for t js).mhz r
  no_later clock r = faster_finish clock (lowest_for t js).mhz f.mhz r lowest_runs no_lower

-- What is printed, against version four's: the same jobs in the same order with the same fates, at a speed that is no lower and
-- an energy that is no greater, and less where the speed is another; no job ends later.
pub record SinceVersionFour (t : Records) : Type 0 where
  pub same_jobs : (plan_by lowest_for t).jobs ≡ (plan_of t).jobs
  pub same_fates : (plan_by lowest_for t).fates ≡ (plan_of t).fates
  pub speed_no_lower : (plan_by lowest_for t).speed.mhz ≤ (plan_of t).speed.mhz
  pub energy_no_greater : (plan_of t).energy ≤ (plan_by lowest_for t).energy
  pub higher_only_for_less : (plan_by lowest_for t).speed.mhz < (plan_of t).speed.mhz → (plan_of t).energy < (plan_by lowest_for t).energy
  pub none_ends_later : Each (λ r. finish t.clock (plan_of t).speed.mhz r ≤ finish t.clock (plan_by lowest_for t).speed.mhz r)
      (runs_of (plan_of t).jobs)

pub since_version_four : (t : Records) → Valid t → SinceVersionFour t
unfolding plan_by plan_of plan_from
since_version_four t v =
    let js = (plan_of t).jobs in
    let f = (plan_of t).speed in
    let chosen = plan_speed t v in
    record {
      same_jobs = refl;
      same_fates = refl;
      speed_no_lower = no_lower t v js f chosen;
      energy_no_greater = no_dearer t v js f chosen;
      higher_only_for_less = higher_for_less t v js f chosen;
      none_ends_later = each_always (runs_of js) (no_later t v js f chosen t.clock);
    }
