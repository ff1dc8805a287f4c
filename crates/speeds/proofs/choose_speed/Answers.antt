-- `speeds::choose_speed` meets its contract: where no speed is in time none qualifies; else the cheapest of those in time is
-- the rules', if it is within budget, and if it is over, none qualifies. In the ranges the energy does not wrap. Assumes
-- nothing.
use mathlib.Core.List.{List, []}
use mathlib.Core.Path.{◌≡◌, sym, ap, ◌∙◌}
use Prim.Native.Nat.{ℕ, ◌+◌, ◌-◌, ◌*◌, ◌≤◌, ◌<◌}
use native.Mathlib.Nat.{mul-le-mul}
use native.Mathlib.Omega.{arith}
use lib.ListN.{drop, get_or, length, length-drop, take}
use lib.Seq.{get_or-drop, take_all}
use Rattle.columns.specs.Columns.{jobs_at}
use Rattle.entries.proofs.Sums.{cycles_at_most, cycles_of_jobs}
use Rattle.rules.specs.Plan.{cycles_of, speed_for}
use Rattle.rules.specs.TableText.{Records, most_cycles, most_jobs, no_speed}
use Rattle.rules.specs.Valid.{Valid}
use Rattle.rules.specs.declared.Speed.{Speed}
use Rattle.speeds.proofs.Searched.{all_late, cheapest_decided, energy_reckoned, no_speed_no_energy}
use Rattle.speeds.specs.Promises.{CheapestAt, SpeedsInRange, SpeedsOf}
use Rattle.speeds.proofs.choose_speed.Goals.{In-Some, Start}
use Rattle.speeds.proofs.choose_speed.Goals as goal

-- the speeds from a place on
from_place : (speeds : List Speed) (first : ℕ) → take (length speeds - first) (drop first speeds) ≡ drop first speeds
from_place speeds first = take_all (length speeds - first) (drop first speeds) (omega (arith, length-drop first speeds))

none-left : (speeds : List Speed) (first : ℕ) → take (length speeds - first) (drop first speeds) ≡ [] → length speeds ≤ first
none-left speeds first e = omega (arith, ap length (sym (from_place speeds first) ∙ e), length-drop first speeds)

in-range_from : (speeds : List Speed) (first : ℕ) → SpeedsInRange speeds
    → SpeedsInRange (take (length speeds - first) (drop first speeds))
in-range_from speeds first small =
    rw (from_place speeds first)
    (record {
      few = omega (arith, length-drop first speeds, small.few);
      mhz = λ i h. rw (get_or-drop first speeds i no_speed) (small.mhz (first + i) (omega (arith, length-drop first speeds)));
      cost = λ i h. rw (get_or-drop first speeds i no_speed) (small.cost (first + i) (omega (arith, length-drop first speeds)));
    })

-- the sum of all cycles
total-within : (c : Start) → c.args.all_cycles ≤ most_cycles * most_jobs
total-within c =
    omega (
      arith,
      c.requires.1,
      cycles_at_most c.args.jobs.now.cycles c.requires.0.runs_small.cycles_small c.args.places.now,
      c.requires.0.job-places.few,
    )

total_of : (c : In-Some) (t : Records)
    → SpeedsOf t c.args.speeds.now c.args.jobs.now.cycles c.args.jobs.now.termination c.args.terms
    → c.args.all_cycles ≡ cycles_of (jobs_at t.jobs c.args.places.now)
total_of c t of = c.requires.1 ∙ cycles_of_jobs c.args.jobs.now.cycles t.jobs of.runs-of.cycles-of c.args.places.now

pub cheapest-requires : goal.cheapest-requires
cheapest-requires c =
    let start = (goal.at.cheapest-requires c).Start in
    record { in-range = in-range_from c.args.speeds.now _ start.requires.0.in-range; total_small = total-within start }

pub returns-in_default : goal.returns-in_default
returns-in_default c =
    let speeds = c.args.speeds.now in
    let none = none-left speeds _ c.in_default.ensures in
    record {
      speed = λ t v of.
          all_late t v speeds of.speeds_of (jobs_at t.jobs c.args.places.now)
          (λ i h. c.first_in_time-first.ensures.late_before t v of i (omega arith));
      energy = λ t of. no_speed_no_energy (jobs_at t.jobs c.args.places.now);
    }

-- where the cheapest stands among those in time
cheapest_at : (c : In-Some) → CheapestAt (drop c.first_in_time-first.result c.args.speeds.now) c.args.all_cycles c.in-Some.ensures.0
cheapest_at c = rw (from_place c.args.speeds.now c.first_in_time-first.result) at c.in-Some.ensures.1

-- and among all
stands : (c : In-Some) → c.in-Some.speed ≡ get_or c.args.speeds.now (c.first_in_time-first.result + c.in-Some.ensures.0) no_speed
stands c =
    let speeds = c.args.speeds.now in
    let first = c.first_in_time-first.result in
    c.in-Some.ensures.2 ∙ ap (λ fs. get_or fs c.in-Some.ensures.0 no_speed) (from_place speeds first)
    ∙ get_or-drop first speeds c.in-Some.ensures.0 no_speed

pub overflow_mul-energy : goal.overflow_mul-energy
overflow_mul-energy c =
    let start = (goal.at.overflow_mul-energy c).Start in
    let at = (goal.at.overflow_mul-energy c).In-Some in
    let inside = (cheapest_at at).inside in
    let place = c.first_in_time-first.result + c.in-Some.ensures.0 in
    omega (
      arith,
      mul-le-mul (total-within start)
          (start.requires.0.in-range.cost place (omega (arith, length-drop c.first_in_time-first.result c.args.speeds.now))),
      ap (λ (f : Speed). c.args.all_cycles * f.cost) (stands at),
    )

-- the cheapest of the speeds in time, as the budget decides
by-budget : (c : In-Some) (t : Records) → Valid t
    → SpeedsOf t c.args.speeds.now c.args.jobs.now.cycles c.args.jobs.now.termination c.args.terms
    → let js = jobs_at t.jobs c.args.places.now in
    let energy = c.args.all_cycles * c.in-Some.speed.cost in
    (t.budget < energy → no_speed ≡ speed_for t js) × (energy ≤ t.budget → c.in-Some.speed ≡ speed_for t js)
by-budget c t v of =
    let first = c.first_in_time-first in
    rw (stands c)
    (cheapest_decided t v c.args.speeds.now of.speeds_of (jobs_at t.jobs c.args.places.now) first.result c.args.all_cycles
    c.in-Some.ensures.0 (total_of c t of) (first.ensures.late_before t v of) (first.ensures.in_time_from t v of) (cheapest_at c))

pub returns-then-terms-energy : goal.returns-then-terms-energy
returns-then-terms-energy c = record {
  speed = λ t v of.
      (by-budget (goal.at.returns-then-terms-energy c).In-Some t v of).0 (omega (arith, c.if-terms-energy.true, of.terms_of.budget));
  energy = λ t of. no_speed_no_energy (jobs_at t.jobs c.args.places.now);
}

pub returns : goal.returns
returns c = record {
  speed = λ t v of.
      (by-budget (goal.at.returns c).In-Some t v of).1 (omega (arith, c.if-terms-energy.false, of.terms_of.budget));
  energy = λ t of.
      energy_reckoned (jobs_at t.jobs c.args.places.now) c.in-Some.speed c.args.all_cycles (total_of (goal.at.returns c).In-Some t of);
}
