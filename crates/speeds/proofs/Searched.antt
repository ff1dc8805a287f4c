-- The speeds of a valid table rise, and faster is never later: what is found of one speed holds of all on one side of it. Of
-- the speeds in time the cheapest is step 9's, if it is within budget; if it is over, so are all. Assumes nothing.
use mathlib.Core.Bool.{true, false}
use mathlib.Core.List.{List}
use mathlib.Core.Path.{◌≡◌, sym, ap, ◌∙◌}
use Prim.Native.Nat.{ℕ, ◌+◌, ◌-◌, ◌*◌, ◌≤◌, ◌<◌}
use native.Mathlib.Nat.{mul-zero}
use native.Mathlib.Omega.{arith}
use borrow.Author.Tests.{eqb-false, eqb-true, ltb-false, ltb-true}
use lib.Dec.{eqb, ltb}
use lib.ListN.{drop, get_or, length, length-drop}
use lib.Seq.{get_or-drop}
use Rattle.grammar.proofs.Ranges.{SpeedRanges, speed_ranges}
use Rattle.laws.proofs.Choices.{clash, split}
use Rattle.laws.proofs.Elements.{each_at_place}
use Rattle.laws.proofs.Numbered.{later_greater}
use Rattle.rules.specs.Plan.{cycles_of, energy_at, in_time, qualifies, speed_for}
use Rattle.rules.specs.TableText.{Records, no_speed}
use Rattle.rules.specs.Valid.{Valid}
use Rattle.rules.specs.declared.Job.{Job}
use Rattle.rules.specs.declared.Speed.{Speed}
use Rattle.speeds.specs.Promises.{CheapestAt}
use Rattle.steps.proofs.Cheapest.{cheapest_taken, none_taken}
use Rattle.steps.proofs.Faster.{faster_in_time, slower_late}
use Rattle.steps.proofs.Qualified.{both_qualify, dear_not_qualified, late_not_qualified}

-- the energy is a product
pub energy_reckoned : (js : List Job) (f : Speed) (total : ℕ) → total ≡ cycles_of js → total * f.cost ≡ energy_at f js
unfolding energy_at
energy_reckoned js f total e = rw e

pub no_speed_no_energy : (js : List Job) → 0 ≡ energy_at no_speed js
unfolding energy_at
no_speed_no_energy js = sym (mul-zero (cycles_of js))

module _ (t : Records) (valid : Valid t) (speeds : List Speed) (of : speeds ≡ t.speeds) (js : List Job) where
  abbrev count : ℕ
  count = length speeds

  abbrev at : ℕ → Speed
  at i = get_or speeds i no_speed

  as_many : length t.speeds ≡ count
  as_many = ap length (sym of)

  of_table : (i : ℕ) → get_or t.speeds i no_speed ≡ at i
  of_table i = ap (λ fs. get_or fs i no_speed) (sym of)

  runs : (i : ℕ) → i < count → 1 ≤ (at i).mhz
  runs i h =
      let r : SpeedRanges (get_or t.speeds i no_speed) =
      speed_ranges (get_or t.speeds i no_speed) (each_at_place no_speed valid.speed_ranges i (omega (arith, as_many))) in
      rw (of_table i) at r.mhz_from

  no_slower : (i k : ℕ) → i ≤ k → k < count → (at i).mhz ≤ (at k).mhz
  no_slower i k l h =
      split (eqb i k)
      (λ e. rw (eqb-true i k e) (omega arith))
      (λ e.
      let less : (get_or t.speeds i no_speed).mhz < (get_or t.speeds k no_speed).mhz =
      later_greater (λ (f : Speed). f.mhz) no_speed t.speeds valid.speeds_rise i k (omega (arith, eqb-false i k e)) (omega (arith, as_many)) in
      let here : (at i).mhz < (at k).mhz = rw (of_table i, of_table k) at less in
      omega arith)

  pub in_time_above : (i k : ℕ) → i ≤ k → k < count → in_time t.clock (at i).mhz js ≡ true
      → in_time t.clock (at k).mhz js ≡ true
  in_time_above i k l h = faster_in_time t.clock (at i).mhz (at k).mhz (runs i (omega arith)) (no_slower i k l h) js

  pub late_below : (i k : ℕ) → i ≤ k → k < count → in_time t.clock (at k).mhz js ≡ false
      → in_time t.clock (at i).mhz js ≡ false
  late_below i k l h = slower_late t.clock (at i).mhz (at k).mhz (runs i (omega arith)) (no_slower i k l h) js

  -- no speed qualifies where each is late or over the budget
  none_found : ((i : ℕ) → i < count → qualifies t js (at i) ≡ false) → no_speed ≡ speed_for t js
  none_found h = none_taken t js (λ i l. rw (of_table i) (h i (omega (arith, as_many))))

  pub all_late : ((i : ℕ) → i < count → in_time t.clock (at i).mhz js ≡ false) → no_speed ≡ speed_for t js
  all_late h = none_found (λ i l. late_not_qualified t js (at i) (h i l))

  -- what is in time stands from a place on; there r is the cheapest
  module _ (first total r : ℕ) (sum : total ≡ cycles_of js)
      (late_before : (i : ℕ) → i < first → in_time t.clock (at i).mhz js ≡ false)
      (in_time_from : (i : ℕ) → first ≤ i → i < count → in_time t.clock (at i).mhz js ≡ true)
      (cheapest : CheapestAt (drop first speeds) total r) where
    -- from there on, by their places among all
    behind : (i : ℕ) → get_or (drop first speeds) i no_speed ≡ at (first + i)
    behind i = get_or-drop first speeds i no_speed

    there : first + r < count
    there = omega (arith, cheapest.inside, length-drop first speeds)

    none_less : (i : ℕ) → first ≤ i → i < count → total * (at (first + r)).cost ≤ total * (at i).cost
    none_less i f h =
        let same : first + (i - first) ≡ i = omega arith in
        rw (behind r, behind (i - first), same) at (cheapest.none_less (i - first) (omega (arith, length-drop first speeds)))

    before_more : (i : ℕ) → first ≤ i → i < first + r → total * (at (first + r)).cost < total * (at i).cost
    before_more i f h =
        let same : first + (i - first) ≡ i = omega arith in
        rw (behind r, behind (i - first), same) at (cheapest.before_more (i - first) (omega arith))

    energy_of : (i : ℕ) → total * (at i).cost ≡ energy_at (at i) js
    energy_of i = energy_reckoned js (at i) total sum

    -- what qualifies is in time, and so from the first on
    qualified_from : (i : ℕ) → qualifies t js (at i) ≡ true → first ≤ i
    qualified_from i q =
        split (ltb i first)
        (λ l. clash q (late_not_qualified t js (at i) (late_before i (ltb-true i first l))))
        (λ l. ltb-false i first l)

    over_budget : t.budget < total * (at (first + r)).cost → no_speed ≡ speed_for t js
    over_budget dear =
        none_found (λ i h.
        split (ltb i first)
        (λ l. late_not_qualified t js (at i) (late_before i (ltb-true i first l)))
        (λ l.
        dear_not_qualified t js (at i)
        (rw (energy_of i) at (dearer i (none_less i (ltb-false i first l) h)))))
      where
        dearer : (i : ℕ) → total * (at (first + r)).cost ≤ total * (at i).cost → t.budget < total * (at i).cost
        dearer i l = omega arith

    in_budget : total * (at (first + r)).cost ≤ t.budget → at (first + r) ≡ speed_for t js
    in_budget l =
        sym (of_table (first + r))
        ∙ cheapest_taken t js (first + r)
        (record {
          inside = omega (arith, as_many, there);
          passes = rw (of_table (first + r)) (both_qualify t js (at (first + r)) (in_time_from (first + r) (omega arith) there) (rw (energy_of (first + r)) at l));
          none_less = λ i h q. no_less i (omega (arith, as_many)) q;
          before_more = more;
        })
      where
        qualified : (i : ℕ) → i < count → qualifies t js (get_or t.speeds i no_speed) ≡ true → first ≤ i
        qualified i h q = qualified_from i (rw (of_table i) at q)

        no_less : (i : ℕ) → i < count → qualifies t js (get_or t.speeds i no_speed) ≡ true
            → energy_at (get_or t.speeds (first + r) no_speed) js ≤ energy_at (get_or t.speeds i no_speed) js
        no_less i h q =
            rw (of_table (first + r), of_table i)
            (rw (energy_of (first + r), energy_of i) at (none_less i (qualified i h q) h))

        more : (i : ℕ) → i < first + r → qualifies t js (get_or t.speeds i no_speed) ≡ true
            → energy_at (get_or t.speeds (first + r) no_speed) js < energy_at (get_or t.speeds i no_speed) js
        more i h q =
            let before : i < count = omega (arith, there) in
            rw (of_table (first + r), of_table i)
            (rw (energy_of (first + r), energy_of i) at (before_more i (qualified i before q) h))

    pub cheapest_decided : (t.budget < total * (at (first + r)).cost → no_speed ≡ speed_for t js)
        × (total * (at (first + r)).cost ≤ t.budget → at (first + r) ≡ speed_for t js)
    cheapest_decided = (over_budget, in_budget)
