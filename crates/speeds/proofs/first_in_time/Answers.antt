-- `speeds::first_in_time` meets its contract. Where the lowest speed is in time, all are. Else the speeds late stand in front of those
-- in time, so that std's search finds where these begin. Assumes nothing.
use mathlib.Core.Bool.{Bool, true, false, not, true≢false}
use mathlib.Core.List.{List}
use mathlib.Core.Path.{◌≡◌, refl, sym, ap, ◌∙◌}
use Prim.Native.Nat.{ℕ, ◌≤◌, ◌<◌}
use native.Mathlib.Omega.{arith}
use lib.ListN.{get_or, length}
use Rattle.std.proofs.Common.{min, of_calls, rules}
use Rattle.std.proofs.lemmas.Fn.{always_returns_same}
use Rattle.std.proofs.lemmas.List.{get_or_default}
use Rattle.std.specs.List.Sorted.{IsPartitionPoint, IsPartitionedBy}
use Rattle.columns.specs.Columns.{jobs_at}
use Rattle.rules.specs.Plan.{in_time}
use Rattle.rules.specs.TableText.{Records, most_mhz, no_speed}
use Rattle.rules.specs.Valid.{Valid}
use Rattle.rules.specs.declared.Job.{Job}
use Rattle.rules.specs.declared.Speed.{Speed}
use Rattle.speeds.proofs.Searched.{in_time_above, late_below}
use Rattle.speeds.specs.Promises.{SpeedsOf}
use Rattle.speeds.proofs.first_in_time.Goals.{After-partition_point}
use Rattle.speeds.proofs.first_in_time.Goals as goal

off : (b : Bool) → not b ≡ true → b ≡ false
off true h = absurd (true≢false (sym h))
off false h = refl

on : (b : Bool) → not b ≡ false → b ≡ true
on true h = refl
on false h = absurd (true≢false h)

module _ (t : Records) (js : List Job) where
  -- what the search asks of a speed
  abbrev late : Speed → Bool
  late f = not (in_time t.clock (min f.mhz most_mhz) js)

  module _ (valid : Valid t) (speeds : List Speed) (of : speeds ≡ t.speeds)
      (small : (i : ℕ) → i < length speeds → (get_or speeds i no_speed).mhz ≤ most_mhz) where
    -- of a speed of the table, the rules' test
    late_is : (i : ℕ) (d : Speed) → i < length speeds
        → late (get_or speeds i d) ≡ not (in_time t.clock (get_or speeds i no_speed).mhz js)
    late_is i d h =
        let here : get_or speeds i d ≡ get_or speeds i no_speed = get_or_default speeds i d no_speed h in
        let slow : min (get_or speeds i no_speed).mhz most_mhz ≡ (get_or speeds i no_speed).mhz = omega (arith, small i h) in
        ap late here ∙ ap (λ mhz. not (in_time t.clock mhz js)) slow

    late_first : IsPartitionedBy late speeds
    late_first i j d l h e =
        let there = off (in_time t.clock (get_or speeds j no_speed).mhz js) (sym (late_is j d h) ∙ e) in
        let here = late_below t valid speeds of js i j l h there in
        late_is i d (omega arith) ∙ ap not here

pub returns-then-not-is_some_and : goal.returns-then-not-is_some_and
returns-then-not-is_some_and c = record {
  at_most = omega arith;
  late_before = λ t v of i l. absurd (omega arith);
  in_time_from = λ t v of i l h.
      let js = jobs_at t.jobs c.args.places.now in
      let lowest : in_time t.clock (get_or c.args.speeds.now 0 no_speed).mhz js ≡ true =
      search (rules, of_calls, of.runs-of, of.terms_of.clock) in
      in_time_above t v c.args.speeds.now of.speeds_of js 0 i l h lowest;
}

-- where the speeds in time begin
found : (c : After-partition_point) (t : Records) → Valid t
    → SpeedsOf t c.args.speeds.now c.args.jobs.now.cycles c.args.jobs.now.termination c.args.terms
    → let test = late t (jobs_at t.jobs c.args.places.now) in
    IsPartitionPoint (λ f. test f ≡ true) (λ f. test f ≡ false) c.args.speeds.now c.partition_point.result
found c t v of =
    let js = jobs_at t.jobs c.args.places.now in
    c.partition_point.ensures.partitioned (late t js)
    (always_returns_same _ _ _ (λ a r f k. search (rules, of_calls, of.runs-of, of.terms_of.clock)))
    (late_first t js v c.args.speeds.now of.speeds_of c.requires.in-range.mhz)

pub returns : goal.returns
returns c =
    let speeds = c.args.speeds.now in
    let at = (goal.at.returns c).After-partition_point in
    record {
      at_most = c.partition_point.ensures.bound;
      late_before = λ t v of i l.
          let js = jobs_at t.jobs c.args.places.now in
          off (in_time t.clock (get_or speeds i no_speed).mhz js)
          (sym (late_is t js v speeds of.speeds_of c.requires.in-range.mhz i no_speed (omega (arith, c.partition_point.ensures.bound)))
          ∙ (found at t v of).0 i no_speed (omega arith) l);
      in_time_from = λ t v of i l h.
          let js = jobs_at t.jobs c.args.places.now in
          on (in_time t.clock (get_or speeds i no_speed).mhz js)
          (sym (late_is t js v speeds of.speeds_of c.requires.in-range.mhz i no_speed h) ∙ (found at t v of).1 i no_speed l h);
    }
