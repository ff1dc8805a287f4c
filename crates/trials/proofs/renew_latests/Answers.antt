-- `trials::renew_latests` meets its contract. The latest beginnings are true from the index reached on, and the one there is at
-- hand. Assumes nothing.
use mathlib.Core.Path.{◌≡◌, sym, ap, ◌∙◌}
use Prim.Native.Nat.{min, ◌+◌, ◌-◌, ◌<◌}
use native.Mathlib.Omega.{arith}
use lib.ListN.{drop, get_or, length, length-set}
use Rattle.judgements.specs.Promises.{latest_of_places}
use Rattle.trials.proofs.Renewing.{latest_by_next, one_more_latest}
use Rattle.trials.proofs.renew_latests.Goals as goal

pub loop-i-preserved : goal.loop-i-preserved
loop-i-preserved c =
    let ps = c.args.planned.now in
    let cycles = c.args.cycles.now in
    let deadline = c.args.deadline.now in
    let loop = c.loop-i in
    let i = loop.i - 1 in
    let one : i + 1 ≡ loop.i = omega arith in
    let inside : i < length ps = omega (arith, c.requires.1) in
    let told : c.saturating_sub-latest.result ≡ latest_of_places cycles deadline (drop i ps) =
    c.saturating_sub-latest.ensures
    ∙ ap (λ n. n - get_or cycles (get_or ps i 0) 0) (c.min.ensures
    ∙ ap (min (get_or deadline (get_or ps i 0) 0)) (loop.invariant.latest_there
    ∙ ap (λ n. latest_of_places cycles deadline (drop n ps)) (sym one)))
    ∙ sym (latest_by_next cycles deadline ps i inside) in
    record {
      as_long = length-set loop.latests (get_or ps i 0) c.saturating_sub-latest.result ∙ loop.invariant.as_long;
      latest_there = told;
      latests_true =
          one_more_latest ps c.requires.0.once c.requires.0.places.below loop.latests loop.invariant.as_long i inside
          c.saturating_sub-latest.result cycles deadline told (rw one loop.invariant.latests_true);
    }
