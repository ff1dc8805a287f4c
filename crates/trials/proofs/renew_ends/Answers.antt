-- `trials::renew_ends` meets its contract. The ends are true up to the index reached, before which so many cycles have run. Assumes
-- nothing.
use mathlib.Core.Path.{◌≡◌, sym, ap, ◌∙◌}
use Prim.Native.Nat.{◌+◌}
use native.Mathlib.Omega.{arith}
use lib.ListN.{get_or, length-set}
use Rattle.trials.proofs.Renewing.{item_behind, one_more_end, one_more_run, run_small}
use Rattle.trials.proofs.renew_ends.Goals as goal

pub overflow_add-run : goal.overflow_add-run
overflow_add-run c =
    let ps = c.args.planned.now in
    let small = c.requires.0.cycles_small in
    let item = item_behind ps c.args.first c.loop-place.place-index c.loop-place-test.true in
    rw item.0
    (omega (
      arith,
      c.loop-place.invariant.run_so_far,
      run_small c.args.cycles.now small ps (c.args.first + c.loop-place.place-index) (omega (arith, item.1)),
      small (get_or ps (c.args.first + c.loop-place.place-index) 0),
      c.requires.0.places.few,
      item.1,
    ))

pub loop-place-preserved : goal.loop-place-preserved
loop-place-preserved c =
    let ps = c.args.planned.now in
    let cycles = c.args.cycles.now in
    let loop = c.loop-place in
    let i = c.args.first + loop.place-index in
    let item = item_behind ps c.args.first loop.place-index c.loop-place-test.true in
    let place = get_or ps i 0 in
    let sum = ap (λ n. n + get_or cycles place 0) loop.invariant.run_so_far in
    let next : c.args.first + (loop.place-index + 1) ≡ i + 1 = omega arith in
    rw (item.0, next)
    (record {
      as_long = length-set loop.ends place (loop.run + get_or cycles place 0) ∙ loop.invariant.as_long;
      run_so_far = sum ∙ sym (one_more_run cycles i ps item.1);
      ends_true =
          one_more_end ps c.requires.0.once c.requires.0.places.below loop.ends loop.invariant.as_long i item.1
          (loop.run + get_or cycles place 0) cycles sum loop.invariant.ends_true;
    })
