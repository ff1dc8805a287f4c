-- `plans::mark_planned` meets its contract. The places still to be marked and the fates that stand give the whole. Assumes nothing.
use mathlib.Core.Path.{◌∙◌}
use native.Mathlib.Omega.{arith}
use lib.ListN.{length-set}
use Rattle.plans.proofs.Marks.{one_more_marked}
use Rattle.rules.specs.Plan.{fate_planned}
use Rattle.plans.proofs.mark_planned.Goals as goal

pub loop-place-preserved : goal.loop-place-preserved
loop-place-preserved c =
    let loop = c.loop-place in
    let places = c.args.places.now in
    rw c.from.ensures
    (record {
      whole = length-set loop.fates _ _ ∙ loop.invariant.whole;
      marked = λ k.
          one_more_marked places loop.fates fate_planned loop.place-index k (omega arith)
          (omega (arith, loop.invariant.whole, c.requires loop.place-index (omega arith)))
          ∙ loop.invariant.marked k;
    })
