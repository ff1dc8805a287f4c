-- `trials::left_untouched` meets its contract. The search finds how many keys are below all changes'; then, as far as the loop has
-- come, the places behind these are those that the changes move, far end first. Assumes nothing.
use mathlib.Core.Path.{◌≡◌}
use native.Mathlib.Omega.{arith}
use Rattle.trials.proofs.Settled.{one_more_settled, untouched}
use Rattle.trials.proofs.left_untouched.Goals as goal

pub returns-then-planned-below : goal.returns-then-planned-below
returns-then-planned-below c =
    let args = c.args in
    untouched args.planned.now args.keys.now args.changes.now.places args.changes.now.keys args.noted _ c.loop-settled.settled
    c.place_for-below.ensures (omega arith) (omega (arith, c.place_for-below.ensures.at_most)) c.loop-settled.invariant

pub loop-settled-preserved : goal.loop-settled-preserved
loop-settled-preserved c =
    let args = c.args in
    one_more_settled args.planned.now args.changes.now.places args.changes.now.keys args.noted.changes _ c.loop-settled.settled
    (omega arith) (omega (arith, c.requires.moved_few)) c.if-planned-below.false c.loop-settled.invariant

pub returns : goal.returns
returns c =
    let args = c.args in
    let all : c.loop-settled.settled ≡ c.min-most.result = omega arith in
    untouched args.planned.now args.keys.now args.changes.now.places args.changes.now.keys args.noted _ c.min-most.result
    c.place_for-below.ensures (omega arith) (omega (arith, c.place_for-below.ensures.at_most))
    (rw all at c.loop-settled.invariant)
