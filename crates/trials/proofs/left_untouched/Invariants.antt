use mathlib.Core.Path.{◌≡◌}
use lib.ListN.{drop, take}
use Rattle.judgements.specs.Changes.{far_first, places_of}
use Rattle.trials.proofs.left_untouched.Given as goal

abbrev pub invariant-loop-settled : goal.invariant-loop-settled
invariant-loop-settled l = take l.settled (drop l.below l.planned) ≡ take l.settled (places_of (far_first l.noted.changes l.changes.places l.changes.keys))
