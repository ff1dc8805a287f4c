use mathlib.Core.Path.{◌≡◌}
use mathlib.Core.List.{map}
use lib.ListN.{get_or}
use Rattle.laws.specs.Overwritten.{overwritten}
use Rattle.filling.proofs.name_places.Given as goal

abbrev pub invariant-loop-place : goal.invariant-loop-place
invariant-loop-place l = l.part ≡ overwritten (map (λ p. get_or l.number p 0) l.initial.part) l.initial.part l.place-index
