-- `filling::name_places` meets its contract. Up to the place reached the part holds the numbers, from there on the places that it
-- held. Assumes nothing.
use mathlib.Core.List.{List, map}
use mathlib.Core.Path.{◌≡◌, sym, ap, ◌∙◌}
use Prim.Native.Nat.{ℕ, ◌+◌, ◌<◌}
use native.Mathlib.Omega.{arith}
use lib.ListN.{get_or, get_or-map, length, length-map, set}
use Rattle.laws.proofs.Overwritten.{not_overwritten, one_more_overwritten}
use Rattle.laws.specs.Overwritten.{overwritten}
use Rattle.filling.proofs.name_places.Goals as goal

module _ (number part : List ℕ) (i : ℕ) (h : i < length part) where
  abbrev numbers : List ℕ
  numbers = map (λ p. get_or number p 0) part

  as-long : length numbers ≡ length part
  as-long = length-map part (λ p. get_or number p 0)

  -- what stands here is still the place
  place-here : get_or (overwritten numbers part i) i 0 ≡ get_or part i 0
  place-here = not_overwritten numbers part i i 0 (omega arith) (omega (arith, as-long)) (omega arith)

  -- one number more
  one-more : set (overwritten numbers part i) i (get_or number (get_or (overwritten numbers part i) i 0) 0)
      ≡ overwritten numbers part (i + 1)
  one-more =
      ap (set (overwritten numbers part i) i)
      (ap (λ p. get_or number p 0) place-here ∙ sym (get_or-map (λ p. get_or number p 0) part i 0))
      ∙ one_more_overwritten numbers part i (get_or number 0 0) (omega (arith, as-long)) h

pub loop-place-preserved : goal.loop-place-preserved
loop-place-preserved c =
    rw c.loop-place.invariant (one-more c.args.number.now c.args.part.now c.loop-place.place-index (omega arith))
