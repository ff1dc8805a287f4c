-- The records in a table's places from a place on: the one there, and those behind it; or none. Assumes nothing.
use mathlib.Core.List.{List, [], ◌∷◌}
use mathlib.Core.Path.{◌≡◌, ◌∙◌}
use Prim.Native.Nat.{ℕ, suc, min, ◌≤◌, ◌<◌}
use native.Mathlib.Omega.{arith}
use lib.ListN.{length, drop, get_or, take, length-take, drop_of_length-le}
use lib.Seq.{drop-cons, get_or-take}

module _ {A : Type 0} (count : ℕ) (all : List A) where
  pub record-at : (zeros : A) (i : ℕ) → i < count → i < length all
      → drop i (take count all) ≡ get_or all i zeros ∷ drop (suc i) (take count all)
  record-at zeros i h k =
      let there : i < length (take count all) = rw (length-take count all) (omega arith) in
      drop-cons (take count all) i zeros there ∙ rw (get_or-take count all i zeros h)

  pub none_left : (i : ℕ) → min count (length all) ≤ i → drop i (take count all) ≡ []
  none_left i h =
      let short : length (take count all) ≤ i = rw (length-take count all) h in
      drop_of_length-le (take count all) short
