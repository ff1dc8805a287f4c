-- A list that a loop overwrites from the front: new up to a place, and as it was from there on. Each store carries the
-- seam one place on, since it changes that place alone. Assumes nothing.
use mathlib.Core.List.{List, [], ◌∷◌, ◌++◌, append-nil}
use mathlib.Core.Path.{◌≡◌, refl, ap}
use Prim.Native.Nat.{ℕ, zero, suc, ◌+◌, ◌≤◌, ◌<◌}
use native.Mathlib.Numerals.{add-one}
use native.Mathlib.Omega.{arith}
use lib.ListN.{length, take, drop, get_or, set, drop_of_length-le}
use lib.Seq.{take_all}
use Rattle.laws.specs.Overwritten.{overwritten}

module _ {A : Type 0} where
  -- from the seam on stands what stood
  pub not_overwritten : (new old : List A) (i k : ℕ) (d : A) → i ≤ k → i ≤ length new → i ≤ length old
      → get_or (overwritten new old i) k d ≡ get_or old k d
  not_overwritten new old zero k d m h l = refl
  not_overwritten new old (suc i) zero d m h l = absurd (omega arith)
  not_overwritten [] old (suc i) (suc k) d m h l = absurd (omega arith)
  not_overwritten (x ∷ new) [] (suc i) (suc k) d m h l = absurd (omega arith)
  not_overwritten (x ∷ new) (y ∷ old) (suc i) (suc k) d m h l =
      not_overwritten new old i k d (omega arith) (omega arith) (omega arith)

  overwritten_suc : (new old : List A) (i : ℕ) (d : A) → i < length new → i < length old
      → set (overwritten new old i) i (get_or new i d) ≡ overwritten new old (suc i)
  overwritten_suc [] old i d h l = absurd (omega arith)
  overwritten_suc (x ∷ new) [] i d h l = absurd (omega arith)
  overwritten_suc (x ∷ new) (y ∷ old) zero d h l = refl
  overwritten_suc (x ∷ new) (y ∷ old) (suc i) d h l =
      ap {B = List A} (λ r. x ∷ r) (overwritten_suc new old i d (omega arith) (omega arith))

  -- one store more
  pub one_more_overwritten : (new old : List A) (i : ℕ) (d : A) → i < length new → i < length old
      → set (overwritten new old i) i (get_or new i d) ≡ overwritten new old (i + 1)
  one_more_overwritten new old i d h l = rw add-one (overwritten_suc new old i d h l)

  -- the whole of the old list
  pub all_overwritten : (new old : List A) (i : ℕ) → i ≡ length old → overwritten new old i ≡ take (length old) new
  all_overwritten new old i e =
      rw (e, drop_of_length-le old {i = length old} (omega arith)) (append-nil (take (length old) new))

  -- by the whole of the new list
  pub overwritten_by_all : (new old : List A) (i : ℕ) → length new ≤ i → overwritten new old i ≡ new ++ drop i old
  overwritten_by_all new old i h = rw (take_all i new h)
