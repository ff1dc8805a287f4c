-- A column that is filled place by place: what is right at each place passed stays right when the next is stored. Assumes
-- nothing.
use mathlib.Core.Bool.{true, false}
use mathlib.Core.List.{List}
use mathlib.Core.Path.{◌≡◌, ◌∙◌}
use Prim.Native.Nat.{ℕ, ◌+◌, ◌≤◌, ◌<◌}
use native.Mathlib.Omega.{arith}
use borrow.Author.Tests.{eqb-false, eqb-true}
use lib.Dec.{eqb}
use lib.ListN.{get_or, length, length-set, set}
use lib.Seq.{get_or-set_other, get_or-set_same}
use Rattle.laws.proofs.Choices.{split}
use Rattle.rules.specs.TableText.{most_jobs}

-- at each place below the count stands what is right there
abbrev pub RightBelow : (ℕ → ℕ → Type 0) → ℕ → List ℕ → Type 0
RightBelow Right count xs = (k : ℕ) → k < count → Right k (get_or xs k 0)

-- a column with all its places, filled to i
pub record FilledTo (Right : ℕ → ℕ → Type 0) (i : ℕ) (xs : List ℕ) : Type 0 where
  pub whole : length xs ≡ most_jobs
  pub right : RightBelow Right i xs

module _ (Right : ℕ → ℕ → Type 0) where
  stored_right : (xs : List ℕ) (i v : ℕ) → i < length xs → RightBelow Right i xs → Right i v
      → RightBelow Right (i + 1) (set xs i v)
  stored_right xs i v l right here k m =
      split (eqb k i)
      (λ (e : eqb k i ≡ true). rw (eqb-true k i e) (rw (get_or-set_same xs i v 0 l) here))
      (λ (e : eqb k i ≡ false).
      let other = eqb-false k i e in
      rw (get_or-set_other xs i k v 0 other) (right k (omega (arith, other))))

  pub one_more_filled : (xs : List ℕ) (i v : ℕ) → i < most_jobs → FilledTo Right i xs → Right i v
      → FilledTo Right (i + 1) (set xs i v)
  one_more_filled xs i v l filled here = record {
    whole = length-set xs i v ∙ filled.whole;
    right = stored_right xs i v (omega arith) filled.right here;
  }

  pub filled_below : (xs : List ℕ) (i count : ℕ) → count ≤ i → FilledTo Right i xs → RightBelow Right count xs
  filled_below xs i count l filled k m = filled.right k (omega arith)
