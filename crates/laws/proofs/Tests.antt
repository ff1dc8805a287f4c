-- What the rules' tests tell where they hold: each Bool computes to one of two values. Assumes nothing.
use mathlib.Core.Bool.{Bool, true, false, ◌&&◌, and-false, false≢true}
use mathlib.Core.Path.{◌≡◌, refl}
use Prim.Native.Nat.{ℕ, ◌≤◌, ◌<◌}
use borrow.Author.Tests.{leb-true, le-leb, lt-leb}
use lib.Dec.{leb}
use Rattle.rules.specs.Lists.{within}

pub both_true : (s t : Bool) → s && t ≡ true → (s ≡ true) × (t ≡ true)
both_true true t e = (refl, e)
both_true false t e = absurd (false≢true e)

pub not_true_false : (t : Bool) → (t ≡ true → ⊥) → t ≡ false
not_true_false true h = absurd (h refl)
not_true_false false h = refl

pub within_true : (low high n : ℕ) → within low high n ≡ true → (low ≤ n) × (n ≤ high)
within_true low high n e = let sides = both_true _ _ e in (leb-true _ _ sides.0, leb-true _ _ sides.1)

pub within_holds : (low high n : ℕ) → low ≤ n → n ≤ high → within low high n ≡ true
within_holds low high n l h = rw (le-leb low n l, le-leb n high h)

pub within_below : (low high n : ℕ) → n < low → within low high n ≡ false
within_below low high n h = rw (lt-leb low n h)

pub within_above : (low high n : ℕ) → high < n → within low high n ≡ false
within_above low high n h = rw (lt-leb n high h) (and-false (leb low n))
