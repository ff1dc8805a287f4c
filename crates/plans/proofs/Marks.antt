-- Marking one place after another: what is still to be marked, and what is, give the whole. Assumes nothing.
use mathlib.Core.Bool.{Bool, true, false, cond, ◌||◌}
use mathlib.Core.List.{List}
use mathlib.Core.Path.{◌≡◌, refl}
use Prim.Native.Nat.{ℕ, suc, ◌+◌, ◌≤◌, ◌<◌}
use native.Mathlib.Numerals.{add-one}
use borrow.Author.Tests.{eqb-false, eqb-true}
use lib.Dec.{eqb}
use lib.ListN.{drop, drop_of_length-le, get_or, length, set}
use lib.Seq.{drop-cons, get_or-set_other, get_or-set_same}
use Rattle.laws.proofs.Choices.{split}
use Rattle.laws.specs.Pairs.{among}

-- the mark at each of the places, and elsewhere what the list holds
abbrev pub marked_at : List ℕ → ℕ → List ℕ → ℕ → ℕ
marked_at places mark xs i = cond (among places i) mark (get_or xs i 0)

-- a stored mark stands for its place
mark_stored : (rest : Bool) (xs : List ℕ) (place mark i : ℕ) → place < length xs
    → cond rest mark (get_or (set xs place mark) i 0) ≡ cond (eqb i place || rest) mark (get_or xs i 0)
mark_stored rest xs place mark i h =
    split (eqb i place)
    (λ e. rw e (rw (eqb-true i place e, get_or-set_same xs place mark 0 h) (same_either rest mark)))
    (λ e. rw e (rw (get_or-set_other xs place i mark 0 (eqb-false i place e))))
  where
    same_either : (b : Bool) (m : ℕ) → cond b m m ≡ m
    same_either true m = refl
    same_either false m = refl

pub one_more_marked : (places xs : List ℕ) (mark k i : ℕ) → k < length places → get_or places k 0 < length xs
    → marked_at (drop (k + 1) places) mark (set xs (get_or places k 0) mark) i ≡ marked_at (drop k places) mark xs i
one_more_marked places xs mark k i h l =
    rw (drop-cons places k 0 h, add-one k)
    (mark_stored (among (drop (suc k) places) i) xs (get_or places k 0) mark i l)

pub all_marked : (places xs : List ℕ) (mark k i : ℕ) → length places ≤ k → marked_at (drop k places) mark xs i ≡ get_or xs i 0
all_marked places xs mark k i h = rw (drop_of_length-le places {i = k} h)
