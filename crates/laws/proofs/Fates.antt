-- A column of fates, and what it says in numbers. Assumes nothing.
use mathlib.Core.Bool.{Bool, true, false, cond}
use mathlib.Core.List.{List, [], ◌∷◌}
use mathlib.Core.Path.{◌≡◌, refl, ap}
use Prim.Native.Nat.{ℕ, zero, suc}
use lib.ListN.{get_or, length, set}
use native.Mathlib.Omega.{arith}
use Rattle.std.specs.Prelude.{None, Some, Option}
use Rattle.std.specs.Bool.{then_some}
use Rattle.std.specs.Option.{is_some}
use Rattle.rules.specs.Answers.{fate_as_number, fate_number, fates_as_numbers}
use Rattle.rules.specs.declared.Fate.{Fate}

-- the number at a place is that of the fate there, 0 where none is
pub number_at : (fates : List (Option Fate)) (i : ℕ) → get_or (fates_as_numbers fates) i 0 ≡ fate_as_number (get_or fates i None)
unfolding fate_as_number
number_at [] i = refl
number_at (f ∷ fs) zero = refl
number_at (f ∷ fs) (suc i) = number_at fs i

-- as many numbers as fates
pub as_many : (fates : List (Option Fate)) → length (fates_as_numbers fates) ≡ length fates
as_many [] = refl
as_many (f ∷ fs) = ap suc (as_many fs)

-- a fate that is stored is its number stored
pub number_stored : (fates : List (Option Fate)) (i : ℕ) (f : Option Fate)
    → fates_as_numbers (set fates i f) ≡ set (fates_as_numbers fates) i (fate_as_number f)
number_stored [] i f = refl
number_stored (g ∷ gs) zero f = refl
number_stored (g ∷ gs) (suc i) f = ap (λ ns. fate_as_number g ∷ ns) (number_stored gs i f)

-- a job has no fate exactly where its number is 0
pub none_is_0 : (f : Option Fate) → fate_as_number f ≡ 0 → f ≡ None
unfolding fate_as_number
none_is_0 None e = refl
none_is_0 (Some Fate.Planned) e = absurd (omega arith)
none_is_0 (Some Fate.Late) e = absurd (omega arith)
none_is_0 (Some Fate.Deadlock) e = absurd (omega arith)
none_is_0 (Some Fate.RatioZero) e = absurd (omega arith)
none_is_0 (Some Fate.Time) e = absurd (omega arith)
none_is_0 (Some Fate.Budget) e = absurd (omega arith)

-- a job has a fate exactly where its number is not 0
pub has_some : (f : Option Fate) → is_some f ≡ true → fate_as_number f ≡ 0 → ⊥
has_some f some e = cc (ap {B = Bool} is_some (none_is_0 f e))

pub has_none : (f : Option Fate) → is_some f ≡ false → fate_as_number f ≡ 0
unfolding fate_as_number
has_none None e = refl
has_none (Some f) e = cc

-- a fate that a job has only where a test says so
pub number_if : (b : Bool) (f : Fate) → fate_as_number (then_some b f) ≡ cond b (fate_number f) 0
unfolding fate_as_number
number_if true f = refl
number_if false f = refl

pub number_of_none : fate_as_number None ≡ 0
unfolding fate_as_number
number_of_none = refl

-- the same of the fate at a place
pub some_at : (fates : List (Option Fate)) (i : ℕ) → is_some (get_or fates i None) ≡ true → get_or (fates_as_numbers fates) i 0 ≡ 0 → ⊥
some_at fates i some e = has_some (get_or fates i None) some (rw number_at at e)

pub none_at : (fates : List (Option Fate)) (i : ℕ) → is_some (get_or fates i None) ≡ false → get_or (fates_as_numbers fates) i 0 ≡ 0
none_at fates i none = rw (number_at fates i) (has_none (get_or fates i None) none)
