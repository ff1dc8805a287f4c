-- Small functions on lists that the rules are written with. Tests are Bools, so that antt computes every rule.
use Rattle.std.specs.Prelude.{Bool, true, false, cond, ◌&&◌, ◌||◌, List, [], ◌∷◌, ◌++◌, ℕ, ◌+◌, ◌<◌, leb}
use Rattle.std.proofs.Math.Option.{Option, none, some}

-- from low to high, both counted in
abbrev pub within : ℕ → ℕ → ℕ → Bool
within low high n = leb low n && leb n high

infixr 5 ◌and◌ ◌below◌
module _ {A : Type 0} where
  -- the value where the test holds
  abbrev pub only_if : Bool → A → Option A
  only_if t a = cond t (some a) none

  -- the elements that pass the test, in their order
  abbrev pub keep : (A → Bool) → List A → List A
  keep p [] = []
  keep p (x ∷ xs) = cond (p x) (x ∷ keep p xs) (keep p xs)

  -- some element passes
  abbrev pub any : (A → Bool) → List A → Bool
  any p [] = false
  any p (x ∷ xs) = p x || any p xs

  -- each element passes
  abbrev pub all : (A → Bool) → List A → Bool
  all p [] = true
  all p (x ∷ xs) = p x && all p xs

  -- the first element that passes
  abbrev pub find : (A → Bool) → List A → Option A
  find p [] = none
  find p (x ∷ xs) = cond (p x) (some x) (find p xs)

  -- there is no element
  abbrev pub empty : List A → Bool
  empty [] = true
  empty (x ∷ xs) = false

  -- the last element, or d where there is none
  abbrev pub last_or : A → List A → A
  last_or d [] = d
  last_or d (x ∷ xs) = last_or x xs

  -- the sum of a number of each element
  abbrev pub total : (A → ℕ) → List A → ℕ
  total f [] = 0
  total f (x ∷ xs) = f x + total f xs

  -- x put before the first element that it comes before
  abbrev pub put_in : (A → A → Bool) → A → List A → List A
  put_in before x [] = x ∷ []
  put_in before x (y ∷ ys) = cond (before x y) (x ∷ y ∷ ys) (y ∷ put_in before x ys)

  -- in order: each element put in its place
  abbrev pub sorted : (A → A → Bool) → List A → List A
  sorted before [] = []
  sorted before (x ∷ xs) = put_in before x (sorted before xs)

  -- P holds of each element
  pub data Each (P : A → Type 0) : List A → Type 0 where
    none_left : Each P []
    ◌and◌ : {x : A} {xs : List A} → P x → Each P xs → Each P (x ∷ xs)

  -- a number of each element, strictly rising
  pub data Rising (f : A → ℕ) : List A → Type 0 where
    no_element : Rising f []
    one_element : {x : A} → Rising f (x ∷ [])
    ◌below◌ : {x y : A} {ys : List A} → f x < f y → Rising f (y ∷ ys) → Rising f (x ∷ y ∷ ys)

module _ {A B : Type 0} where
  -- the lists that the elements give, one after the other
  abbrev pub joined : (A → List B) → List A → List B
  joined f [] = []
  joined f (x ∷ xs) = f x ++ joined f xs
