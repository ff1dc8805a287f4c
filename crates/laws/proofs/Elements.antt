-- What holds of each element of a list, what rises along it, and an element at its end or within: each law goes along the
-- list, element by element. Assumes nothing.
use mathlib.Core.Bool.{true, false, false≢true}
use mathlib.Core.List.{List, [], ◌∷◌, ◌++◌, map}
use mathlib.Core.Path.{◌≡◌, refl}
use Prim.Native.Nat.{ℕ, zero, suc, ◌+◌, ◌≤◌, ◌<◌}
use native.Mathlib.Omega.{arith}
use lib.ListN.{get_or, length, length-append}
use Rattle.rules.specs.Lists.{Each, Rising, empty, last_or, none_left, no_element, one_element, ◌and◌, ◌below◌}

module _ {A : Type 0} where
  pub each_too : {P Q : A → Type 0} {xs : List A} → ((x : A) → P x → Q x) → Each P xs → Each Q xs
  each_too h none_left = none_left
  each_too h (p and ps) = h _ p and each_too h ps

  pub each_append : {P : A → Type 0} {xs ys : List A} → Each P xs → Each P ys → Each P (xs ++ ys)
  each_append none_left qs = qs
  each_append (p and ps) qs = p and each_append ps qs

  pub each_more : {P : A → Type 0} {x : A} {xs : List A} → Each P xs → P x → Each P (xs ++ x ∷ [])
  each_more ps h = each_append ps (h and none_left)

  pub each_at : {P : A → Type 0} (front : List A) (x : A) (rest : List A) → Each P (front ++ x ∷ rest) → P x
  each_at [] x rest (p and ps) = p
  each_at (y ∷ front) x rest (p and ps) = each_at front x rest ps

  pub each_at_place : {P : A → Type 0} {xs : List A} (d : A) → Each P xs → (i : ℕ) → i < length xs → P (get_or xs i d)
  each_at_place d none_left i h = absurd (omega arith)
  each_at_place d (p and ps) zero h = p
  each_at_place d (p and ps) (suc i) h = each_at_place d ps i (omega arith)

  pub each_of_places : {P : A → Type 0} (d : A) (xs : List A) → ((i : ℕ) → i < length xs → P (get_or xs i d)) → Each P xs
  each_of_places d [] h = none_left
  each_of_places d (x ∷ xs) h = h 0 (omega arith) and each_of_places d xs (λ i l. h (suc i) (omega arith))

  pub each_last : {P : A → Type 0} (d : A) {xs : List A} → 1 ≤ length xs → Each P xs → P (last_or d xs)
  each_last d h none_left = absurd (omega arith)
  each_last d h (p and none_left) = p
  each_last d {xs = x ∷ xs} h (p and (q and qs)) = each_last x (omega arith) (q and qs)

  pub rising_more : {f : A → ℕ} (d : A) {x : A} {xs : List A} → Rising f xs → f (last_or d xs) < f x → Rising f (xs ++ x ∷ [])
  rising_more d no_element h = one_element
  rising_more d one_element h = ◌below◌ h one_element
  rising_more d (◌below◌ l more) h = ◌below◌ l (rising_more d more h)

  -- what stands before an element of a rising list is below it, also where nothing but a lowest element d stands before
  pub rising_at : {f : A → ℕ} (d : A) (front : List A) (x : A) (rest : List A) → f d < f x → Rising f (front ++ x ∷ rest)
      → f (last_or d front) < f x
  rising_at d [] x rest h r = h
  rising_at d (y ∷ []) x rest h (◌below◌ l more) = l
  rising_at d (y ∷ (z ∷ front)) x rest h (◌below◌ l more) = rising_at d (z ∷ front) x rest h more

  -- numbers that rise to at most so much are at most so many
  pub rising_length : {f : A → ℕ} (most : ℕ) {x : A} {xs : List A} → Rising f (x ∷ xs) → Each (λ y. f y ≤ most) (x ∷ xs)
      → f x + length xs ≤ most
  rising_length most one_element (h and none_left) = omega arith
  rising_length most (◌below◌ l more) (h and hs) = omega (arith, rising_length most more hs)

  pub length_more : (xs : List A) (x : A) → length (xs ++ x ∷ []) ≡ length xs + 1
  length_more xs x = length-append xs (x ∷ [])

  pub length_at : (front : List A) (x : A) (rest : List A) → length front < length (front ++ x ∷ rest)
  length_at front x rest = rw (length-append front (x ∷ rest)) (omega arith)

  pub empty_true : (xs : List A) → empty xs ≡ true → xs ≡ []
  empty_true [] e = refl
  empty_true (x ∷ xs) e = absurd (false≢true e)

  pub not_empty : (xs : List A) → 1 ≤ length xs → empty xs ≡ false
  not_empty [] h = absurd (omega arith)
  not_empty (x ∷ xs) h = refl

pub map_append : {A B : Type 0} (f : A → B) (xs ys : List A) → map f (xs ++ ys) ≡ map f xs ++ map f ys
map_append f [] ys = refl
map_append f (x ∷ xs) ys = rw (map_append f xs ys)

pub each_map : {A B : Type 0} {P : B → Type 0} (f : A → B) {xs : List A} → Each (λ x. P (f x)) xs → Each P (map f xs)
each_map f none_left = none_left
each_map f (p and ps) = p and each_map f ps
