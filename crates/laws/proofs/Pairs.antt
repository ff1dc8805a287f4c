-- What holds of each element and each behind it, and lists of distinct numbers: each law goes along the list. Distinct
-- numbers that all stand in a list are no more than it, since each of them takes a place of its own there. Assumes nothing.
use mathlib.Core.Bool.{Bool, true, false, cond, true≢false}
use mathlib.Core.List.{List, [], ◌∷◌, map}
use mathlib.Core.Path.{◌≡◌, sym, ap, ◌∙◌}
use Prim.Native.Nat.{ℕ, zero, suc, ◌≤◌, ◌<◌}
use native.Mathlib.Omega.{arith}
use borrow.Author.Tests.{eqb-false, eqb-true}
use lib.Dec.{eqb}
use lib.ListN.{get_or, length}
use Rattle.laws.specs.Pairs.{Distinct, Pairwise, among, no_pair, ◌then◌}
use Rattle.laws.proofs.Choices.{split}
use Rattle.laws.proofs.Elements.{each_at_place, each_map, each_too}
use Rattle.laws.proofs.Lookups.{each_both, each_keep, each_place}
use Rattle.rules.specs.Lists.{Each, Rising, keep, no_element, none_left, one_element, put_in, ◌and◌, ◌below◌}

module _ {A : Type 0} where
  pub pairs_too : {P : A → Type 0} {R S : A → A → Type 0} {xs : List A} → ((x y : A) → P x → P y → R x y → S x y)
      → Each P xs
      → Pairwise R xs → Pairwise S xs
  pairs_too h none_left no_pair = no_pair
  pairs_too h (p and ps) (r then rs) = each_both (λ y q s. h _ y p q s) ps r then pairs_too h ps rs

  pub pairs_keep : {R : A → A → Type 0} (p : A → Bool) {xs : List A} → Pairwise R xs → Pairwise R (keep p xs)
  pairs_keep p no_pair = no_pair
  pairs_keep p {xs = x ∷ xs} (r then rs) =
      split (p x) (λ h. rw h (each_keep p r then pairs_keep p rs)) (λ h. rw h (pairs_keep p rs))

  -- x put in its place: behind what it does not come before; and what it comes before has behind it only what x comes
  -- before too
  pub pairs_place : {R : A → A → Type 0} (before : A → A → Bool) (x : A)
      → ((y z : A) → R y z → before x y ≡ true → before x z ≡ true)
      → {ys : List A} → Pairwise R ys → Each (λ y. before x y ≡ false → R y x) ys
      → Each (λ y. before x y ≡ true → R x y) ys
      → Pairwise R (put_in before x ys)
  pairs_place before x on no_pair none_left none_left = none_left then no_pair
  pairs_place before x on {ys = y ∷ ys} (r then rs) (a and more) (b and bs) =
      split (before x y)
      (λ h. rw h ((b h and each_both (λ z s c. c (on y z s h)) r bs) then (r then rs)))
      (λ h. rw h (each_place before x (a h) r then pairs_place before x on rs more bs))

  -- where R holds both ways, x may stand anywhere
  pub pairs_place_apart : {R : A → A → Type 0} → ((x y : A) → R x y → R y x)
      → (before : A → A → Bool) (x : A) {ys : List A}
      → Each (R x) ys → Pairwise R ys → Pairwise R (put_in before x ys)
  pairs_place_apart back before x none_left no_pair = none_left then no_pair
  pairs_place_apart back before x {ys = y ∷ ys} (a and more) (r then rs) =
      split (before x y)
      (λ h. rw h ((a and more) then (r then rs)))
      (λ h. rw h (each_place before x (back x y a) r then pairs_place_apart back before x more rs))

  pub pairs_both : {R S T : A → A → Type 0} {xs : List A} → ((x y : A) → R x y → S x y → T x y) → Pairwise R xs
      → Pairwise S xs
      → Pairwise T xs
  pairs_both h no_pair no_pair = no_pair
  pairs_both h (r then rs) (s then ss) = each_both (λ y a b. h _ y a b) r s then pairs_both h rs ss

  -- two elements, by their places
  pub pairs_at_places : {R : A → A → Type 0} {xs : List A} (d : A) → Pairwise R xs → (i j : ℕ) → i < j → j < length xs
      → R (get_or xs i d) (get_or xs j d)
  pairs_at_places d no_pair i j l h = absurd (omega arith)
  pairs_at_places d (r then rs) i zero l h = absurd (omega arith)
  pairs_at_places d (r then rs) zero (suc j) l h = each_at_place d r j (omega arith)
  pairs_at_places d (r then rs) (suc i) (suc j) l h = pairs_at_places d rs i j (omega arith) (omega arith)

  pub rising_pairs : {f : A → ℕ} {xs : List A} → Rising f xs → Pairwise (λ x y. f x < f y) xs
  rising_pairs no_element = no_pair
  rising_pairs one_element = none_left then no_pair
  rising_pairs {f} (◌below◌ l more) = from l (rising_pairs more)
    where
      from : {x y : A} {ys : List A} → f x < f y → Pairwise (λ x y. f x < f y) (y ∷ ys)
          → Pairwise (λ x y. f x < f y) (x ∷ y ∷ ys)
      from l (r then rs) = (l and each_too (λ z m. omega arith) r) then (r then rs)

pub pairs_map : {A B : Type 0} {R : B → B → Type 0} (f : A → B) {xs : List A} → Pairwise (λ x y. R (f x) (f y)) xs
    → Pairwise R (map f xs)
pairs_map f no_pair = no_pair
pairs_map f (r then rs) = each_map f r then pairs_map f rs

pub pairs_rising : {A : Type 0} {f : A → ℕ} {xs : List A} → Pairwise (λ x y. f x < f y) xs → Rising f xs
pairs_rising no_pair = no_element
pairs_rising (none_left then no_pair) = one_element
pairs_rising ((l and more) then (r then rs)) = ◌below◌ l (pairs_rising (r then rs))

-- the list, with one n taken out
without_one : ℕ → List ℕ → List ℕ
without_one n [] = []
without_one n (m ∷ ms) = cond (eqb n m) ms (m ∷ without_one n ms)

one_fewer : (n : ℕ) (ms : List ℕ) → among ms n ≡ true → suc (length (without_one n ms)) ≡ length ms
unfolding without_one
one_fewer n [] h = absurd (true≢false (sym h))
one_fewer n (m ∷ ms) h = split (eqb n m) (λ g. rw g) (λ g. rw g (ap suc (one_fewer n ms (rw g at h))))

others_stay : (n k : ℕ) (ms : List ℕ) → eqb n k ≡ false → among ms k ≡ true → among (without_one n ms) k ≡ true
unfolding without_one
others_stay n k [] d h = h
others_stay n k (m ∷ ms) d h =
    split (eqb n m)
    (λ g. rw g (split (eqb k m) (λ e. absurd (eqb-false n k d (eqb-true n m g ∙ sym (eqb-true k m e)))) (λ e. rw e at h)))
    (λ g. rw g (split (eqb k m) (λ e. rw e) (λ e. rw e (others_stay n k ms d (rw e at h)))))

pub no_longer : {ns : List ℕ} (ms : List ℕ) → Distinct ns → Each (λ n. among ms n ≡ true) ns → length ns ≤ length ms
no_longer ms no_pair none_left = omega arith
no_longer {ns = n ∷ ns} ms (d then ds) (e and es) =
    omega (arith, one_fewer n ms e, no_longer (without_one n ms) ds (each_both (λ k d h. others_stay n k ms d h) d es))
