-- Where the numbers of the jobs rise, no two places hold one number: the number at a later place is greater. So a job
-- is known by its place. Assumes nothing.
use mathlib.Core.Bool.{true, false}
use mathlib.Core.List.{List, [], ◌∷◌}
use mathlib.Core.Logic.{◌⊎◌, inl, inr, ⊎_elim}
use mathlib.Core.Path.{◌≡◌, refl, sym, ap, ◌∙◌}
use Prim.Native.Nat.{ℕ, zero, suc, ◌<◌}
use native.Mathlib.Nat.{lt_trans}
use native.Mathlib.Omega.{arith}
use borrow.Author.Tests.{eq-eqb, ne_eqb}
use lib.Dec.{eqb}
use lib.ListN.{length, get_or}
use Rattle.rules.specs.Lists.{Rising, no_element, one_element, ◌below◌}
use Rattle.rules.specs.Plan.{same}
use Rattle.rules.specs.TableText.{no_job}
use Rattle.rules.specs.declared.Job.{Job}

less_equal_or_greater : (m n : ℕ) → (m < n) ⊎ ((m ≡ n) ⊎ (n < m))
less_equal_or_greater zero zero = inr (inl refl)
less_equal_or_greater zero (suc n) = inl (omega arith)
less_equal_or_greater (suc m) zero = inr (inr (omega arith))
less_equal_or_greater (suc m) (suc n) =
    ⊎_elim (λ (h : m < n). inl (omega arith))
    (⊎_elim (λ (e : m ≡ n). inr (inl (ap suc e))) (λ (h : n < m). inr (inr (omega arith))))
    (less_equal_or_greater m n)

-- where the numbers at the first count places rise, the lower of two stands first
pub lower_first : (at : ℕ → ℕ) (count : ℕ) → ((i k : ℕ) → i < k → k < count → at i < at k) → (p q : ℕ) → p < count → at p < at q
    → p < q
lower_first at count rises p q h l =
    ⊎_elim (λ (m : p < q). m)
    (⊎_elim (λ (e : p ≡ q). absurd (omega (arith, ap at e))) (λ (m : q < p). absurd (omega (arith, rises q p m h))))
    (less_equal_or_greater p q)

-- the elements behind the first rise too
pub rising_others : {A : Type 0} {f : A → ℕ} {x : A} {xs : List A} → Rising f (x ∷ xs) → Rising f xs
rising_others one_element = no_element
rising_others (◌below◌ l r) = r

module _ {A : Type 0} (f : A → ℕ) (d : A) where
  first_least : {x : A} {xs : List A} → Rising f (x ∷ xs) → (q : ℕ) → q < length xs → f x < f (get_or xs q d)
  first_least one_element q h = absurd (omega arith)
  first_least (◌below◌ l r) zero h = l
  first_least (◌below◌ l r) (suc q) h = lt_trans l (first_least r q (omega arith))

  -- at a later place stands a greater number
  pub later_greater : (xs : List A) → Rising f xs → (p q : ℕ) → p < q → q < length xs
      → f (get_or xs p d) < f (get_or xs q d)
  later_greater [] r p q l h = absurd (omega arith)
  later_greater (x ∷ xs) r p zero l h = absurd (omega arith)
  later_greater (x ∷ xs) r zero (suc q) l h = first_least r q (omega arith)
  later_greater (x ∷ xs) r (suc p) (suc q) l h = later_greater xs (rising_others r) p q (omega arith) (omega arith)

less_not_equal : (m n : ℕ) → m < n → eqb m n ≡ false
less_not_equal m n l = ne_eqb m n (λ (e : m ≡ n). omega arith)

equal_itself : (n : ℕ) → eqb n n ≡ true
equal_itself n = eq-eqb n n refl

greater_not_equal : (m n : ℕ) → n < m → eqb m n ≡ false
greater_not_equal m n l = ne_eqb m n (λ (e : m ≡ n). omega arith)

-- two places hold one job exactly where they are one place
pub same_place : (js : List Job) → Rising (λ j. j.number) js → (p q : ℕ) → p < length js → q < length js
    → same (get_or js p no_job) (get_or js q no_job) ≡ eqb p q
unfolding same
same_place js r p q h l =
    ⊎_elim
    (λ (m : p < q).
    less_not_equal _ _ (later_greater (λ j. j.number) no_job js r p q m l) ∙ sym (less_not_equal p q m))
    (⊎_elim (λ (e : p ≡ q). rw e (equal_itself (get_or js q no_job).number ∙ sym (equal_itself q)))
    (λ (m : q < p).
    greater_not_equal _ _ (later_greater (λ j. j.number) no_job js r q p m h) ∙ sym (greater_not_equal p q m)))
    (less_equal_or_greater p q)
