-- From digits to their number and back: each digit more is one turn of the division by ten, so the digits up to each
-- place are those of their number, where the first is no zero. Assumes nothing.
use mathlib.Core.Path.{◌≡◌, refl, sym, ◌∙◌}
use mathlib.Core.Bool.{Bool, true, false, false≢true, not, ◌&&◌}
use mathlib.Core.List.{List, [], ◌∷◌}
use mathlib.Core.Option.{some}
use Prim.Native.Nat.{ℕ, zero, suc, ◌+◌, ◌-◌, ◌*◌, ◌/◌, ◌%◌, ◌^◌, ◌≤◌, ◌<◌}
use native.Mathlib.Nat.{le_of_suc-le-suc, not-suc-le-zero, pow-suc, pow-le-pow_right}
use native.Mathlib.Omega.{arith}
use borrow.Author.Tests.{eq-eqb, leb-true, not-true}
use lib.Dec.{leb}
use lib.ListN.{length, take, get_or}
use lib.Seq.{take-length, take-suc}
use Rattle.rules.specs.Lists.{all, empty, only_if}
use Rattle.rules.specs.TableText.{digit_zero, digits_of, digits_within, is_digit, is_number, leading_zero, most_digits, number_in, value_from}
use Rattle.grammar.proofs.Decimal.{more_digits, one_digit, value_one_more}
use Rattle.laws.proofs.Tests.{both_true}

-- A digit of some digits.
pub digit_at : (ds : List ℕ) (k : ℕ) → all is_digit ds ≡ true → k < length ds → (digit_zero ≤ get_or ds k 0) × (get_or ds k 0 ≤ digit_zero + 9)
unfolding is_digit
digit_at [] k e h = absurd (not-suc-le-zero h)
digit_at (d ∷ ds) zero e h =
    let b = both_true (is_digit d) (all is_digit ds) e in
    let c = both_true (leb digit_zero d) (leb d (digit_zero + 9)) b.0 in
    (leb-true digit_zero d c.0, leb-true d (digit_zero + 9) c.1)
digit_at (d ∷ ds) (suc k) e h = digit_at ds k (both_true (is_digit d) (all is_digit ds) e).1 (le_of_suc-le-suc h)

leading_digit : (ds : List ℕ) → leading_zero ds ≡ false → 1 < length ds → get_or ds 0 0 ≡ digit_zero → ⊥
unfolding leading_zero
leading_digit [] e l z = absurd (omega arith)
leading_digit (b ∷ []) e l z = absurd (omega arith)
leading_digit (b ∷ (c ∷ ds)) e l z = false≢true (sym e ∙ rw (eq-eqb b digit_zero z))

-- The digits up to each place of some digits. One digit more: ten times the number of those before it, and the digit.
pub value_next : (ds : List ℕ) (k : ℕ) → k < length ds
    → value_from 0 (take (suc k) ds) ≡ value_from 0 (take k ds) * 10 + (get_or ds k 0 - digit_zero)
value_next ds k h = rw (take-suc ds k 0 h) (value_one_more 0 (take k ds) (get_or ds k 0))

module _ (ds : List ℕ) (digits : all is_digit ds ≡ true) where
  -- the number without its last digit, and that digit
  pub value_tenth : (k : ℕ) → k < length ds → value_from 0 (take (suc k) ds) / 10 ≡ value_from 0 (take k ds)
  value_tenth k h = rw (value_next ds k h) (omega (arith, digit_at ds k digits h))

  pub value_last_digit : (k : ℕ) → k < length ds → digit_zero + value_from 0 (take (suc k) ds) % 10 ≡ get_or ds k 0
  value_last_digit k h = rw (value_next ds k h) (omega (arith, digit_at ds k digits h))

  pub value_below : (k : ℕ) → k ≤ length ds → value_from 0 (take k ds) < 10 ^ k
  unfolding value_from
  value_below zero h = omega arith
  value_below (suc k) h =
      rw (value_next ds k h) (omega (arith, pow-suc 10 k, value_below k (omega arith), digit_at ds k digits h))

  -- without a leading zero, two digits or more are a number of ten or more
  value_some : (k : ℕ) → k < length ds → (get_or ds 0 0 ≡ digit_zero → ⊥) → 1 ≤ value_from 0 (take (suc k) ds)
  unfolding value_from
  value_some zero h z = rw (value_next ds 0 h) (omega (arith, digit_at ds 0 digits h, z))
  value_some (suc k) h z = rw (value_next ds (suc k) h) (omega (arith, value_some k (omega arith) z))

  pub value_ten : (k : ℕ) → suc k < length ds → leading_zero ds ≡ false → 10 ≤ value_from 0 (take (suc (suc k)) ds)
  value_ten k h z =
      rw (value_next ds (suc k) h) (omega (arith, value_some k (omega arith) (leading_digit ds z (omega arith))))

  -- and the digits up to a place are those of their number
  digits_again : (k f : ℕ) → k ≤ f → k < length ds → leading_zero ds ≡ false → digits_within f (value_from 0 (take (suc k) ds)) ≡ take (suc k) ds
  unfolding value_from
  digits_again zero f a h z =
      let d = digit_at ds 0 digits h in
      let v : value_from 0 (take 1 ds) ≡ get_or ds 0 0 - digit_zero = value_next ds 0 h ∙ omega arith in
      let e : digit_zero + (get_or ds 0 0 - digit_zero) ≡ get_or ds 0 0 = omega arith in
      rw (v, one_digit f (get_or ds 0 0 - digit_zero) (omega arith), e) (sym (take-suc ds 0 0 h))
  digits_again (suc k) zero a h z = absurd (not-suc-le-zero a)
  digits_again (suc k) (suc f) a h z =
      let before = digits_again k f (le_of_suc-le-suc a) (omega arith) z in
      rw (more_digits f (value_from 0 (take (suc (suc k)) ds)) (value_ten k h z), value_tenth (suc k) h, value_last_digit (suc k) h, before)
      (sym (take-suc ds (suc k) 0 h))

-- A field that is a number: what its tests say, its bound, and its digits again.
pub number_tests : (f : List ℕ) → is_number f ≡ true
    → (1 ≤ length f) × (all is_digit f ≡ true) × (leading_zero f ≡ false) × (length f ≤ most_digits)
unfolding is_number
number_tests f e =
    let a = both_true (not (empty f) && all is_digit f && not (leading_zero f)) (leb (length f) most_digits) e in
    let b = both_true (not (empty f) && all is_digit f) (not (leading_zero f)) a.0 in
    let c = both_true (not (empty f)) (all is_digit f) b.0 in
    (some_byte f (not-true (empty f) c.0), c.1, not-true (leading_zero f) b.1, leb-true (length f) most_digits a.1)
  where
    some_byte : (f : List ℕ) → empty f ≡ false → 1 ≤ length f
    some_byte [] e = absurd (false≢true (sym e))
    some_byte (b ∷ f) e = omega arith

pub number_below : (f : List ℕ) → is_number f ≡ true → value_from 0 f < 10 ^ most_digits
number_below f e =
    let t = number_tests f e in
    let b : value_from 0 f < 10 ^ length f = rw (take-length f) at (value_below f t.1 (length f) (omega arith)) in
    omega (arith, pow-le-pow_right {n = 10} (omega arith) {i = length f} {j = most_digits} t.3)

pub digits_of_value : (f : List ℕ) → is_number f ≡ true → digits_of (value_from 0 f) ≡ f
unfolding digits_of
digits_of_value f e =
    let t = number_tests f e in
    let all_of : suc (length f - 1) ≡ length f = omega arith in
    rw (all_of, take-length f) at
    (digits_again f t.1 (length f - 1) 19 (omega arith) (omega arith) t.2)

pub number_in_tells : (f : List ℕ) (n : ℕ) → number_in f ≡ some n → (n < 10 ^ most_digits) × (digits_of n ≡ f)
unfolding number_in
number_in_tells f n e = go (is_number f) refl e
  where
    go : (t : Bool) → is_number f ≡ t → only_if t (value_from 0 f) ≡ some n → (n < 10 ^ most_digits) × (digits_of n ≡ f)
    go true t q = let v : value_from 0 f ≡ n = cc in (rw v at (number_below f t), rw v at (digits_of_value f t))
    go false t q = let z : ◌≡◌ {A = ℕ} 0 1 = cc in absurd (omega arith)
