-- What is written of a number: the digits of its tenth, and one more, so each law goes by the digits before the last.
-- Below 10 ^ 20 nothing is cut off, and below 10 ^ 16 it is read again as that number. Assumes nothing.
use mathlib.Core.Path.{◌≡◌, refl, sym, ap, ◌∙◌}
use mathlib.Core.Bool.{Bool, true, false, false≢true, and-false}
use mathlib.Core.List.{List, [], ◌∷◌, ◌++◌}
use mathlib.Core.Option.{some}
use Prim.Native.Nat.{ℕ, zero, suc, ◌+◌, ◌-◌, ◌*◌, ◌/◌, ◌%◌, ◌^◌, ◌≤◌, ◌<◌}
use native.Mathlib.Nat.{le_of_suc-le-suc, not-suc-le-zero, pow-suc}
use native.Mathlib.Omega.{arith}
use borrow.Author.Tests.{le-leb, le-ltb, lt-ltb, ltb-true, ltb-false, ne_eqb}
use lib.Dec.{eqb, ltb}
use lib.ListN.{length, get_or, length-append, get_or-append}
use Rattle.laws.proofs.Tests.{both_true}
use Rattle.rules.specs.Lists.{all, any, empty}
use Rattle.rules.specs.TableText.{digit_zero, digits_of, digits_within, is_digit, is_number, leading_zero, line_feed, most_digits, number_in, tab, value_from}

-- A number below ten is one digit; any other has the digits of its tenth, and one more.
pub one_digit : (f n : ℕ) → n < 10 → digits_within f n ≡ (digit_zero + n) ∷ []
unfolding digits_within
one_digit zero n h = let e : n % 10 ≡ n = omega arith in rw e
one_digit (suc f) n h = rw (lt-ltb n 10 h)

pub more_digits : (f n : ℕ) → 10 ≤ n → digits_within (suc f) n ≡ digits_within f (n / 10) ++ (digit_zero + n % 10) ∷ []
unfolding digits_within
more_digits f n h = rw (le-ltb n 10 h)

-- what holds where one digit is written, and of a number where it holds of its tenth, holds of all
by_digits : (P : ℕ → ℕ → Type 0)
    → ((n : ℕ) → P 0 n)
    → ((f n : ℕ) → n < 10 → P (suc f) n)
    → ((f n : ℕ) → 10 ≤ n → P f (n / 10) → P (suc f) n)
    → (f n : ℕ) → P f n
by_digits P last one more zero n = last n
by_digits P last one more (suc f) n = go (ltb n 10) refl (by_digits P last one more f (n / 10))
  where
    go : (t : Bool) → ltb n 10 ≡ t → P f (n / 10) → P (suc f) n
    go true e tenth = one f n (ltb-true n 10 e)
    go false e tenth = more f n (ltb-false n 10 e) tenth

length_more : (f n : ℕ) → 10 ≤ n → length (digits_within (suc f) n) ≡ length (digits_within f (n / 10)) + 1
length_more f n h = rw (more_digits f n h) (length-append (digits_within f (n / 10)) ((digit_zero + n % 10) ∷ []))

some_within : (f n : ℕ) → 1 ≤ length (digits_within f n)
unfolding digits_within
some_within =
    by_digits (λ f n. 1 ≤ length (digits_within f n))
    (λ n. omega arith)
    (λ f n h. rw (one_digit (suc f) n h) (omega arith))
    (λ f n h i. rw (length_more f n h) (omega arith))

most_within : (f n : ℕ) → length (digits_within f n) ≤ suc f
unfolding digits_within
most_within =
    by_digits (λ f n. length (digits_within f n) ≤ suc f)
    (λ n. omega arith)
    (λ f n h. rw (one_digit (suc f) n h) (omega arith))
    (λ f n h i. rw (length_more f n h) (omega arith))

-- a number below 10 ^ (k + 1) has at most k + 1 digits
length_within : (k f n : ℕ) → k ≤ f → n < 10 ^ suc k → length (digits_within f n) ≤ suc k
length_within zero f n a h = rw (one_digit f n h) (omega arith)
length_within (suc k) zero n a h = absurd (not-suc-le-zero a)
length_within (suc k) (suc f) n a h =
    go (ltb n 10) refl (length_within k f (n / 10) (le_of_suc-le-suc a) (omega (arith, pow-suc 10 (suc k))))
  where
    go : (t : Bool) → ltb n 10 ≡ t → length (digits_within f (n / 10)) ≤ suc k → length (digits_within (suc f) n) ≤ suc (suc k)
    go true e i = rw (one_digit (suc f) n (ltb-true n 10 e)) (omega arith)
    go false e i = rw (length_more f n (ltb-false n 10 e)) (omega arith)

all_one_more : (p : ℕ → Bool) (ds : List ℕ) (d : ℕ) → all p ds ≡ true → p d ≡ true → all p (ds ++ d ∷ []) ≡ true
all_one_more p [] d e h = rw h
all_one_more p (x ∷ ds) d e h = let b = both_true (p x) (all p ds) e in rw b.0 (all_one_more p ds d b.1 h)

is-digit : (d : ℕ) → d < 10 → is_digit (digit_zero + d) ≡ true
unfolding is_digit
is-digit d h = rw (le-leb digit_zero (digit_zero + d) (omega arith), le-leb (digit_zero + d) (digit_zero + 9) (omega arith))

digits-within : (f n : ℕ) → all is_digit (digits_within f n) ≡ true
unfolding digits_within
digits-within =
    by_digits (λ f n. all is_digit (digits_within f n) ≡ true)
    (λ n. rw (is-digit (n % 10) (omega arith)))
    (λ f n h. rw (one_digit (suc f) n h, is-digit n h))
    (λ f n h i. rw (more_digits f n h) (all_one_more is_digit (digits_within f (n / 10)) (digit_zero + n % 10) i (is-digit (n % 10) (omega arith))))

pub value_one_more : (v : ℕ) (ds : List ℕ) (d : ℕ) → value_from v (ds ++ d ∷ []) ≡ value_from v ds * 10 + (d - digit_zero)
unfolding value_from
value_one_more v [] d = refl
value_one_more v (x ∷ ds) d = value_one_more (v * 10 + (x - digit_zero)) ds d

value_within : (f n : ℕ) → n < 10 ^ suc f → value_from 0 (digits_within f n) ≡ n
unfolding digits_within value_from
value_within =
    by_digits (λ f n. n < 10 ^ suc f → value_from 0 (digits_within f n) ≡ n)
    (λ n b. omega arith)
    (λ f n h b. rw (one_digit (suc f) n h) (omega arith))
    (λ f n h i b.
    rw (more_digits f n h, value_one_more 0 (digits_within f (n / 10)) (digit_zero + n % 10), i (omega (arith, pow-suc 10 (suc f))))
    (omega arith))

-- the first digit of a number is no zero but of the number 0
first_within : (f n : ℕ) → n < 10 ^ suc f → 1 ≤ n → get_or (digits_within f n) 0 0 ≡ digit_zero → ⊥
unfolding digits_within
first_within =
    by_digits (λ f n. n < 10 ^ suc f → 1 ≤ n → get_or (digits_within f n) 0 0 ≡ digit_zero → ⊥)
    (λ n b p z. omega arith)
    (λ f n h b p z. let y : digit_zero + n ≡ digit_zero = rw (one_digit (suc f) n h) at z in omega arith)
    (λ f n h i b p z.
    let ds = digits_within f (n / 10) in
    i (omega (arith, pow-suc 10 (suc f))) (omega arith)
    (sym (get_or-append ds ((digit_zero + n % 10) ∷ []) 0 0 (some_within f (n / 10))) ∙ rw (more_digits f n h) at z))

no_leading_zero : (ds : List ℕ) → (1 < length ds → get_or ds 0 0 ≡ digit_zero → ⊥) → leading_zero ds ≡ false
unfolding leading_zero
no_leading_zero [] h = refl
no_leading_zero (b ∷ []) h = and-false (eqb b digit_zero)
no_leading_zero (b ∷ (c ∷ ds)) h = rw (ne_eqb b digit_zero (h (omega arith)))

not_empty : (ds : List ℕ) → 1 ≤ length ds → empty ds ≡ false
not_empty [] h = absurd (not-suc-le-zero h)
not_empty (b ∷ ds) h = refl

-- What is written of a number: some digits, at most 20, and at most k below 10 ^ k.
pub digits_of_digits : (n : ℕ) → all is_digit (digits_of n) ≡ true
unfolding digits_of
digits_of_digits n = digits-within 19 n

pub digits_of_some : (n : ℕ) → 1 ≤ length (digits_of n)
unfolding digits_of
digits_of_some n = some_within 19 n

pub digits_of_not_empty : (n : ℕ) → empty (digits_of n) ≡ false
digits_of_not_empty n = not_empty (digits_of n) (digits_of_some n)

pub digits_of_at_most_20 : (n : ℕ) → length (digits_of n) ≤ 20
unfolding digits_of
digits_of_at_most_20 n = most_within 19 n

pub digits_of_length : (k n : ℕ) → 1 ≤ k → k ≤ 20 → n < 10 ^ k → length (digits_of n) ≤ k
unfolding digits_of
digits_of_length zero n a b h = absurd (not-suc-le-zero a)
digits_of_length (suc k) n a b h = length_within k 19 n (le_of_suc-le-suc b) h

-- Below 10 ^ 20 their number is the number that was written, and there is no leading zero.
pub value_digits_of : (n : ℕ) → n < 10 ^ 20 → value_from 0 (digits_of n) ≡ n
unfolding digits_of
value_digits_of n h = value_within 19 n h

pub digits_of_no_leading_zero : (n : ℕ) → n < 10 ^ 20 → leading_zero (digits_of n) ≡ false
unfolding digits_of
digits_of_no_leading_zero n h = go (ltb n 10) refl
  where
    go : (t : Bool) → ltb n 10 ≡ t → leading_zero (digits_within 19 n) ≡ false
    go true e = rw (one_digit 19 n (ltb-true n 10 e)) (no_leading_zero ((digit_zero + n) ∷ []) (λ l. absurd (omega arith)))
    go false e = no_leading_zero (digits_within 19 n) (λ l z. first_within 19 n h (omega (arith, ltb-false n 10 e)) z)

-- Digits hold no byte that is no digit.
pub digits_without : (b : ℕ) (ds : List ℕ) → is_digit b ≡ false → all is_digit ds ≡ true → any (λ d. eqb d b) ds ≡ false
digits_without b [] other e = refl
digits_without b (d ∷ ds) other e =
    let h = both_true (is_digit d) (all is_digit ds) e in
    rw (ne_eqb d b (λ q. false≢true (sym other ∙ ap is_digit (sym q) ∙ h.0)), digits_without b ds other h.1)

pub digits_of_no_tab : (n : ℕ) → any (λ d. eqb d tab) (digits_of n) ≡ false
unfolding is_digit
digits_of_no_tab n = digits_without tab (digits_of n) refl (digits_of_digits n)

pub digits_of_no_line_feed : (n : ℕ) → any (λ d. eqb d line_feed) (digits_of n) ≡ false
unfolding is_digit
digits_of_no_line_feed n = digits_without line_feed (digits_of n) refl (digits_of_digits n)

-- What is written of a number that has at most 16 digits is read as that number.
pub is_number_digits_of : (n : ℕ) → n < 10 ^ most_digits → is_number (digits_of n) ≡ true
unfolding is_number
is_number_digits_of n h =
    let long : length (digits_of n) ≤ most_digits = digits_of_length most_digits n (omega arith) (omega arith) h in
    rw (digits_of_not_empty n, digits_of_digits n, digits_of_no_leading_zero n (omega arith), le-leb (length (digits_of n)) most_digits long)

pub number_in_digits_of : (n : ℕ) → n < 10 ^ most_digits → number_in (digits_of n) ≡ some n
unfolding number_in
number_in_digits_of n h = rw (is_number_digits_of n h, value_digits_of n (omega arith))
