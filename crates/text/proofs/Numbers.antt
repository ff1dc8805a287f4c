-- The digits at the front of a text and the number that they stand for, byte by byte from a place on: each law says what
-- one byte more does, by the definition. Assumes nothing.
use Rattle.std.proofs.Common.{◌≡◌, ℕ, zero, suc, ◌+◌, ◌-◌, ◌*◌, ◌^◌, ◌<◌, ◌≤◌, Bool, true, false, cond, ◌&&◌, eqb, ltb, leb, List, [], ◌∷◌, length, get_or, take, drop, sym, refl, ap, ◌∙◌, pow-suc, add-one, arith, drop_of_length-le, drop-cons, ltb-false, ltb-true, le-ltb, lt-ltb, eq-eqb, ne_eqb, le-leb, leb-false, leb-true}
use mathlib.Core.Bool.{and-false}
use native.Mathlib.Nat.{pow-le-pow_right}
use borrow.Author.Tests.{lt-leb}
use Rattle.rules.specs.Lists.{all}
use Rattle.rules.specs.TableText.{digit_zero, is_digit, is_number, leading_zero, most_digits, value_from}
use Rattle.std.specs.Prelude.{Option, Some, None}
use Rattle.text.specs.declared.Run.{Run}
use Rattle.text.specs.Fields.{RunRead, front, most_from}

-- a byte from `0` to `9` is a digit, and any other is none
digit_by_tests : (t u : Bool) (b : ℕ) → leb 48 b ≡ t → leb b 57 ≡ u → (48 ≤ b → b ≤ 57 → true ≡ false) → (t && u) ≡ false
digit_by_tests true true b e f outside = outside (leb-true 48 b e) (leb-true b 57 f)
digit_by_tests true false b e f outside = refl
digit_by_tests false u b e f outside = refl

pub no_digit : (b : ℕ) → (48 ≤ b → b ≤ 57 → true ≡ false) → is_digit b ≡ false
unfolding is_digit
no_digit b outside = digit_by_tests (leb 48 b) (leb b 57) b refl refl outside

pub a_digit : (b n : ℕ) → b ≡ digit_zero + n → n ≤ 9 → is_digit b ≡ true
unfolding is_digit
a_digit b n e h = rw (le-leb 48 b (omega arith), le-leb b 57 (omega arith))

-- the front of a text from a place on, by the byte there
pub front_none : (s : List ℕ) (i : ℕ) → length s ≤ i → front (drop i s) ≡ []
unfolding front
front_none s i h = rw (drop_of_length-le s h)

pub front_stops : (s : List ℕ) (i : ℕ) → i < length s → is_digit (get_or s i 0) ≡ false → front (drop i s) ≡ []
unfolding front
front_stops s i h other = rw (drop-cons s i 0 h, other)

front_more : (s : List ℕ) (i : ℕ) → i < length s → is_digit (get_or s i 0) ≡ true
    → front (drop i s) ≡ get_or s i 0 ∷ front (drop (i + 1) s)
unfolding front
front_more s i h digit = rw (drop-cons s i 0 h, digit, add-one)

-- So much of the digits at the front of a text is read: `count` of them, with their value, and going on from there
-- gives the whole.
pub record Begun (s : List ℕ) (count value : ℕ) : Type 0 where
  pub counted : length (front s) ≡ count + length (front (drop count s))
  pub valued : value_from 0 (front s) ≡ value_from value (front (drop count s))
  pub small : value < 10 ^ count

pub begun_none : (s : List ℕ) → Begun s 0 0
begun_none s = record { counted = omega arith; valued = refl; small = omega arith }

pub begun_more : (s : List ℕ) (i v n : ℕ) → Begun s i v → i < length s → get_or s i 0 ≡ digit_zero + n → n ≤ 9
    → Begun s (i + 1) (v * 10 + n)
unfolding value_from
begun_more s i v n b h e few =
    let more = front_more s i h (a_digit (get_or s i 0) n e few) in
    let digit : get_or s i 0 - digit_zero ≡ n = omega arith in
    record {
      counted = omega (arith, ap length more);
      valued = b.valued ∙ (ap (value_from v) more ∙ ap (λ d. value_from (v * 10 + d) (front (drop (i + 1) s))) digit);
      small = rw (add-one, pow-suc) (omega arith);
    }

-- up to the last digit that a number has, one more fits 64 bits
pub begun_small : (s : List ℕ) (i v : ℕ) → Begun s i v → i ≤ most_digits → v < 10 ^ most_digits
begun_small s i v b h =
    let more : 10 ^ i ≤ 10 ^ most_digits = pow-le-pow_right (omega arith) h in
    omega arith

-- a byte that is no digit ends them
pub begun_ended : (s : List ℕ) (end i v : ℕ) → Begun s i v → i < length s → i < end → is_digit (get_or s i 0) ≡ false
    → RunRead (ltb (length (front s)) end) s (Some (record { count = i; value = v; end = get_or s i 0 }))
unfolding value_from
begun_ended s end i v b inside early other =
    let none = front_stops s i inside other in
    let counted : i ≡ length (front s) = omega (arith, b.counted, ap length none) in (
      lt-ltb (length (front s)) end (omega arith),
      counted,
      sym (b.valued ∙ ap (value_from v) none),
      rw (lt-ltb i (length s) inside) (eq-eqb (get_or s i 0) (get_or s i 0) refl),
    )

pub begun_unended : (s : List ℕ) (end v : ℕ) → Begun s end v → RunRead (ltb (length (front s)) end) s None
begun_unended s end v b = λ e. rw (le-ltb (length (front s)) end (omega (arith, b.counted)))

-- Digits that are read as far as one byte behind so many are read if they are not more than these,
as_many_by_test : (t : Bool) (n most : ℕ) → leb n most ≡ t → ltb n (most + 1) ≡ t
as_many_by_test true n most e = lt-ltb n (most + 1) (omega (arith, leb-true n most e))
as_many_by_test false n most e = le-ltb n (most + 1) (omega (arith, leb-false n most e))

pub as_many : (n most : ℕ) → ltb n (most + 1) ≡ leb n most
as_many n most = as_many_by_test (leb n most) n most refl

-- and so are those that are read to the end of a text that has not more bytes.
outside_by_tests : (t u v : Bool) → (t && (t && v)) ≡ false → (u && (t && v)) ≡ false
outside_by_tests true u v h = rw h (and-false u)
outside_by_tests false u v h = and-false u

pub whole_read : (s : List ℕ) (most : ℕ) (r : Option Run) → length s ≤ most → RunRead (ltb (length (front s)) (length s)) s r
    → RunRead (leb (length (front s)) most) s r
whole_read s most (Some run) h read =
    (le-leb (length (front s)) most (omega (arith, ltb-true (length (front s)) (length s) read.0)), read.1, read.2, read.3)
whole_read s most None h none = λ end.
    outside_by_tests (ltb (length (front s)) (length s)) (leb (length (front s)) most) (eqb (get_or s (length (front s)) 0) end)
    (none end)

-- the front of a text is digits, and the text begins with it
module _ (b : ℕ) (bs ds : List ℕ) where
  all_by_test : (t : Bool) → is_digit b ≡ t → all is_digit ds ≡ true → all is_digit (cond t (b ∷ ds) []) ≡ true
  all_by_test true e h = rw (e, h)
  all_by_test false e h = refl

  take_by_test : (t : Bool) → take (length ds) bs ≡ ds → take (length (cond t (b ∷ ds) [])) (b ∷ bs) ≡ cond t (b ∷ ds) []
  take_by_test true h = rw h
  take_by_test false h = refl

pub front_digits : (s : List ℕ) → all is_digit (front s) ≡ true
unfolding front
front_digits [] = refl
front_digits (b ∷ bs) = all_by_test b bs (front bs) (is_digit b) refl (front_digits bs)

pub front_take : (s : List ℕ) → take (length (front s)) s ≡ front s
unfolding front
front_take [] = refl
front_take (b ∷ bs) = take_by_test b bs (front bs) (is_digit b) (front_take bs)

-- Digits are a number by their count and the first: a number that begins with 0 has one digit.
module _ (b : ℕ) (digit : is_digit b ≡ true) where
  zero_number : (ds : List ℕ) → all is_digit ds ≡ true → b ≡ digit_zero → is_number (b ∷ ds) ≡ leb (length (b ∷ ds)) 1
  unfolding is_number leading_zero
  zero_number [] e z = rw (digit, eq-eqb b digit_zero z)
  zero_number (d ∷ ds) e z = rw (digit, e, eq-eqb b digit_zero z, lt-leb (length (b ∷ (d ∷ ds))) 1 (omega arith))

  other_number : (ds : List ℕ) → all is_digit ds ≡ true → eqb b digit_zero ≡ false
      → is_number (b ∷ ds) ≡ leb (length (b ∷ ds)) most_digits
  unfolding is_number leading_zero
  other_number ds e z = rw (digit, e, z)

module _ (s : List ℕ) (i : ℕ) (h : i < length s) where
  pub front_zero : get_or s i 0 ≡ digit_zero → is_number (front (drop i s)) ≡ leb (length (front (drop i s))) 1
  front_zero e =
      let digit = a_digit (get_or s i 0) 0 (omega arith) (omega arith) in
      rw (front_more s i h digit) (zero_number (get_or s i 0) digit (front (drop (i + 1) s)) (front_digits (drop (i + 1) s)) e)

  pub front_other : (n : ℕ) → get_or s i 0 ≡ digit_zero + n → 1 ≤ n → n ≤ 9
      → is_number (front (drop i s)) ≡ leb (length (front (drop i s))) most_digits
  front_other n e l k =
      let digit = a_digit (get_or s i 0) n e k in
      rw (front_more s i h digit)
      (other_number (get_or s i 0) digit (front (drop (i + 1) s)) (front_digits (drop (i + 1) s))
      (ne_eqb (get_or s i 0) digit_zero (λ z. omega arith)))

  pub front_number : (n : ℕ) → get_or s i 0 ≡ digit_zero + n → n ≤ 9
      → is_number (front (drop i s)) ≡ leb (length (front (drop i s))) (most_from n)
  unfolding most_from
  front_number zero e k = front_zero (omega arith)
  front_number (suc n) e k = rw (ne_eqb (suc n) 0 (λ z. omega arith)) (front_other (suc n) e (omega arith) k)

-- so many bytes and more stand from a place on
room_by_test : (t : Bool) (length at most : ℕ) → most < length → ltb at (length - most) ≡ t → t ≡ ltb (at + most) length
room_by_test true length at most h e = sym (lt-ltb (at + most) length (omega (arith, ltb-true at (length - most) e)))
room_by_test false length at most h e = sym (le-ltb (at + most) length (omega (arith, ltb-false at (length - most) e)))

pub room : (length at most : ℕ) → most < length → ltb at (length - most) ≡ ltb (at + most) length
room length at most h = room_by_test (ltb at (length - most)) length at most h refl
