-- The numbers of a text's first line, field by field: digits ended by a tab are one field, digits ended by the line feed the
-- last, and digits ended otherwise are no number, so the line holds none. So a reader that takes one number after the other
-- meets the numbers that the line holds, and their count. Assumes nothing.
use mathlib.Core.Path.{◌≡◌, refl}
use mathlib.Core.Bool.{Bool, true, false, cond, not, ◌&&◌, and-false, and-true}
use mathlib.Core.List.{List, [], ◌∷◌, ◌++◌, append-nil}
use mathlib.Core.Option.{Option, none, some, none-ne-some}
use Prim.Native.Nat.{ℕ, suc}
use borrow.Author.Tests.{eqb-true, not-true}
use lib.Dec.{eqb, eqb-suc-suc, eqb-suc-zero, eqb-zero-suc}
use lib.ListN.{length}
use Rattle.rules.specs.Lists.{all, only_if}
use Rattle.rules.specs.TableText.{and_more, field_count, fields_of, is_digit, is_number, line_feed, number_in, numbers_in, record_of, tab, value_from, with_numbers}
use Rattle.grammar.specs.FirstLine.{behind, has, rest_of, up_to}
use Rattle.grammar.proofs.Decimal.{digits_without}
use Rattle.grammar.proofs.Parts.{parts, parts_more, parts_one, parts_onto, passed}

-- The numbers of the first line's fields, if each is one and a line feed ends the line.
unfoldable pub numbers_from : List ℕ → Option (List ℕ)
numbers_from s = cond (has line_feed s) (numbers_in (fields_of (up_to line_feed s))) none

all_onto : (ds : List ℕ) (b : ℕ) (r : List ℕ) → is_digit b ≡ false → all is_digit (ds ++ b ∷ r) ≡ false
all_onto [] b r n = rw n
all_onto (d ∷ ds) b r n = rw (all_onto ds b r n, and-false)

no_number : (f : List ℕ) → all is_digit f ≡ false → number_in f ≡ none
unfolding number_in is_number
no_number f h = rw (h, and-false)

cond_none : (t : Bool) (n : Option ℕ) (ns : Option (List ℕ)) → cond t (and_more n ns) none ≡ and_more n (cond t ns none)
unfolding and_more
cond_none true n ns = refl
cond_none false none ns = refl
cond_none false (some n) ns = refl

module _ (ds : List ℕ) (digits : all is_digit ds ≡ true) where
  no_tab : has tab ds ≡ false
  unfolding is_digit
  no_tab = digits_without tab ds refl digits

  no_line_feed : has line_feed ds ≡ false
  unfolding is_digit
  no_line_feed = digits_without line_feed ds refl digits

  -- digits with nothing behind them are no line
  pub digits_end : numbers_from ds ≡ none
  unfolding numbers_from
  digits_end = rw no_line_feed

  -- digits ended by a line feed are the line's last field
  pub digits_line_feed : (r : List ℕ) → numbers_from (ds ++ line_feed ∷ r) ≡ and_more (number_in ds) (some [])
  unfolding numbers_from fields_of up_to numbers_in
  digits_line_feed r =
      let p = passed line_feed ds (line_feed ∷ r) no_line_feed in
      rw (p.0, p.1, append-nil, parts_one tab ds no_tab)

  -- digits ended by a tab are a field, and the line goes on
  pub digits_tab : (r : List ℕ) → numbers_from (ds ++ tab ∷ r) ≡ and_more (number_in ds) (numbers_from r)
  unfolding numbers_from fields_of up_to numbers_in
  digits_tab r =
      let p = passed line_feed ds (tab ∷ r) no_line_feed in
      rw (p.0, p.1, parts_more tab ds (up_to line_feed r) no_tab) (cond_none (has line_feed r) (number_in ds) (numbers_in (fields_of (up_to line_feed r))))

  pub rest_line_feed : (r : List ℕ) → rest_of (ds ++ line_feed ∷ r) ≡ r
  unfolding rest_of behind
  rest_line_feed r = (passed line_feed ds (line_feed ∷ r) no_line_feed).2

  pub rest_tab : (r : List ℕ) → rest_of (ds ++ tab ∷ r) ≡ rest_of r
  unfolding rest_of behind
  rest_tab r = (passed line_feed ds (tab ∷ r) no_line_feed).2

  -- digits ended otherwise are no number
  pub digits_other : (b : ℕ) (r : List ℕ) → is_digit b ≡ false → eqb b tab ≡ false → eqb b line_feed ≡ false
      → numbers_from (ds ++ b ∷ r) ≡ none
  unfolding numbers_from fields_of up_to numbers_in and_more
  digits_other b r n t l =
      let p = passed line_feed ds (b ∷ r) no_line_feed in
      let m = up_to line_feed r in
      rw (p.0, p.1, l, parts_onto tab ds (b ∷ m) no_tab, t, no_number (ds ++ b ∷ up_to tab m) (all_onto ds b (up_to tab m) n))
      (cond_none (has line_feed r) none none)

-- the numbers of a line, if there are so many
unfoldable pub exactly : ℕ → Option (List ℕ) → Option (List ℕ)
exactly count none = none
exactly count (some ns) = only_if (eqb (length ns) count) ns

length_by_test : (t : Bool) (count : ℕ) (ms ns : List ℕ) → eqb (length ms) count ≡ t → only_if t ms ≡ some ns → length ns ≡ count
length_by_test true count ms ns e h = let same : ms ≡ ns = cc in rw (← same) (eqb-true (length ms) count e)
length_by_test false count ms ns e h = absurd (none-ne-some ns h)

pub exactly_length : (count : ℕ) (o : Option (List ℕ)) (ns : List ℕ) → exactly count o ≡ some ns → length ns ≡ count
unfolding exactly
exactly_length count none ns h = absurd (none-ne-some ns h)
exactly_length count (some ms) ns h = length_by_test (eqb (length ms) count) count ms ns refl h

-- one number before the others
more_numbers_by_test : (t : Bool) (n : ℕ) (ns : List ℕ) → only_if t (n ∷ ns) ≡ and_more (some n) (only_if t ns)
unfolding and_more
more_numbers_by_test true n ns = refl
more_numbers_by_test false n ns = refl

pub exactly_more : (count n : ℕ) (ns : Option (List ℕ)) → exactly (suc count) (and_more (some n) ns) ≡ and_more (some n) (exactly count ns)
unfolding exactly and_more
exactly_more count n none = refl
exactly_more count n (some ns) = rw (eqb-suc-suc (length ns) count) (more_numbers_by_test (eqb (length ns) count) n ns)

-- "letter, field count": as many numbers as the letter table has make the line's record, and others none
count_by_test : (t : Bool) (letter : ℕ) (ns : List ℕ) → eqb (length ns) (field_count letter) ≡ t
    → with_numbers letter (only_if t ns) ≡ record_of letter ns
unfolding with_numbers record_of
count_by_test true letter ns e = refl
count_by_test false letter ns e = rw e

pub count_decides : (letter : ℕ) (ns : Option (List ℕ))
    → with_numbers letter (exactly (field_count letter) ns) ≡ with_numbers letter ns
unfolding with_numbers exactly
count_decides letter none = refl
count_decides letter (some ns) = count_by_test (eqb (length ns) (field_count letter)) letter ns refl

-- Digits and what stands behind them: the byte that ends them decides.
abbrev pub begins : ℕ → List ℕ → Bool
begins b [] = false
begins b (x ∷ r) = eqb x b

-- no digit stands at the front
abbrev pub stops : List ℕ → Bool
stops [] = true
stops (x ∷ r) = not (is_digit x)

-- where digits stop: at a tab, at a line feed, or elsewhere, and then they are no line's first field
data Stop (ds : List ℕ) : List ℕ → Type 0 where
  at_tab : (r : List ℕ) → Stop ds (tab ∷ r)
  at_line_feed : (r : List ℕ) → Stop ds (line_feed ∷ r)
  elsewhere : (r : List ℕ) → numbers_from (ds ++ r) ≡ none → Stop ds r

stop_by_test : (v w : Bool) (ds : List ℕ) (b : ℕ) (r : List ℕ) → all is_digit ds ≡ true → is_digit b ≡ false
    → eqb b tab ≡ v → eqb b line_feed ≡ w → Stop ds (b ∷ r)
stop_by_test true w ds b r digits n e f = rw (eqb-true b tab e) (at_tab r)
stop_by_test false true ds b r digits n e f = rw (eqb-true b line_feed f) (at_line_feed r)
stop_by_test false false ds b r digits n e f = elsewhere (b ∷ r) (digits_other ds digits b r n e f)

stop : (ds r : List ℕ) → all is_digit ds ≡ true → stops r ≡ true → Stop ds r
stop ds [] digits h = elsewhere [] (rw append-nil (digits_end ds digits))
stop ds (b ∷ r) digits h =
    stop_by_test (eqb b tab) (eqb b line_feed) ds b r digits (not-true (is_digit b) h) refl refl

number_is : (ds : List ℕ) → is_number ds ≡ true → number_in ds ≡ some (value_from 0 ds)
unfolding number_in
number_is ds h = rw h

number_not : (ds : List ℕ) → (is_number ds && true) ≡ false → number_in ds ≡ none
unfolding number_in
number_not ds h = rw (rw and-true at h)

exactly_none : (count : ℕ) → exactly count none ≡ none
unfolding exactly
exactly_none count = refl

-- one number is not two or more
exactly_last : (count : ℕ) (n : Option ℕ) → exactly (suc (suc count)) (and_more n (some [])) ≡ none
unfolding exactly and_more
exactly_last count none = refl
exactly_last count (some n) = rw (eqb-suc-suc 0 (suc count), eqb-zero-suc count)

-- one number and more are not none
exactly_zero : (n : Option ℕ) (ns : Option (List ℕ)) → exactly 0 (and_more n ns) ≡ none
unfolding exactly and_more
exactly_zero none ns = refl
exactly_zero (some n) none = refl
exactly_zero (some n) (some ns) = rw (eqb-suc-zero (length ns))

some_number : (t : Bool) (l : List ℕ) → exactly 0 (cond t (numbers_in (fields_of l)) none) ≡ none
unfolding exactly fields_of numbers_in
some_number true l = rw (parts tab l) (exactly_zero _ _)
some_number false l = refl

-- no line has no field
pub some_field : (s : List ℕ) → exactly 0 (numbers_from s) ≡ none
unfolding numbers_from
some_field s = some_number (has line_feed s) (up_to line_feed s)

exactly_first : (n : Option ℕ) (s : List ℕ) → exactly 1 (and_more n (numbers_from s)) ≡ none
unfolding and_more
exactly_first none s = exactly_none 1
exactly_first (some n) s = rw (exactly_more 0 n (numbers_from s), some_field s)

-- A number ended by a tab stands before the numbers behind it.
pub number_tab : (ds r : List ℕ) (count : ℕ) → all is_digit ds ≡ true → is_number ds ≡ true
    → exactly (suc (suc count)) (numbers_from (ds ++ tab ∷ r))
    ≡ and_more (some (value_from 0 ds)) (exactly (suc count) (numbers_from r))
number_tab ds r count digits h =
    rw (digits_tab ds digits r, number_is ds h) (exactly_more (suc count) (value_from 0 ds) (numbers_from r))

-- A number ended by a line feed is the line's last.
pub number_line_feed : (ds r : List ℕ) → all is_digit ds ≡ true → is_number ds ≡ true
    → exactly 1 (numbers_from (ds ++ line_feed ∷ r)) ≡ some (value_from 0 ds ∷ [])
unfolding exactly and_more
number_line_feed ds r digits h = rw (digits_line_feed ds digits r, number_is ds h)

-- Where no number stands that is ended by a tab, the line has not two numbers or more.
no_tab_by_stop : (count : ℕ) (ds r : List ℕ) → all is_digit ds ≡ true → Stop ds r → (is_number ds && begins tab r) ≡ false
    → exactly (suc (suc count)) (numbers_from (ds ++ r)) ≡ none
unfolding and_more
no_tab_by_stop count ds (_ ∷ _) digits (at_tab r) h = rw (digits_tab ds digits r, number_not ds h) (exactly_none (suc (suc count)))
no_tab_by_stop count ds (_ ∷ _) digits (at_line_feed r) h = rw (digits_line_feed ds digits r) (exactly_last count (number_in ds))
no_tab_by_stop count ds r digits (elsewhere _ e) h = rw e (exactly_none (suc (suc count)))

pub no_number_tab : (ds r : List ℕ) (count : ℕ) → all is_digit ds ≡ true → stops r ≡ true → (is_number ds && begins tab r) ≡ false
    → exactly (suc (suc count)) (numbers_from (ds ++ r)) ≡ none
no_number_tab ds r count digits n h = no_tab_by_stop count ds r digits (stop ds r digits n) h

-- Where no number stands that is ended by a line feed, the line has not one number.
no_line_feed_by_stop : (ds r : List ℕ) → all is_digit ds ≡ true → Stop ds r → (is_number ds && begins line_feed r) ≡ false
    → exactly 1 (numbers_from (ds ++ r)) ≡ none
unfolding and_more
no_line_feed_by_stop ds (_ ∷ _) digits (at_tab r) h = rw (digits_tab ds digits r) (exactly_first (number_in ds) r)
no_line_feed_by_stop ds (_ ∷ _) digits (at_line_feed r) h = rw (digits_line_feed ds digits r, number_not ds h) (exactly_none 1)
no_line_feed_by_stop ds r digits (elsewhere _ e) h = rw e (exactly_none 1)

pub no_number_line_feed : (ds r : List ℕ) → all is_digit ds ≡ true → stops r ≡ true → (is_number ds && begins line_feed r) ≡ false
    → exactly 1 (numbers_from (ds ++ r)) ≡ none
no_number_line_feed ds r digits n h = no_line_feed_by_stop ds r digits (stop ds r digits n) h
