-- A row of numbers that is read from a place on is the numbers of the line's fields from there on: the digits at the place
-- and what stands behind them are the whole rest of the text, and the byte behind them decides whether they are a field, the
-- line's last field, or none. Assumes nothing.
use Rattle.std.proofs.Common.{◌≡◌, ℕ, zero, suc, ◌+◌, ◌<◌, ◌≤◌, Bool, true, false, cond, ◌&&◌, eqb, ltb, List, [], ◌∷◌, ◌++◌, length, get_or, drop, sym, refl, ap, ◌∙◌, add-one, arith, take-append-drop, drop_of_length-le, drop-cons, drop-drop, ltb-false, ltb-true, eqb-true}
use mathlib.Core.Option.{Option, none, some}
use Rattle.rules.specs.Lists.{all}
use Rattle.rules.specs.Answers.{good}
use Rattle.rules.specs.TableText.{and_more, is_digit, is_number, line_feed, nth, tab, value_from}
use Rattle.grammar.specs.FirstLine.{rest_of}
use Rattle.grammar.proofs.LineNumbers.{begins, exactly, no_number_line_feed, no_number_tab, number_line_feed, number_tab, numbers_from, rest_line_feed, rest_tab, some_field, stops}
use Rattle.laws.proofs.Tests.{both_true}
use Rattle.text.specs.Fields.{FieldsTold, behind_byte, front, is_good, line_behind, number_at, refused_field, row_at, stands_at}
use Rattle.text.specs.declared.Cursor.{Cursor}
use Rattle.text.proofs.Numbers.{front_digits, front_take}

-- the digits at a place, and what stands behind them
pub digits_stand : (text : List ℕ) (at : ℕ)
    → drop at text ≡ front (drop at text) ++ drop (at + length (front (drop at text))) text
digits_stand text at =
    let s = drop at text in
    let count = length (front s) in
    sym (rw (front_take s, drop-drop count at text) at (take-append-drop count s))

stops_by_test : (t : Bool) (b : ℕ) (ds bs : List ℕ) → is_digit b ≡ t → stops (drop (length ds) bs) ≡ true
    → stops (drop (length (cond t (b ∷ ds) [])) (b ∷ bs)) ≡ true
stops_by_test true b ds bs e h = h
stops_by_test false b ds bs e h = rw e

front_stops : (s : List ℕ) → stops (drop (length (front s)) s) ≡ true
unfolding front
front_stops [] = refl
front_stops (b ∷ bs) = stops_by_test (is_digit b) b (front bs) bs refl (front_stops bs)

-- a byte that stands at a place begins what stands there
stands_by_test : (t : Bool) (text : List ℕ) (at b : ℕ) → ltb at (length text) ≡ t → stands_at text at b ≡ begins b (drop at text)
stands_by_test true text at b e = rw (e, drop-cons text at 0 (ltb-true at (length text) e))
stands_by_test false text at b e = rw (e, drop_of_length-le text (ltb-false at (length text) e))

pub stands_begins : (text : List ℕ) (at b : ℕ) → stands_at text at b ≡ begins b (drop at text)
stands_begins text at b = stands_by_test (ltb at (length text)) text at b refl

pub stands : (text : List ℕ) (at b : ℕ) → stands_at text at b ≡ true → (at < length text) × (drop at text ≡ b ∷ drop (at + 1) text)
stands text at b h =
    let p = both_true (ltb at (length text)) (eqb (get_or text at 0) b) h in
    let inside = ltb-true at (length text) p.0 in
    (inside, rw (drop-cons text at 0 inside, eqb-true (get_or text at 0) b p.1, add-one))

-- The numbers from a place to the end of its line.
abbrev from : List ℕ → Cursor → Option (List ℕ)
from text place = numbers_from (drop place.at text)

abbrev rest_from : List ℕ → Cursor → List ℕ
rest_from text place = rest_of (drop place.at text)

-- The first number that was read.
abbrev first : FieldsTold → ℕ
first told = nth told.says.values 0

-- What a field ended by a tab says of them, by whether it is a number: it is the first, or there are not two.
abbrev GoesOn : Bool → List ℕ → Cursor → FieldsTold → Type 0
GoesOn true text place told =
    ((count : ℕ) → exactly (suc (suc count)) (from text place) ≡ and_more (some (first told)) (exactly (suc count) (from text told.next)))
    × (told.says.values ≡ first told ∷ [])
    × (rest_from text place ≡ rest_from text told.next)
    × (told.next.line ≡ place.line)
GoesOn false text place told = (count : ℕ) → exactly (suc (suc count)) (from text place) ≡ none

-- What a row of so many numbers says of them, by whether it is one: they are all the numbers to the end of the line, and the
-- reading stands behind it; or there are not so many.
abbrev pub RowRead : Bool → ℕ → List ℕ → Cursor → FieldsTold → Type 0
RowRead true count text place told =
    (exactly count (from text place) ≡ some told.says.values)
    × (rest_from text place ≡ drop told.next.at text)
    × (told.next.at ≤ length text)
    × (told.next.line ≡ line_behind line_feed place.line)
RowRead false count text place told = exactly count (from text place) ≡ none

-- the field of digits, by the test of `number_with`
abbrev number_if : Bool → ℕ → Cursor → List ℕ → FieldsTold
number_if t end place ds =
    cond t (record { says = good (value_from 0 ds ∷ []); next = behind_byte end (place.at + length ds) place }) (refused_field place)

module _ (text : List ℕ) (place : Cursor) (ds : List ℕ)
    (whole : drop place.at text ≡ ds ++ drop (place.at + length ds) text)
    (digits : all is_digit ds ≡ true)
    (ended : stops (drop (place.at + length ds) text) ≡ true) where
  goes_on : (t : Bool) → (is_number ds && stands_at text (place.at + length ds) tab) ≡ t
      → GoesOn (is_good (number_if t tab place ds)) text place (number_if t tab place ds)
  unfolding line_behind
  goes_on true h =
      let p = both_true (is_number ds) (stands_at text (place.at + length ds) tab) h in
      let rest = drop (place.at + length ds + 1) text in
      let q : drop place.at text ≡ ds ++ tab ∷ rest =
      whole ∙ ap (λ r. ds ++ r) (stands text (place.at + length ds) tab p.1).1 in (
        (λ count. ap (λ s. exactly (suc (suc count)) (numbers_from s)) q ∙ number_tab ds rest count digits p.0),
        refl,
        ap rest_of q ∙ rest_tab ds digits rest,
        refl,
      )
  goes_on false h = λ count.
      ap (λ s. exactly (suc (suc count)) (numbers_from s)) whole
      ∙ no_number_tab ds (drop (place.at + length ds) text) count digits ended
      (rw (stands_begins text (place.at + length ds) tab) at h)

  ends : (t : Bool) → (is_number ds && stands_at text (place.at + length ds) line_feed) ≡ t
      → RowRead (is_good (number_if t line_feed place ds)) 1 text place (number_if t line_feed place ds)
  ends true h =
      let p = both_true (is_number ds) (stands_at text (place.at + length ds) line_feed) h in
      let rest = drop (place.at + length ds + 1) text in
      let b = stands text (place.at + length ds) line_feed p.1 in
      let q : drop place.at text ≡ ds ++ line_feed ∷ rest = whole ∙ ap (λ r. ds ++ r) b.1 in (
        ap (λ s. exactly 1 (numbers_from s)) q ∙ number_line_feed ds rest digits p.0,
        ap rest_of q ∙ rest_line_feed ds digits rest,
        omega (arith, b.0),
        refl,
      )
  ends false h =
      ap (λ s. exactly 1 (numbers_from s)) whole
      ∙ no_number_line_feed ds (drop (place.at + length ds) text) digits ended
      (rw (stands_begins text (place.at + length ds) line_feed) at h)

module _ (text : List ℕ) (place : Cursor) where
  ended : stops (drop (place.at + length (front (drop place.at text))) text) ≡ true
  ended =
      let s = drop place.at text in
      rw (drop-drop (length (front s)) place.at text) at (front_stops s)

  number_goes_on : GoesOn (is_good (number_at text place tab)) text place (number_at text place tab)
  unfolding number_at
  number_goes_on =
      let s = drop place.at text in
      goes_on text place (front s) (digits_stand text place.at) (front_digits s) ended
      (is_number (front s) && stands_at text (place.at + length (front s)) tab) refl

  number_ends : RowRead (is_good (number_at text place line_feed)) 1 text place (number_at text place line_feed)
  unfolding number_at
  number_ends =
      let s = drop place.at text in
      ends text place (front s) (digits_stand text place.at) (front_digits s) ended
      (is_number (front s) && stands_at text (place.at + length (front s)) line_feed) refl

-- a field and those behind it, by the tests of `both_told`
abbrev both_if : Bool → Cursor → FieldsTold → FieldsTold → FieldsTold
both_if t place a b = cond t (record { says = good (a.says.values ++ b.says.values); next = b.next }) (refused_field place)

row_by_tests : (t u : Bool) (count : ℕ) (text : List ℕ) (place : Cursor) (a b : FieldsTold)
    → GoesOn t text place a → RowRead u (suc count) text a.next b
    → RowRead (is_good (both_if (t && u) place a b)) (suc (suc count)) text place (both_if (t && u) place a b)
unfolding and_more
row_by_tests true true count text place a b g k =
    rw g.1 (g.0 count ∙ ap (and_more (some (first a))) k.0, g.2 ∙ k.1, k.2, k.3 ∙ ap (line_behind line_feed) g.3)
row_by_tests true false count text place a b g k = g.0 count ∙ ap (and_more (some (first a))) k
row_by_tests false u count text place a b g k = g count

pub row_read : (count : ℕ) (text : List ℕ) (place : Cursor)
    → RowRead (is_good (row_at count text place)) count text place (row_at count text place)
unfolding row_at
row_read zero text place = some_field (drop place.at text)
row_read (suc zero) text place = number_ends text place
row_read (suc (suc more)) text place =
    let a = number_at text place tab in
    let b = row_at (suc more) text a.next in
    row_by_tests (is_good a) (is_good b) more text place a b (number_goes_on text place) (row_read (suc more) text a.next)
