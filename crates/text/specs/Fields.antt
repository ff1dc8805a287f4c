-- Document 01, "The table text": "While the text is read, a field is either a number or the refusal of its line, and the
-- reading place moves on with each field taken."
use Rattle.std.specs.Prelude.{Option, Some, None, Result, Ok, Err, ◌≡◌, ℕ, zero, suc, ◌+◌, ◌<◌, ◌≤◌, Bool, true, false, cond, ◌&&◌, List, [], ◌∷◌, ◌++◌, length, drop, ◌==◌, nat_lt, slice_index}
use Rattle.rules.specs.Answers.{Answer, field_says, good, refused}
use Rattle.rules.specs.TableText.{digit_zero, is_digit, is_letter, is_number, line_feed, most_digits, tab, value_from}
use Rattle.rules.specs.declared.Refusal.{Refusal}
use Rattle.rules.specs.declared.Refused.{Refused}
use Rattle.text.specs.declared.Cursor.{Cursor}
use Rattle.text.specs.declared.Run.{Run}
use Rattle.text.specs.declared.FieldTaken.{FieldTaken}

-- the digits that stand at the front of a text
unfoldable pub front : List ℕ → List ℕ
front [] = []
front (b ∷ bs) = cond (is_digit b) (b ∷ front bs) []

-- the byte b stands at a place of the text
abbrev pub stands_at : List ℕ → ℕ → ℕ → Bool
stands_at text at b = nat_lt at (length text) && slice_index text at == b

-- how many digits a number has at most, by the first: 0 has one, and no other number begins with it
unfoldable pub most_from : ℕ → ℕ
most_from first = cond (first == 0) 1 most_digits

-- a byte read as a digit, or as none
abbrev pub DigitRead : ℕ → Option ℕ → Type 0
DigitRead byte (Some digit) = (digit ≤ 9) × (byte ≡ digit_zero + digit)
DigitRead byte None = is_digit byte ≡ false

-- What reading the digits at the front of a text promises, where a test says whether they are as wanted: if a byte ends them,
-- they are, with their count and the number that they stand for; if none does, they are not, or the text ends behind them.
abbrev pub RunRead : Bool → List ℕ → Option Run → Type 0
RunRead wanted text (Some digits) =
    (wanted ≡ true)
    × (digits.count ≡ length (front text))
    × (digits.value ≡ value_from 0 (front text))
    × (stands_at text digits.count digits.end ≡ true)
RunRead wanted text None = (end : ℕ) → (wanted && stands_at text (length (front text)) end) ≡ false

-- What is told of fields that stand at a place: their values, or number and line of the refusal; and the place behind them.
pub record FieldsTold : Type 0 where
  pub says : Answer
  pub next : Cursor

-- a field that is taken, in document 01's numbers
abbrev pub taken_says : FieldTaken → FieldsTold
taken_says taken = record { says = field_says taken.field; next = taken.next }

-- The line behind the byte that ends a field: behind a line feed it is the next. The greatest number of a line stays; no
-- text has as many lines.
abbrev pub most_line : ℕ
most_line = 18446744073709551615

unfoldable pub line_behind : ℕ → ℕ → ℕ
line_behind end line = cond (end == line_feed && nat_lt line most_line) (line + 1) line

-- the reading place behind the byte `end`, which stands at `at`
abbrev pub behind_byte : ℕ → ℕ → Cursor → Cursor
behind_byte end at place = record { at = at + 1; line = line_behind end place.line }

-- the refusal of its line; the reading place stays where it was
abbrev pub refused_field : Cursor → FieldsTold
refused_field place = record { says = refused Refusal.Shape place.line []; next = place }

-- the digits at a place, if they are a number and the byte `end` stands behind them
abbrev pub number_with : List ℕ → Cursor → ℕ → List ℕ → FieldsTold
number_with text place end digits =
    cond (is_number digits && stands_at text (place.at + length digits) end)
    (record { says = good (value_from 0 digits ∷ []); next = behind_byte end (place.at + length digits) place })
    (refused_field place)

-- the number that stands at a place and is ended by the byte `end`
unfoldable pub number_at : List ℕ → Cursor → ℕ → FieldsTold
number_at text place end = number_with text place end (front (drop place.at text))

-- digits that are read at a place, if the byte `end` is to stand behind them
abbrev pub run_says : Cursor → ℕ → Option Run → FieldsTold
run_says place end (Some digits) =
    cond (digits.end == end)
    (record { says = good (digits.value ∷ []); next = behind_byte end (place.at + digits.count) place })
    (refused_field place)
run_says place end None = refused_field place

-- What reading the digits at a place promises: by the byte behind them, all that is to be told of a number there.
pub record NumberRead (text : List ℕ) (place : Cursor) (r : Option Run) : Type 0 where
  pub says : (end : ℕ) → run_says place end r ≡ number_at text place end
  pub within : (digits : Run) → r ≡ Some digits → place.at + digits.count < length text

-- the letter of a record that stands at a place alone before a tab
unfoldable pub letter_at : List ℕ → Cursor → FieldsTold
letter_at text place =
    cond (stands_at text (place.at + 1) tab && is_letter (slice_index text place.at))
    (record { says = good (slice_index text place.at ∷ []); next = behind_byte tab (place.at + 1) place })
    (refused_field place)

-- a row that is taken from a place, with its numbers, in document 01's numbers; a refused one leaves the place where it was
abbrev pub row_says : Cursor → List ℕ → Result Cursor Refused → FieldsTold
row_says place numbers (Ok next) = record { says = good numbers; next = next }
row_says place numbers (Err r) = record { says = refused r.why r.line []; next = place }

-- number 0: nothing is refused
abbrev pub is_good : FieldsTold → Bool
is_good told = told.says.number == 0

-- what is told of a field and of those behind it: their values, or the refusal of the line that they begin in
abbrev pub both_told : Cursor → FieldsTold → FieldsTold → FieldsTold
both_told place first others =
    cond (is_good first && is_good others)
    (record { says = good (first.says.values ++ others.says.values); next = others.next })
    (refused_field place)

-- a row of so many numbers: all but the last are ended by a tab, and the last by the line feed; no line has none
unfoldable pub row_at : ℕ → List ℕ → Cursor → FieldsTold
row_at zero text place = refused_field place
row_at (suc zero) text place = number_at text place line_feed
row_at (suc (suc more)) text place =
    let first = number_at text place tab in
    both_told place first (row_at (suc more) text first.next)
