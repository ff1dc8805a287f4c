-- Document 01, "The table text": "one reader keeps the text and the reading place together". What each call over a reader
-- promises, by the cursor's definitions: each promise says the whole value that is handed back.
use Rattle.std.specs.Prelude.{List, Result, ◌≡◌, ℕ}
use Rattle.std.specs.Borrow.{Bor}
use Rattle.rules.specs.Answers.{field_says}
use Rattle.rules.specs.TableText.{line_feed, tab}
use Rattle.rules.specs.declared.Refused.{Refused}
use Rattle.text.specs.Fields.{FieldsTold, letter_at, number_at, taken_says}
use Rattle.text.specs.declared.Cursor.{Cursor}
use Rattle.text.specs.declared.FieldTaken.{FieldTaken}
use Rattle.front.specs.declared.Kind.{Kind}
use Rattle.front.specs.declared.Reader.{Reader}

-- a text and a place in it, kept together
abbrev pub reader_at : Bor (List ℕ) → Cursor → Reader
reader_at text place = record { text = text; place = place }

-- before the first byte, in line 1
abbrev pub first_place : Cursor
first_place = record { at = 0; line = 1 }

-- what is taken at a place: the letter, a number that a tab ends, or one that the line feed ends
unfoldable pub taken_at : List ℕ → Cursor → Kind → FieldsTold
taken_at text place Kind.Letter = letter_at text place
taken_at text place Kind.Number = number_at text place tab
taken_at text place Kind.Last = number_at text place line_feed

-- what is taken where a reader stands
abbrev pub taken_by : Reader → Kind → FieldsTold
taken_by reader kind = taken_at reader.text.now reader.place kind

-- a reader is made: it keeps the text and the place that it was given
pub record Started (text : Bor (List ℕ)) (place : Cursor) (r : Reader) : Type 0 where
  pub reader : r ≡ reader_at text place

-- "a field is either a number or the refusal of its line"
pub record Next (reader : Reader) (kind : Kind) (r : Result ℕ Refused) : Type 0 where
  pub field : field_says r ≡ (taken_by reader kind).says

-- "the reading place moves on with each field taken": the text stays; behind a refused field the place stays too
pub record Moved (reader : Reader) (kind : Kind) (r : Reader) : Type 0 where
  pub reader_behind : r ≡ reader_at reader.text (taken_by reader kind).next

-- where a reader stands
pub record Placed (reader : Reader) (r : Cursor) : Type 0 where
  pub place : r ≡ reader.place

-- a field that is taken of a text at a place: what `next` answers there, and where the moved reader stands
pub record Took (text : List ℕ) (place : Cursor) (kind : Kind) (r : FieldTaken) : Type 0 where
  pub told : taken_says r ≡ taken_at text place kind
