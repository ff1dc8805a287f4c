-- Document 01, "The table text": the fields of a text's lines, by the number of the line and of the field, where each stands,
-- and what is told of it.
use Rattle.std.specs.Prelude.{ℕ, suc, ◌+◌, ◌-◌, cond, List, [], ◌∷◌, length, nat_lt, slice_index_or}
use Rattle.std.proofs.Math.Option.{Option, none, some}
use Rattle.grammar.specs.PartPlaces.{begin_of}
use Rattle.rules.specs.Answers.{Answer, good, refused}
use Rattle.rules.specs.Lists.{only_if}
use Rattle.rules.specs.TableText.{fields_of, is_letter, line_feed, lines_of, tab}
use Rattle.rules.specs.declared.Refusal.{Refusal}
use Rattle.text.specs.declared.Cursor.{Cursor}

-- line l of a text, counted from 1, and its fields, from 0: the letter is field 0
abbrev pub line_at : List ℕ → ℕ → List ℕ
line_at text l = slice_index_or (lines_of text) (l - 1) []

abbrev pub fields_at : List ℕ → ℕ → List (List ℕ)
fields_at text l = fields_of (line_at text l)

abbrev pub field_at : List ℕ → ℕ → ℕ → List ℕ
field_at text l k = slice_index_or (fields_at text l) k []

-- the place of field k of line l
abbrev pub place_at : List ℕ → ℕ → ℕ → Cursor
place_at text l k = record { at = begin_of (lines_of text) (l - 1) + begin_of (fields_at text l) k; line = l }

-- the byte that ends it: a tab, or behind the line's last field the line feed
abbrev pub end_at : List ℕ → ℕ → ℕ → ℕ
end_at text l k = cond (nat_lt (suc k) (length (fields_at text l))) tab line_feed

-- the place behind it: the next field, or the first of the next line
abbrev pub place_behind : List ℕ → ℕ → ℕ → Cursor
place_behind text l k = cond (nat_lt (suc k) (length (fields_at text l))) (place_at text l (suc k)) (place_at text (suc l) 0)

-- "a field is either a number or the refusal of its line": the field's value, if it has one, or 1 with the line
abbrev pub field_answer : ℕ → Option ℕ → Answer
field_answer line none = refused Refusal.Shape line []
field_answer line (some n) = good (n ∷ [])

-- the letter of a record that a field is, if it is one
abbrev pub letter_in : List ℕ → Option ℕ
letter_in [] = none
letter_in (b ∷ []) = only_if (is_letter b) b
letter_in (b ∷ (c ∷ bs)) = none

-- the letter of line l: it stands alone in the first field, and a tab behind it
abbrev pub line_letter : List ℕ → ℕ → Option ℕ
line_letter text l = cond (nat_lt 1 (length (fields_at text l))) (letter_in (field_at text l 0)) none
