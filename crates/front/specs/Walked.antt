-- A walk through a text, field by field: what is taken of each, which line each place stands in, and which kind each field is.
use Rattle.std.specs.Prelude.{cond, List, Result, [], ◌∷◌, ◌≡◌, ℕ, suc, ◌+◌, ◌≤◌, eqb, ltb, length, take}
use Rattle.rules.specs.Answers.{field_says}
use Rattle.rules.specs.Lists.{keep}
use Rattle.rules.specs.TableText.{line_feed}
use Rattle.rules.specs.declared.Refused.{Refused}
use Rattle.text.specs.FieldPlaces.{fields_at}
use Rattle.text.specs.Fields.{FieldsTold}
use Rattle.text.specs.declared.Cursor.{Cursor}
use Rattle.front.specs.Reading.{Moved, Next, Placed, taken_at}
use Rattle.front.specs.declared.Kind.{Kind}
use Rattle.front.specs.declared.Reader.{Reader}

-- how many line feeds stand in a text
abbrev pub line_feeds : List ℕ → ℕ
line_feeds bytes = length (keep (λ b. eqb b line_feed) bytes)

-- "each line ended by one line feed": a place's line is one more than the line feeds before it
pub record LineCounted (text : List ℕ) (place : Cursor) : Type 0 where
  pub within : place.at ≤ length text
  pub line : place.line ≡ line_feeds (take place.at text) + 1

-- the way through a text, field by field: what is taken of each, with the place behind it
abbrev pub walked_from : List ℕ → Cursor → List Kind → List FieldsTold
walked_from text place [] = []
walked_from text place (kind ∷ kinds) = taken_at text place kind ∷ walked_from text (taken_at text place kind).next kinds

-- the reader's way: any fields, readers and places that the promises of `next`, `moved` and `place` allow
pub data ReaderTakes : Reader → List Kind → List FieldsTold → Type 0 where
  ended : {reader : Reader} → ReaderTakes reader [] []
  goes_on : {reader behind : Reader} {kind : Kind} {kinds : List Kind} {field : Result ℕ Refused} {place : Cursor} {more : List FieldsTold}
      → Next reader kind field → Moved reader kind behind → Placed behind place → ReaderTakes behind kinds more
      → ReaderTakes reader (kind ∷ kinds) (record { says = field_says field; next = place } ∷ more)

-- which kind field k of line l is: a number with a tab behind it, or the last of its line; and which it is not
abbrev pub kind_at : List ℕ → ℕ → ℕ → Kind
kind_at text l k = cond (ltb (suc k) (length (fields_at text l))) Kind.Number Kind.Last

abbrev pub other_kind_at : List ℕ → ℕ → ℕ → Kind
other_kind_at text l k = cond (ltb (suc k) (length (fields_at text l))) Kind.Last Kind.Number
