-- Going on with `next` and `moved` over a text gives the same fields, places and refusals as the cursor: the
-- reader keeps the text, and each step is the cursor's at the place that the reader keeps. Assumes nothing.
use mathlib.Core.List.{List, ◌∷◌}
use mathlib.Core.Path.{◌≡◌, refl, ap, ◌∙◌}
use Prim.Native.Nat.{ℕ}
use denote.Ref.{Bor}
use Rattle.rules.specs.Answers.{Answer, field_says}
use Rattle.text.specs.Fields.{FieldsTold}
use Rattle.text.specs.declared.Cursor.{Cursor}
use Rattle.front.specs.Reading.{Started, taken_at}
use Rattle.front.specs.Walked.{ReaderTakes, ended, goes_on, walked_from}
use Rattle.front.specs.declared.Kind.{Kind}
use Rattle.front.specs.declared.Reader.{Reader}

module _ (kind : Kind) (kinds : List Kind) where
  one_step : (text : List ℕ) (place : Cursor) (says : Answer) (next : Cursor) (more : List FieldsTold)
      → says ≡ (taken_at text place kind).says → next ≡ (taken_at text place kind).next
      → more ≡ walked_from text (taken_at text place kind).next kinds
      → ◌≡◌ {A = List FieldsTold} (record { says = says; next = next } ∷ more) (walked_from text place (kind ∷ kinds))
  one_step text place says next more f n m = rw (f, n, m)

takes_alike : {reader : Reader} {kinds : List Kind} {ts : List FieldsTold} → ReaderTakes reader kinds ts
    → ts ≡ walked_from reader.text.now reader.place kinds
takes_alike ended = refl
takes_alike {reader} (goes_on {behind} {kind} {kinds} {field} {place} {more} f m p rest) =
    let there = m.reader_behind in
    one_step kind kinds reader.text.now reader.place (field_says field) place more f.field
    (p.place ∙ ap (λ (r : Reader). r.place) there)
    (takes_alike rest ∙ ap (λ (r : Reader). walked_from r.text.now r.place kinds) there)

-- From any place of any text, for any kinds of fields, in any order.
pub reader_as_cursor : {text : Bor (List ℕ)} {at : Cursor} {reader : Reader} {kinds : List Kind} {ts : List FieldsTold}
    → Started text at reader → ReaderTakes reader kinds ts → ts ≡ walked_from text.now at kinds
reader_as_cursor {kinds} started takes =
    takes_alike takes ∙ ap (λ (r : Reader). walked_from r.text.now r.place kinds) started.reader
