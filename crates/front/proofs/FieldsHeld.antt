-- What the reader takes is what document 01 calls a field. At the place of field k of line l, `next` answers that field's
-- number, or refusal 1 with line l, and the moved reader is one at the next field; asked for the line's last number where
-- another field follows, or the other way, it refuses 1 with line l; at a line's first place it takes the line's letter; and
-- the last field of what stands behind the last line feed is refused 1. A field that is refused leaves the reader where it was.
-- The reader keeps the text and the place, and the rest is the cursor's. Assumes nothing.
use mathlib.Core.Bool.{Bool, true, false, cond, ◌&&◌}
use mathlib.Core.List.{List, [], ◌∷◌}
use mathlib.Core.Option.{some}
use mathlib.Core.Path.{◌≡◌, refl, ap, ◌∙◌}
use Prim.Native.Nat.{ℕ, suc, ◌+◌, ◌≤◌, ◌<◌}
use denote.Ref.{Bor}
use lib.Dec.{ltb}
use lib.ListN.{length, drop, get_or}
use Rattle.std.specs.Prelude.{Result}
use Rattle.rules.specs.Answers.{Answer, field_says, good, refused}
use Rattle.rules.specs.TableText.{is_letter, is_number, line_feed, lines_of, number_in, tab, value_from}
use Rattle.rules.specs.declared.Refused.{Refused}
use Rattle.rules.specs.declared.Refusal.{Refusal}
use Rattle.text.proofs.FieldPlaces.{field_behind, field_taken, letter_behind, letter_taken, other_end_refused, unended_last_refused}
use Rattle.text.specs.FieldPlaces.{field_answer, field_at, fields_at, line_letter, place_at, place_behind}
use Rattle.text.specs.Fields.{FieldsTold, behind_byte, front, letter_at, most_line, number_at, refused_field, stands_at, taken_says}
use Rattle.text.specs.declared.Cursor.{Cursor}
use Rattle.text.specs.declared.FieldTaken.{FieldTaken}
use Rattle.front.specs.Reading.{Moved, Next, Started, Took, reader_at, taken_at, taken_by}
use Rattle.front.specs.Walked.{kind_at, other_kind_at}
use Rattle.front.specs.declared.Kind.{Kind}
use Rattle.front.specs.declared.Reader.{Reader}

-- what the cursor takes for a kind of number
taken_number : (t : Bool) (text : List ℕ) (place : Cursor)
    → taken_at text place (cond t Kind.Number Kind.Last) ≡ number_at text place (cond t tab line_feed)
unfolding taken_at
taken_number true text place = refl
taken_number false text place = refl

taken_other : (t : Bool) (text : List ℕ) (place : Cursor)
    → taken_at text place (cond t Kind.Last Kind.Number) ≡ number_at text place (cond t line_feed tab)
unfolding taken_at
taken_other true text place = refl
taken_other false text place = refl

module _ {text : Bor (List ℕ)} {reader : Reader} (l : ℕ) (some_line : 1 ≤ l) where
  -- line l is ended by a line feed
  module _ (ended : l < length (lines_of text.now)) where
    module _ (k : ℕ) (there : k < length (fields_at text.now l)) (started : Started text (place_at text.now l k) reader) where
      abbrev at : Cursor
      at = place_at text.now l k

      -- what is taken there
      taken_here : (kind : Kind) → taken_by reader kind ≡ taken_at text.now at kind
      taken_here kind = ap (λ (r : Reader). taken_by r kind) started.reader

      pub next_answers_the_field : {r : Result ℕ Refused} → Next reader (kind_at text.now l k) r
          → field_says r ≡ field_answer l (number_in (field_at text.now l k))
      next_answers_the_field n =
          n.field
          ∙ ap (λ (told : FieldsTold). told.says)
          (taken_here (kind_at text.now l k) ∙ taken_number (ltb (suc k) (length (fields_at text.now l))) text.now at)
          ∙ field_taken text.now l some_line ended k there

      pub next_refuses_another_kind : {r : Result ℕ Refused} → Next reader (other_kind_at text.now l k) r
          → field_says r ≡ refused Refusal.Shape l []
      next_refuses_another_kind n =
          n.field
          ∙ ap (λ (told : FieldsTold). told.says)
          (taken_here (other_kind_at text.now l k)
          ∙ taken_other (ltb (suc k) (length (fields_at text.now l))) text.now at
          ∙ other_end_refused text.now l some_line ended k there)

      pub moved_to_the_next_field : {r : Reader} → Moved reader (kind_at text.now l k) r
          → is_number (field_at text.now l k) ≡ true → l < most_line → Started text (place_behind text.now l k) r
      moved_to_the_next_field m number few = record {
        reader =
            m.reader_behind
            ∙ ap (λ (r : Reader). reader_at r.text (taken_by r (kind_at text.now l k)).next) started.reader
            ∙ ap (λ (told : FieldsTold). reader_at text told.next)
            (taken_number (ltb (suc k) (length (fields_at text.now l))) text.now at)
            ∙ ap (reader_at text) (field_behind text.now l some_line ended k there number few);
      }

    module _ (started : Started text (place_at text.now l 0) reader) where
      pub next_answers_the_letter : {r : Result ℕ Refused} → Next reader Kind.Letter r → field_says r ≡ field_answer l (line_letter text.now l)
      unfolding taken_at
      next_answers_the_letter n =
          n.field
          ∙ ap (λ (r : Reader). (taken_by r Kind.Letter).says) started.reader
          ∙ letter_taken text.now l some_line ended

      pub moved_behind_the_letter : {r : Reader} (b : ℕ) → Moved reader Kind.Letter r → line_letter text.now l ≡ some b
          → Started text (place_at text.now l 1) r
      unfolding taken_at
      moved_behind_the_letter b m e = record {
        reader =
            m.reader_behind
            ∙ ap (λ (r : Reader). reader_at r.text (taken_by r Kind.Letter).next) started.reader
            ∙ ap (reader_at text) (letter_behind text.now l some_line ended b e);
      }

  -- "no line feed at the end": the last field of what stands behind the last line feed
  pub next_refuses_without_a_line_feed : l ≡ length (lines_of text.now) → (k : ℕ) → suc k ≡ length (fields_at text.now l)
      → Started text (place_at text.now l k) reader → {r : Result ℕ Refused} → Next reader Kind.Last r
      → field_says r ≡ refused Refusal.Shape l []
  unfolding taken_at
  next_refuses_without_a_line_feed last_Line k last started n =
      n.field
      ∙ ap (λ (r : Reader). (taken_by r Kind.Last).says) started.reader
      ∙ ap (λ (told : FieldsTold). told.says) (unended_last_refused text.now l some_line last_Line k last)

-- The same of `take`.
module _ (text : List ℕ) (l : ℕ) (some_line : 1 ≤ l) (ended : l < length (lines_of text)) where
  pub take_answers_the_field : (k : ℕ) → k < length (fields_at text l) → {r : FieldTaken} → Took text (place_at text l k) (kind_at text l k) r
      → field_says r.field ≡ field_answer l (number_in (field_at text l k))
  take_answers_the_field k there took =
      ap (λ (told : FieldsTold). told.says)
      (took.told ∙ taken_number (ltb (suc k) (length (fields_at text l))) text (place_at text l k))
      ∙ field_taken text l some_line ended k there

  pub take_answers_the_letter : {r : FieldTaken} → Took text (place_at text l 0) Kind.Letter r
      → field_says r.field ≡ field_answer l (line_letter text l)
  unfolding taken_at
  take_answers_the_letter took = ap (λ (told : FieldsTold). told.says) took.told ∙ letter_taken text l some_line ended

-- A field that is refused: 1, with the line that it stands in, and the place stays.
refused_by_test : (t : Bool) (good_told : FieldsTold) (place : Cursor) → good_told.says.number ≡ 0
    → ¬ ((cond t good_told (refused_field place)).says.number ≡ 0) → cond t good_told (refused_field place) ≡ refused_field place
refused_by_test true good_told place e refused = absurd (refused e)
refused_by_test false good_told place e refused = refl

refused_number_told : (text : List ℕ) (place : Cursor) (end : ℕ) → ¬ ((number_at text place end).says.number ≡ 0)
    → number_at text place end ≡ refused_field place
unfolding number_at
refused_number_told text place end refused =
    let ds = front (drop place.at text) in
    refused_by_test (is_number ds && stands_at text (place.at + length ds) end)
    (record { says = good (value_from 0 ds ∷ []); next = behind_byte end (place.at + length ds) place }) place refl refused

refused_field_told : (text : List ℕ) (place : Cursor) (kind : Kind) → ¬ ((taken_at text place kind).says.number ≡ 0)
    → taken_at text place kind ≡ refused_field place
unfolding taken_at letter_at
refused_field_told text place Kind.Letter refused =
    refused_by_test (stands_at text (place.at + 1) tab && is_letter (get_or text place.at 0))
    (record { says = good (get_or text place.at 0 ∷ []); next = behind_byte tab (place.at + 1) place }) place refl refused
refused_field_told text place Kind.Number refused = refused_number_told text place tab refused
refused_field_told text place Kind.Last refused = refused_number_told text place line_feed refused

module _ (reader : Reader) (kind : Kind) (r : Result ℕ Refused) (n : Next reader kind r) (refused : ¬ ((field_says r).number ≡ 0)) where
  told : taken_by reader kind ≡ refused_field reader.place
  told =
      refused_field_told reader.text.now reader.place kind
      (λ e. refused (ap (λ (a : Answer). a.number) n.field ∙ e))

  pub next_refused : field_says r ≡ (refused_field reader.place).says
  next_refused = n.field ∙ ap (λ (f : FieldsTold). f.says) told

  pub moved_refused : (s : Reader) → Moved reader kind s → s ≡ reader
  moved_refused s m = m.reader_behind ∙ ap (λ (f : FieldsTold). reader_at reader.text f.next) told

pub take_refused : (text : List ℕ) (at : Cursor) (kind : Kind) (r : FieldTaken) → Took text at kind r
    → ¬ ((field_says r.field).number ≡ 0) → taken_says r ≡ refused_field at
take_refused text at kind r promise refused =
    promise.told
    ∙ refused_field_told text at kind (λ e. refused (ap (λ (f : FieldsTold). f.says.number) promise.told ∙ e))
