-- The line at a place is read by its letter: a byte before a tab, and then a row of as many numbers as the letter has. What
-- the letter and the row make is the first item of the text from there on; a line without a letter before a tab has no shape,
-- nor has one whose row is refused. Assumes nothing.
use Rattle.std.proofs.Common.{◌≡◌, ℕ, ◌+◌, ◌≤◌, Bool, true, false, cond, ◌&&◌, List, [], ◌∷◌, ◌++◌, length, get_or, drop, sym, refl, ap, ◌∙◌, add-one, arith, drop-cons, drop-drop, eq-eqb}
use mathlib.Core.Option.{Option, none, some}
use Rattle.rules.specs.Answers.{good, refuses}
use Rattle.rules.specs.TableText.{Record, field_count, is_letter, letter_record, line_feed, nth, record_of, tab, with_numbers}
use Rattle.rules.specs.Refusals.{bad, item_shaped, one}
use Rattle.std.specs.Prelude.{Result, Ok, Err}
use Rattle.rules.specs.declared.Refusal.{Refusal}
use Rattle.rules.specs.declared.Refused.{Refused}
use Rattle.grammar.specs.FirstLine.{first_item, rest_of}
use Rattle.laws.proofs.Choices.{nothing_there}
use Rattle.grammar.proofs.Letters.{no_record_no_fields, numbers_behind_unread}
use Rattle.grammar.proofs.LineNumbers.{count_decides, exactly, exactly_length, numbers_from, some_field}
use Rattle.grammar.proofs.Lines.{letter_first, letter_rest, no_letter_first, other_byte_first}
use Rattle.text.specs.Fields.{FieldsTold, behind_byte, is_good, letter_at, line_behind, refused_field, row_at, stands_at, taken_says}
use Rattle.text.specs.Lines.{LineRead, item_of, parsed_of, parsed_with}
use Rattle.text.specs.declared.Cursor.{Cursor}
use Rattle.text.specs.declared.FieldTaken.{FieldTaken}
use Rattle.text.specs.declared.Parsed.{Parsed}
use Rattle.text.proofs.Told.{refused-field}
use Rattle.text.proofs.Rows.{RowRead, row_read, stands, stands_begins}

-- What was parsed of a record is that record.
parsed_record : (r : Record) → item_of (parsed_of r) ≡ one r
unfolding item_of
parsed_record (Record.T clock budget) = refl
parsed_record (Record.F f) = refl
parsed_record (Record.J j) = refl
parsed_record (Record.H h) = refl

module _ (text : List ℕ) (place : Cursor) where
  refused_read : first_item (drop place.at text) ≡ bad Refusal.Shape → LineRead text place (refuses Refusal.Shape place.line)
  refused_read h = record { item = sym h; line = refl }

  record_read : (r : Record) (next : Cursor) → first_item (drop place.at text) ≡ one r
      → rest_of (drop place.at text) ≡ drop next.at text → next.at ≤ length text
      → next.line ≡ line_behind line_feed place.line
      → LineRead text place (Ok (record { parsed = parsed_of r; next = next }))
  record_read r next h rest within line = record {
    item = parsed_record r ∙ sym h;
    within = within;
    rest = sym rest;
    next_line = line;
  }

-- the line of what its letter and numbers made
abbrev pub LineMade : List ℕ → Cursor → Cursor → Result Parsed Refused → Type 0
LineMade text place next (Ok parsed) = LineRead text place (Ok (record { parsed = parsed; next = next }))
LineMade text place next (Err r) = LineRead text place (Err r)

-- What the letter says of the line, by whether it is one: what stands there, or that the line has no shape.
abbrev Lettered : Bool → List ℕ → Cursor → FieldsTold → Type 0
Lettered true text place told =
    (drop place.at text ≡ nth told.says.values 0 ∷ (tab ∷ drop told.next.at text)) × (told.next.line ≡ place.line)
Lettered false text place told = first_item (drop place.at text) ≡ bad Refusal.Shape

-- the letter, by the tests of `letter_at`
abbrev letter_if : Bool → List ℕ → Cursor → FieldsTold
letter_if t text place =
    cond t (record { says = good (get_or text place.at 0 ∷ []); next = behind_byte tab (place.at + 1) place }) (refused_field place)

-- a byte before a tab
pub before_tab : (text : List ℕ) (place : Cursor) → stands_at text (place.at + 1) tab ≡ true
    → drop place.at text ≡ get_or text place.at 0 ∷ (tab ∷ drop (place.at + 1 + 1) text)
before_tab text place e =
    let b = stands text (place.at + 1) tab e in
    drop-cons text place.at 0 (omega arith)
    ∙ ap (λ r. get_or text place.at 0 ∷ r) (ap (λ n. drop n text) (sym (add-one place.at)) ∙ b.1)

letter_by_tests : (t u : Bool) (text : List ℕ) (place : Cursor) → stands_at text (place.at + 1) tab ≡ t
    → is_letter (get_or text place.at 0) ≡ u
    → Lettered (is_good (letter_if (t && u) text place)) text place (letter_if (t && u) text place)
unfolding line_behind
letter_by_tests true true text place e f = (before_tab text place e, refl)
letter_by_tests true false text place e f = ap first_item (before_tab text place e) ∙ other_byte_first (get_or text place.at 0) _ f
letter_by_tests false u text place e f =
    no_letter_first (drop place.at text) (rw (drop-drop 1 place.at text, ← stands_begins text (place.at + 1) tab) e)

letter_read : (text : List ℕ) (place : Cursor) → Lettered (is_good (letter_at text place)) text place (letter_at text place)
unfolding letter_at
letter_read text place =
    letter_by_tests (stands_at text (place.at + 1) tab) (is_letter (get_or text place.at 0)) text place refl refl

told_lettered : (text : List ℕ) (place : Cursor) (told : FieldsTold) → told ≡ letter_at text place
    → Lettered (is_good told) text place told
told_lettered text place told e = rw e (letter_read text place)

module _ (text : List ℕ) (place : Cursor) (taken : FieldTaken) (e : taken_says taken ≡ letter_at text place) where
  pub no_letter_read : (r : Refused) → taken.field ≡ Err r → LineRead text place (refuses Refusal.Shape place.line)
  no_letter_read r f =
      refused_read text place (rw (refused-field taken (taken_says taken) r refl f) at (told_lettered text place (taken_says taken) e))

  -- the line of a letter and its numbers
  module _ (letter : ℕ) (f : taken.field ≡ Ok letter) where
    begun : Lettered true text place (taken_says (record { field = Ok letter; next = taken.next }))
    begun = rw f at (told_lettered text place (taken_says taken) e)

    abbrev numbers : Option (List ℕ)
    numbers = numbers_from (drop taken.next.at text)

    abbrev row : FieldsTold
    row = row_at (field_count letter) text taken.next

    item_is : (o : Option Record) → with_numbers letter numbers ≡ o → first_item (drop place.at text) ≡ item_shaped o
    item_is o h = ap first_item begun.0 ∙ (letter_first letter (drop taken.next.at text) ∙ ap item_shaped h)

    -- what its row says of the line: that it has no shape, or the record of the letter
    row_read_here : RowRead (is_good row) (field_count letter) text taken.next row
    row_read_here = row_read (field_count letter) text taken.next

    pub no_row_read : is_good row ≡ false → LineRead text place (refuses Refusal.Shape place.line)
    unfolding with_numbers item_shaped
    no_row_read g =
        let none_there : exactly (field_count letter) numbers ≡ none = rw g at row_read_here in
        refused_read text place (item_is none (sym (count_decides letter numbers) ∙ ap (with_numbers letter) none_there))

    made : (ns : List ℕ) (next : Cursor) (o : Option Record) → letter_record letter ns ≡ o
        → RowRead true (field_count letter) text taken.next (record { says = good ns; next = next })
        → LineMade text place next (parsed_with place.line o)
    unfolding with_numbers record_of item_shaped
    made ns next none m r =
        let no_field = no_record_no_fields letter ns m in
        nothing_there r.0 (ap (λ count. exactly count numbers) no_field ∙ some_field (drop taken.next.at text))
    made ns next (some record_made) m r =
        let long = eq-eqb (length ns) (field_count letter) (exactly_length (field_count letter) numbers ns r.0) in
        let is_record : record_of letter ns ≡ some record_made = rw long m in
        record_read text place record_made next
        (item_is (some record_made) (sym (count_decides letter numbers) ∙ ap (with_numbers letter) r.0 ∙ is_record))
        (ap rest_of begun.0 ∙ (letter_rest letter (drop taken.next.at text) ns record_made is_record ∙ r.1))
        r.2
        (r.3 ∙ ap (line_behind line_feed) begun.1)

    -- and of numbers that stand behind the row's own nothing is made
    pub row_made_read : (ns more : List ℕ) (next : Cursor) → record { says = good ns; next = next } ≡ row
        → LineMade text place next (parsed_with place.line (letter_record letter (ns ++ more)))
    row_made_read ns more next e =
        let r : RowRead true (field_count letter) text taken.next (record { says = good ns; next = next }) =
        rw (← e) at row_read_here in
        let long = exactly_length (field_count letter) numbers ns r.0 in
        made ns next (letter_record letter (ns ++ more)) (sym (numbers_behind_unread letter ns more long)) r
