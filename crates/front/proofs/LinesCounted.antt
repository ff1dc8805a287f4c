-- Walked from the start, field by field, with any kinds in any order, the reader's line is one more than the line feeds before
-- it: digits and letters are no line feeds, so of the bytes that a field takes only the last can be one, and just then the line
-- is the next. A number has a digit, so that the lines of a text are fewer than a line's number can count. Assumes nothing.
use mathlib.Core.Bool.{Bool, true, false, cond, ◌&&◌, false≢true}
use mathlib.Core.List.{List, [], ◌∷◌, ◌++◌, append-nil}
use mathlib.Core.Path.{◌≡◌, refl, sym, ap, ◌∙◌}
use Prim.Native.Nat.{ℕ, ◌+◌, ◌≤◌}
use native.Mathlib.Omega.{arith}
use borrow.Author.Tests.{lt-ltb, ne_eqb}
use denote.Ref.{Bor}
use lib.Dec.{eqb, ltb}
use lib.ListN.{length, drop, get_or, take, length-take, take-append-drop}
use Rattle.laws.proofs.Choices.{neither}
use Rattle.grammar.proofs.Decimal.{digits_without}
use Rattle.laws.proofs.Lookups.{length_keep}
use Rattle.laws.proofs.Tests.{both_true}
use Rattle.rules.specs.Answers.{good}
use Rattle.rules.specs.Lists.{Each, all, keep, none_left, ◌and◌}
use Rattle.rules.specs.TableText.{field_count, is_digit, is_letter, is_number, line_feed, tab, value_from}
use Rattle.text.proofs.Numbers.{front_digits}
use Rattle.text.proofs.Records.{before_tab}
use Rattle.text.proofs.Rows.{digits_stand, stands}
use Rattle.text.specs.Fields.{FieldsTold, behind_byte, front, letter_at, line_behind, most_line, number_at, refused_field, stands_at}
use Rattle.text.specs.declared.Cursor.{Cursor}
use Rattle.text.specs.declared.FieldTaken.{FieldTaken}
use Rattle.front.specs.Reading.{Started, Took, first_place, taken_at}
use Rattle.front.specs.Walked.{LineCounted, ReaderTakes, line_feeds, walked_from}
use Rattle.front.specs.declared.Kind.{Kind}
use Rattle.front.specs.declared.Reader.{Reader}
use Rattle.front.proofs.GoesOn.{reader_as_cursor}

-- line feeds, counted in parts
feeds_joined : (s t : List ℕ) → line_feeds (s ++ t) ≡ line_feeds s + line_feeds t
feeds_joined [] t = omega arith
feeds_joined (x ∷ s) t = by_test (eqb x line_feed) (feeds_joined s t)
  where
    by_test : (u : Bool) → line_feeds (s ++ t) ≡ line_feeds s + line_feeds t
        → length (cond u (x ∷ keep (λ b. eqb b line_feed) (s ++ t)) (keep (λ b. eqb b line_feed) (s ++ t)))
        ≡ length (cond u (x ∷ keep (λ b. eqb b line_feed) s) (keep (λ b. eqb b line_feed) s)) + line_feeds t
    by_test true h = omega arith
    by_test false h = h

feeds_parted : (text : List ℕ) (n : ℕ) → line_feeds text ≡ line_feeds (take n text) + line_feeds (drop n text)
feeds_parted text n = ap line_feeds (sym (take-append-drop n text)) ∙ feeds_joined (take n text) (drop n text)

-- the line feeds in what a field takes: its last byte alone can be one
abbrev feed_in : ℕ → ℕ
feed_in b = cond (eqb b line_feed) 1 0

feeds_first : (b : ℕ) (s : List ℕ) → line_feeds (b ∷ s) ≡ feed_in b + line_feeds s
feeds_first b s = by_test (eqb b line_feed)
  where
    by_test : (u : Bool)
        → length (cond u (b ∷ keep (λ b. eqb b line_feed) s) (keep (λ b. eqb b line_feed) s)) ≡ cond u 1 0 + line_feeds s
    by_test true = omega arith
    by_test false = omega arith

digits_feed_none : (ds s : List ℕ) → all is_digit ds ≡ true → line_feeds (ds ++ s) ≡ line_feeds s
unfolding is_digit
digits_feed_none [] s h = refl
digits_feed_none (d ∷ ds) s h =
    let none_here = (neither (eqb d line_feed) _ (digits_without line_feed (d ∷ ds) refl h)).0 in
    rw none_here (digits_feed_none ds s (both_true (is_digit d) (all is_digit ds) h).1)

no_feed : (ds : List ℕ) → all is_digit ds ≡ true → line_feeds ds ≡ 0
no_feed ds h = ap line_feeds (sym (append-nil ds)) ∙ digits_feed_none ds [] h

some_digit : (ds : List ℕ) → is_number ds ≡ true → 1 ≤ length ds
unfolding is_number
some_digit [] h = absurd (false≢true h)
some_digit (d ∷ ds) h = omega arith

letter_no_feed : (b : ℕ) → is_letter b ≡ true → line_feeds (b ∷ []) ≡ 0
unfolding field_count is_letter
letter_no_feed b h = rw (ne_eqb b line_feed (λ e. false≢true (rw e at h)))

line_by_tests : (t c : Bool) (line feeds more : ℕ) → c ≡ true → line ≡ feeds + 1 → more ≡ feeds + cond t 1 0
    → cond (t && c) (line + 1) line ≡ more + 1
line_by_tests true true line feeds more e l m = omega arith
line_by_tests false c line feeds more e l m = omega arith
line_by_tests true false line feeds more e l m = absurd (false≢true e)

feeds_few : (text : List ℕ) (n : ℕ) → line_feeds (take n text) ≤ n
feeds_few text n = omega (arith, length_keep (λ b. eqb b line_feed) (take n text), length-take n text)

module _ (text : List ℕ) (few : length text ≤ most_line) (place : Cursor) (counted : LineCounted text place) where
  -- bytes of which the last alone can be a line feed
  passed : (bytes : List ℕ) (end behind : ℕ) → 1 ≤ length bytes → line_feeds bytes ≡ 0
      → drop place.at text ≡ bytes ++ end ∷ drop behind text → behind ≡ place.at + length bytes + 1 → behind ≤ length text
      → LineCounted text (record { at = behind; line = line_behind end place.line })
  unfolding line_behind
  passed bytes end behind some none_there stands there within =
      let between : line_feeds (drop place.at text) ≡ line_feeds bytes + (feed_in end + line_feeds (drop behind text)) =
      ap line_feeds stands ∙ feeds_joined bytes (end ∷ drop behind text) ∙ ap (λ n. line_feeds bytes + n) (feeds_first end (drop behind text)) in
      let more : line_feeds (take behind text) ≡ line_feeds (take place.at text) + feed_in end =
      omega (arith, feeds_parted text place.at, feeds_parted text behind, between) in
      let countable = lt-ltb place.line most_line (omega (arith, counted.line, feeds_few text place.at)) in
      record {
        within = within;
        line =
            line_by_tests (eqb end line_feed) (ltb place.line most_line) place.line (line_feeds (take place.at text)) _
            countable counted.line more;
      }

  -- a number and the byte that ends it
  number_by_test : (end : ℕ) (ds : List ℕ) (t : Bool) → all is_digit ds ≡ true
      → drop place.at text ≡ ds ++ drop (place.at + length ds) text
      → (is_number ds && stands_at text (place.at + length ds) end) ≡ t
      → LineCounted text
      (cond t (record { says = good (value_from 0 ds ∷ []); next = behind_byte end (place.at + length ds) place }) (refused_field place)).next
  number_by_test end ds false digits whole h = counted
  number_by_test end ds true digits whole h =
      let p = both_true (is_number ds) (stands_at text (place.at + length ds) end) h in
      let b = stands text (place.at + length ds) end p.1 in
      passed ds end (place.at + length ds + 1) (some_digit ds p.0) (no_feed ds digits) (whole ∙ ap (λ r. ds ++ r) b.1) refl (omega (arith, b.0))

  -- a letter and its tab
  letter_by_tests : (t u : Bool) → stands_at text (place.at + 1) tab ≡ t → is_letter (get_or text place.at 0) ≡ u
      → LineCounted text
      (cond (t && u) (record { says = good (get_or text place.at 0 ∷ []); next = behind_byte tab (place.at + 1) place }) (refused_field place)).next
  letter_by_tests true true e f =
      let b = stands text (place.at + 1) tab e in
      passed (get_or text place.at 0 ∷ []) tab (place.at + 1 + 1) (omega arith) (letter_no_feed (get_or text place.at 0) f)
      (before_tab text place e) refl (omega (arith, b.0))
  letter_by_tests true false e f = counted
  letter_by_tests false u e f = counted

  number_counted : (end : ℕ) → LineCounted text (number_at text place end).next
  unfolding number_at
  number_counted end =
      let ds = front (drop place.at text) in
      number_by_test end ds (is_number ds && stands_at text (place.at + length ds) end) (front_digits (drop place.at text))
      (digits_stand text place.at) refl

  pub field_counted : (kind : Kind) → LineCounted text (taken_at text place kind).next
  unfolding taken_at letter_at
  field_counted Kind.Letter =
      letter_by_tests (stands_at text (place.at + 1) tab) (is_letter (get_or text place.at 0)) refl refl
  field_counted Kind.Number = number_counted tab
  field_counted Kind.Last = number_counted line_feed

pub start_counted : (text : List ℕ) → LineCounted text first_place
start_counted text = record { within = omega arith; line = refl }

walk_counted : (text : List ℕ) → length text ≤ most_line → (place : Cursor) → LineCounted text place → (kinds : List Kind)
    → Each (λ (told : FieldsTold). LineCounted text told.next) (walked_from text place kinds)
walk_counted text few place counted [] = none_left
walk_counted text few place counted (kind ∷ kinds) =
    let next = field_counted text few place counted kind in
    next and walk_counted text few (taken_at text place kind).next next kinds

-- For every text that a machine holds, and every walk that the promises of `start`, `next`, `moved` and `place` allow.
pub walked_lines_counted : {text : Bor (List ℕ)} {reader : Reader} {kinds : List Kind} {ts : List FieldsTold}
    → length text.now ≤ most_line → Started text first_place reader → ReaderTakes reader kinds ts
    → Each (λ (told : FieldsTold). LineCounted text.now told.next) ts
walked_lines_counted {text} {kinds} few started takes =
    rw (reader_as_cursor started takes) (walk_counted text.now few first_place (start_counted text.now) kinds)

-- The same of `take`: from a place whose line is counted to one whose line is.
pub take_counted : (text : List ℕ) → length text ≤ most_line → (at : Cursor) → LineCounted text at → (kind : Kind) {r : FieldTaken}
    → Took text at kind r → LineCounted text r.next
take_counted text few at counted kind took =
    rw (ap (λ (told : FieldsTold). told.next) took.told) (field_counted text few at counted kind)
