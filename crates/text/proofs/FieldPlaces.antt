-- What the cursor takes at the place of a field, asked with the byte that ends it, is that field's value, as document 01 has it;
-- asked with the other of tab and line feed, and behind the last line feed, it refuses. The text from there on is the field, the
-- byte that ends it, and what stands behind; the field holds neither a tab nor a line feed. So the digits at the front are the
-- whole field, and the end stands behind them, or they are not, and no end does. Assumes nothing.
use Rattle.std.proofs.Common.{◌≡◌, ℕ, suc, ◌+◌, ◌-◌, ◌<◌, ◌≤◌, Bool, true, false, cond, ◌&&◌, eqb, ltb, List, [], ◌∷◌, ◌++◌, length, get_or, drop, sym, refl, ap, ◌∙◌, append_assoc, add-zero, arith, length-drop, get_or-drop, drop-drop, ltb-false, ltb-true, lt-ltb, eq-eqb}
use mathlib.Core.Bool.{and-false, false≢true}
use mathlib.Core.Option.{none, some}
use lib.Seq.{drop-append-le, drop-append_seam}
use Rattle.laws.proofs.Choices.{neither, nothing_there}
use Rattle.laws.proofs.Elements.{each_at_place}
use Rattle.grammar.proofs.LineNumbers.{begins}
use Rattle.grammar.proofs.PartPlaces.{begin_next, last_part_at, part_at, part_within, parted_lacks, parted_without}
use Rattle.grammar.proofs.Parted.{Without, parted_some}
use Rattle.grammar.specs.PartPlaces.{begin_of}
use Rattle.rules.specs.Answers.{good}
use Rattle.rules.specs.Lists.{all, only_if}
use Rattle.rules.specs.TableText.{field_count, fields_of, is_digit, is_letter, is_number, line_feed, lines_of, number_in, tab, value_from}
use Rattle.text.specs.FieldPlaces.{end_at, field_answer, field_at, fields_at, letter_in, line_letter, line_at, place_at, place_behind}
use Rattle.text.specs.Fields.{FieldsTold, behind_byte, front, letter_at, line_behind, most_line, number_at, refused_field, stands_at}
use Rattle.text.specs.declared.Cursor.{Cursor}
use Rattle.text.proofs.Rows.{stands_begins}

-- the digits at the front of a field with its end behind it are the whole field, if it is all digits
front_whole : (f r : List ℕ) (end : ℕ) → is_digit end ≡ false → all is_digit f ≡ true → front (f ++ end ∷ r) ≡ f
unfolding front
front_whole [] r end n h = rw n
front_whole (x ∷ f) r end n h = by_test (is_digit x) h (λ g. front_whole f r end n g)
  where
    by_test : (t : Bool) → t && all is_digit f ≡ true → (all is_digit f ≡ true → front (f ++ end ∷ r) ≡ f)
        → cond t (x ∷ front (f ++ end ∷ r)) [] ≡ x ∷ f
    by_test true h more = ap (λ ds. x ∷ ds) (more h)
    by_test false h more = absurd (false≢true h)

-- what stands behind them is not b, if b is neither in the field nor behind a field that is all digits
front_other : (f r : List ℕ) (end b : ℕ) → is_digit end ≡ false → Without b f → (all is_digit f ≡ true → eqb end b ≡ false)
    → begins b (drop (length (front (f ++ end ∷ r))) (f ++ end ∷ r)) ≡ false
unfolding front
front_other [] r end b n w h = rw n (h refl)
front_other (x ∷ f) r end b n w h =
    by_test (is_digit x) h (λ g. front_other f r end b n (neither (eqb x b) _ w).1 g)
  where
    by_test : (t : Bool) → (t && all is_digit f ≡ true → eqb end b ≡ false)
        → ((all is_digit f ≡ true → eqb end b ≡ false) → begins b (drop (length (front (f ++ end ∷ r))) (f ++ end ∷ r)) ≡ false)
        → begins b (drop (length (cond t (x ∷ front (f ++ end ∷ r)) [])) (x ∷ (f ++ end ∷ r))) ≡ false
    by_test true h more = more h
    by_test false h more = (neither (eqb x b) _ w).0

module _ (text : List ℕ) (place : Cursor) (field rest : List ℕ) (end : ℕ)
    (stands : drop place.at text ≡ field ++ end ∷ rest) (no_digit : is_digit end ≡ false) (without : Without end field) where
  -- the end stands behind the field
  ended : stands_at text (place.at + length field) end ≡ true
  ended =
      stands_begins text (place.at + length field) end
      ∙ ap (begins end) (sym (drop-drop (length field) place.at text) ∙ ap (drop (length field)) stands ∙ drop-append_seam field (end ∷ rest))
      ∙ eq-eqb end end refl

  abbrev good_if : Bool → FieldsTold
  good_if t =
      cond t (record { says = field_answer place.line (some (value_from 0 field)); next = behind_byte end (place.at + length field) place })
      (refused_field place)

  whole_field : all is_digit field ≡ true → number_at text place end ≡ good_if (is_number field)
  unfolding number_at
  whole_field digits =
      let same : front (drop place.at text) ≡ field = ap front stands ∙ front_whole field rest end no_digit digits in
      rw same (rw ended (by_test (is_number field)))
    where
      by_test : (t : Bool) → good_if (t && true) ≡ good_if t
      by_test true = refl
      by_test false = refl

  -- asked for a number that another byte ends, or where the field is not all digits: the refusal of the line
  pub other_refused : (b : ℕ) → Without b field → (all is_digit field ≡ true → eqb end b ≡ false)
      → number_at text place b ≡ refused_field place
  unfolding number_at
  other_refused b w other =
      let ds = front (drop place.at text) in
      let none_stands : stands_at text (place.at + length ds) b ≡ false =
      stands_begins text (place.at + length ds) b
      ∙ ap (begins b) (sym (drop-drop (length ds) place.at text))
      ∙ ap (λ s. begins b (drop (length (front s)) s)) stands
      ∙ front_other field rest end b no_digit w other in
      rw none_stands (rw (and-false (is_number ds)))

  no_field : all is_digit field ≡ false → number_at text place end ≡ refused_field place
  no_field other = other_refused end without (λ h. absurd (false≢true (sym other ∙ h)))

  answered_by_tests : (t u : Bool) → all is_digit field ≡ t → is_number field ≡ u
      → ((number_at text place end).says ≡ field_answer place.line (number_in field))
      × (u ≡ true → (number_at text place end).next ≡ behind_byte end (place.at + length field) place)
  unfolding number_in is_number
  answered_by_tests true true d e = (rw (whole_field d, e), λ h. rw (whole_field d, e))
  answered_by_tests true false d e = (rw (whole_field d, e), λ h. absurd (false≢true h))
  answered_by_tests false u d e =
      let never : is_number field ≡ false = rw (d, and-false) in
      (rw (no_field d, never), λ h. absurd (false≢true (sym never ∙ e ∙ h)))

  -- the number that is taken where a field stands
  pub field_answered : (number_at text place end).says ≡ field_answer place.line (number_in field)
  field_answered = (answered_by_tests (all is_digit field) (is_number field) refl refl).0

  pub field_passed : is_number field ≡ true → (number_at text place end).next ≡ behind_byte end (place.at + length field) place
  field_passed = (answered_by_tests (all is_digit field) (is_number field) refl refl).1

-- The letter of a line: a byte alone in the first field, with a tab behind it.
module _ (text : List ℕ) (place : Cursor) (rest : List ℕ) where
  abbrev End : Bool → ℕ
  End t = cond t tab line_feed

  abbrev letter_if : Bool → Bool → FieldsTold
  letter_if tabbed letter =
      cond (tabbed && letter)
      (record { says = good (get_or text place.at 0 ∷ []); next = behind_byte tab (place.at + 1) place })
      (refused_field place)

  by_bytes : (s : List ℕ) → drop place.at text ≡ s
      → letter_at text place ≡ letter_if (begins tab (drop 1 s)) (is_letter (get_or s 0 0))
  unfolding letter_at
  by_bytes s e =
      let first : get_or text place.at 0 ≡ get_or s 0 0 = sym (rw (get_or-drop place.at text 0 0, add-zero)) ∙ ap (λ r. get_or r 0 0) e in
      let second : stands_at text (place.at + 1) tab ≡ begins tab (drop 1 s) =
      stands_begins text (place.at + 1) tab ∙ ap (begins tab) (sym (drop-drop 1 place.at text) ∙ ap (drop 1) e) in
      ap (λ t. letter_if t (is_letter (get_or text place.at 0))) second
      ∙ ap (λ b. letter_if (begins tab (drop 1 s)) (is_letter b)) first

  first_byte : (b : ℕ) (r : List ℕ) → drop place.at text ≡ b ∷ r → get_or text place.at 0 ≡ b
  first_byte b r e = sym (rw (get_or-drop place.at text 0 0, add-zero)) ∙ ap (λ s. get_or s 0 0) e

  end_no_letter : (t : Bool) → is_letter (End t) ≡ false
  unfolding field_count is_letter
  end_no_letter true = refl
  end_no_letter false = refl

  refused_by_tests : (t u : Bool) → t && u ≡ false → (letter_if t u).says ≡ field_answer place.line none
  refused_by_tests t u h = rw h

  one_byte : (t u : Bool) (b : ℕ) → get_or text place.at 0 ≡ b
      → (letter_if (eqb (End t) tab) u).says ≡ field_answer place.line (cond t (only_if u b) none)
  one_byte true true b e = ap (λ n. good (n ∷ [])) e
  one_byte true false b e = refl
  one_byte false u b e = refl

  none_either : (t : Bool) → cond t (letter_in []) none ≡ none
  none_either true = refl
  none_either false = refl

  none_of_two : (t : Bool) (b c : ℕ) (bs : List ℕ) → cond t (letter_in (b ∷ (c ∷ bs))) none ≡ none
  none_of_two true b c bs = refl
  none_of_two false b c bs = refl

  pub letter_answered : (t : Bool) (field : List ℕ) → drop place.at text ≡ field ++ End t ∷ rest → Without tab field
      → (letter_at text place).says ≡ field_answer place.line (cond t (letter_in field) none)
  letter_answered t [] e w =
      ap (λ (told : FieldsTold). told.says) (by_bytes (End t ∷ rest) e)
      ∙ refused_by_tests (begins tab rest) (is_letter (End t)) (rw (end_no_letter t) (and-false (begins tab rest)))
      ∙ ap (field_answer place.line) (sym (none_either t))
  letter_answered t (b ∷ []) e w =
      ap (λ (told : FieldsTold). told.says) (by_bytes (b ∷ (End t ∷ rest)) e)
      ∙ one_byte t (is_letter b) b (first_byte b (End t ∷ rest) e)
  letter_answered t (b ∷ (c ∷ bs)) e w =
      let other = (neither (eqb c tab) _ (neither (eqb b tab) _ w).1).0 in
      ap (λ (told : FieldsTold). told.says) (by_bytes (b ∷ (c ∷ (bs ++ End t ∷ rest))) e)
      ∙ refused_by_tests (eqb c tab) (is_letter b) (rw other)
      ∙ ap (field_answer place.line) (sym (none_of_two t b c bs))

  -- a letter that is taken is the whole field
  passed_by_tests : (t u : Bool) (b c : ℕ) → is_letter b ≡ u → cond t (only_if u b) none ≡ some c
      → (letter_if (eqb (End t) tab) u).next ≡ behind_byte tab (place.at + 1) place
  passed_by_tests true true b c e h = refl
  passed_by_tests true false b c e h = nothing_there h refl
  passed_by_tests false u b c e h = nothing_there h refl

  pub letter_passed : (t : Bool) (field : List ℕ) (c : ℕ) → drop place.at text ≡ field ++ End t ∷ rest
      → cond t (letter_in field) none ≡ some c
      → ((letter_at text place).next ≡ behind_byte tab (place.at + 1) place) × (length field ≡ 1) × (t ≡ true)
  letter_passed true [] c e h = nothing_there h refl
  letter_passed true (b ∷ []) c e h = (
    ap (λ (told : FieldsTold). told.next) (by_bytes (b ∷ (tab ∷ rest)) e) ∙ passed_by_tests true (is_letter b) b c refl h,
    refl,
    refl,
  )
  letter_passed true (b ∷ (d ∷ bs)) c e h = nothing_there h refl
  letter_passed false field c e h = nothing_there h refl

one_less : (l : ℕ) → 1 ≤ l → suc (l - 1) ≡ l
one_less l h = omega arith

less_one : (l : ℕ) → suc l - 1 ≡ l
less_one l = omega arith

same_place : {a b m n : ℕ} → a ≡ b → m ≡ n → ◌≡◌ {A = Cursor} (record { at = a; line = m }) (record { at = b; line = n })
same_place e f = rw (e, f)

-- The text from a field of an ended line on.
module _ (text : List ℕ) (l : ℕ) (some_line : 1 ≤ l) (ended_line : l < length (lines_of text)) where
  abbrev line : List ℕ
  line = line_at text l

  abbrev behind_line : List ℕ
  behind_line = drop (begin_of (lines_of text) l) text

  line_stands : drop (begin_of (lines_of text) (l - 1)) text ≡ line ++ line_feed ∷ behind_line
  unfolding lines_of
  line_stands =
      let next = one_less l some_line in
      part_at line_feed text (l - 1) (rw next ended_line)
      ∙ ap (λ n. line ++ line_feed ∷ drop (begin_of (lines_of text) n) text) next

  no_line_feed : Without line_feed line
  unfolding lines_of
  no_line_feed = each_at_place [] (parted_without line_feed text) (l - 1) (omega arith)

  line_next : begin_of (lines_of text) l ≡ begin_of (lines_of text) (l - 1) + length line + 1
  line_next = ap (begin_of (lines_of text)) (sym (one_less l some_line)) ∙ begin_next (lines_of text) (l - 1) (omega arith)

  module _ (k : ℕ) (there : k < length (fields_at text l)) where
    abbrev at : ℕ
    at = (place_at text l k).at

    field_no_tab : Without tab (field_at text l k)
    unfolding fields_of
    field_no_tab = each_at_place [] (parted_without tab line) k there

    field_no_line_feed : Without line_feed (field_at text l k)
    unfolding fields_of
    field_no_line_feed = each_at_place [] (parted_lacks tab line_feed line no_line_feed) k there

    in_line : drop at text ≡ drop (begin_of (fields_at text l) k) line ++ line_feed ∷ behind_line
    unfolding fields_of
    in_line =
        sym (drop-drop (begin_of (fields_at text l) k) (begin_of (lines_of text) (l - 1)) text)
        ∙ ap (drop (begin_of (fields_at text l) k)) line_stands
        ∙ drop-append-le (begin_of (fields_at text l) k) line (line_feed ∷ behind_line) (part_within tab line k there)

    -- another field follows in the line
    tab_behind : suc k < length (fields_at text l)
        → drop at text ≡ field_at text l k ++ tab ∷ (drop (begin_of (fields_at text l) (suc k)) line ++ line_feed ∷ behind_line)
    unfolding fields_of
    tab_behind h = in_line ∙ ap (λ s. s ++ line_feed ∷ behind_line) (part_at tab line k h) ∙ append_assoc (field_at text l k) _ _

    -- it is the last
    line_feed_behind : suc k ≡ length (fields_at text l) → drop at text ≡ field_at text l k ++ line_feed ∷ behind_line
    unfolding fields_of
    line_feed_behind h = in_line ∙ ap (λ s. s ++ line_feed ∷ behind_line) (last_part_at tab line k h)

    abbrev Held : Bool → Type 0
    Held t =
        (rest : List ℕ) × (drop at text ≡ field_at text l k ++ cond t tab line_feed ∷ rest)
        × (Without (cond t tab line_feed) (field_at text l k))

    held_by_test : (t : Bool) → ltb (suc k) (length (fields_at text l)) ≡ t → Held t
    held_by_test true e = (_, tab_behind (ltb-true _ _ e), field_no_tab)
    held_by_test false e =
        let last : suc k ≡ length (fields_at text l) = omega (arith, ltb-false (suc k) (length (fields_at text l)) e) in
        (_, line_feed_behind last, field_no_line_feed)

    held : Held (ltb (suc k) (length (fields_at text l)))
    held = held_by_test (ltb (suc k) (length (fields_at text l))) refl

    no_digit_by_test : (t : Bool) → is_digit (cond t tab line_feed) ≡ false
    unfolding is_digit
    no_digit_by_test true = refl
    no_digit_by_test false = refl

    end_no_digit : is_digit (end_at text l k) ≡ false
    end_no_digit = no_digit_by_test (ltb (suc k) (length (fields_at text l)))

    -- At the place of field k of line l the cursor takes that field's number, or refuses 1 with line l.
    pub field_taken : (number_at text (place_at text l k) (end_at text l k)).says ≡ field_answer l (number_in (field_at text l k))
    field_taken =
        field_answered text (place_at text l k) (field_at text l k) held.0 (end_at text l k) held.1 end_no_digit held.2

    -- Asked for a number with the other end, it refuses the line.
    abbrev other_end : ℕ
    other_end = cond (ltb (suc k) (length (fields_at text l))) line_feed tab

    other_by_test : (t : Bool) → Without (cond t line_feed tab) (field_at text l k) × (eqb (cond t tab line_feed) (cond t line_feed tab) ≡ false)
    other_by_test true = (field_no_line_feed, refl)
    other_by_test false = (field_no_tab, refl)

    pub other_end_refused : number_at text (place_at text l k) other_end ≡ refused_field (place_at text l k)
    other_end_refused =
        let other = other_by_test (ltb (suc k) (length (fields_at text l))) in
        other_refused text (place_at text l k) (field_at text l k) held.0 (end_at text l k) held.1 end_no_digit held.2 other_end
        other.0 (λ h. other.1)

    -- behind the last field of a line the next line begins
    last_ends : suc k ≡ length (fields_at text l) → begin_of (fields_at text l) k + length (field_at text l k) ≡ length line
    unfolding fields_of
    last_ends last =
        omega (arith, ap length (last_part_at tab line k last), length-drop (begin_of (fields_at text l) k) line, part_within tab line k there)

    next_line_begins : suc k ≡ length (fields_at text l) → at + length (field_at text l k) + 1 ≡ (place_at text (suc l) 0).at
    unfolding begin_of
    next_line_begins last =
        omega (arith, last_ends last, line_next, ap (begin_of (lines_of text)) (less_one l))

    behind_by_test : (t : Bool) → ltb (suc k) (length (fields_at text l)) ≡ t → l < most_line
        → behind_byte (cond t tab line_feed) (at + length (field_at text l k)) (place_at text l k)
        ≡ cond t (place_at text l (suc k)) (place_at text (suc l) 0)
    unfolding line_behind
    behind_by_test true e few = same_place (omega (arith, begin_next (fields_at text l) k there)) refl
    behind_by_test false e few =
        rw (lt-ltb l most_line few)
        (same_place (next_line_begins (omega (arith, ltb-false (suc k) (length (fields_at text l)) e))) (omega arith))

    -- A number taken, the place is that of the next field, or of the first field of the next line.
    pub field_behind : is_number (field_at text l k) ≡ true → l < most_line
        → (number_at text (place_at text l k) (end_at text l k)).next ≡ place_behind text l k
    field_behind number few =
        field_passed text (place_at text l k) (field_at text l k) held.0 (end_at text l k) held.1 end_no_digit held.2 number
        ∙ behind_by_test (ltb (suc k) (length (fields_at text l))) refl few

  -- At the first place of line l the cursor takes the line's letter, or refuses 1 with line l.
  pub letter_taken : (letter_at text (place_at text l 0)).says ≡ field_answer l (line_letter text l)
  unfolding fields_of
  letter_taken =
      let there : 0 < length (fields_at text l) = parted_some tab line in
      let h = held 0 there in
      letter_answered text (place_at text l 0) h.0 (ltb 1 (length (fields_at text l))) (field_at text l 0) h.1 (field_no_tab 0 there)

  -- A letter taken, the place is that of field 1.
  pub letter_behind : (b : ℕ) → line_letter text l ≡ some b → (letter_at text (place_at text l 0)).next ≡ place_at text l 1
  unfolding fields_of line_behind
  letter_behind b e =
      let there : 0 < length (fields_at text l) = parted_some tab line in
      let h = held 0 there in
      let p = letter_passed text (place_at text l 0) h.0 (ltb 1 (length (fields_at text l))) (field_at text l 0) b h.1 e in
      p.0 ∙ same_place (omega (arith, p.1, begin_next (fields_at text l) 0 there)) refl

-- the digits at the front of a part, and nothing behind it
front_inside : (f : List ℕ) (b : ℕ) → Without b f → begins b (drop (length (front f)) f) ≡ false
unfolding front
front_inside [] b w = refl
front_inside (x ∷ f) b w = by_test (is_digit x) (front_inside f b (neither (eqb x b) _ w).1)
  where
    by_test : (t : Bool) → begins b (drop (length (front f)) f) ≡ false
        → begins b (drop (length (cond t (x ∷ front f) [])) (x ∷ f)) ≡ false
    by_test true more = more
    by_test false more = (neither (eqb x b) _ w).0

-- "no line feed at the end": what stands behind the last line feed. Its last field has no end, and is refused 1 with the line.
module _ (text : List ℕ) (l : ℕ) (some_line : 1 ≤ l) (last_Line : l ≡ length (lines_of text)) (k : ℕ)
    (last : suc k ≡ length (fields_at text l)) where
  unended_stands : drop (place_at text l k).at text ≡ field_at text l k
  unfolding fields_of lines_of
  unended_stands =
      sym (drop-drop (begin_of (fields_at text l) k) (begin_of (lines_of text) (l - 1)) text)
      ∙ ap (drop (begin_of (fields_at text l) k)) (last_part_at line_feed text (l - 1) (one_less l some_line ∙ last_Line))
      ∙ last_part_at tab (line_at text l) k last

  unended_refused : (b : ℕ) → Without b (field_at text l k) → number_at text (place_at text l k) b ≡ refused_field (place_at text l k)
  unfolding number_at
  unended_refused b w =
      let at = (place_at text l k).at in
      let ds = front (drop at text) in
      let none_stands : stands_at text (at + length ds) b ≡ false =
      stands_begins text (at + length ds) b
      ∙ ap (begins b) (sym (drop-drop (length ds) at text))
      ∙ ap (λ s. begins b (drop (length (front s)) s)) unended_stands
      ∙ front_inside (field_at text l k) b w in
      rw none_stands (rw (and-false (is_number ds)))

  pub unended_last_refused : number_at text (place_at text l k) line_feed ≡ refused_field (place_at text l k)
  unfolding fields_of lines_of
  unended_last_refused =
      unended_refused line_feed
      (each_at_place [] (parted_lacks tab line_feed (line_at text l) (each_at_place [] (parted_without line_feed text) (l - 1) (omega arith)))
      k (omega arith))
