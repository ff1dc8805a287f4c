-- The items of a text are the item of its first line, and then those of what stands behind it. A first line that begins with a
-- letter and a tab holds what the letter and the numbers behind the tab make, and any other line holds no record: by the
-- definitions, byte by byte up to the tab. Assumes nothing.
use mathlib.Core.Path.{◌≡◌, refl, sym, ◌∙◌, ap}
use mathlib.Core.Bool.{Bool, true, false, cond, ◌||◌, false≢true}
use mathlib.Core.List.{List, [], ◌∷◌}
use mathlib.Core.Option.{Option, none, some}
use Prim.Native.Nat.{ℕ, ◌+◌, ◌≤◌, ◌<◌}
use native.Mathlib.Omega.{arith}
use borrow.Author.Tests.{eqb-true}
use lib.Dec.{eqb}
use lib.ListN.{drop, length}
use Rattle.rules.specs.TableText.{Record, field_count, fields_of, fields_record, is_letter, line_feed, lines_of, numbers_in, onto_first, parted_by, record_of, shape_of, tab, with_numbers}
use Rattle.rules.specs.Refusals.{bad, item_shaped, items_in, one}
use Rattle.rules.specs.declared.Refusal.{Refusal}
use Rattle.grammar.specs.FirstLine.{behind, first_item, has, rest_of, up_to}
use Rattle.grammar.proofs.Letters.{no_letter_no_record, no_numbers_no_record}
use Rattle.grammar.proofs.LineNumbers.{begins, numbers_from}
use Rattle.grammar.proofs.Parts.{behind_none, behind_shorter, behind_within, parts}

items_by_test : (t u : Bool) (x : ℕ) (l m : List ℕ) (ls more : List (List ℕ))
    → more ≡ m ∷ ls
    → items_in (cond t [] (x ∷ l) ∷ cond (t || u) more [])
    ≡ cond (t || u) (item_shaped (shape_of (cond t [] (x ∷ l)))) (bad Refusal.Shape) ∷ cond (t || u) (items_in more) []
unfolding items_in
items_by_test true u x l m ls more h = rw h
items_by_test false true x l m ls more h = rw h
items_by_test false false x l m ls more h = refl

no_more_items : (t : Bool) (s : List ℕ) → has line_feed s ≡ t
    → cond t (items_in (lines_of (rest_of s))) [] ≡ items_in (lines_of (rest_of s))
unfolding lines_of rest_of items_in parted_by
no_more_items true s h = refl
no_more_items false s h = rw (behind_none line_feed s h)

items_of : (x : ℕ) (s : List ℕ) → items_in (lines_of (x ∷ s)) ≡ first_item (x ∷ s) ∷ items_in (lines_of (rest_of (x ∷ s)))
unfolding lines_of first_item rest_of up_to behind
items_of x s =
    let rest = behind line_feed (x ∷ s) in
    rw (parts line_feed (x ∷ s))
    (items_by_test (eqb x line_feed) (has line_feed s) x (up_to line_feed s) _ _ (lines_of rest) (parts line_feed rest)
    ∙ ap (λ is. first_item (x ∷ s) ∷ is) (no_more_items (has line_feed (x ∷ s)) (x ∷ s) refl))

pub items : (s : List ℕ) → 0 < length s → items_in (lines_of s) ≡ first_item s ∷ items_in (lines_of (rest_of s))
items [] h = absurd (omega arith)
items (x ∷ s) h = items_of x s

pub rest_shorter : (s : List ℕ) → 0 < length s → length (rest_of s) < length s
unfolding rest_of
rest_shorter [] h = absurd (omega arith)
rest_shorter (x ∷ s) h = behind_shorter line_feed x s

-- A byte that is no letter of a record makes none; a tab and a line feed are no letters.
pub no_letter : (b : ℕ) → is_letter b ≡ false → (ns : Option (List ℕ)) → with_numbers b ns ≡ none
unfolding with_numbers
no_letter b n none = refl
no_letter b n (some ns) = no_letter_no_record b ns n

tab_no_letter : (ns : Option (List ℕ)) → with_numbers tab ns ≡ none
unfolding is_letter field_count
tab_no_letter ns = no_letter tab refl ns

line_feed_no_letter : (ns : Option (List ℕ)) → with_numbers line_feed ns ≡ none
unfolding is_letter field_count
line_feed_no_letter ns = no_letter line_feed refl ns

-- A line that begins with a letter and a tab holds what the letter and the numbers behind the tab make.
bad_both : (t : Bool) → cond t (bad Refusal.Shape) (bad Refusal.Shape) ≡ bad Refusal.Shape
bad_both true = refl
bad_both false = refl

fields_by_test : (u h : Bool) (letter : ℕ) (l : List ℕ) → eqb letter tab ≡ u
    → cond h (item_shaped (fields_record (cond u ([] ∷ ([] ∷ parted_by tab l)) ((letter ∷ []) ∷ parted_by tab l)))) (bad Refusal.Shape)
    ≡ item_shaped (with_numbers letter (cond h (numbers_in (parted_by tab l)) none))
unfolding fields_record with_numbers item_shaped
fields_by_test true h letter l e =
    rw (eqb-true letter tab e, tab_no_letter (cond h (numbers_in (parted_by tab l)) none)) (bad_both h)
fields_by_test false true letter l e = refl
fields_by_test false false letter l e = refl

letter_by_test : (t : Bool) (letter : ℕ) (s : List ℕ) → eqb letter line_feed ≡ t
    → first_item (letter ∷ (tab ∷ s)) ≡ item_shaped (with_numbers letter (numbers_from s))
unfolding first_item up_to shape_of fields_of parted_by onto_first numbers_from fields_record item_shaped
letter_by_test true letter s e = rw (eqb-true letter line_feed e, line_feed_no_letter (numbers_from s))
letter_by_test false letter s e = rw e (fields_by_test (eqb letter tab) (has line_feed s) letter (up_to line_feed s) refl)

pub letter_first : (letter : ℕ) (s : List ℕ) → first_item (letter ∷ (tab ∷ s)) ≡ item_shaped (with_numbers letter (numbers_from s))
letter_first letter s = letter_by_test (eqb letter line_feed) letter s refl

-- and what stands behind it is what stands behind the numbers
rest_by_test : (t : Bool) (letter : ℕ) (s ns : List ℕ) (r : Record) → eqb letter line_feed ≡ t → record_of letter ns ≡ some r
    → cond t (tab ∷ s) (behind line_feed s) ≡ behind line_feed s
unfolding with_numbers
rest_by_test true letter s ns r e h =
    let z : ◌≡◌ {A = Option Record} none (some r) = sym (line_feed_no_letter (some ns)) ∙ (rw (eqb-true letter line_feed e) at h) in
    cc
rest_by_test false letter s ns r e h = refl

pub letter_rest : (letter : ℕ) (s ns : List ℕ) (r : Record) → record_of letter ns ≡ some r → rest_of (letter ∷ (tab ∷ s)) ≡ rest_of s
unfolding rest_of behind
letter_rest letter s ns r h = rest_by_test (eqb letter line_feed) letter s ns r refl h

-- Any other line has none of the four shapes.
one_by_test : (t : Bool) (x : ℕ)
    → cond (t || false) (item_shaped (shape_of (cond t [] (x ∷ [])))) (bad Refusal.Shape) ≡ bad Refusal.Shape
unfolding shape_of fields_of parted_by fields_record item_shaped
one_by_test true x = refl
one_by_test false x = refl

-- a letter without numbers
letter_alone : (u : Bool) (x : ℕ) → fields_record (cond u ([] ∷ ([] ∷ [])) ((x ∷ []) ∷ [])) ≡ none
unfolding fields_record with_numbers numbers_in
letter_alone true x = refl
letter_alone false x = no_numbers_no_record x

-- two bytes in the first field
two_bytes : (u : Bool) (x y : ℕ) (fs ps : List (List ℕ)) (p : List ℕ) → fs ≡ p ∷ ps
    → fields_record (cond u ([] ∷ onto_first y fs) (onto_first x (onto_first y fs))) ≡ none
unfolding fields_record onto_first
two_bytes true x y fs ps p h = refl
two_bytes false x y fs ps p h = rw h

bytes_by_test : (t w h : Bool) (x y : ℕ) (l : List ℕ) → eqb y tab ≡ false
    → cond (t || (w || h)) (item_shaped (shape_of (cond t [] (x ∷ cond w [] (y ∷ l))))) (bad Refusal.Shape) ≡ bad Refusal.Shape
unfolding shape_of fields_of parted_by onto_first fields_record item_shaped
bytes_by_test true w h x y l n = refl
bytes_by_test false true h x y l n = rw (letter_alone (eqb x tab) x)
bytes_by_test false false h x y l n =
    rw (n, two_bytes (eqb x tab) x y (parted_by tab l) _ _ (parts tab l)) (bad_both h)

pub other_byte_first : (b : ℕ) (s : List ℕ) → is_letter b ≡ false → first_item (b ∷ (tab ∷ s)) ≡ bad Refusal.Shape
unfolding item_shaped
other_byte_first b s n = letter_first b s ∙ ap item_shaped (no_letter b n (numbers_from s))

pub no_letter_first : (s : List ℕ) → begins tab (drop 1 s) ≡ false → first_item s ≡ bad Refusal.Shape
unfolding first_item up_to
no_letter_first [] n = refl
no_letter_first (x ∷ []) n = one_by_test (eqb x line_feed) x
no_letter_first (x ∷ (y ∷ s)) n = bytes_by_test (eqb x line_feed) (eqb y line_feed) (has line_feed s) x y (up_to line_feed s) n

no_shape : {r : Record} → bad Refusal.Shape ≡ one r → ⊥
no_shape e = let z : ◌≡◌ {A = ℕ} 0 1 = cc in omega arith

-- numbers behind a letter that make a record end a line
numbered : (x : ℕ) (rest : List ℕ) (ns : Option (List ℕ)) (r : Record) → item_shaped (with_numbers x ns) ≡ one r
    → rest_of (x ∷ (tab ∷ rest)) ≡ rest_of rest
unfolding with_numbers item_shaped
numbered x rest none r h = absurd (no_shape h)
numbered x rest (some ns) r h = by_record (record_of x ns) refl h
  where
    by_record : (o : Option Record) → record_of x ns ≡ o → item_shaped o ≡ one r → rest_of (x ∷ (tab ∷ rest)) ≡ rest_of rest
    by_record none e h = absurd (no_shape h)
    by_record (some q) e h = letter_rest x rest ns q e

-- A line with a record has a letter and a tab at least, and what stands behind it is so much shorter.
letter_stands : (t : Bool) (s : List ℕ) (r : Record) → begins tab (drop 1 s) ≡ t → first_item s ≡ one r
    → (x : ℕ) × (rest : List ℕ) × (s ≡ x ∷ (tab ∷ rest))
letter_stands false s r e h = absurd (no_shape (sym (no_letter_first s e) ∙ h))
letter_stands true [] r e h = absurd (false≢true e)
letter_stands true (x ∷ []) r e h = absurd (false≢true e)
letter_stands true (x ∷ (y ∷ s)) r e h = (x, s, rw (eqb-true y tab e))

pub record_rest : (s : List ℕ) (r : Record) → first_item s ≡ one r → length (rest_of s) + 2 ≤ length s
unfolding rest_of
record_rest s r h =
    let (x, rest, e) = letter_stands (begins tab (drop 1 s)) s r refl h in
    let shaped : item_shaped (with_numbers x (numbers_from rest)) ≡ one r = sym (letter_first x rest) ∙ (ap first_item (sym e) ∙ h) in
    omega (
      arith,
      ap length e,
      ap (λ t. length (rest_of t)) e,
      ap length (numbered x rest (numbers_from rest) r shaped),
      behind_within line_feed rest,
    )
