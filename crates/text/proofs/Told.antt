-- What is told of fields and rows that were taken: a refusal has a number that is not 0; and a row is told by the numbers that
-- were taken so far and what is told of those behind them, field by field. Assumes nothing.
use Rattle.std.proofs.Common.{◌≡◌, ℕ, zero, suc, ◌+◌, ◌-◌, arith, Bool, true, false, cond, ◌&&◌, List, [], ◌∷◌, ◌++◌, length, drop, sym, refl, ap, ◌∙◌, append_assoc, ne_eqb}
use Rattle.std.specs.Prelude.{Result, Ok, Err}
use Rattle.laws.proofs.Unique.{refusal_not_0}
use Rattle.rules.specs.Answers.{field_says, good, number_of}
use Rattle.rules.specs.TableText.{is_number, line_feed, tab, value_from}
use Rattle.rules.specs.declared.Refused.{Refused}
use Rattle.text.specs.Fields.{FieldsTold, behind_byte, both_told, front, is_good, number_at, refused_field, row_at, row_says, stands_at, taken_says}
use Rattle.text.specs.declared.Cursor.{Cursor}
use Rattle.text.specs.declared.FieldTaken.{FieldTaken}

pub refused-field : (taken : FieldTaken) (told : FieldsTold) (r : Refused) → taken_says taken ≡ told
    → taken.field ≡ Err r → is_good told ≡ false
refused-field taken told r e f = rw (← e) (rw f (ne_eqb (number_of r.why) 0 (refusal_not_0 r.why)))

pub number_field : (taken : FieldTaken) (told : FieldsTold) (n : ℕ) → taken_says taken ≡ told → taken.field ≡ Ok n
    → told ≡ record { says = good (n ∷ []); next = taken.next }
number_field taken told n e f = sym e ∙ ap (λ field. record { says = field_says field; next = taken.next }) f

pub refused_row : (place : Cursor) (numbers : List ℕ) (row : Result Cursor Refused) (told : FieldsTold) (r : Refused)
    → row_says place numbers row ≡ told → row ≡ Err r → is_good told ≡ false
refused_row place numbers row told r e f = rw (← e) (rw f (ne_eqb (number_of r.why) 0 (refusal_not_0 r.why)))

-- The row that begins at a place with these numbers, and goes on with what is told of the others.
abbrev pub row_with : Cursor → List ℕ → FieldsTold → FieldsTold
row_with place numbers others = both_told place (record { says = good numbers; next = place }) others

plain_by_test : (t : Bool) (numbers : List ℕ) (next place : Cursor)
    → ◌≡◌ {A = FieldsTold} (cond t (record { says = good numbers; next = next }) (refused_field place))
    (row_with place [] (cond t (record { says = good numbers; next = next }) (refused_field place)))
plain_by_test true numbers next place = refl
plain_by_test false numbers next place = refl

pub nothing_taken : (count : ℕ) (text : List ℕ) (place : Cursor) → row_at count text place ≡ row_with place [] (row_at count text place)
unfolding row_at number_at
nothing_taken zero text place = refl
nothing_taken (suc zero) text place =
    let digits = front (drop place.at text) in
    let end = place.at + length digits in
    plain_by_test (is_number digits && stands_at text end line_feed) (value_from 0 digits ∷ []) (behind_byte line_feed end place) place
nothing_taken (suc (suc more)) text place =
    let first = number_at text place tab in
    let others = row_at (suc more) text first.next in
    plain_by_test (is_good first && is_good others) (first.says.values ++ others.says.values) others.next place

onto_by_test : (t : Bool) (start place next : Cursor) (numbers others : List ℕ) (n : ℕ)
    → row_with start numbers (cond t (record { says = good (n ∷ others); next = next }) (refused_field place))
    ≡ cond t (record { says = good (numbers ++ n ∷ [] ++ others); next = next }) (refused_field start)
onto_by_test true start place next numbers others n =
    ap (λ ns. record { says = good ns; next = next }) (sym (append_assoc numbers (n ∷ []) others))
onto_by_test false start place next numbers others n = refl

-- the byte that is to end a field, by how many fields are left behind it
abbrev pub end_before : ℕ → ℕ
end_before zero = line_feed
end_before (suc more) = tab

-- What is told of a row by its numbers so far and the fields that are left: where none is, it is these numbers.
abbrev pub so_far : Cursor → List ℕ → ℕ → List ℕ → Cursor → FieldsTold
so_far start numbers zero text place = record { says = good numbers; next = place }
so_far start numbers (suc left) text place = row_with start numbers (row_at (suc left) text place)

-- the row from its first field on
pub none_so_far : (count : ℕ) (text : List ℕ) (place : Cursor) → (count ≡ 0 → ⊥)
    → row_at count text place ≡ so_far place [] (count - 0) text place
none_so_far zero text place h = absurd (h refl)
none_so_far (suc left) text place h =
    let all : suc left - 0 ≡ suc left = omega arith in
    rw all (nothing_taken (suc left) text place)

module _ (start : Cursor) (numbers text : List ℕ) (place : Cursor) where
  -- where the field that is to stand here does not, the row is refused
  pub no_field : (left : ℕ) → is_good (number_at text place (end_before left)) ≡ false
      → refused_field start ≡ so_far start numbers (suc left) text place
  unfolding row_at
  no_field zero e = rw e
  no_field (suc more) e = rw e

  -- a field that stands here is one more number of the row
  pub one_more : (n : ℕ) (next : Cursor) (left : ℕ)
      → number_at text place (end_before left) ≡ record { says = good (n ∷ []); next = next }
      → so_far start numbers (suc left) text place ≡ so_far start (numbers ++ n ∷ []) left text next
  unfolding row_at
  one_more n next zero e = rw e
  one_more n next (suc more) e =
      let others = row_at (suc more) text next in
      rw e (onto_by_test (is_good others) start place others.next numbers others.says.values n)
