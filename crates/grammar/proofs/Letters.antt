-- The letter table, letter by letter: a byte is one of the four letters, or no number stands behind it and it makes no record.
-- What holds of every line goes by these cases. Assumes nothing.
use mathlib.Core.Bool.{Bool, true, false, cond}
use mathlib.Core.List.{List, [], ◌∷◌, ◌++◌}
use mathlib.Core.Option.{Option, none}
use mathlib.Core.Path.{◌≡◌, refl, sym, ap, ◌∙◌}
use Prim.Native.Nat.{ℕ, zero, suc}
use native.Mathlib.Omega.{arith}
use borrow.Author.Tests.{eqb-true, not-false}
use lib.Dec.{eqb}
use lib.ListN.{length}
use Rattle.rules.specs.TableText.{field_count, is_letter, letter_f, letter_h, letter_j, letter_record, letter_t, nth, record_of}
use Rattle.laws.proofs.Choices.{nothing_there, split}

pub data Letter (b : ℕ) : Type 0 where
  is_T : b ≡ letter_t → Letter b
  is_F : b ≡ letter_f → Letter b
  is_J : b ≡ letter_j → Letter b
  is_H : b ≡ letter_h → Letter b
  is_none : field_count b ≡ 0 → ((ns : List ℕ) → letter_record b ns ≡ none) → Letter b

pub which_letter : (b : ℕ) → Letter b
unfolding field_count letter_record
which_letter b =
    split (eqb b letter_t) (λ e. is_T (eqb-true b letter_t e)) (λ t.
    split (eqb b letter_f) (λ e. is_F (eqb-true b letter_f e)) (λ f.
    split (eqb b letter_j) (λ e. is_J (eqb-true b letter_j e)) (λ j.
    split (eqb b letter_h) (λ e. is_H (eqb-true b letter_h e)) (λ h.
    is_none (rw (t, f, j, h)) (λ ns. rw (t, f, j, h))))))

-- where the letter table has 0 there is no record
pub no_fields_no_record : (b : ℕ) (ns : List ℕ) → field_count b ≡ 0 → letter_record b ns ≡ none
unfolding field_count
no_fields_no_record b ns e = go (which_letter b)
  where
    go : Letter b → letter_record b ns ≡ none
    go (is_T l) = let z : ◌≡◌ {A = ℕ} 2 0 = rw l at e in absurd (omega arith)
    go (is_F l) = let z : ◌≡◌ {A = ℕ} 2 0 = rw l at e in absurd (omega arith)
    go (is_J l) = let z : ◌≡◌ {A = ℕ} 6 0 = rw l at e in absurd (omega arith)
    go (is_H l) = let z : ◌≡◌ {A = ℕ} 2 0 = rw l at e in absurd (omega arith)
    go (is_none _ none_made) = none_made ns

-- and where it has not, there is one
pub no_record_no_fields : (b : ℕ) (ns : List ℕ) → letter_record b ns ≡ none → field_count b ≡ 0
unfolding letter_record
no_record_no_fields b ns e = go (which_letter b)
  where
    go : Letter b → field_count b ≡ 0
    go (is_T l) = nothing_there (ap (λ c. letter_record c ns) l) e
    go (is_F l) = nothing_there (ap (λ c. letter_record c ns) l) e
    go (is_J l) = nothing_there (ap (λ c. letter_record c ns) l) e
    go (is_H l) = nothing_there (ap (λ c. letter_record c ns) l) e
    go (is_none no_field _) = no_field

-- a list is its first so many elements
abbrev pub firsts : ℕ → (ℕ → ℕ) → List ℕ
firsts zero f = []
firsts (suc k) f = f 0 ∷ firsts k (λ i. f (suc i))

pub firsts_all : (ns : List ℕ) → ns ≡ firsts (length ns) (nth ns)
firsts_all [] = refl
firsts_all (n ∷ ns) = ap (λ ms. n ∷ ms) (firsts_all ns)

-- numbers behind a letter's own are not looked at
own_numbers : (b : ℕ) (f : ℕ → ℕ) (more : List ℕ)
    → letter_record b (firsts (field_count b) f ++ more) ≡ letter_record b (firsts (field_count b) f)
unfolding field_count letter_record
own_numbers b f more = go (which_letter b)
  where
    go : Letter b → letter_record b (firsts (field_count b) f ++ more) ≡ letter_record b (firsts (field_count b) f)
    go (is_T l) = rw l
    go (is_F l) = rw l
    go (is_J l) = rw l
    go (is_H l) = rw l
    go (is_none _ none_made) = none_made (firsts (field_count b) f ++ more) ∙ sym (none_made (firsts (field_count b) f))

pub numbers_behind_unread : (b : ℕ) (ns more : List ℕ) → length ns ≡ field_count b → letter_record b (ns ++ more) ≡ letter_record b ns
numbers_behind_unread b ns more long =
    let own : ns ≡ firsts (field_count b) (nth ns) = rw long at (firsts_all ns) in
    ap (λ ms. letter_record b (ms ++ more)) own ∙ own_numbers b (nth ns) more ∙ ap (letter_record b) (sym own)

none_either_way : {A : Type 0} (t : Bool) (o : Option A) → o ≡ none → cond t o none ≡ none
none_either_way true o e = e
none_either_way false o e = refl

-- a byte that is no letter makes none
pub no_letter_no_record : (b : ℕ) (ns : List ℕ) → is_letter b ≡ false → record_of b ns ≡ none
unfolding is_letter record_of
no_letter_no_record b ns n =
    none_either_way (eqb (length ns) (field_count b)) (letter_record b ns)
    (no_fields_no_record b ns (eqb-true (field_count b) 0 (not-false (eqb (field_count b) 0) n)))

-- and a letter makes none of no numbers
pub no_numbers_no_record : (b : ℕ) → record_of b [] ≡ none
unfolding record_of
no_numbers_no_record b = go (eqb 0 (field_count b)) refl
  where
    go : (t : Bool) → eqb 0 (field_count b) ≡ t → cond t (letter_record b []) none ≡ none
    go true e = no_fields_no_record b [] (sym (eqb-true 0 (field_count b) e))
    go false e = refl
