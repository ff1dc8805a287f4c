-- Digits that are read at a place, with the byte that ends them, say what a number is there, whatever byte is to end it.
-- Assumes nothing.
use Rattle.std.proofs.Common.{◌≡◌, ℕ, ◌+◌, true, false, ◌&&◌, eqb, ltb, List, [], length, get_or, drop, sym, ap, ◌∙◌, drop-drop, eqb-true}
use Rattle.rules.specs.TableText.{is_number}
use Rattle.grammar.proofs.LineNumbers.{begins}
use Rattle.laws.proofs.Tests.{both_true}
use Rattle.text.specs.Fields.{NumberRead, RunRead, front, number_at, run_says, stands_at}
use Rattle.text.specs.declared.Cursor.{Cursor}
use Rattle.std.specs.Prelude.{Option, Some, None}
use Rattle.text.specs.declared.Run.{Run}
use Rattle.text.proofs.Rows.{stands, stands_begins}

-- a byte at a place of the rest of a text
stands_dropped : (text : List ℕ) (at n b : ℕ) → stands_at (drop at text) n b ≡ stands_at text (at + n) b
stands_dropped text at n b =
    stands_begins (drop at text) n b ∙ (ap (begins b) (drop-drop n at text) ∙ sym (stands_begins text (at + n) b))

-- no other byte stands there
stands_alone : (text : List ℕ) (at b end : ℕ) → stands_at text at b ≡ true → stands_at text at end ≡ eqb b end
stands_alone text at b end h =
    let p = both_true (ltb at (length text)) (eqb (get_or text at 0) b) h in
    rw p.0 (ap (λ c. eqb c end) (eqb-true (get_or text at 0) b p.1))

-- where no digit stands there is no number
pub nothing_read : (text : List ℕ) → front text ≡ [] → RunRead (is_number (front text)) text None
unfolding is_number
nothing_read text none = λ end. rw none

module _ (text : List ℕ) (place : Cursor) where
  abbrev rest : List ℕ
  rest = drop place.at text

  says : (r : Option Run) → RunRead (is_number (front rest)) rest r → (end : ℕ) → run_says place end r ≡ number_at text place end
  unfolding number_at
  says (Some run) read end =
      let there = sym (stands_dropped text place.at run.count run.end) ∙ read.3 in
      let test : stands_at text (place.at + length (front rest)) end ≡ eqb run.end end =
      ap (λ n. stands_at text (place.at + n) end) (sym read.1) ∙ stands_alone text (place.at + run.count) run.end end there in
      rw (read.0, test, read.1, read.2)
  says None read end =
      let test : (is_number (front rest) && stands_at text (place.at + length (front rest)) end) ≡ false =
      rw (stands_dropped text place.at (length (front rest)) end) at (read end) in
      rw test

  pub number_read : (r : Option Run) → RunRead (is_number (front rest)) rest r → NumberRead text place r
  number_read r read = record {
    says = says r read;
    within = λ run e.
        let ended : RunRead (is_number (front rest)) rest (Some run) = rw e at read in
        (stands text (place.at + run.count) run.end (sym (stands_dropped text place.at run.count run.end) ∙ ended.3)).0;
  }
