-- The first line of a text, judged after nothing: what is accepted there is a T, so an accepted line 1 tells the clock and
-- the budget and any other is the rules' refusal of line 1; and the letter and the two numbers that the reader takes of a T line
-- are what its item is made of. Assumes nothing.
use mathlib.Core.Bool.{false≢true}
use mathlib.Core.List.{List, [], ◌∷◌}
use mathlib.Core.Option.{Option, none, some}
use mathlib.Core.Path.{◌≡◌, refl, sym, ap, ◌∙◌}
use Prim.Native.Nat.{ℕ, ◌<◌}
use native.Mathlib.Omega.{arith}
use lib.ListN.{length}
use Rattle.grammar.proofs.Lines.{items}
use Rattle.grammar.proofs.Stopped.{accepted_exactly}
use Rattle.grammar.specs.FirstLine.{first_item}
use Rattle.lines.proofs.Judged.{clock_judged}
use Rattle.lines.specs.Step.{LineAccepted, Noted, judged_as}
use Rattle.records.specs.Faults.{clock_fault}
use Rattle.records.specs.Standing.{none_standing}
use Rattle.rules.specs.Lists.{no_element}
use Rattle.rules.specs.Refusals.{Before, Item, accept, accept_up_to, accepted, added, bad, fault_of, items_in, judged, may_stand, nothing, one}
use Rattle.rules.specs.TableText.{Record, Records, letter_t, lines_of, parted_by, field_count, letter_record}
use Rattle.rules.specs.Answers.{refuses}
use Rattle.rules.specs.declared.Refusal.{Refusal}
use Rattle.rules.specs.declared.Refused.{Refused}
use Rattle.std.specs.Prelude.{Result, Ok, Err}
use Rattle.text.proofs.Records.{no_letter_read, no_row_read, row_made_read}
use Rattle.text.proofs.Told.{row_with, no_field, nothing_taken, number_field, one_more, refused-field}
use Rattle.text.specs.Fields.{FieldsTold, refused_field, row_at, taken_says}
use Rattle.text.specs.Lines.{LineRead, item_of}
use Rattle.text.specs.declared.Line.{Line}
use Rattle.text.specs.declared.Parsed.{Parsed}
use Rattle.text.specs.declared.FieldTaken.{FieldTaken}
use Rattle.front.specs.ClockLine.{clock_line_says, first_line, first_of, line_one_says}
use Rattle.front.specs.Reading.{first_place, taken_at}
use Rattle.front.specs.declared.Clock.{Clock}
use Rattle.front.specs.declared.Kind.{Kind}

-- before line 1 nothing is noted
pub nothing_noted : Noted nothing none_standing []
unfolding nothing
nothing_noted = record { state = refl; rising = no_element; numbers = refl; requests = refl }

-- "One T, as line 1": no other record may stand there, so what is accepted has no F, no J and no H
pub record ClockAlone (r : Records) : Type 0 where
  pub no-speed : r.speeds ≡ []
  pub no-job : r.jobs ≡ []
  pub no-hold : r.holds ≡ []

clock_alone : (i : Item) (next : Before) → accept nothing i ≡ accepted next → ClockAlone next.records
unfolding accept_up_to nothing added may_stand
clock_alone (bad why) next e = let z : ◌≡◌ {A = ℕ} 0 1 = cc in absurd (omega arith)
clock_alone (one (Record.T clock budget)) next e =
    rw ((accepted_exactly nothing (Record.T clock budget) next).0 e).1 (record { no-speed = refl; no-job = refl; no-hold = refl })
clock_alone (one (Record.F f)) next e = absurd (false≢true ((accepted_exactly nothing (Record.F f) next).0 e).0.may-stand)
clock_alone (one (Record.J j)) next e = absurd (false≢true ((accepted_exactly nothing (Record.J j) next).0 e).0.may-stand)
clock_alone (one (Record.H h)) next e = absurd (false≢true ((accepted_exactly nothing (Record.H h) next).0 e).0.may-stand)

-- the answer that an accepted line 1 comes to; the letters of the last three cases are never accepted there
abbrev pub line_one : Parsed → Result Clock Refused
line_one (Parsed.Clock clock budget) = Ok (record { clock = clock; budget = budget })
line_one (Parsed.Speed f) = refuses Refusal.Order 1
line_one (Parsed.Job j) = refuses Refusal.Order 1
line_one (Parsed.Hold h) = refuses Refusal.Order 1

says_line_one : (i : Item) (p : Parsed) → judged_as nothing p ≡ accept nothing i
    → clock_line_says (line_one p) ≡ line_one_says (accept nothing i)
unfolding judged_as line_one_says added nothing
says_line_one i (Parsed.Clock clock budget) e = rw (← e)
says_line_one i (Parsed.Speed f) e =
    let z : ◌≡◌ {A = ℕ} 1 0 = ap length (clock_alone i _ (sym e)).no-speed in absurd (omega arith)
says_line_one i (Parsed.Job j) e =
    let z : ◌≡◌ {A = ℕ} 1 0 = ap length (clock_alone i _ (sym e)).no-job in absurd (omega arith)
says_line_one i (Parsed.Hold h) e =
    let z : ◌≡◌ {A = ℕ} 1 0 = ap length (clock_alone i _ (sym e)).no-hold in absurd (omega arith)

pub line_one_accepted : (text : List ℕ) (l : Line) → 0 < length text → LineAccepted text first_place nothing (Ok l)
    → clock_line_says (line_one l.parsed) ≡ first_line text
unfolding first_line first_of
line_one_accepted text l some_byte line = rw (items text some_byte) (says_line_one (first_item text) l.parsed line.judged)

pub line_one_refused : (text : List ℕ) (r : Refused) → 0 < length text → LineAccepted text first_place nothing (Err r)
    → clock_line_says (Err r) ≡ first_line text
unfolding first_line first_of line_one_says
line_one_refused text r some_byte line = rw (items text some_byte, ← line.judged, line.line)

pub no_line : (text : List ℕ) → length text ≡ 0 → clock_line_says (refuses Refusal.Order 1) ≡ first_line text
unfolding first_line first_of lines_of parted_by items_in
no_line [] e = refl
no_line (x ∷ text) e = absurd (omega arith)

-- Line 1 field by field. What the reader takes of it is what the line's item is made of.
module _ (text : List ℕ) (some_byte : 0 < length text) where
  line_one_item : (i : Item) → i ≡ first_item text → line_one_says (accept nothing i) ≡ first_line text
  unfolding first_line first_of
  line_one_item i e = rw (items text some_byte) (ap (λ i. line_one_says (accept nothing i)) e)

  line_one_shapeless : LineRead text first_place (refuses Refusal.Shape 1)
      → clock_line_says (refuses Refusal.Shape 1) ≡ first_line text
  unfolding accept_up_to line_one_says
  line_one_shapeless line = line_one_item (bad Refusal.Shape) line.item

  -- without a letter the line has no shape
  pub no_letter_one : (letter : FieldTaken) (r : Refused) → taken_says letter ≡ taken_at text first_place Kind.Letter
      → letter.field ≡ Err r → clock_line_says (refuses Refusal.Shape 1) ≡ first_line text
  unfolding taken_at
  no_letter_one letter r e f = line_one_shapeless (no_letter_read text first_place letter e r f)

  module _ (letter clock : FieldTaken) (e : taken_says letter ≡ taken_at text first_place Kind.Letter)
      (f : letter.field ≡ Ok letter_t) (d : taken_says clock ≡ taken_at text letter.next Kind.Number) where
    -- the row of a T's two numbers, by what it says
    abbrev row : FieldsTold
    row = row_at 2 text letter.next

    begins : row ≡ row_with letter.next [] row
    begins = nothing_taken 2 text letter.next

    no_row : refused_field letter.next ≡ row → clock_line_says (refuses Refusal.Shape 1) ≡ first_line text
    unfolding taken_at field_count
    no_row g = line_one_shapeless (no_row_read text first_place letter e letter_t f (rw (← g)))

    pub no_clock_one : (r : Refused) → clock.field ≡ Err r → clock_line_says (refuses Refusal.Shape 1) ≡ first_line text
    unfolding taken_at
    no_clock_one r g = no_row (no_field letter.next [] text letter.next 1 (refused-field clock _ r d g) ∙ sym begins)

    module _ (budget : FieldTaken) (n : ℕ) (number : clock.field ≡ Ok n)
        (b : taken_says budget ≡ taken_at text clock.next Kind.Last) where
      clock_taken : row ≡ row_with letter.next (n ∷ []) (row_at 1 text clock.next)
      unfolding taken_at
      clock_taken = begins ∙ one_more letter.next [] text letter.next n clock.next 1 (number_field clock _ n d number)

      pub no_budget_one : (r : Refused) → budget.field ≡ Err r → clock_line_says (refuses Refusal.Shape 1) ≡ first_line text
      unfolding taken_at
      no_budget_one r g = no_row (no_field letter.next (n ∷ []) text clock.next 0 (refused-field budget _ r b g) ∙ sym clock_taken)

      pub both_numbers_one : (m : ℕ) → budget.field ≡ Ok m
          → line_one_says (accept nothing (one (Record.T n m))) ≡ first_line text
      unfolding taken_at field_count letter_record item_of
      both_numbers_one m g =
          line_one_item (one (Record.T n m))
          (row_made_read text first_place letter e letter_t f (n ∷ m ∷ []) [] budget.next
          (sym (one_more letter.next (n ∷ []) text clock.next m budget.next 0 (number_field budget _ m b g)) ∙ sym clock_taken)).item

-- The numbers of a T line, judged after nothing.
module _ (clock budget : ℕ) where
  judged_one : {o : Option Refusal} → o ≡ clock_fault none_standing clock budget → o ≡ fault_of nothing (Record.T clock budget)
  judged_one fault = clock_judged nothing none_standing [] nothing_noted clock budget fault

  pub good_clock : none ≡ clock_fault none_standing clock budget
      → clock_line_says (Ok (record { clock = clock; budget = budget })) ≡ line_one_says (accept nothing (one (Record.T clock budget)))
  unfolding accept_up_to judged line_one_says added nothing
  good_clock fault = rw (sym (judged_one fault))

  pub bad_clock : (why : Refusal) → some why ≡ clock_fault none_standing clock budget
      → clock_line_says (refuses why 1) ≡ line_one_says (accept nothing (one (Record.T clock budget)))
  unfolding accept_up_to judged line_one_says
  bad_clock why fault = rw (sym (judged_one fault))
