-- A line with its judgement is the rules' `accept` of its item: without a fault the record is added, with one it is refused.
-- Assumes nothing.
use mathlib.Core.List.{List}
use mathlib.Core.Option.{none, some}
use mathlib.Core.Path.{◌≡◌, refl}
use Prim.Native.Nat.{ℕ}
use Rattle.rules.specs.Refusals.{Before, Item, accept, accept_up_to, bad, judged, one, refused_for}
use Rattle.rules.specs.Answers.{refuses}
use Rattle.rules.specs.declared.Refusal.{Refusal}
use Rattle.rules.specs.declared.Refused.{Refused}
use Rattle.std.specs.Prelude.{Ok, Err}
use Rattle.text.specs.Lines.{LineRead, item_of}
use Rattle.text.specs.declared.Cursor.{Cursor}
use Rattle.text.specs.declared.Line.{Line}
use Rattle.text.specs.declared.Parsed.{Parsed}
use Rattle.lines.specs.Step.{LineAccepted, fault_in, judged_as}

-- without a fault
accepted_good : (b : Before) (p : Parsed) → fault_in b (item_of p) ≡ none → judged_as b p ≡ accept b (item_of p)
unfolding accept_up_to judged item_of judged_as
accepted_good b (Parsed.Clock clock budget) e = rw e
accepted_good b (Parsed.Speed f) e = rw e
accepted_good b (Parsed.Job j) e = rw e
accepted_good b (Parsed.Hold h) e = rw e

-- with one
accepted_bad : (b : Before) (i : Item) (why : Refusal) → fault_in b i ≡ some why → refused_for why ≡ accept b i
unfolding accept_up_to judged
accepted_bad b (one r) why e = rw e
accepted_bad b (bad other) why e = cc

module _ (text : List ℕ) (place : Cursor) (b : Before) where
  pub no_line : (r : Refused) → LineRead text place (Err r) → LineAccepted text place b (Err r)
  no_line r read = record { judged = rw (← read.item) (accepted_bad b (bad r.why) r.why refl); line = read.line }

  module _ (l : Line) (read : LineRead text place (Ok l)) where
    pub good_line : fault_in b (item_of l.parsed) ≡ none → LineAccepted text place b (Ok l)
    good_line e = record {
      judged = rw (← read.item) (accepted_good b l.parsed e);
      within = read.within;
      rest = read.rest;
      next_line = read.next_line;
    }

    pub bad_line : (why : Refusal) → fault_in b (item_of l.parsed) ≡ some why
        → LineAccepted text place b (refuses why place.line)
    bad_line why e = record { judged = rw (← read.item) (accepted_bad b (item_of l.parsed) why e); line = refl }
