-- Where the reading begins and where it ends: before line 1 nothing is stored; a refused line, or no F at the end of the text,
-- is the rules' refusal of the text; else the table is that of all its records. Assumes nothing.
use mathlib.Core.Bool.{true}
use mathlib.Core.List.{List, [], ◌∷◌}
use mathlib.Core.Path.{◌≡◌, refl, sym, ap, ◌∙◌}
use Prim.Native.Nat.{ℕ, ◌≤◌, ◌<◌}
use native.Mathlib.Omega.{arith}
use lib.ListN.{length, drop, drop_of_length-le, length-drop}
use Rattle.grammar.proofs.Accepted.{nothing_read}
use Rattle.laws.proofs.Elements.{not_empty}
use Rattle.grammar.proofs.Lines.{items}
use Rattle.records.specs.Standing.{none_standing}
use Rattle.records.specs.declared.Standing.{Standing}
use Rattle.rules.specs.Lists.{empty}
use Rattle.rules.specs.Refusals.{and_then, at_end, items_in, nothing, read, read_up_to, reading, reading_up_to, table_answer_up_to, take_from_up_to}
use Rattle.rules.specs.TableText.{lines_of, no_records, parted_by, table_of, table_of_up_to, with_counts}
use Rattle.rules.specs.Answers.{reading_says, refuses}
use Rattle.rules.specs.declared.Refusal.{Refusal}
use Rattle.rules.specs.declared.Refused.{Refused}
use Rattle.std.specs.Prelude.{Ok, Err}
use Rattle.rules.specs.declared.Speed.{Speed}
use Rattle.rules.specs.declared.Table.{Table}
use Rattle.text.specs.Fields.{most_line}
use Rattle.text.specs.declared.Cursor.{Cursor}
use Rattle.lines.specs.Step.{RecordRefused}
use Rattle.reader.proofs.SoFar.{SoFar, stands_with}

pub at_start : (text : List ℕ) → length text ≤ most_line
    → SoFar text (table_of no_records) none_standing (record { at = 0; line = 1 })
unfolding table_of_up_to nothing read_up_to
at_start text counted = record {
  records = no_records;
  lines = [];
  in_places = refl;
  reached = nothing_read;
  state = refl;
  to_read = refl;
  few_lines = omega arith;
  within = omega arith;
  counted = counted;
}

module _ (text : List ℕ) (table : Table) (before : Standing) (place : Cursor) (so_far : SoFar text table before place) where
  pub refused-line : place.at < length text → (r : Refused)
      → RecordRefused text place (stands_with before so_far.records) r → reading_says (Err r) ≡ reading text
  unfolding reading_up_to table_answer_up_to take_from_up_to and_then
  refused-line inside r line =
      let remains : 0 < length (drop place.at text) = rw (length-drop place.at text) (omega arith) in
      rw so_far.to_read (rw (items (drop place.at text) remains) (rw (← line.judged) (rw line.line)))

  ended : length text ≤ place.at → read text ≡ at_end place.line (stands_with before so_far.records)
  unfolding lines_of parted_by items_in take_from_up_to
  ended h = so_far.to_read ∙ rw (drop_of_length-le text h)

  no_speeds : (fs : List Speed) → length fs ≡ 0 → empty fs ≡ true
  no_speeds [] e = refl
  no_speeds (f ∷ fs) e = absurd (omega arith)

  pub no-speed : length text ≤ place.at → before.speeds ≡ 0
      → reading_says (refuses Refusal.Order place.line) ≡ reading text
  unfolding reading_up_to table_answer_up_to at_end
  no-speed h e =
      let n = ap (λ (s : Standing). s.speeds) so_far.state in
      rw (ended h) (rw (no_speeds so_far.records.speeds (sym n ∙ e)))

  pub all_read : length text ≤ place.at → (before.speeds ≡ 0 → ⊥) → reading_says (Ok (with_counts table before.speeds before.jobs before.holds)) ≡ reading text
  unfolding reading_up_to table_answer_up_to at_end table_of_up_to
  all_read h e =
      let n = ap (λ (s : Standing). s.speeds) so_far.state in
      let some_speed : 1 ≤ length so_far.records.speeds = omega arith in
      rw (ended h) (rw (not_empty so_far.records.speeds some_speed) (rw so_far.in_places (rw so_far.state)))
