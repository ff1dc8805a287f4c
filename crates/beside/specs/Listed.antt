-- A listing's answer beside what the buffer holds, and what a text is listed as.
use Rattle.std.specs.Prelude.{List, Option, Some, None, Result, Ok, Err, ◌≡◌, ℕ}
use Rattle.plans.specs.Promises.{Plannable}
use Rattle.rules.specs.Answers.{written_says}
use Rattle.rules.specs.Plan.{at_budget}
use Rattle.rules.specs.Refusals.{AfterWriting, Taken, check, read, refused_at, taken}
use Rattle.rules.specs.TableText.{records_of}
use Rattle.rules.specs.declared.Refused.{Refused}
use Rattle.rules.specs.declared.Table.{Table}

abbrev pub wrote : Result ℕ Refused → List ℕ → AfterWriting
wrote w out = record { answer = written_says w; out = out }

-- what is taken of a text, with the text's own budget, or with the one beside it
abbrev pub taken_for : Option ℕ → List ℕ → Taken
taken_for None text = read text
taken_for (Some budget) text = at_budget budget (read text)

-- a table whose check refuses nothing, and that can be planned with its own budget
pub record Listable (table : Table) : Type 0 where
  pub checked : check table ≡ taken (records_of table)
  pub plannable : Plannable table table.budget

-- the table of what is taken, or the refusal
abbrev pub ReadWith : Option ℕ → List ℕ → Result Table Refused → Type 0
ReadWith beside text (Ok table) = (taken_for beside text ≡ taken (records_of table)) × Listable table
ReadWith beside text (Err r) = taken_for beside text ≡ refused_at r.why r.line

-- the same, where the table is put where the caller wants it
abbrev pub ReadInto : Option ℕ → List ℕ → Table → Result (Unit {0}) Refused → Type 0
ReadInto beside text table (Ok _) = ReadWith beside text (Ok table)
ReadInto beside text table (Err r) = ReadWith beside text (Err r)
