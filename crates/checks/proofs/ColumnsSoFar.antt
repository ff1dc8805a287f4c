-- What holds beside `SoFar` where the jobs are put into columns as they are accepted: each column is that of the jobs accepted so far.
-- Assumes nothing.
use mathlib.Core.Bool.{Bool, true, false, false≢true}
use mathlib.Core.Option.{none}
use mathlib.Core.Path.{◌≡◌, refl, sym, ap, ◌∙◌}
use Prim.Native.Nat.{ℕ, ◌+◌}
use lib.ListN.{length}
use Rattle.checks.proofs.SoFar.{SoFar, at_start, start_column, stored, stored_in, with_it}
use Rattle.checks.specs.Left.{Comes}
use Rattle.checks.specs.Verdict.{CheckedInto}
use Rattle.columns.proofs.Stored.{Filled}
use Rattle.columns.specs.Columns.{ColumnsOf, no_jobs}
use Rattle.columns.specs.declared.Columns.{Columns}
use Rattle.lines.specs.Step.{after_parsed}
use Rattle.records.specs.Standing.{none_standing}
use Rattle.records.specs.declared.Standing.{Standing}
use Rattle.rules.specs.Refusals.{Taken, check, fault_of, refused_at, taken}
use Rattle.rules.specs.TableText.{Record, Records, most_jobs, records_of}
use Rattle.rules.specs.declared.Refusal.{Refusal}
use Rattle.rules.specs.declared.Table.{Table}
use Rattle.rules.specs.Answers.{refuses}
use Rattle.std.specs.Prelude.{Ok}
use Rattle.text.specs.Lines.{parsed_of}
use Rattle.text.specs.declared.Parsed.{Parsed}

pub record ColumnsSoFar (t : Table) (c : Columns) (before : Standing) (line : ℕ) : Type 0 where
  pub so_far : SoFar t before line
  pub number : Filled (λ j. j.number) so_far.stands.records.jobs c.number
  pub cycles : Filled (λ j. j.cycles) so_far.stands.records.jobs c.cycles
  pub worth : Filled (λ j. j.worth) so_far.stands.records.jobs c.worth
  pub critical : Filled (λ j. j.critical) so_far.stands.records.jobs c.critical
  pub termination : Filled (λ j. j.termination) so_far.stands.records.jobs c.termination
  pub request : Filled (λ j. j.request) so_far.stands.records.jobs c.request

pub filled_with_zeros : (t : Table) → ColumnsSoFar t no_jobs none_standing 1
filled_with_zeros t = record {
  so_far = at_start t;
  number = start_column (λ j. j.number) refl;
  cycles = start_column (λ j. j.cycles) refl;
  worth = start_column (λ j. j.worth) refl;
  critical = start_column (λ j. j.critical) refl;
  termination = start_column (λ j. j.termination) refl;
  request = start_column (λ j. j.request) refl;
}

-- a J's fields are stored in the first free places of the columns
abbrev pub stored_in_all : Standing → Parsed → Columns → Columns
stored_in_all s p c = record {
  number = stored_in (λ j. j.number) s p c.number;
  cycles = stored_in (λ j. j.cycles) s p c.cycles;
  worth = stored_in (λ j. j.worth) s p c.worth;
  critical = stored_in (λ j. j.critical) s p c.critical;
  termination = stored_in (λ j. j.termination) s p c.termination;
  request = stored_in (λ j. j.request) s p c.request;
}

module _ {t : Table} {c : Columns} {before : Standing} {line : ℕ} (all : ColumnsSoFar t c before line) where
  pub one_more_in_all : (r : Record) (p : Parsed) → p ≡ parsed_of r → Comes t before r
      → fault_of all.so_far.stands r ≡ none → length t.jobs ≡ most_jobs
      → ColumnsSoFar t (stored_in_all before p c) (after_parsed before p) (line + 1)
  one_more_in_all r p e comes fault whole =
      rw e (record {
        so_far = with_it all.so_far r comes fault whole;
        number = stored all.so_far r comes (λ j. j.number) c.number all.number;
        cycles = stored all.so_far r comes (λ j. j.cycles) c.cycles all.cycles;
        worth = stored all.so_far r comes (λ j. j.worth) c.worth all.worth;
        critical = stored all.so_far r comes (λ j. j.critical) c.critical all.critical;
        termination = stored all.so_far r comes (λ j. j.termination) c.termination all.termination;
        request = stored all.so_far r comes (λ j. j.request) c.request all.request;
      })

  pub columns_so_far : ColumnsOf all.so_far.stands.records.jobs c
  columns_so_far = record {
    number = all.number.column;
    cycles = all.cycles.column;
    worth = all.worth.column;
    critical = all.critical.column;
    termination = all.termination.column;
    request = all.request.column;
  }

-- what is taken is told once
records_taken : Taken → Records → Records
records_taken (taken rs) other = rs
records_taken (refused_at why line) other = other

is_taken : Taken → Bool
is_taken (taken rs) = true
is_taken (refused_at why line) = false

-- what is promised of a table that is refused, and of one whose records are taken
pub refused_table : {t : Table} {c : Columns} {why : Refusal} {line : ℕ} → check t ≡ refused_at why line
    → CheckedInto t c (refuses why line)
unfolding is_taken
refused_table e = record {
  verdict = rw e;
  columns = λ is. absurd (false≢true (sym (ap is_taken e) ∙ ap is_taken is));
  worth_whole = λ is. absurd (false≢true (sym (ap is_taken e) ∙ ap is_taken is));
}

pub taken_table : {t : Table} {c : Columns} {before : Standing} {line : ℕ} (all : ColumnsSoFar t c before line)
    → check t ≡ taken all.so_far.stands.records → CheckedInto t c (Ok tt)
unfolding records_taken
taken_table {t} all e = record {
  verdict = rw e;
  columns = λ is.
      let same : all.so_far.stands.records ≡ records_of t = ap (λ k. records_taken k (records_of t)) (sym e ∙ is) in
      rw same at (columns_so_far all);
  worth_whole = λ is. all.worth.whole;
}
