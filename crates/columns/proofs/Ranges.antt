-- The columns of jobs in range are in range: at each place stands a number of a job in range, or 0. Assumes nothing.
use mathlib.Core.Bool.{true}
use mathlib.Core.List.{List, [], ◌∷◌}
use mathlib.Core.Path.{◌≡◌}
use Prim.Native.Nat.{ℕ, zero, suc, ◌≤◌}
use native.Mathlib.Omega.{arith}
use lib.ListN.{get_or}
use Rattle.columns.specs.Columns.{AtMost, Column, Columns, ColumnsOf}
use Rattle.columns.specs.Ranges.{ColumnsInRange}
use Rattle.grammar.proofs.Ranges.{JobRanges, job_ranges}
use Rattle.rules.specs.Lists.{Each, ◌and◌}
use Rattle.rules.specs.TableText.{Record, in_range, no_job}
use Rattle.rules.specs.declared.Job.{Job}

-- a column is at most what the field of each job is
column_at_most : (f : Job → ℕ) (js : List Job) (c : List ℕ) (b : ℕ) → Column f js c
    → ((i : ℕ) → f (get_or js i no_job) ≤ b) → AtMost b c
column_at_most f js c b column h i = rw (column i) (h i)

module _ (f : Job → ℕ) (b : ℕ) (none_at_most : f no_job ≤ b) (each_at_most : (j : Job) → JobRanges j → f j ≤ b) where
  field_at_most : (js : List Job) → Each (λ j. in_range (Record.J j) ≡ true) js → (i : ℕ) → f (get_or js i no_job) ≤ b
  field_at_most [] e i = none_at_most
  field_at_most (j ∷ js) (r and e) zero = each_at_most j (job_ranges j r)
  field_at_most (j ∷ js) (r and e) (suc i) = field_at_most js e i

  column_in_range : (js : List Job) (c : List ℕ) → Each (λ j. in_range (Record.J j) ≡ true) js → Column f js c
      → AtMost b c
  column_in_range js c e column = column_at_most f js c b column (field_at_most js e)

pub columns_in_range : (js : List Job) (c : Columns) → Each (λ j. in_range (Record.J j) ≡ true) js → ColumnsOf js c
    → ColumnsInRange c
columns_in_range js c e columns = record {
  number = column_in_range (λ j. j.number) _ (omega arith) (λ j r. r.number_to) js c.number e columns.number;
  cycles = column_in_range (λ j. j.cycles) _ (omega arith) (λ j r. r.cycles_to) js c.cycles e columns.cycles;
  worth = column_in_range (λ j. j.worth) _ (omega arith) (λ j r. r.worth_to) js c.worth e columns.worth;
  critical =
      column_in_range (λ j. j.critical) _ (omega arith) (λ j r. r.critical_to) js c.critical e columns.critical;
  termination =
      column_in_range (λ j. j.termination) _ (omega arith) (λ j r. r.termination_to) js c.termination e
      columns.termination;
  request =
      column_in_range (λ j. j.request) _ (omega arith) (λ j r. r.request_to) js c.request e columns.request;
}
