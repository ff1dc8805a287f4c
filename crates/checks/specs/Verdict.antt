-- What the check of a table says.
use Rattle.std.specs.Prelude.{Result, [], ◌≡◌, length}
use Rattle.columns.specs.Columns.{ColumnsOf}
use Rattle.columns.specs.declared.Columns.{Columns}
use Rattle.rules.specs.Answers.{Answer, good, refused, verdict_says}
use Rattle.rules.specs.Refusals.{Taken, check, refused_at, taken}
use Rattle.rules.specs.TableText.{most_jobs, records_of}
use Rattle.rules.specs.declared.Refused.{Refused}
use Rattle.rules.specs.declared.Table.{Table}

-- Nothing is refused where the records are taken, else the refusal and its line.
abbrev pub check_says : Taken → Answer
check_says (taken r) = good []
check_says (refused_at why line) = refused why line []

-- What the check says, and the columns of the jobs of a table whose records are taken. Who plans it writes over that of the worths,
-- which is whole.
pub record CheckedInto (t : Table) (c : Columns) (r : Result (Unit {0}) Refused) : Type 0 where
  pub verdict : verdict_says r ≡ check_says (check t)
  pub columns : check t ≡ taken (records_of t) → ColumnsOf (records_of t).jobs c
  pub worth_whole : check t ≡ taken (records_of t) → length c.worth ≡ most_jobs
