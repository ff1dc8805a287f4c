-- `planner::ask` meets its contract: what is refused before the table is looked at, then the table's check. Assumes nothing.
use Rattle.std.proofs.lemmas.Result.{err_from_is_err_and}
use Rattle.std.specs.Prelude.{Err, Ok, Result}
use Rattle.checks.proofs.Exactly.{done_exactly, refused_exactly}
use Rattle.checks.specs.Verdict.{CheckedInto}
use Rattle.columns.specs.declared.Columns.{Columns}
use Prim.Native.Nat.{ℕ}
use Rattle.planner.specs.Promises.{Asked, Unrefused, before, of_table}
use Rattle.rules.specs.declared.Refused.{Refused}
use Rattle.rules.specs.declared.Table.{Table}
use Rattle.planner.proofs.ask.Goals as goal

pub returns-in_err-before_table : goal.returns-in_err-before_table
returns-in_err-before_table c =
    let p = err_from_is_err_and c.from_residual.result c.from_residual.ensures.1 in
    rw (p.1, p.2) (before c.in_err-before_table.ensures)

-- the check's verdict
checked : (t : Table) (first second budget : ℕ) (columns : Columns) (r : Result (Unit {0}) Refused)
    → Unrefused first second budget → CheckedInto t columns r → Asked t first second budget columns r
checked t first second budget columns (Ok tt) unrefused into =
    let taken_so = (done_exactly t).0 into.verdict in
    record { unrefused = unrefused; records_taken = taken_so; columns_of = into.columns taken_so }
checked t first second budget columns (Err r) unrefused into =
    of_table unrefused ((refused_exactly t r.why r.line).0 into.verdict)

pub returns : goal.returns
returns c =
    let a = c.args in
    checked a.table.now a.first a.second a.budget c.check_table.new.columns c.check_table.result
    c.in_ok-before_table.ensures c.check_table.ensures
