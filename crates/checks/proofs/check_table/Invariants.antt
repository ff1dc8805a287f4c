use lib.ListN.{length}
use Rattle.checks.specs.Left.{left}
use Rattle.checks.proofs.ColumnsSoFar.{ColumnsSoFar}
use Rattle.checks.proofs.check_table.Given as goal

abbrev pub invariant-loop-spot : goal.invariant-loop-spot
invariant-loop-spot l = ColumnsSoFar l.table l.columns l.before l.line

abbrev pub decreases-loop-spot : goal.decreases-loop-spot
decreases-loop-spot l = length (left l.table l.before)
