-- `chains::late` meets its contract: where the end is not at or before the termination, it is after it. Assumes nothing.
use Rattle.std.proofs.Common.{arith}
use Rattle.std.proofs.lemmas.Bool.Decides.{nat_tests}
use Rattle.rules.specs.Plan.{ends_by}
use Rattle.chains.proofs.late.Goals as goal

pub returns : goal.returns
unfolding ends_by
returns c = grind (arith, nat_tests)
