-- `chains::deadline` meets its contract. Assumes nothing.
use Rattle.std.proofs.Common.{rules}
use Rattle.steps.specs.Deadlines.{cycles_by}
use Rattle.chains.proofs.deadline.Goals as goal

pub returns : goal.returns
unfolding cycles_by
returns c = search rules
