-- The table without records is the rules'. Assumes nothing.
use mathlib.Core.Path.{refl}
use Rattle.rules.specs.TableText.{table_of_up_to}
use Rattle.rules.proofs.Table.without_records.Goals as goal

pub returns : goal.returns
unfolding table_of_up_to
returns c = refl
