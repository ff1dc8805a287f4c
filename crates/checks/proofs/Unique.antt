-- Any two verdicts that the promise of `check_table` allows are equal: both say what the rules' check says, and a verdict is
-- known by what it says. Assumes nothing.
use mathlib.Core.Path.{◌≡◌, sym, ◌∙◌}
use Rattle.laws.proofs.Unique.{verdict_unique}
use Rattle.checks.specs.Verdict.{CheckedInto}
use Rattle.columns.specs.declared.Columns.{Columns}
use Rattle.rules.specs.declared.Refused.{Refused}
use Rattle.rules.specs.declared.Table.{Table}
use Rattle.std.specs.Prelude.{Result}

pub unique : (t : Table) (c d : Columns) (r s : Result (Unit {0}) Refused) → CheckedInto t c r → CheckedInto t d s → r ≡ s
unique t c d r s p q = verdict_unique r s (p.verdict ∙ sym q.verdict)
