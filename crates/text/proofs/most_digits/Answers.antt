-- `text::most_digits` meets its contract: its test is that of `most_from`. Assumes nothing.
use Rattle.std.proofs.Common.{arith, eq-eqb, ne_eqb}
use Rattle.text.specs.Fields.{most_from}
use Rattle.text.proofs.most_digits.Goals as goal

pub returns-then-first-eq0 : goal.returns-then-first-eq0
unfolding most_from
returns-then-first-eq0 c = (rw (eq-eqb _ _ c.if-first-eq0.true), omega arith)

pub returns-else-first-eq0 : goal.returns-else-first-eq0
unfolding most_from
returns-else-first-eq0 c = (rw (ne_eqb _ _ c.if-first-eq0.false), omega arith)
