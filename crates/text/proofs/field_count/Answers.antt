-- `text::field_count` meets its contract: its arms are those of `field_count`, and no count is above the most. Assumes nothing.
use Rattle.std.proofs.Common.{arith, ne_eqb}
use Rattle.rules.specs.TableText.{field_count}
use Rattle.text.proofs.field_count.Goals as goal

pub returns-in-84 : goal.returns-in-84
unfolding field_count
returns-in-84 c = (rw c.in-84.is, omega arith)

pub returns-in-70 : goal.returns-in-70
unfolding field_count
returns-in-70 c = (rw c.in-70.is, omega arith)

pub returns-in-74 : goal.returns-in-74
unfolding field_count
returns-in-74 c = (rw c.in-74.is, omega arith)

pub returns-in-72 : goal.returns-in-72
unfolding field_count
returns-in-72 c = (rw c.in-72.is, omega arith)

pub returns-in_default : goal.returns-in_default
unfolding field_count
returns-in_default c =
    let o = c.in_default.in_default-own.rest in
    (simp (ne_eqb _ _ o.0.0.0.1, ne_eqb _ _ o.0.0.1, ne_eqb _ _ o.0.1, ne_eqb _ _ o.1), omega arith)
