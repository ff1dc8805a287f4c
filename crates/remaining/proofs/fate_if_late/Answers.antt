-- `remaining::fate_if_late` meets its contract: a job that is late has fate 2, and one that is not has 0. Assumes nothing.
use mathlib.Core.Path.{sym, ◌∙◌}
use Rattle.remaining.proofs.fate_if_late.Goals as goal

pub returns-then-late : goal.returns-then-late
returns-then-late c = rw (sym c.late.ensures ∙ c.if-late.true) c.from.ensures

pub returns : goal.returns
returns c = rw (sym c.late.ensures ∙ c.if-late.false)
