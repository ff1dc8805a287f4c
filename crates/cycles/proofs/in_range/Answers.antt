-- `cycles::in_range` meets its contract: it joins the same three tests as the rules do, from the left. Assumes nothing.
use mathlib.Core.Bool.{◌&&◌}
use mathlib.Core.Path.{◌≡◌}
use Prim.Native.Nat.{◌^◌}
use Rattle.rules.specs.Cycles.{asked_in_range}
use Rattle.rules.specs.Lists.{within}
use Rattle.rules.specs.TableText.{most_cycles}
use Rattle.cycles.proofs.in_range.Goals.{Joined-within, else-within, then-within}
use Rattle.cycles.proofs.in_range.Goals as goal

first_two : (j : Joined-within) → let asked = j.args in
    j.if-within.value ≡ within 1 most_cycles asked.mean && within 0 (10 ^ 12) asked.variance
first_two j =
    elim j.if-within.branch [
      | then-within second ↦ simp (← j.within.ensures, second.if-within.true, ← second.within-then-within.ensures, second.value-is)
      | else-within first ↦ simp (← j.within.ensures, first.if-within.false, first.value-is)
    ]

pub returns-then-within-2 : goal.returns-then-within-2
unfolding asked_in_range
returns-then-within-2 c = simp (← first_two (goal.at.returns-then-within-2 c).Joined-within, c.if-within-2.true, c.within-then-within-2.ensures)

pub returns-else-within-2 : goal.returns-else-within-2
unfolding asked_in_range
returns-else-within-2 c = simp (← first_two (goal.at.returns-else-within-2 c).Joined-within, c.if-within-2.false)
