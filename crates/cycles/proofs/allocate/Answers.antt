-- `cycles::allocate` meets its contract: outside the ranges the rules refuse 2; where 1,000,000 cycles are not enough
-- none are, and the rules refuse 10; else the least that is enough is their answer. Assumes nothing.
use mathlib.Core.Bool.{true}
use mathlib.Core.Path.{◌≡◌, sym, ◌∙◌}
use native.Mathlib.Omega.{arith}
use borrow.Author.Tests.{not-false, not-true}
use Rattle.laws.proofs.Allocation.{in_ranges, not_enough_below, refused_outside, refused_where_none_enough}
use Rattle.rules.specs.Cycles.{asked_in_range}
use Rattle.rules.specs.TableText.{most_cycles}
use Rattle.cycles.proofs.allocate.Goals.{Else-not-in_range}
use Rattle.cycles.proofs.allocate.Goals as goal

in-range : (c : Else-not-in_range) → let asked = c.args in
    asked_in_range asked.mean asked.variance asked.assurance ≡ true
in-range c = sym c.in_range.ensures ∙ not-false _ c.if-not-in_range.false-raw

pub returns-then-not-in_range : goal.returns-then-not-in_range
returns-then-not-in_range c =
    rw c.at.ensures (sym ((refused_outside _ _ _).1 (sym c.in_range.ensures ∙ not-true _ c.if-not-in_range.true-raw)))

pub enough-requires : goal.enough-requires
enough-requires c = let ranges = in_ranges _ _ _ (in-range (goal.at.enough-requires c).Else-not-in_range) in (in-range (goal.at.enough-requires c).Else-not-in_range, omega arith, omega arith)

pub returns-then-not-enough : goal.returns-then-not-enough
returns-then-not-enough c =
    rw c.at-then-not-enough.ensures (sym ((refused_where_none_enough _ _ _).1 (
      in-range (goal.at.returns-then-not-enough c).Else-not-in_range,
      λ d l h. not_enough_below _ _ _ d most_cycles h (sym c.enough.ensures ∙ not-true _ c.if-not-enough.true-raw),
    )))

pub least-requires : goal.least-requires
least-requires c = (in-range (goal.at.least-requires c).Else-not-in_range, sym c.enough.ensures ∙ not-false _ c.if-not-enough.false-raw)

pub returns : goal.returns
returns c = sym c.least.ensures
