-- `cycles::least` meets its contract. Fewer cycles than `low` are not enough, `high` are: the middle settles all on one
-- side of it, since more than enough is enough. Where `low` and `high` meet, they are the least. The measure is
-- `high - low`. Assumes nothing.
use mathlib.Core.Path.{sym, ◌∙◌}
use native.Mathlib.Omega.{arith}
use Rattle.laws.proofs.Allocation.{answer_is_least, enough_above, in_ranges, not_enough_below}
use Rattle.cycles.proofs.least.Goals as goal

pub loop-low-init : goal.loop-low-init
loop-low-init c =
    let ranges = in_ranges _ _ _ c.requires.0 in
    record {
      from_mean = omega arith;
      in_order = omega arith;
      to_most = omega arith;
      high-enough = c.requires.1;
      none_below = λ d l h. absurd (omega arith);
    }

pub enough-requires : goal.enough-requires
enough-requires c = (c.requires.0, omega arith, omega arith)

pub loop-low-preserved-then-enough : goal.loop-low-preserved-then-enough
loop-low-preserved-then-enough c =
    let between = c.loop-low.invariant in
    record {
      from_mean = between.from_mean;
      in_order = omega arith;
      to_most = omega arith;
      high-enough = sym c.enough.ensures ∙ c.if-enough.true;
      none_below = between.none_below;
    }

pub loop-low-preserved : goal.loop-low-preserved
loop-low-preserved c =
    let between = c.loop-low.invariant in
    record {
      from_mean = omega arith;
      in_order = omega arith;
      to_most = between.to_most;
      high-enough = between.high-enough;
      none_below = λ d l h.
          not_enough_below _ _ _ d _ (omega arith) (sym c.enough.ensures ∙ c.if-enough.false);
    }

pub returns : goal.returns
returns c =
    let between = c.loop-low.invariant in
    (answer_is_least _ _ _ _).1 (
      c.requires.0,
      record {
        from_mean = between.from_mean;
        to_most = omega arith;
        is_enough = enough_above _ _ _ _ _ c.loop-low-test.false between.high-enough;
        none_less = between.none_below;
      },
    )
