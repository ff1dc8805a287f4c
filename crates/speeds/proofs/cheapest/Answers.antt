-- `speeds::cheapest` meets its contract: of the speeds passed the cheapest is kept, and where another has as little the lower one
-- stays. In the ranges no energy wraps. Assumes nothing.
use mathlib.Core.List.{List, ◌∷◌}
use mathlib.Core.Path.{◌≡◌, sym, ap, ◌∙◌}
use Prim.Native.Nat.{ℕ, suc, ◌+◌, ◌*◌, ◌≤◌, ◌<◌}
use native.Mathlib.Nat.{mul-le-mul}
use native.Mathlib.Numerals.{add-one}
use native.Mathlib.Omega.{arith}
use borrow.Author.Tests.{eqb-false, eqb-true}
use lib.Dec.{eqb}
use lib.ListN.{get_or, length}
use Rattle.laws.proofs.Choices.{split}
use Rattle.rules.specs.TableText.{no_speed}
use Rattle.rules.specs.declared.Speed.{Speed}
use Rattle.speeds.proofs.cheapest.Invariants.{Least}
use Rattle.speeds.proofs.cheapest.Goals.{In-loop-speed, else-total-speed, then-total-speed}
use Rattle.speeds.proofs.cheapest.Goals as goal

module _ (speeds : List Speed) (total i r : ℕ) (l : Least speeds total (i + 1) r) where
  abbrev energy : ℕ → ℕ
  energy k = total * (get_or speeds k no_speed).cost

  taken : energy (i + 1) < energy r → Least speeds total (i + 1 + 1) (i + 1)
  taken less = record {
    inside = omega arith;
    none_less = λ k h.
        split (eqb k (i + 1))
        (λ e. rw (eqb-true k (i + 1) e) (omega arith))
        (λ e. omega (arith, l.none_less k (omega (arith, eqb-false k (i + 1) e))));
    before_more = λ k h. omega (arith, l.none_less k h);
  }

  kept : energy r ≤ energy (i + 1) → Least speeds total (i + 1 + 1) r
  kept no_less = record {
    inside = omega (arith, l.inside);
    none_less = λ k h.
        split (eqb k (i + 1))
        (λ e. rw (eqb-true k (i + 1) e) no_less)
        (λ e. l.none_less k (omega (arith, eqb-false k (i + 1) e)));
    before_more = l.before_more;
  }

-- a higher speed stands one place further down among all
among_all : (c : In-loop-speed)
    → get_or c.in_ok-least.higher.now c.loop-speed.speed-index no_speed ≡ get_or c.args.speeds.now (c.loop-speed.speed-index + 1) no_speed
among_all c =
    let i = c.loop-speed.speed-index in
    sym
    (ap (λ fs. get_or fs (i + 1) no_speed) c.in_ok-least.ensures.cases.0
    ∙ ap (λ k. get_or {A = Speed} (c.in_ok-least.least.now ∷ c.in_ok-least.higher.now) k no_speed) (add-one i))

pub overflow_mul-total : goal.overflow_mul-total
overflow_mul-total c =
    let i = c.loop-speed.speed-index in
    let here = among_all (goal.at.overflow_mul-total c).In-loop-speed in
    let longer : length c.args.speeds.now ≡ suc (length c.in_ok-least.higher.now) = ap length c.in_ok-least.ensures.cases.0 in
    omega (
      arith,
      mul-le-mul c.requires.total_small (c.requires.in-range.cost (i + 1) (omega arith)),
      ap (λ (f : Speed). c.args.total * f.cost) here,
    )

pub loop-speed-preserved : goal.loop-speed-preserved
loop-speed-preserved c =
    let speeds = c.args.speeds.now in
    let total = c.args.total in
    let i = c.loop-speed.speed-index in
    let here = among_all (goal.at.loop-speed-preserved c).In-loop-speed in
    let energy-here = ap (λ (f : Speed). total * f.cost) here in
    let energy-least = ap (λ (f : Speed). total * f.cost) c.loop-speed.invariant.2 in
    let so-far = c.loop-speed.invariant in
    elim c.if-total-speed.branch [
      | then-total-speed w ↦
          rw w.least-is
          (i + 1, taken speeds total i so-far.0 so-far.1 (omega (arith, energy-here, energy-least, w.if-total-speed.true)), here)
      | else-total-speed w ↦
          rw w.least-is
          (so-far.0, kept speeds total i so-far.0 so-far.1 (omega (arith, energy-here, energy-least, w.if-total-speed.false)), so-far.2)
    ]
