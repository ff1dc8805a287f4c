-- `text::line_behind` meets its contract: its tests are those of `line_behind`. Assumes nothing.
use Rattle.std.proofs.Common.{◌≡◌, ℕ, ◌+◌, ◌<◌, ltb, Bool, true, false, cond, min, arith, refl, eq-eqb, ne_eqb, ltb-true, ltb-false}
use Rattle.text.specs.Fields.{line_behind, most_line}
use Rattle.text.proofs.line_behind.Goals as goal

capped : (t : Bool) (line : ℕ) → line < most_line + 1 → ltb line most_line ≡ t → min (line + 1) most_line ≡ cond t (line + 1) line
capped true line h e = omega (arith, ltb-true line most_line e)
capped false line h e = omega (arith, ltb-false line most_line e)

pub returns-then-end-eq10 : goal.returns-then-end-eq10
unfolding line_behind
returns-then-end-eq10 c =
    rw (c.saturating_add.ensures, eq-eqb _ _ c.if-end-eq10.true)
    (capped _ c.args.line (omega (arith, c.ranges.line.fits)) refl)

pub returns : goal.returns
unfolding line_behind
returns c = simp (ne_eqb _ _ c.if-end-eq10.false)
