-- `digits::tab_rows_length` counts the bytes of tab lines: those of the lines of a letter, whatever it is, without the letter and the
-- tab behind it of each whole row. Assumes nothing.
use mathlib.Core.Path.{◌≡◌, ◌∙◌}
use Prim.Native.Nat.{◌+◌, ◌*◌, ◌/◌}
use native.Mathlib.Omega.{arith}
use lib.ListN.{length}
use Rattle.digits.proofs.Rows.{tab_rows_shorter}
use Rattle.digits.specs.Rows.{tab_rows}
use Rattle.digits.proofs.tab_rows_length.Goals.{After-rows_length}
use Rattle.digits.proofs.tab_rows_length.Goals as goal

counted : (c : After-rows_length)
    → let a = c.args in
    c.rows_length.result ≡ 2 * (length a.numbers.now / a.fields) + length (tab_rows a.fields a.numbers.now)
counted c =
    let start = c in
    c.rows_length.ensures 0 ∙ tab_rows_shorter 0 start.args.fields start.requires.0 start.args.numbers.now

pub overflow_sub-result : goal.overflow_sub-result
overflow_sub-result c = omega (arith, counted (goal.at.overflow_sub-result c).After-rows_length)

pub returns : goal.returns
returns c = omega (arith, counted (goal.at.returns c).After-rows_length)
