-- `digits::rows_length` counts the bytes of rows. At each row, what is counted and the lines left behind it make the whole,
-- whatever the letter; all of them have at most 23 bytes a number, so that no sum wraps. Assumes nothing.
use mathlib.Core.List.{◌++◌}
use mathlib.Core.Path.{◌≡◌, ap, ◌∙◌}
use Prim.Native.Nat.{ℕ, ◌+◌}
use native.Mathlib.Omega.{arith}
use lib.ListN.{length, length-append}
use Rattle.digits.proofs.LinesOfRows.{lines_of_rows, no_row_left, row_first}
use Rattle.digits.proofs.Rows.{row_lines_length}
use Rattle.digits.specs.Rows.{row_lines}
use Rattle.rules.specs.TableText.{line_text}
use Rattle.digits.proofs.rows_length.Goals.{After-line_length-bytes}
use Rattle.digits.proofs.rows_length.Goals as goal

-- the line that was counted, and the lines behind it
line-counted : (c : After-line_length-bytes) (letter : ℕ)
    → let fields = c.args.fields in
    c.loop-line.bytes + c.line_length-bytes.result + length (lines_of_rows (line_text letter) fields c.next.new.self.rest.now)
    ≡ length (lines_of_rows (line_text letter) fields c.args.numbers.now)
line-counted c letter =
    let l = c.loop-line in
    let fields = c.args.fields in
    let row = c.in-Some.line.now in
    let rest = c.next.new.self.rest.now in
    let steps = c.in-Some.ensures.steps in
    let here : lines_of_rows (line_text letter) fields l.line-iterator.rest.now ≡ line_text letter row ++ lines_of_rows (line_text letter) fields rest =
    rw steps.1.0 (row_first (line_text letter) fields c.requires.0 row rest (steps.1.1 ∙ l.invariant.size)) in
    omega (
      arith,
      ap length here,
      length-append (line_text letter row) (lines_of_rows (line_text letter) fields rest),
      l.invariant.counted letter,
      c.line_length-bytes.ensures letter,
    )

pub overflow_add-bytes : goal.overflow_add-bytes
unfolding row_lines
overflow_add-bytes c =
    omega (
      arith,
      line-counted (goal.at.overflow_add-bytes c).After-line_length-bytes 0,
      row_lines_length 0 c.args.fields c.requires.0 c.args.numbers.now,
    )

pub loop-line-preserved : goal.loop-line-preserved
loop-line-preserved c =
    let steps = c.in-Some.ensures.steps in
    record {
      size = steps.0 ∙ c.loop-line.invariant.size;
      few =
          omega (
            arith,
            ap length steps.1.0,
            length-append c.in-Some.line.now c.next.new.self.rest.now,
            c.loop-line.invariant.few,
          );
      counted = line-counted (goal.at.loop-line-preserved c).After-line_length-bytes;
    }

pub returns : goal.returns
unfolding row_lines
returns c letter =
    let l = c.loop-line in
    let none =
    no_row_left (line_text letter) c.args.fields c.requires.0 l.line-iterator.rest.now
    (omega (arith, c.in-None.ensures.steps.1.0, l.invariant.size)) in
    omega (arith, ap length none, l.invariant.counted letter)
