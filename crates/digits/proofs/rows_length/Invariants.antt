use mathlib.Core.Path.{◌≡◌}
use Prim.Native.Nat.{ℕ, ◌+◌, ◌≤◌}
use lib.ListN.{length}
use Rattle.digits.proofs.LinesOfRows.{lines_of_rows}
use Rattle.rules.specs.TableText.{line_text}
use Rattle.digits.proofs.rows_length.Given as goal

abbrev pub invariant-loop-line : goal.invariant-loop-line
invariant-loop-line l = record {
  size : l.line-iterator.size ≡ l.fields;
  few : length l.line-iterator.rest.now ≤ length l.numbers;
  counted : (letter : ℕ) → l.bytes + length (lines_of_rows (line_text letter) l.fields l.line-iterator.rest.now)
      ≡ length (lines_of_rows (line_text letter) l.fields l.numbers);
}
