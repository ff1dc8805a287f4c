use mathlib.Core.Path.{◌≡◌}
use Rattle.digits.proofs.LinesOfRows.{lines_of_rows}
use Rattle.digits.proofs.PutSoFar.{PutSoFar}
use Rattle.digits.specs.Rows.{line_of}
use Rattle.digits.proofs.put_rows.Given as goal

abbrev pub invariant-loop-row : goal.invariant-loop-row
invariant-loop-row l = record {
  size : l.row-iterator.size ≡ l.fields;
  same_letter : l.fn.letter ≡ l.letter;
  so_far : PutSoFar (lines_of_rows (line_of l.fn.letter) l.fields l.numbers) l.initial.out l.initial.next
      (lines_of_rows (line_of l.fn.letter) l.fields l.row-iterator.rest.now) l.out l.next;
}
