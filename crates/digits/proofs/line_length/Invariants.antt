use mathlib.Core.Path.{◌≡◌}
use Prim.Native.Nat.{◌+◌, ◌*◌, ◌≤◌}
use lib.ListN.{length, drop}
use Rattle.grammar.proofs.LineText.{behind_letter}
use Rattle.digits.proofs.line_length.Given as goal

abbrev pub invariant-loop-n : goal.invariant-loop-n
invariant-loop-n l = record {
  few : l.bytes ≤ 2 + 21 * l.n-index;
  counted : l.bytes + length (behind_letter (drop l.n-index l.numbers)) ≡ 2 + length (behind_letter l.numbers);
}
