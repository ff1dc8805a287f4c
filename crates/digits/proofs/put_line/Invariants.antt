use mathlib.Core.Path.{◌≡◌}
use Prim.Native.Nat.{◌+◌, ◌≤◌}
use lib.ListN.{length, drop}
use Rattle.grammar.proofs.LineText.{behind_letter}
use Rattle.grammar.specs.Put.{put}
use Rattle.digits.proofs.put_line.Given as goal

abbrev pub invariant-loop-n : goal.invariant-loop-n
invariant-loop-n l = record {
  room : l.initial.next + length (behind_letter l.numbers) ≤ length l.initial.out;
  behind : l.next + length (behind_letter (drop l.n-index l.numbers)) ≡ l.initial.next + length (behind_letter l.numbers);
  same : put l.out l.next (behind_letter (drop l.n-index l.numbers)) ≡ put l.initial.out l.initial.next (behind_letter l.numbers);
}
