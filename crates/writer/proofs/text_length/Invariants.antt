use mathlib.Core.Path.{◌≡◌}
use Prim.Native.Nat.{◌+◌}
use lib.ListN.{length}
use Rattle.rules.specs.TableText.{records_of, text_of}
use Rattle.writer.proofs.Lines.{text_from}
use Rattle.writer.proofs.text_length.Given as goal

abbrev pub invariant-loop-counted : goal.invariant-loop-counted
invariant-loop-counted l = l.bytes + length (text_from (records_of l.table) l.counted) ≡ length (text_of (records_of l.table))
