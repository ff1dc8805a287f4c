use Rattle.digits.proofs.PutSoFar.{PutSoFar}
use Rattle.rules.specs.TableText.{records_of, text_of}
use Rattle.writer.proofs.Lines.{text_from}
use Rattle.writer.proofs.put_text.Given as goal

abbrev pub invariant-loop-written : goal.invariant-loop-written
invariant-loop-written l = PutSoFar (text_of (records_of l.table)) l.initial.out l.initial.next (text_from (records_of l.table) l.written) l.out l.next
