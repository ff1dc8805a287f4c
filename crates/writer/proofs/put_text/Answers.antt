-- `writer::put_text` meets its contract. At each line, putting the text left behind what is written gives the buffer that putting
-- all of it gives, and the text left has room. Assumes nothing.
use mathlib.Core.List.{◌++◌}
use mathlib.Core.Path.{◌≡◌, ◌∙◌}
use Prim.Native.Nat.{◌+◌}
use native.Mathlib.Nat.{zero-add}
use native.Mathlib.Omega.{arith}
use Rattle.digits.proofs.PutSoFar.{all_put, nothing_put, part_put}
use Rattle.rules.specs.TableText.{records_of, text_of}
use Rattle.writer.proofs.Lines.{no_text_left, row_next, text_from_first, text_from}
use Rattle.writer.specs.Lines.{row_text}
use Rattle.writer.proofs.put_text.Goals.{After-filled}
use Rattle.writer.proofs.put_text.Goals as goal

-- the text left: that of the row, and that behind it
left : (c : After-filled)
    → let i = c.loop-written.written in
    let r = records_of c.args.table.now in
    text_from r i ≡ row_text c.row_at-row.result ++ text_from r (i + 1)
left c = row_next c.args.table.now c.loop-written.written c.row_at-row.result c.row_at-row.ensures

pub loop-written-init : goal.loop-written-init
loop-written-init c =
    let r = records_of c.args.table.now in
    rw (text_from_first r) (nothing_put (text_of r) _ 0 (omega (arith, c.requires.1)))

pub loop-written-preserved : goal.loop-written-preserved
loop-written-preserved c =
    let put = rw c.filled.ensures at c.put_line-next.ensures in
    part_put _ _ _ c.loop-written.invariant (row_text c.row_at-row.result) _ _ _ (left (goal.at.loop-written-preserved c).After-filled)
    put.0 put.1 c.put_line-next.auto.out

pub returns : goal.returns
returns c =
    let r = records_of c.args.table.now in
    let loop = c.loop-written in
    let none = no_text_left r loop.written (omega (arith, c.line_count-written-end.ensures, c.loop-written-test.false)) in
    let all = all_put _ _ _ loop.invariant none in
    (all.0 ∙ zero-add _, all.1)
