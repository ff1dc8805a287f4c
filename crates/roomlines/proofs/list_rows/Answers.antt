-- `roomlines::list_rows` meets its contract: the lines are put at the front of the buffer where they fit. Assumes nothing.
use native.Mathlib.Omega.{arith}
use Rattle.beside.proofs.Listed.{fits, no_room}
use Rattle.roomlines.proofs.list_rows.Goals as goal

pub returns-then-out-tab_rows_length : goal.returns-then-out-tab_rows_length
returns-then-out-tab_rows_length c =
    rw c.at.ensures (no_room _ c.args.out.now (omega (arith, c.tab_rows_length.ensures, c.if-out-tab_rows_length.true)))

pub returns : goal.returns
returns c =
    fits _ c.args.out.now c.put_rows.result c.put_rows.new.out
    (omega (arith, c.tab_rows_length.ensures, c.if-out-tab_rows_length.false)) (omega (arith, c.put_rows.ensures.0))
    c.put_rows.ensures.1
