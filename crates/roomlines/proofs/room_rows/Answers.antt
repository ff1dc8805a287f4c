-- `roomlines::room_rows` meets its contract. At each turn, the lines of the numbers stored and the lines of the turns from there on
-- make the whole. Assumes nothing.
use mathlib.Core.List.{◌++◌, append-nil}
use mathlib.Core.Path.{◌≡◌, sym, ap, ◌∙◌}
use native.Mathlib.Omega.{arith}
use borrow.Author.Rules.{rules}
use lib.ListN.{length, take}
use Rattle.digits.specs.Rows.{tab_rows}
use Rattle.roomlines.proofs.RowsStored.{no_line_left, no_number_no_line, turn_stored}
use Rattle.roomlines.specs.Promises.{most_row_numbers, row_fields}
use Rattle.roomlines.proofs.room_rows.Goals as goal

pub loop-turn-init : goal.loop-turn-init
loop-turn-init c = record { counted = omega arith; so_far = λ turns counted by. rw (no_number_no_line c.args.rows.now) }

pub loop-turn-preserved : goal.loop-turn-preserved
loop-turn-preserved c =
    let a = c.args in
    let loop = c.loop-turn in
    let long : length loop.rows ≡ most_row_numbers = search rules in
    record {
      counted = omega (arith, loop.invariant.counted);
      so_far = λ turns counted by.
          turn_stored turns loop.turn a.order.now a.rooms.now a.number.now a.fates.now by
          (omega (arith, counted, c.loop-turn-test.true)) loop.rows loop.filled loop.invariant.counted
          (omega (arith, long, loop.invariant.counted, c.loop-turn-test.true, c.requires.few))
          ∙ loop.invariant.so_far turns counted by;
    }

pub returns : goal.returns
returns c =
    let loop = c.loop-turn in
    record {
      few = omega (arith, loop.invariant.counted, c.requires.few);
      lines = λ turns counted by.
          sym (append-nil _)
          ∙ ap (λ left. tab_rows row_fields (take loop.filled loop.rows) ++ left)
          (sym (no_line_left turns loop.turn (omega (arith, counted, c.loop-turn-test.false))))
          ∙ loop.invariant.so_far turns counted by;
    }
