use mathlib.Core.List.{List, ◌++◌}
use mathlib.Core.Path.{◌≡◌}
use Prim.Native.Nat.{◌*◌}
use lib.ListN.{length, take}
use Rattle.digits.specs.Rows.{tab_rows}
use Rattle.roomlines.proofs.RowsStored.{lines_left}
use Rattle.roomlines.specs.Promises.{RowsBy, row_fields}
use Rattle.rules.specs.Rooms.{TurnRoom, room_lines_from}
use Rattle.roomlines.proofs.room_rows.Given as goal

abbrev pub invariant-loop-turn : goal.invariant-loop-turn
invariant-loop-turn l = record {
  counted : l.filled ≡ l.turn * row_fields;
  so_far : (turns : List TurnRoom) → length turns ≡ length l.order → RowsBy turns l.order l.rooms l.number l.fates
      → tab_rows row_fields (take l.filled l.rows) ++ lines_left turns l.turn ≡ room_lines_from 1 turns;
}
