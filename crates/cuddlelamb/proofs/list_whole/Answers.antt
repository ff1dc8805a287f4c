-- `cuddlelamb::list_whole` meets its contract: the buffer has room for whatever is asked for, so that `list_asked` never refuses.
-- Assumes nothing.
use Rattle.std.proofs.Common.{◌≤◌, length, rules}
use Rattle.cuddlelamb.proofs.Fronts.{lines_fit, listed_whole}
use Rattle.cuddlelamb.proofs.list_whole.Goals as goal
use Rattle.roomlines.proofs.LongestRooms.{most_room_bytes}

pub returns : goal.returns
returns c =
    let room : most_room_bytes ≤ length c.args.buffer.now = search rules in
    rw c.unwrap_or.ensures
    (listed_whole _ c.args.buffer.now (lines_fit c.args.text.now c.args.rooms c.args.asked _ room)
    c.list_asked.result _ c.list_asked.ensures)
