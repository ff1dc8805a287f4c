-- `caller::read_on` meets its contract: what a read puts behind the bytes that are there makes them a longer front of what there was to
-- read. Assumes nothing.
use Rattle.std.proofs.Common.{rules}
use Rattle.caller.proofs.Counting.{read_on}
use Rattle.caller.proofs.read_on.Goals as goal

pub loop-count-preserved : goal.loop-count-preserved
loop-count-preserved g c =
    let at = c.loop-count in
    let read = c.in-Ok.ensures in
    (search rules, search rules, read_on at.buffer c.read.new.buf _ at.count c.in-Ok.more at.invariant.1 read.bound.0 _ _ _ at.invariant.2 read.bytes.0)
