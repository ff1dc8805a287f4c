use Rattle.remaining.specs.Promises.{Awaited}
use Rattle.remaining.proofs.mark_awaited.Given as goal

abbrev pub invariant-loop-awaited : goal.invariant-loop-awaited
invariant-loop-awaited l = Awaited l.waits l.awaited-index l.marks
