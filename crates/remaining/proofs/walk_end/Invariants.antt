use Rattle.remaining.specs.Ends.{Ends}
use Rattle.remaining.proofs.walk_end.Given as goal

abbrev pub invariant-loop : goal.invariant-loop
invariant-loop l = Ends l.waits l.at → Ends l.waits l.place
