use mathlib.Core.Path.{◌≡◌}
use Rattle.remaining.specs.Ends.{Ends}
use Rattle.remaining.specs.Promises.{Settled}
use Rattle.remaining.specs.declared.Mark.{Mark}
use Rattle.remaining.proofs.mark_walk.Given as goal

abbrev pub invariant-loop : goal.invariant-loop
invariant-loop l = Settled l.waits l.initial.marks l.marks × (l.end ≡ Mark.Ends → Ends l.waits l.at)
