use Prim.Native.Nat.{◌-◌}
use Rattle.rules.specs.TableText.{most_holds}
use Rattle.trials.proofs.Walking.{InWalk}
use Rattle.trials.proofs.walk.Given as goal

abbrev pub invariant-loop : goal.invariant-loop
invariant-loop l = InWalk l.place l.keys l.waits l.jobs.critical l.jobs.cycles l.changes.places l.changes.keys l.noted l.limit l.added l.at (most_holds - l.counter)
