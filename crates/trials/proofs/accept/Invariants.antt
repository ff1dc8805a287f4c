use mathlib.Core.Path.{◌≡◌}
use Rattle.trials.proofs.Accepting.{Accepting}
use Rattle.trials.proofs.accept.Given as goal

abbrev pub invariant-loop-i : goal.invariant-loop-i
invariant-loop-i l = record {
  on : Accepting l.initial.plan.totals.count l.initial.plan.places l.initial.plan.keys l.changes.places l.changes.keys l.count l.from l.plan.places l.plan.keys l.behind l.entries l.i;
  same_cycles : l.plan.totals.cycles ≡ l.initial.plan.totals.cycles;
}
