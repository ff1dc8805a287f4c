use Rattle.text.proofs.Numbers.{Begun}
use Rattle.text.proofs.digits_within.Given as goal

abbrev pub invariant-loop-count : goal.invariant-loop-count
invariant-loop-count l = Begun l.text l.count l.value
