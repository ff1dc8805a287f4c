-- `digits::width` counts the digits of a number by its power of ten. Assumes nothing.
use native.Mathlib.Omega.{arith}
use Rattle.digits.proofs.Left.{digits_between, digits_of_0}
use Rattle.digits.proofs.width.Goals as goal

pub returns-in-Some : goal.returns-in-Some
returns-in-Some c =
    let power = c.in-Some.ensures in
    digits_between c.args.n c.in-Some.power power.bound power.power_le power.next_power_gt (omega arith)

pub returns-in-None : goal.returns-in-None
returns-in-None c = rw c.in-None.ensures.none digits_of_0
