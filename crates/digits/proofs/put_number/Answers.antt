-- `digits::put_number` lends the part from the place on, as long as the number has digits, to `fill`: the part comes
-- back as the digits, and the bytes before and behind it stay. Assumes nothing.
use Prim.Native.Nat.{◌+◌}
use native.Mathlib.Omega.{arith}
use Rattle.grammar.proofs.Put.{put_part}
use Rattle.rules.specs.TableText.{digits_of}
use Rattle.digits.proofs.put_number.Goals as goal

pub returns : goal.returns
returns c =
    let width = c.width in
    let a = c.args in
    (omega arith, rw c.fill.ensures (put_part a.out.now a.at (a.at + width.result) (digits_of a.n) (omega arith)))
