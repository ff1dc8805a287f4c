-- `digits::fill` writes the digits of a number into a part of their length. What is left of the number is always that
-- of the digits not yet written, and behind the place stand the digits already. Assumes nothing.
use mathlib.Core.Path.{◌≡◌, sym, ◌∙◌}
use Prim.Native.Nat.{suc, ◌-◌}
use native.Mathlib.Omega.{arith}
use lib.Seq.{drop-length}
use Rattle.digits.proofs.Left.{all_left, digit_stored}
use Rattle.grammar.proofs.Decimal.{digits_of_digits}
use Rattle.rules.specs.TableText.{digits_of}
use Rattle.digits.proofs.fill.Goals as goal

pub loop-place-init : goal.loop-place-init
loop-place-init c =
    let part = c.args.part.now in
    let n = c.args.n in
    record {
      left = rw c.requires (all_left n (omega arith));
      written = drop-length part ∙ sym (rw c.requires (drop-length (digits_of n)));
    }

pub loop-place-preserved : goal.loop-place-preserved
loop-place-preserved c =
    let l = c.loop-place in
    let n = c.args.n in
    let one : suc (l.place - 1) ≡ l.place = omega arith in
    let stored =
    digit_stored (digits_of n) (digits_of_digits n) (l.place - 1) l.rest l.part (omega arith) (omega arith)
    (rw one l.invariant.left) (rw one l.invariant.written) in
    record { left = stored.0; written = stored.1 }

pub returns : goal.returns
returns c =
    let none : c.loop-place.place ≡ 0 = omega arith in
    rw none at c.loop-place.invariant.written
