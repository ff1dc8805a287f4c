-- `text::digit` meets its contract: the difference and 48 together are the byte, or they wrap, and then the difference is far
-- above 9. Assumes nothing.
use Rattle.std.proofs.Common.{refl, ◌≡◌, ℕ, ◌+◌, ◌%◌, ◌<◌, leb, Bool, true, false, arith, leb-true, leb-false}
use Rattle.std.specs.Bool.{then_some}
use Rattle.text.specs.Fields.{DigitRead}
use Rattle.text.proofs.Numbers.{no_digit}
use Rattle.text.proofs.digit.Goals as goal

by_test : (t : Bool) (b d : ℕ) → b < 256 → d ≡ (b + 18446744073709551568) % 18446744073709551616 → leb d 9 ≡ t
    → DigitRead b (then_some t d)
by_test true b d h e l = (leb-true d 9 l, omega (arith, leb-true d 9 l))
by_test false b d h e l = no_digit b (λ lower upper. absurd (omega (arith, leb-false d 9 l)))

pub returns : goal.returns
returns c =
    rw c.then_some.ensures (by_test _ c.args.byte _ (omega (arith, c.ranges.byte.fits)) (rw (c.from.ensures, c.from-2.ensures) refl) refl)
