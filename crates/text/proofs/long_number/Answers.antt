-- `text::long_number` meets its contract: the first digit says how many a number has at most, and the digits are read as far as
-- one byte behind so many. Assumes nothing.
use Rattle.std.proofs.Common.{length, sym, ◌∙◌, arith}
use Rattle.rules.specs.TableText.{most_digits}
use Rattle.text.specs.Fields.{front}
use Rattle.text.proofs.Numbers.{as_many, front_other, front_stops, front_zero}
use Rattle.text.proofs.Runs.{nothing_read}
use Rattle.text.proofs.long_number.Goals as goal

pub returns-in_err-digit : goal.returns-in_err-digit
returns-in_err-digit c =
    let text = c.args.text.now in
    rw c.from_residual.ensures (nothing_read text (front_stops text 0 (omega arith) c.in_err-digit.ensures))

pub returns-then-branch-eq0 : goal.returns-then-branch-eq0
returns-then-branch-eq0 c =
    let text = c.args.text.now in
    let digit = c.in_ok-digit.ensures in
    rw (← (front_zero text 0 (omega arith) (omega (arith, digit.1, c.if-branch-eq0.true)) ∙ sym (as_many (length (front text)) 1)))
    at c.digits_within.ensures

pub returns : goal.returns
returns c =
    let text = c.args.text.now in
    let digit = c.in_ok-digit.ensures in
    rw (← (front_other text 0 (omega arith) c.in_ok-digit.field-0 digit.1 (omega (arith, c.if-branch-eq0.false)) digit.0
    ∙ sym (as_many (length (front text)) most_digits)))
    at c.digits_within-2.ensures
