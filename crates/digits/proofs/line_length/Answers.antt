-- `digits::line_length` counts the bytes of a line. At each number, what is counted and what is still to be counted
-- behind it make the whole line, of which each number takes at most 21 bytes. Assumes nothing.
use mathlib.Core.Path.{◌≡◌}
use Prim.Native.Nat.{◌≤◌}
use native.Mathlib.Omega.{arith}
use lib.ListN.{length, drop, get_or}
use Rattle.grammar.proofs.Decimal.{digits_of_at_most_20}
use Rattle.grammar.proofs.LineText.{behind_all, behind_letter, length_behind_next, line_behind_letter}
use Rattle.digits.proofs.line_length.Goals.{After-width}
use Rattle.digits.proofs.line_length.Goals as goal

few-digits : (c : After-width) → c.width.result ≤ 20
few-digits c =
    let numbers = c.args.numbers.now in
    omega (arith, digits_of_at_most_20 (get_or numbers c.loop-n.n-index 0))

pub overflow_add-bytes : goal.overflow_add-bytes
overflow_add-bytes c = omega (arith, few-digits (goal.at.overflow_add-bytes c).After-width)

pub overflow_add-bytes-in-loop-n : goal.overflow_add-bytes-in-loop-n
overflow_add-bytes-in-loop-n c = omega (arith, few-digits (goal.at.overflow_add-bytes-in-loop-n c).After-width)

pub loop-n-preserved : goal.loop-n-preserved
loop-n-preserved c =
    let numbers = c.args.numbers.now in
    let l = c.loop-n in
    omega (arith, few-digits (goal.at.loop-n-preserved c).After-width, length_behind_next numbers l.n-index c.loop-n-test.true)

pub returns : goal.returns
returns c letter =
    let numbers = c.args.numbers.now in
    let last : length (behind_letter (drop c.loop-n.n-index numbers)) ≡ 1 = rw (behind_all numbers c.loop-n.n-index (omega arith)) in
    rw (line_behind_letter letter numbers) (omega arith)
