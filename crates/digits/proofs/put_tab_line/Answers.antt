-- `digits::put_tab_line` writes the digits of the first number, and where the last of them stands a line of the other numbers, with
-- this digit for its letter: together they are the tab line. Assumes nothing.
use mathlib.Core.Path.{◌∙◌}
use Prim.Native.Nat.{◌+◌, ◌-◌, ◌≤◌}
use native.Mathlib.Omega.{arith}
use lib.ListN.{length, get_or}
use Rattle.digits.proofs.TabLine.{first_digits, length_tab_line, others, put-tab-line}
use Rattle.grammar.proofs.Decimal.{digits_of_some}
use Rattle.grammar.proofs.LineText.{behind_letter, line_behind_letter}
use Rattle.digits.proofs.put_tab_line.Goals.{Start}
use Rattle.digits.proofs.put_tab_line.Goals as goal

-- the room that the call requires: for some digit, and for what stands behind the digits
room : (c : Start)
    → let a = c.args in
    let digits = length (first_digits a.numbers.now) in
    (1 ≤ digits) × (a.at + digits + length (behind_letter (others a.numbers.now)) ≤ length a.out.now)
room c =
    let numbers = c.args.numbers.now in
    (digits_of_some (get_or numbers 0 0), omega (arith, length_tab_line numbers c.requires.0))

pub put_number-last-requires : goal.put_number-last-requires
put_number-last-requires c = omega (arith, room (goal.at.put_number-last-requires c).Start)

pub overflow_sub-last : goal.overflow_sub-last
overflow_sub-last c = omega (arith, room (goal.at.overflow_sub-last c).Start)

pub bounds-out-last : goal.bounds-out-last
bounds-out-last c = omega (arith, room (goal.at.bounds-out-last c).Start)

pub put_line-requires : goal.put_line-requires
put_line-requires c =
    rw line_behind_letter (omega (arith, room (goal.at.put_line-requires c).Start))

pub returns : goal.returns
returns c =
    let put-line = c.put_line in
    let put-number = c.put_number-last in
    let start = c in
    let a = start.args in
    let numbers = a.numbers.now in
    let last = put-number.result - 1 in (
      omega (arith, rw line_behind_letter at put-line.ensures.0, length_tab_line numbers start.requires.0, room (goal.at.returns start).Start),
      put-line.ensures.1
          ∙ put-tab-line a.out.now _ a.at last numbers start.requires.0 (omega (arith, room (goal.at.returns start).Start))
          put-number.ensures.1 (omega (arith, room (goal.at.returns start).Start)) (omega (arith, room (goal.at.returns start).Start)),
    )
