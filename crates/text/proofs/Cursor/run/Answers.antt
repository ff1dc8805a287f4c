-- `text::Cursor::run` meets its contract: far enough before the end `long_number` reads the number; else, where a digit stands,
-- it says how many a number has at most, and the digits are a number if they are not more. Assumes nothing.
use Rattle.std.proofs.Common.{◌≡◌, ℕ, ◌+◌, ◌-◌, leb, List, length, get_or, take, drop, sym, ap, ◌∙◌, arith, length-drop, take_all}
use Rattle.rules.specs.TableText.{digit_zero}
use Rattle.text.specs.Fields.{front}
use Rattle.text.proofs.Numbers.{front_none, front_number, front_stops}
use Rattle.text.proofs.Runs.{nothing_read, number_read}
use Rattle.text.proofs.Cursor.run.Goals as goal

-- what is lent of the text is the rest of it
lent : (text : List ℕ) (at : ℕ) → take (length text - at) (drop at text) ≡ drop at text
lent text at = take_all (length text - at) (drop at text) (omega (arith, length-drop at text))

pub returns-then-at-saturating_sub : goal.returns-then-at-saturating_sub
returns-then-at-saturating_sub c =
    let a = c.args in
    number_read a.text.now a.self c.long_number.result (rw (lent a.text.now a.self.at) at c.long_number.ensures)

pub returns-in_err-get : goal.returns-in_err-get
returns-in_err-get c =
    let a = c.args in
    rw c.from_residual.ensures
    (number_read a.text.now a.self _
    (nothing_read _ (front_none a.text.now a.self.at c.in_err-get.ensures.lookup.3)))

pub returns-in_err-first : goal.returns-in_err-first
returns-in_err-first c =
    let a = c.args in
    let there = c.in_ok-get.ensures.lookup.3 in
    rw c.from_residual-in_err-first.ensures
    (number_read a.text.now a.self _
    (nothing_read _ (front_stops a.text.now a.self.at there.0 (rw (← there.1 0) c.in_err-first.ensures))))

pub returns : goal.returns
returns c =
    let a = c.args in
    let there = c.in_ok-get.ensures.lookup.3 in
    let digits = front (drop a.self.at a.text.now) in
    let first : get_or a.text.now a.self.at 0 ≡ digit_zero + c.in_ok-first.first = sym (there.1 0) ∙ c.in_ok-first.ensures.1 in
    let test = front_number a.text.now a.self.at there.0 c.in_ok-first.first first c.in_ok-first.ensures.0
    ∙ ap (leb (length digits)) (sym c.most_digits.ensures.0) in
    number_read a.text.now a.self c.digits.result
    (rw (← test) at (rw (lent a.text.now a.self.at) at c.digits.ensures))
