-- `beside::list_refusal` meets its contract: the one line of the refusal's number and line, where it fits. Assumes nothing.
use mathlib.Core.Path.{◌≡◌}
use native.Mathlib.Omega.{arith}
use Rattle.std.proofs.Common.{of_calls, rules}
use Rattle.beside.proofs.Listed.{fits, no_room}
use Rattle.rules.specs.Answers.{number_of}
use Rattle.rules.specs.Listing.{letter_r, lines_for}
use Rattle.beside.proofs.list_refusal.Goals as goal

pub returns-then-out-line_length : goal.returns-then-out-line_length
unfolding lines_for
returns-then-out-line_length c =
    let number : c.from.result ≡ number_of c.args.refused.why = search (rules, of_calls) in
    rw (c.at.ensures, ← number)
    (no_room _ c.args.out.now (omega (arith, c.line_length.ensures letter_r, c.if-out-line_length.true)))

pub returns : goal.returns
unfolding lines_for
returns c =
    let number : c.from.result ≡ number_of c.args.refused.why = search (rules, of_calls) in
    rw (← number)
    (fits _ c.args.out.now c.put_line.result c.put_line.new.out
    (omega (arith, c.line_length.ensures letter_r, c.if-out-line_length.false)) (omega (arith, c.put_line.ensures.0)) c.put_line.ensures.1)
