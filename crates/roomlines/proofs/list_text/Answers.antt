-- `roomlines::list_text` meets its contract: a refused text has the line of its listing. Assumes nothing.
use mathlib.Core.Path.{sym, ap, ◌∙◌}
use Rattle.roomlines.proofs.Listed.{refusal_lines}
use Rattle.rules.specs.Refusals.{written}
use Rattle.rules.specs.Rooms.{room_lines_for}
use Rattle.roomlines.proofs.list_text.Goals as goal

pub returns-in-Err : goal.returns-in-Err
returns-in-Err c =
    let refused = c.in-Err.refused in
    c.list_refusal.ensures
    ∙ ap (λ lines. written lines c.args.out.now)
    (sym (refusal_lines refused.why refused.line) ∙ sym (ap room_lines_for c.in-Err.ensures))
