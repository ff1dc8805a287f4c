-- `lines::accept_line` meets its contract: the line is read to its item, and the item's judgement is the rules'. Assumes
-- nothing.
use mathlib.Core.Path.{sym, ap, ◌∙◌}
use Rattle.std.proofs.lemmas.Result.{err_from_is_err_and}
use Rattle.records.specs.Faults.{fault_says}
use Rattle.lines.proofs.OneLine.{bad_line, good_line, no_line}
use Rattle.lines.proofs.accept_line.Goals as goal

pub returns-in_err-line : goal.returns-in_err-line
returns-in_err-line c b n =
    let p = err_from_is_err_and c.from_residual.result c.from_residual.ensures.1 in
    rw (p.1, p.2) (no_line c.args.text.now c.args.place b _ c.in_err-line.ensures)

pub returns-in-Err : goal.returns-in-Err
returns-in-Err c b n =
    rw c.at.ensures
    (bad_line c.args.text.now c.args.place b c.in_ok-line.line c.in_ok-line.ensures c.in-Err.why
    (sym (c.judge_record.ensures b n) ∙ ap fault_says c.in-Err.is))

pub returns : goal.returns
returns c b n =
    good_line c.args.text.now c.args.place b c.in_ok-line.line c.in_ok-line.ensures
    (sym (c.judge_record.ensures b n) ∙ ap fault_says c.in_default.is)
