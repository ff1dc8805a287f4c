-- `beside::read_with` meets its contract: the text's own refusal, then that of the budget, or its table with that budget. Assumes
-- nothing.
use mathlib.Core.Path.{sym, ◌∙◌}
use Rattle.std.proofs.lemmas.Result.{err_from_is_err_and}
use Rattle.beside.proofs.ReadTables.{read_out_of_range, read_refused, read_taken}
use Rattle.beside.proofs.read_with.Goals as goal

pub returns-in_err-table : goal.returns-in_err-table
returns-in_err-table c =
    let p = err_from_is_err_and c.from_residual.result c.from_residual.ensures.1 in
    rw (p.1, p.2) (read_refused c.args.text.now _ c.in_err-table.ensures c.args.beside)

pub returns-then-not-budget_in_range : goal.returns-then-not-budget_in_range
returns-then-not-budget_in_range c =
    rw c.at.ensures
    (read_out_of_range c.args.text.now c.in_ok-table.field-0 c.in_ok-table.ensures c.args.beside c.unwrap_or-table.result
    c.unwrap_or-table.ensures (sym c.budget_in_range.ensures ∙ c.if-not-budget_in_range.true))

pub returns : goal.returns
returns c =
    read_taken c.args.text.now c.in_ok-table.field-0 c.in_ok-table.ensures c.args.beside c.unwrap_or-table.result c.unwrap_or-table.ensures
    (sym c.budget_in_range.ensures ∙ c.if-not-budget_in_range.false)
