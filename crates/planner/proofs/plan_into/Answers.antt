-- `planner::plan_into` meets its contract: what is refused, and then the table's plan. Assumes nothing.
use mathlib.Core.List.{List}
use mathlib.Core.Path.{◌≡◌, refl, ap, ◌∙◌}
use Prim.Native.Nat.{ℕ}
use lib.ListN.{length}
use Rattle.std.proofs.lemmas.Result.{err_from_is_err_and}
use Rattle.std.specs.Prelude.{Err}
use Rattle.planner.proofs.Decisions.{answered, plannable, refused_asked, with-budget}
use Rattle.planner.specs.Promises.{AskRefused, Unrefused}
use Rattle.plans.proofs.Deciding.{by_its_parts}
use Rattle.plans.specs.Promises.{leaves}
use Rattle.rules.specs.Plan.{leaves_all, leaves_of, leaves_plan, plan_of, planning_of_up_to, planning_with}
use Rattle.rules.specs.Refusals.{check, refused_at, taken}
use Rattle.rules.specs.TableText.{records_of, with_budget}
use Rattle.rules.specs.declared.Refusal.{Refusal}
use Rattle.rules.specs.declared.Refused.{Refused}
use Rattle.rules.specs.declared.Table.{Table}
use Rattle.planner.proofs.plan_into.Goals as goal

module _ (table : Table) (budget : ℕ) (order fates : List ℕ) where
  refused_so : (why : Refusal) (line : ℕ) → leaves_of (refused_at why line) order fates ≡ leaves_all why line order fates
  unfolding leaves_of
  refused_so why line = refl

  refused_all : (r : Refused) → AskRefused table (length order) (length fates) budget r
      → leaves (Err r) order fates ≡ planning_with table budget order fates
  unfolding planning_of_up_to leaves_all
  refused_all r asked =
      refused_asked (λ k. leaves_of k order fates) (λ why line. leaves_all why line order fates) refused_so table budget order
      fates r asked

  of_table : Unrefused (length order) (length fates) budget → check table ≡ taken (records_of table)
      → leaves_plan (plan_of (with_budget (records_of table) budget)) order fates ≡ planning_with table budget order fates
  unfolding planning_of_up_to leaves_of
  of_table asked e =
      answered (λ k. leaves_of k order fates) (λ why line. leaves_all why line order fates) refused_so table budget order fates
      asked e

pub returns-in_err-ask : goal.returns-in_err-ask
returns-in_err-ask c =
    let a = c.args in
    let p = err_from_is_err_and c.from_residual.result c.from_residual.ensures.1 in
    rw (p.1, p.2) (refused_all a.table a.budget a.order.now a.fates.now _ c.in_err-ask.ensures)

pub plan_table-requires : goal.plan_table-requires
plan_table-requires c =
    let a = c.args in
    let asked = c.in_ok-ask.ensures in
    let whole = asked.unrefused in
    (by_its_parts (plannable a.table a.budget whole.in_range asked.records_taken) asked.columns_of, whole.first_whole, whole.second_whole)

pub returns : goal.returns
returns c =
    let a = c.args in
    let asked = c.in_ok-ask.ensures in
    c.plan_table.ensures ∙ ap (λ t. leaves_plan (plan_of t) a.order.now a.fates.now) (with-budget a.table a.budget)
    ∙ of_table a.table a.budget a.order.now a.fates.now asked.unrefused asked.records_taken
