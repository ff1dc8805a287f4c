-- `planner::rooms` meets its contract: what is refused, and then the table's rooms. Assumes nothing.
use mathlib.Core.List.{List}
use mathlib.Core.Path.{◌≡◌, refl, ap, ◌∙◌}
use Prim.Native.Nat.{ℕ}
use lib.ListN.{length}
use Rattle.std.proofs.lemmas.Result.{err_from_is_err_and}
use Rattle.std.specs.Prelude.{Err}
use Rattle.planner.proofs.Decisions.{answered, plannable, refused_asked, with-budget}
use Rattle.planner.specs.Promises.{AskRefused, Unrefused}
use Rattle.plans.proofs.Deciding.{by_its_parts}
use Rattle.plans.specs.Promises.{tells}
use Rattle.rules.specs.Rooms.{leaves_rooms, leaves_rooms_of, leaves_untold, panel_of_up_to, panel_with}
use Rattle.rules.specs.Refusals.{check, refused_at, taken}
use Rattle.rules.specs.TableText.{records_of, with_budget}
use Rattle.rules.specs.declared.Refusal.{Refusal}
use Rattle.rules.specs.declared.Refused.{Refused}
use Rattle.rules.specs.declared.Table.{Table}
use Rattle.planner.proofs.rooms.Goals as goal

module _ (table : Table) (budget : ℕ) (turns rooms : List ℕ) where
  refused_so : (why : Refusal) (line : ℕ) → leaves_rooms_of (refused_at why line) turns rooms ≡ leaves_untold why line turns rooms
  unfolding leaves_rooms_of
  refused_so why line = refl

  refused_all : (r : Refused) → AskRefused table (length turns) (length rooms) budget r
      → tells (Err r) turns rooms ≡ panel_with table budget turns rooms
  unfolding panel_of_up_to leaves_untold
  refused_all r asked =
      refused_asked (λ k. leaves_rooms_of k turns rooms) (λ why line. leaves_untold why line turns rooms) refused_so table budget turns
      rooms r asked

  of_table : Unrefused (length turns) (length rooms) budget → check table ≡ taken (records_of table)
      → leaves_rooms (with_budget (records_of table) budget) turns rooms ≡ panel_with table budget turns rooms
  unfolding panel_of_up_to leaves_rooms_of
  of_table asked e =
      answered (λ k. leaves_rooms_of k turns rooms) (λ why line. leaves_untold why line turns rooms) refused_so table budget turns rooms
      asked e

pub returns-in_err-ask : goal.returns-in_err-ask
returns-in_err-ask c =
    let a = c.args in
    let p = err_from_is_err_and c.from_residual.result c.from_residual.ensures.1 in
    rw (p.1, p.2) (refused_all a.table a.budget a.turns.now a.rooms.now _ c.in_err-ask.ensures)

pub rooms_of-requires : goal.rooms_of-requires
rooms_of-requires c =
    let a = c.args in
    let asked = c.in_ok-ask.ensures in
    let whole = asked.unrefused in
    (by_its_parts (plannable a.table a.budget whole.in_range asked.records_taken) asked.columns_of, whole.first_whole, whole.second_whole)

pub returns : goal.returns
returns c =
    let a = c.args in
    let asked = c.in_ok-ask.ensures in
    c.rooms_of.ensures ∙ ap (λ t. leaves_rooms t a.turns.now a.rooms.now) (with-budget a.table a.budget)
    ∙ of_table a.table a.budget a.turns.now a.rooms.now asked.unrefused asked.records_taken
