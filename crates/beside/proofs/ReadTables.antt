-- A table that was read, with a budget that is in range in its T, has the records that the rules take, its check refuses nothing, and
-- it can be planned. So it is listed as the text is. Assumes nothing.
use mathlib.Core.Bool.{true, false, false≢true}
use mathlib.Core.List.{List}
use mathlib.Core.Path.{◌≡◌, refl, sym, ap, ◌∙◌}
use Prim.Native.Nat.{ℕ}
use Rattle.std.specs.Prelude.{Err, None, Ok, Option, Some}
use Rattle.std.specs.Option.{unwrap_or}
use Rattle.grammar.proofs.BudgetBeside.{at-budget, at_no_budget, at_refused, budget-in-range, valid_at}
use Rattle.grammar.proofs.Readings.{reading_done, reading_refused}
use Rattle.grammar.proofs.Trips.{read_exactly, table_checked, table_records, valid_few_holds}
use Rattle.beside.specs.Listed.{Listable, ReadWith, taken_for}
use Rattle.plans.specs.Promises.{Plannable}
use Rattle.rules.specs.Plan.{at_budget}
use Rattle.rules.specs.Answers.{reading_says, refuses}
use Rattle.rules.specs.Refusals.{read, reading, refused_at, taken}
use Rattle.rules.specs.TableText.{Records, is_budget, records_of, table_of, table_of_up_to, table_with_budget, with_budget}
use Rattle.rules.specs.Valid.{Valid}
use Rattle.rules.specs.declared.Refusal.{Refusal}
use Rattle.rules.specs.declared.Refused.{Refused}
use Rattle.rules.specs.declared.Table.{Table}

-- the table of valid records
plannable_of : (t : Records) → Valid t → Plannable (table_of t) t.budget
unfolding table_of_up_to
plannable_of t v = record {
  valid = rw (table_records t) v;
  few_speeds = v.few_speeds;
  few_jobs = v.few_jobs;
  few_holds = valid_few_holds v;
}

-- what is listed of it
pub record ListedAs (taken_so : Records) (table : Table) : Type 0 where
  pub records : taken taken_so ≡ taken (records_of table)
  pub listable : Listable table

listed-as : (t : Records) → Valid t → ListedAs t (table_of t)
unfolding table_of_up_to
listed-as t v = record {
  records = ap taken (sym (table_records t));
  listable = record { checked = table_checked v ∙ ap taken (sym (table_records t)); plannable = plannable_of t v };
}

with-budget : (t : Records) (budget : ℕ) → table_with_budget (table_of t) budget ≡ table_of (with_budget t budget)
unfolding table_of_up_to
with-budget t budget = refl

own-budget : (t : Records) → (table_of t).budget ≡ t.budget
unfolding table_of_up_to
own-budget t = refl

module _ (text : List ℕ) (t : Records) (e : read text ≡ taken t) where
  v : Valid t
  v = ((read_exactly text t).0 e).0

  -- with the text's own budget, or the one beside it, in its T
  taken_beside : (beside : Option ℕ) → is_budget (unwrap_or beside (table_of t).budget) ≡ true
      → let table = table_with_budget (table_of t) (unwrap_or beside (table_of t).budget) in
      (taken_for beside text ≡ taken (records_of table)) × Listable table
  taken_beside None h = let it = listed-as t v in (e ∙ it.records, it.listable)
  taken_beside (Some budget) h =
      let it = listed-as (with_budget t budget) (valid_at v budget h) in
      rw (with-budget t budget) (ap (at_budget budget) e ∙ at-budget t budget h ∙ it.records, it.listable)

  -- the budget beside it is refused, but never its own
  budget_refused : (beside : Option ℕ) → is_budget (unwrap_or beside (table_of t).budget) ≡ false
      → taken_for beside text ≡ refused_at Refusal.Range 1
  budget_refused None h = absurd (false≢true (sym h ∙ ap is_budget (own-budget t) ∙ budget-in-range v))
  budget_refused (Some budget) h = ap (at_budget budget) e ∙ at_no_budget t budget h

-- the same of what was read
module _ (text : List ℕ) (table : Table) (says : reading_says (Ok table) ≡ reading text) (beside : Option ℕ) (budget : ℕ)
    (known : budget ≡ unwrap_or beside table.budget) where
  pub read_taken : is_budget budget ≡ true → ReadWith beside text (Ok (table_with_budget table budget))
  read_taken h =
      let (t, e, same) = reading_done text table says in
      rw (known, same) (taken_beside text t e beside (rw (known, same) at h))

  pub read_out_of_range : is_budget budget ≡ false → ReadWith beside text (refuses Refusal.Range 1)
  read_out_of_range h =
      let (t, e, same) = reading_done text table says in budget_refused text t e beside (rw (known, same) at h)

-- a text that is refused is so whatever stands beside it
pub read_refused : (text : List ℕ) (r : Refused) → reading_says (Err r) ≡ reading text → (beside : Option ℕ)
    → ReadWith beside text (Err r)
read_refused text r says None = reading_refused text r says
read_refused text r says (Some budget) = ap (at_budget budget) (reading_refused text r says) ∙ at_refused r.why r.line budget
