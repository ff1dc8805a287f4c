-- The ways of a call that plans a table: something is refused before the table is looked at, its check refuses, or it is planned.
-- Each is the rules', whatever is told of a plan. Assumes nothing.
use mathlib.Core.Bool.{Bool, true, false, cond, ◌||◌}
use mathlib.Core.List.{List}
use mathlib.Core.Path.{◌≡◌, refl, sym, ap, ◌∙◌}
use Prim.Native.Nat.{ℕ, ◌≤◌, ◌<◌}
use borrow.Author.Tests.{le-ltb, lt-ltb}
use lib.ListN.{length}
use Rattle.grammar.proofs.BudgetBeside.{budget-refused, table_refused, taken-with, valid_at}
use Rattle.grammar.proofs.Trips.{check_exactly}
use Rattle.planner.specs.Promises.{AskRefused, RefusedBefore, Unrefused, bad_budget, before, first_too_small, of_table, second_too_small}
use Rattle.plans.specs.Promises.{Plannable}
use Rattle.rules.specs.Plan.{taken_with, too_small, too_small_up_to}
use Rattle.rules.specs.Refusals.{Taken, check, refused_at, taken}
use Rattle.rules.specs.TableText.{is_budget, most_jobs, records_of, table_with_budget, with_budget}
use Rattle.rules.specs.declared.Refusal.{Refusal}
use Rattle.rules.specs.declared.Table.{Table}
use Rattle.rules.specs.declared.Refused.{Refused}

pub either_true : (b : Bool) → b || true ≡ true
either_true true = refl
either_true false = refl

pub too-small : (buffer : List ℕ) → length buffer < most_jobs → too_small buffer ≡ true
unfolding too_small_up_to
too-small buffer h = lt-ltb (length buffer) most_jobs h

pub room : (buffer : List ℕ) → most_jobs ≤ length buffer → too_small buffer ≡ false
unfolding too_small_up_to
room buffer h = le-ltb (length buffer) most_jobs h

-- a table whose check is done is valid, and so it is with any budget in range
pub plannable : (table : Table) (budget : ℕ) → is_budget budget ≡ true → check table ≡ taken (records_of table) → Plannable table budget
plannable table budget h e =
    let (valid, same, fits) = (check_exactly table (records_of table)).0 e in
    record {
      valid = valid_at valid budget h;
      few_speeds = fits.speeds_fit;
      few_jobs = fits.jobs_fit;
      few_holds = fits.holds_fit;
    }

-- the table's records with the budget beside it
pub with-budget : (table : Table) (budget : ℕ) → records_of (table_with_budget table budget) ≡ with_budget (records_of table) budget
unfolding records_of
with-budget table budget = refl

-- what is answered of what was taken, and where it is refused
module _ {A : Type 0} (answers : Taken → A) (refusing : Refusal → ℕ → A)
    (refused_so : (why : Refusal) (line : ℕ) → answers (refused_at why line) ≡ refusing why line) (table : Table) (budget : ℕ)
    (first second : List ℕ) where
  -- room comes first
  abbrev pub room_first : A
  room_first = cond (too_small first || too_small second) (refusing Refusal.Room 0) (answers (taken_with table budget))

  with_room : most_jobs ≤ length first → most_jobs ≤ length second → room_first ≡ answers (taken_with table budget)
  with_room f s = rw (room first f) (rw (room second s))

  pub refused_before : {why : Refusal} {line : ℕ} → RefusedBefore (length first) (length second) budget why line
      → refusing why line ≡ room_first
  refused_before (first_too_small h) = rw (too-small first h)
  refused_before (second_too_small h) = rw (too-small second h) (rw (either_true (too_small first)))
  refused_before (bad_budget f s h) =
      sym (with_room f s ∙ ap answers (budget-refused table budget h) ∙ refused_so Refusal.Range 1)

  module _ (asked : Unrefused (length first) (length second) budget) where
    pub refused_table : (why : Refusal) (line : ℕ) → check table ≡ refused_at why line → refusing why line ≡ room_first
    refused_table why line e =
        sym (with_room asked.first_whole asked.second_whole ∙ ap answers (table_refused table budget why line asked.in_range e)
        ∙ refused_so why line)

    pub answered : check table ≡ taken (records_of table) → answers (taken (with_budget (records_of table) budget)) ≡ room_first
    answered e =
        sym (with_room asked.first_whole asked.second_whole
        ∙ ap answers (taken-with table budget (records_of table) asked.in_range e))

  -- whatever is refused
  pub refused_asked : (r : Refused) → AskRefused table (length first) (length second) budget r → refusing r.why r.line ≡ room_first
  refused_asked r (before b) = refused_before b
  refused_asked r (of_table asked e) = refused_table asked r.why r.line e
