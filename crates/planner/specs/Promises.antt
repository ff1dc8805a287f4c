-- What the planner promises, of what was taken: the records of a table with the budget beside it, or the refusal.
use Rattle.std.specs.Prelude.{Result, Ok, Err, true, false, List, ◌++◌, ◌≡◌, ℕ, ◌≤◌, ◌<◌, drop, length}
use Rattle.columns.specs.Columns.{ColumnsOf}
use Rattle.columns.specs.declared.Columns.{Columns}
use Rattle.planner.specs.declared.Planned.{Planned}
use Rattle.rules.specs.Answers.{decision_says}
use Rattle.rules.specs.Plan.{part_of, planning_of}
use Rattle.rules.specs.Refusals.{Taken, check, refused_at, taken}
use Rattle.rules.specs.TableText.{is_budget, most_jobs, records_of}
use Rattle.rules.specs.declared.Refusal.{Refusal}
use Rattle.rules.specs.declared.Refused.{Refused}
use Rattle.rules.specs.declared.Table.{Table}

-- what is refused before the table is looked at: "8 with line 0" for a buffer of fewer places than a table has for jobs, then "2 for
-- the budget, line 1"
pub data RefusedBefore (first second budget : ℕ) : Refusal → ℕ → Type 0 where
  first_too_small : first < most_jobs → RefusedBefore first second budget Refusal.Room 0
  second_too_small : second < most_jobs → RefusedBefore first second budget Refusal.Room 0
  bad_budget : most_jobs ≤ first → most_jobs ≤ second → is_budget budget ≡ false → RefusedBefore first second budget Refusal.Range 1

-- where nothing of it is
pub record Unrefused (first second budget : ℕ) : Type 0 where
  pub first_whole : most_jobs ≤ first
  pub second_whole : most_jobs ≤ second
  pub in_range : is_budget budget ≡ true

abbrev pub BeforeTable : (first second budget : ℕ) → Result (Unit {0}) Refused → Type 0
BeforeTable first second budget (Ok _) = Unrefused first second budget
BeforeTable first second budget (Err r) = RefusedBefore first second budget r.why r.line

-- what a call that plans a table refuses
pub data AskRefused (table : Table) (first second budget : ℕ) (r : Refused) : Type 0 where
  before : RefusedBefore first second budget r.why r.line → AskRefused table first second budget r
  of_table : Unrefused first second budget → check table ≡ refused_at r.why r.line → AskRefused table first second budget r

-- where it refuses nothing, the records are taken and the columns are those of the table's jobs
pub record AskTaken (table : Table) (first second budget : ℕ) (columns : Columns) : Type 0 where
  pub unrefused : Unrefused first second budget
  pub records_taken : check table ≡ taken (records_of table)
  pub columns_of : ColumnsOf (records_of table).jobs columns

abbrev pub Asked : (table : Table) (first second budget : ℕ) → Columns → Result (Unit {0}) Refused → Type 0
Asked table first second budget columns (Ok _) = AskTaken table first second budget columns
Asked table first second budget columns (Err r) = AskRefused table first second budget r

-- `plan`: the part holds the first count places of what `plan_into` leaves and begins where the order buffer begins; the
-- decision; and the fate buffer whole. (Of the order buffer behind the part `plan_into` speaks.)
pub record PlannedAs (k : Taken) (order fates : List ℕ) (begin : ℕ × ℕ) (r : Planned) (fates' : List ℕ) : Type 0 where
  pub plan : r.plan.now ≡ part_of (planning_of k order fates)
  pub begins : r.plan.ref_ptr ≡ begin
  pub decided : decision_says r.decision ≡ (planning_of k order fates).answer
  pub fates-left : fates' ≡ (planning_of k order fates).fates

-- `plan_into`, and then `hand_back` of the order buffer that it left: the part, where it begins, and every place of the buffer;
-- behind the part they are as `plan_into` left them, for `hand_back` stores nothing
pub record Together (k : Taken) (order fates : List ℕ) (begin : ℕ × ℕ) (order' part : List ℕ) (at : ℕ × ℕ) : Type 0 where
  pub part_is : part ≡ part_of (planning_of k order fates)
  pub begins : at ≡ begin
  pub every_place : part ++ drop (length part) order' ≡ (planning_of k order fates).order
