-- What the functions of steps 5 to 9 ask and promise.
use Rattle.std.specs.Prelude.{cond, List, map, Result, ◌≡◌, ℕ, ◌+◌, ◌-◌, ◌*◌, ◌≤◌, ◌<◌, get_or, length, set, take}
use Rattle.chains.specs.Promises.{Holdable}
use Rattle.chains.specs.Stage.{FatesSoFar, Stage}
use Rattle.columns.specs.Columns.{AllBelow, ColumnsOf, TermsOf, jobs_at}
use Rattle.columns.specs.Ranges.{ColumnsInRange, RunsInRange, TermsInRange}
use Rattle.columns.specs.declared.Columns.{Columns}
use Rattle.columns.specs.declared.Terms.{Terms}
use Rattle.laws.specs.Pairs.{among}
use Rattle.plans.specs.Courses.{FatesByTurn, course_by, job_at, room_by}
use Rattle.plans.specs.declared.Decided.{Decided}
use Rattle.ranks.specs.Promises.{RatioColumns, TurnOrder}
use Rattle.rules.specs.Answers.{decision_says, panel_says}
use Rattle.rules.specs.Plan.{AfterPlanning, Course, chain_of, course_of, fate_in, fate_planned, in_plan, leaves_plan, plan_of, ratio_of, run_order}
use Rattle.rules.specs.Rooms.{AfterRooms, TurnRoom, last_room, leaves_rooms, rooms_of}
use Rattle.rules.specs.TableText.{Records, most_holds, most_jobs, most_speeds, no_speed, records_of, table_with_budget, with_budget}
use Rattle.rules.specs.Valid.{Valid}
use Rattle.rules.specs.declared.Decision.{Decision}
use Rattle.rules.specs.declared.Hold.{Hold}
use Rattle.rules.specs.declared.Panel.{Panel}
use Rattle.rules.specs.declared.Refused.{Refused}
use Rattle.rules.specs.declared.Speed.{Speed}
use Rattle.rules.specs.declared.Table.{Table}
use Rattle.speeds.specs.Promises.{SpeedsInRange, SpeedsOf}
use Rattle.trials.specs.Promises.{Remains, TotalTrue, TurnColumns, TurnColumnsInRange, TurnColumnsOf, planned_places}
use Rattle.trials.specs.declared.Plan.{Plan}

-- Columns and terms are those of the table, and the turns are of jobs that steps 1 and 2 leave.
pub record TurnsOf (t : Records) (turns over : List ℕ) (c : TurnColumns) (so_far : List ℕ) (terms : Terms) : Type 0 where
  pub valid : Valid t
  pub terms_of : TermsOf t terms
  pub columns_of : TurnColumnsOf t c
  pub fates_so_far : FatesSoFar t so_far
  pub of_jobs : AllBelow (length t.jobs) turns
  pub remain : (i : ℕ) → i < length turns → get_or so_far (get_or turns i 0) 0 ≡ 0
  pub remaining_jobs : (i : ℕ) → i < length turns → Remains t (job_at t (get_or turns i 0))
  pub over_of : (i : ℕ) → i < length t.jobs → get_or so_far i 0 ≡ 0
      → get_or over i 0 ≡ (ratio_of t (chain_of t (job_at t i))).over

-- What the course of turns asks: places, columns and terms in their ranges, and a table that they are of.
pub record Takeable (turns over : List ℕ) (c : TurnColumns) (so_far : List ℕ) (terms : Terms) : Type 0 where
  pub below : AllBelow most_jobs turns
  pub columns_small : TurnColumnsInRange c
  pub terms_small : TermsInRange terms
  pub table : Records
  pub of_table : TurnsOf table turns over c so_far terms

-- Plan and fates are what a course of turns leaves.
pub record CourseBy (t : Records) (c : Course) (p : Plan) (by_job : List ℕ) : Type 0 where
  pub jobs : jobs_at t.jobs (planned_places p) ≡ run_order t c.plan
  pub planned : (i : ℕ) → i < length t.jobs → among (planned_places p) i ≡ in_plan (job_at t i) c.plan
  pub fates : FatesByTurn t c by_job

-- A plan of places of jobs, no more than there are places.
pub record PlacesOfJobs (p : Plan) : Type 0 where
  pub whole : length p.places ≡ most_jobs
  pub few : p.totals.count ≤ most_jobs
  pub below : AllBelow most_jobs (planned_places p)

-- The plan record's total is the sum of the cycles at its places, and within budget at top cost.
pub record Totalled (p : Plan) (cycles : List ℕ) (terms : Terms) : Type 0 where
  pub total_true : TotalTrue cycles p
  pub within : p.totals.cycles * terms.cost ≤ terms.budget

-- The course of these turns.
pub record TurnsTaken (turns over : List ℕ) (c : TurnColumns) (so_far : List ℕ) (terms : Terms) (p : Plan) (fates : List ℕ)
    : Type 0 where
  pub placed : PlacesOfJobs p
  pub totalled : Totalled p c.cycles terms
  pub course : (t : Records) → TurnsOf t turns over c so_far terms → CourseBy t (course_by t turns (length turns)) p fates

-- A turn noted, where there is a place for it.
pub record TurnNoted (turn place room : ℕ) (order rooms order' rooms' : List ℕ) : Type 0 where
  pub place_stored : order' ≡ set order turn place
  pub room_stored : turn < length order → rooms' ≡ set rooms turn room
  pub else_kept : length order ≤ turn → rooms' ≡ rooms

-- What is noted of the first n of these turns, where there is a place for it: the place of its job, and the room after it.
pub record TurnsNoted (n : ℕ) (turns over : List ℕ) (c : TurnColumns) (so_far : List ℕ) (terms : Terms)
    (order rooms order' rooms' : List ℕ) : Type 0 where
  pub order_whole : length order' ≡ length order
  pub rooms_whole : length rooms' ≡ length rooms
  pub place_noted : (k : ℕ) → k < n → k < length order → get_or order' k 0 ≡ get_or turns k 0
  pub room_noted : (t : Records) → TurnsOf t turns over c so_far terms → (k : ℕ) → k < n → k < length order → k < length rooms
      → get_or rooms' k 0 ≡ room_by t turns (k + 1)

-- Steps 1 and 2 leave this of a valid table with these terms and columns.
pub record LeftOf (t : Records) (fates waits : List ℕ) (jobs : Columns) (terms : Terms) : Type 0 where
  pub valid : Valid t
  pub terms_of : TermsOf t terms
  pub stage : Stage t fates waits
  pub columns_of : ColumnsOf t.jobs jobs

-- Turns in their order, by ratios of which what the members of the chains give is told, and the chains' cycles are not.
pub record TurnsOrdered (fates waits : List ℕ) (jobs : Columns) (deadline : List ℕ) (job_count : ℕ) (over turns : List ℕ) (count : ℕ)
    : Type 0 where
  pub under : List ℕ
  pub ratios : RatioColumns fates waits jobs.cycles jobs.worth deadline job_count over under
  pub ordered : TurnOrder fates jobs.number over under job_count turns count

-- Columns and terms in their ranges, and a table of which steps 1 and 2 leave them.
pub record LeftRunnable (fates waits : List ℕ) (jobs : Columns) (terms : Terms) : Type 0 where
  pub columns_small : ColumnsInRange jobs
  pub terms_small : TermsInRange terms
  pub table : Records
  pub of_table : LeftOf table fates waits jobs terms

-- The course of the turns of those that are left.
pub record LeftRun (fates waits : List ℕ) (jobs : Columns) (terms : Terms) (p : Plan) (fates' : List ℕ) : Type 0 where
  pub placed : PlacesOfJobs p
  pub totalled : Totalled p jobs.cycles terms
  pub course : (t : Records) → LeftOf t fates waits jobs terms → CourseBy t (course_of t) p fates'

-- A valid table has these terms, holds and columns.
pub record CourseOf (t : Records) (holds : List Hold) (jobs : Columns) (terms : Terms) : Type 0 where
  pub valid : Valid t
  pub terms_of : TermsOf t terms
  pub holds_of : holds ≡ t.holds
  pub columns_of : ColumnsOf t.jobs jobs

-- Resources, columns and terms in their ranges, and a table that they are of.
pub record CourseRunnable (holds : List Hold) (jobs : Columns) (terms : Terms) : Type 0 where
  pub holdable : Holdable holds (take terms.job_count jobs.number)
  pub columns_small : ColumnsInRange jobs
  pub terms_small : TermsInRange terms
  pub table : Records
  pub of_table : CourseOf table holds jobs terms

-- The course of the table's turns.
pub record CourseRun (holds : List Hold) (jobs : Columns) (terms : Terms) (p : Plan) (fates : List ℕ) : Type 0 where
  pub placed : PlacesOfJobs p
  pub totalled : Totalled p jobs.cycles terms
  pub course : (t : Records) → CourseOf t holds jobs terms → CourseBy t (course_of t) p fates

-- The rows of the rooms, by the places of their jobs in the order of turns, and by the rooms.
pub record RoomsNoted (t : Records) (count : ℕ) (order rooms : List ℕ) : Type 0 where
  pub below : AllBelow (length t.jobs) (take count order)
  pub row_jobs : jobs_at t.jobs (take count order) ≡ map (λ (r : TurnRoom). r.job) (rooms_of t)
  pub row_rooms : take count rooms ≡ map (λ (r : TurnRoom). r.room) (rooms_of t)

-- What is noted of the turns of those that are left, where there is a place for each.
pub record LeftNoted (fates waits : List ℕ) (jobs : Columns) (terms : Terms) (turns : ℕ) (order rooms order' rooms' : List ℕ)
    : Type 0 where
  pub few : turns ≤ most_jobs
  pub order_whole : length order' ≡ length order
  pub rooms_whole : length rooms' ≡ length rooms
  pub noted : (t : Records) → LeftOf t fates waits jobs terms → most_jobs ≤ length order → most_jobs ≤ length rooms
      → RoomsNoted t turns order' rooms'

-- What is noted of the table's turns, where there is a place for each.
pub record CourseNoted (holds : List Hold) (jobs : Columns) (terms : Terms) (turns : ℕ) (order rooms order' rooms' : List ℕ)
    : Type 0 where
  pub few : turns ≤ most_jobs
  pub order_whole : length order' ≡ length order
  pub rooms_whole : length rooms' ≡ length rooms
  pub noted : (t : Records) → CourseOf t holds jobs terms → most_jobs ≤ length order → most_jobs ≤ length rooms
      → RoomsNoted t turns order' rooms'

-- At each of these places 1; the others as they were.
pub record Marked (places fates fates' : List ℕ) : Type 0 where
  pub marked : (i : ℕ) → i < most_jobs → get_or fates' i 0 ≡ cond (among places i) fate_planned (get_or fates i 0)

-- Speeds, columns, terms and what the turns left in their ranges.
pub record Concludable (speeds : List Speed) (jobs : Columns) (terms : Terms) (p : Plan) : Type 0 where
  pub placed : PlacesOfJobs p
  pub totalled : Totalled p jobs.cycles terms
  pub speeds_small : SpeedsInRange speeds
  pub runs_small : RunsInRange jobs.cycles jobs.termination
  pub terms_small : TermsInRange terms

-- What is decided is the rules' plan: its jobs by their places, a fate for each job, the speed and the energy, and the room
-- that is left at the end.
pub record DecidedAs (t : Records) (p : Plan) (by_job : List ℕ) (d : Decided) : Type 0 where
  pub placed : PlacesOfJobs p
  pub jobs : jobs_at t.jobs (planned_places p) ≡ (plan_of t).jobs
  pub fates : (i : ℕ) → i < length t.jobs → get_or by_job i 0 ≡ fate_in t (course_of t) (job_at t i)
  pub speed : d.speed ≡ (plan_of t).speed
  pub energy : d.energy ≡ (plan_of t).energy
  pub room : d.room ≡ last_room t

pub record Concluded (speeds : List Speed) (jobs : Columns) (terms : Terms) (turns : ℕ) (p : Plan) (fates fates' : List ℕ)
    (r : Decided) : Type 0 where
  pub decided : (t : Records) → Valid t → SpeedsOf t speeds jobs.cycles jobs.termination terms
      → CourseBy t (course_of t) p fates → DecidedAs t p fates' r
  pub turns_counted : r.turns ≡ turns

-- A table whose records are valid with this budget, no count beyond its places.
pub record Plannable (table : Table) (budget : ℕ) : Type 0 where
  pub valid : Valid (with_budget (records_of table) budget)
  pub few_speeds : table.speed_count ≤ most_speeds
  pub few_jobs : table.job_count ≤ most_jobs
  pub few_holds : table.hold_count ≤ most_holds

-- The clock, the budget and the top speed, which is the last F.
abbrev pub terms_by : Table → ℕ → Terms
terms_by table budget =
    let top = get_or table.speeds (table.speed_count - 1) no_speed in
    record { clock = table.clock; budget = budget; mhz = top.mhz; cost = top.cost; job_count = table.job_count }

-- It can be planned, and the columns are those of its jobs.
pub record PlannableBy (table : Table) (jobs : Columns) : Type 0 where
  pub plannable : Plannable table table.budget
  pub columns_of : ColumnsOf (records_of table).jobs jobs

-- A table that can be planned with the budget beside it, and what is decided for it.
abbrev pub Decidable : Table → ℕ → Columns → Type 0
Decidable table budget jobs = PlannableBy (table_with_budget table budget) jobs

abbrev pub Decides : Table → ℕ → Plan → List ℕ → Decided → Type 0
Decides table budget p fates d = DecidedAs (records_of (table_with_budget table budget)) p fates d

-- What is noted of its turns, where there is a place for each.
pub record DecisionNoted (table : Table) (budget turns : ℕ) (order rooms order' rooms' : List ℕ) : Type 0 where
  pub few : turns ≤ most_jobs
  pub order_whole : length order' ≡ length order
  pub rooms_whole : length rooms' ≡ length rooms
  pub noted : most_jobs ≤ length order → most_jobs ≤ length rooms
      → RoomsNoted (records_of (table_with_budget table budget)) turns order' rooms'

-- the decision beside what both buffers hold
abbrev pub leaves : Result Decision Refused → List ℕ → List ℕ → AfterPlanning
leaves d order fates = record { answer = decision_says d; order = order; fates = fates }

-- the panel's answer beside what both buffers hold
abbrev pub tells : Result Panel Refused → List ℕ → List ℕ → AfterRooms
tells a turns rooms = record { answer = panel_says a; turns = turns; rooms = rooms }

-- Its plan, told in both buffers; and its rooms.
abbrev pub LeavesPlanOf : Table → ℕ → (order fates : List ℕ) → AfterPlanning → Type 0
LeavesPlanOf table budget order fates after =
    after ≡ leaves_plan (plan_of (records_of (table_with_budget table budget))) order fates

abbrev pub LeavesRoomsOf : Table → ℕ → (turns rooms : List ℕ) → AfterRooms → Type 0
LeavesRoomsOf table budget turns rooms after =
    after ≡ leaves_rooms (records_of (table_with_budget table budget)) turns rooms
