-- What the functions of steps 6 and 7 ask and promise.
use Rattle.std.specs.Prelude.{Bool, cond, List, ◌∷◌, ◌++◌, map, reverse, ◌≡◌, ℕ, ◌+◌, ◌-◌, ◌*◌, ◌≤◌, ◌<◌, ltb, drop, get_or, length, replicate, take, Result, Ok, Err}
use Rattle.std.proofs.Math.Option.{Option, some}
use Rattle.chains.specs.Promises.{most_members}
use Rattle.chains.specs.Waits.{Waits, places_from}
use Rattle.changes.specs.Changes.{changes_along, merged, staying}
use Rattle.columns.specs.Columns.{AllBelow, AtMost, Column, TermsOf, entries_in}
use Rattle.columns.specs.Ranges.{TermsInRange}
use Rattle.columns.specs.declared.Terms.{Terms}
use Rattle.entries.specs.Places.{Sorted, not_planned, part}
use Rattle.entries.specs.Promises.{JobPlaces, cycles_at}
use Rattle.judgements.specs.Changes.{WellNoted, entries_of, far_first, most_changes, places_of}
use Rattle.judgements.specs.Promises.{EndsTrue, LatestsTrue}
use Rattle.judgements.specs.declared.Kept.{Kept}
use Rattle.judgements.specs.declared.Noted.{Noted}
use Rattle.laws.specs.Pairs.{Distinct, among}
use Rattle.rules.specs.Answers.{fate_number}
use Rattle.rules.specs.Lists.{Each, Rising, find, keep, only_if, total}
use Rattle.rules.specs.Plan.{Entry, awaited, chain_of, course, fate_planned, left, no_turn_yet, ratio_of, same, top_of, turn, turn_of, waits_left}
use Rattle.rules.specs.TableText.{Records, most_cycles, most_jobs, most_time, no_job}
use Rattle.rules.specs.Valid.{Valid}
use Rattle.rules.specs.declared.Fate.{Fate}
use Rattle.rules.specs.declared.Job.{Job}
use Rattle.steps.specs.Deadlines.{deadline_of}
use Rattle.trials.specs.declared.JobInTurn.{JobInTurn}
use Rattle.trials.specs.declared.Plan.{Plan}
use Rattle.trials.specs.declared.Untouched.{Untouched}
use Rattle.trials.specs.declared.Walked.{Walked}

-- the plan without entries
abbrev pub no_entries : Plan
no_entries = record {
  totals = record { count = 0; cycles = 0 };
  places = replicate most_jobs 0;
  keys = replicate most_jobs not_planned;
}

-- the places of its entries
abbrev pub planned_places : Plan → List ℕ
planned_places p = take p.totals.count p.places

-- the plan record's total is the sum of all entries' cycles
abbrev pub TotalTrue : List ℕ → Plan → Type 0
TotalTrue cycles p = p.totals.cycles ≡ cycles_at cycles (planned_places p)

-- a place is in the plan, by its key
abbrev pub is_planned : List ℕ → ℕ → Bool
is_planned keys p = ltb (get_or keys p 0) not_planned

-- Places of jobs in the order of their keys, none twice: so there are no more entries than places. The keys tell which jobs are in
-- the plan.
pub record EntriesStand (count : ℕ) (places keys : List ℕ) : Type 0 where
  pub places_length : length places ≡ most_jobs
  pub keys_length : length keys ≡ most_jobs
  pub few : count ≤ most_jobs
  pub below : AllBelow most_jobs (take count places)
  pub once : Distinct (take count places)
  pub sorted : Sorted keys (take count places)
  pub keys_tell : (place : ℕ) → place < most_jobs → is_planned keys place ≡ among (take count places) place

-- A plan of such entries.
pub record PlanStanding (p : Plan) : Type 0 where
  pub entries_stand : EntriesStand p.totals.count p.places p.keys
  pub cycles_small : p.totals.cycles ≤ most_cycles * p.totals.count

-- the entries of a plan
abbrev pub plan_in : List Job → Plan → List Entry
plan_in js p = entries_in js p.keys (planned_places p)

-- each place of the plan is that of a job
abbrev pub OfJobs : List Job → Plan → Type 0
OfJobs js p = AllBelow (length js) (planned_places p)

-- What is kept of the entries is true: the cycles run by their ends, and their latest beginnings.
pub record KeptTrue (cycles deadline ps : List ℕ) (kept : Kept) : Type 0 where
  pub ends_length : length kept.ends ≡ most_jobs
  pub latests_length : length kept.latests ≡ most_jobs
  pub ends_true : EndsTrue (length ps) cycles ps kept.ends
  pub latests_true : LatestsTrue 0 cycles deadline ps kept.latests

-- the keys tell a job's key in the plan, if it has one
abbrev pub KeysTell : List Job → List ℕ → (Job → Option ℕ) → Type 0
KeysTell js keys key = (p : ℕ) → p < length js → key (get_or js p no_job) ≡ only_if (is_planned keys p) (get_or keys p 0)

-- A place that is not in the plan, from which a walk meets no place twice; columns in their ranges.
pub record Walkable (place : ℕ) (keys waits critical cycles changed fresh : List ℕ) : Type 0 where
  pub changed_length : length changed ≡ most_changes
  pub fresh_length : length fresh ≡ most_changes
  pub place_below : place < most_jobs
  pub not-planned : not_planned ≤ get_or keys place 0
  pub apart : Distinct (places_from waits most_members place)
  pub critical_small : AtMost most_time critical
  pub cycles_small : AtMost most_cycles cycles

-- The walk of a trial: what it noted are the changes of the rules, from the far end on.
pub record WalkNoted (place : ℕ) (keys waits critical cycles changed' fresh' : List ℕ) (w : Walked) : Type 0 where
  pub changed_length : length changed' ≡ most_changes
  pub fresh_length : length fresh' ≡ most_changes
  pub some : 1 ≤ w.noted.changes
  pub few : w.noted.changes ≤ most_changes
  pub well_noted : WellNoted (far_first w.noted.changes changed' fresh') keys
  pub moved_of : w.noted.moved ≡ length (keep (is_planned keys) (places_of (far_first w.noted.changes changed' fresh')))
  pub added_of : w.added
      ≡ total (λ p. cond (is_planned keys p) 0 (get_or cycles p 0)) (places_of (far_first w.noted.changes changed' fresh'))
  pub changes-of : (js : List Job) (next : Job → Option Job) (key : Job → Option ℕ) → Waits js next waits
      → Column (λ j. j.critical) js critical → KeysTell js keys key → place < length js
      → let job = get_or js place no_job in
      entries_of js (far_first w.noted.changes changed' fresh')
      ≡ reverse (record { job = job; key = job.critical } ∷ changes_along key job.critical (awaited next job))
  pub of_jobs : (js : List Job) (next : Job → Option Job) → Waits js next waits → place < length js
      → (i : ℕ) → i < w.noted.changes → get_or changed' i 0 < length js

-- Places of jobs, and changes.
pub record Touchable (ps : List ℕ) (noted : Noted) : Type 0 where
  pub places : JobPlaces ps
  pub some : 1 ≤ noted.changes
  pub few : noted.changes ≤ most_changes
  pub moved_few : noted.moved ≤ noted.changes

-- What a trial leaves as it stands: the places with keys below all changes', and behind them so many that are moved to where they
-- stand.
pub record LeftUntouched (ps keys changed fresh : List ℕ) (noted : Noted) (r : Untouched) : Type 0 where
  pub inside : r.below + r.settled ≤ length ps
  pub settled_few : r.settled ≤ noted.moved
  pub lower : Sorted keys ps → (i : ℕ) → i < r.below → get_or keys (get_or ps i 0) 0 < get_or fresh (noted.changes - 1) 0
  pub settle : take r.settled (drop r.below ps) ≡ take r.settled (places_of (far_first noted.changes changed fresh))

-- the changes without those that stand already where they are to stand
abbrev pub without_settled : Noted → ℕ → Noted
without_settled noted settled = record { changes = noted.changes - settled; moved = noted.moved - settled }

-- A plan, and changes to make behind its first `from` entries, which have lower keys than these.
pub record Acceptable (count : ℕ) (places keys changed fresh : List ℕ) (changes from : ℕ) : Type 0 where
  pub stand : EntriesStand count places keys
  pub from_inside : from ≤ count
  pub few : changes ≤ most_changes
  pub well_noted : WellNoted (far_first changes changed fresh) keys
  pub lower : (i : ℕ) → i < from → Each (λ c. get_or keys (get_or places i 0) 0 < c.key) (far_first changes changed fresh)

-- The changes are made: the plan is the merge.
pub record Accepted (count : ℕ) (places keys changed fresh : List ℕ) (changes from : ℕ) (places' keys' : List ℕ) (r : ℕ)
    : Type 0 where
  pub stand : EntriesStand r places' keys'
  pub no_fewer : count ≤ r
  pub merge : (js : List Job) → Rising (λ j. j.number) js → AllBelow (length js) (take count places)
      → ((i : ℕ) → i < changes → get_or changed i 0 < length js)
      → let cs = entries_of js (far_first changes changed fresh) in
      entries_in js keys' (take r places')
      ≡ entries_in js keys (take from places) ++ merged cs (staying cs (entries_in js keys (part from count places)))
  pub of_jobs : (js : List Job) → AllBelow (length js) (take count places)
      → ((i : ℕ) → i < changes → get_or changed i 0 < length js) → AllBelow (length js) (take r places')

-- Places, none twice, and a column of what is kept of them; cycles in their range: no sum wraps.
pub record Renewable (ps kept cycles : List ℕ) : Type 0 where
  pub places : JobPlaces ps
  pub once : Distinct ps
  pub kept_length : length kept ≡ most_jobs
  pub cycles_small : AtMost most_cycles cycles

-- The columns that a turn reads.
pub record TurnColumns : Type 0 where
  pub waits : List ℕ
  pub critical : List ℕ
  pub cycles : List ℕ
  pub deadline : List ℕ

abbrev pub columns_read : List ℕ → List ℕ → List ℕ → List ℕ → TurnColumns
columns_read waits critical cycles deadline =
    record { waits = waits; critical = critical; cycles = cycles; deadline = deadline }

-- They are in their ranges.
pub record TurnColumnsInRange (c : TurnColumns) : Type 0 where
  pub critical_small : AtMost most_time c.critical
  pub cycles_small : AtMost most_cycles c.cycles

-- They are those of the table: whom each job waits for among those that steps 1 and 2 leave, the jobs' fields, and their deadlines.
pub record TurnColumnsOf (t : Records) (c : TurnColumns) : Type 0 where
  pub waits-left : Waits t.jobs (waits_left t) c.waits
  pub critical_of : Column (λ j. j.critical) t.jobs c.critical
  pub cycles-of : Column (λ j. j.cycles) t.jobs c.cycles
  pub deadline-of : Column (deadline_of t.clock (top_of t).mhz) t.jobs c.deadline

-- a job that steps 1 and 2 leave
abbrev pub Remains : Records → Job → Type 0
Remains t j = find (same j) (left t) ≡ some j

-- The plan that turns of such jobs leave, one after the other.
pub record PlanOfTurns (t : Records) (p : List Entry) : Type 0 where
  pub taken : List Job
  pub remain : Each (Remains t) taken
  pub by_turns : p ≡ (course t (map (turn_of t) taken) no_turn_yet).plan

-- Columns and terms are those of the table, the plan is one that its turns leave, and the job whose turn it is remains.
pub record TurnOf (t : Records) (p : Plan) (job : JobInTurn) (c : TurnColumns) (terms : Terms) : Type 0 where
  pub valid : Valid t
  pub terms_of : TermsOf t terms
  pub columns_of : TurnColumnsOf t c
  pub of_jobs : OfJobs t.jobs p
  pub of_turns : PlanOfTurns t (plan_in t.jobs p)
  pub place_of_job : job.place < length t.jobs
  pub remains : Remains t (get_or t.jobs job.place no_job)
  pub over_of : job.over ≡ (ratio_of t (chain_of t (get_or t.jobs job.place no_job))).over

-- A plan with what is kept of it and a place, of a table; columns and terms in their ranges: no sum or product wraps.
pub record Turnable (p : Plan) (kept : Kept) (changed fresh : List ℕ) (job : JobInTurn) (c : TurnColumns) (terms : Terms)
    : Type 0 where
  pub standing : PlanStanding p
  pub total_true : TotalTrue c.cycles p
  pub kept_true : KeptTrue c.cycles c.deadline (planned_places p) kept
  pub changed_length : length changed ≡ most_changes
  pub fresh_length : length fresh ≡ most_changes
  pub place_below : job.place < most_jobs
  pub columns_small : TurnColumnsInRange c
  pub terms_small : TermsInRange terms
  pub table : Records
  pub of_table : TurnOf table p job c terms

-- the fate of a trial: one that is not dropped is planned
abbrev pub trial_fate : Result (Unit {0}) Fate → ℕ
trial_fate (Ok _) = fate_planned
trial_fate (Err why) = fate_number why

-- A turn: the plan and the fate as the rules leave them. The record's total is the sum of all entries' cycles, after an accepted
-- and after a dropped trial; it never falls, and at top cost it stays within budget. What is kept is true of the plan.
pub record TurnTaken (before : Plan) (job : JobInTurn) (c : TurnColumns) (terms : Terms) (after : Plan) (kept' : Kept)
    (changed' fresh' : List ℕ) (fate : ℕ) : Type 0 where
  pub standing : PlanStanding after
  pub outcome : (t : Records) → TurnOf t before job c terms
      → record { plan = plan_in t.jobs after; fate = fate }
      ≡ turn t (turn_of t (get_or t.jobs job.place no_job)) (plan_in t.jobs before)
  pub of_jobs : (t : Records) → TurnOf t before job c terms → OfJobs t.jobs after
  pub total_true : TotalTrue c.cycles after
  pub kept_true : KeptTrue c.cycles c.deadline (planned_places after) kept'
  pub changed_length : length changed' ≡ most_changes
  pub fresh_length : length fresh' ≡ most_changes
  pub no_fall : before.totals.cycles ≤ after.totals.cycles
  pub within : before.totals.cycles * terms.cost ≤ terms.budget → after.totals.cycles * terms.cost ≤ terms.budget
