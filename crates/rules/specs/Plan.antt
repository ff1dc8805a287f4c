-- Document 01, "From jobs to a plan": its nine steps, and what the lent buffers hold afterwards.
use Rattle.std.specs.Prelude.{Bool, cond, not, ◌&&◌, ◌||◌, List, [], ◌∷◌, map, reverse, ℕ, zero, suc, ◌+◌, ◌*◌, min, leb, ltb, eqb, length, take}
use Rattle.std.proofs.Math.Option.{Option, none, some}
use Rattle.rules.specs.Answers.{Answer, good, refused}
use Rattle.rules.specs.Lists.{all, any, find, keep, last_or, put_in, sorted, total}
use Rattle.rules.specs.Refusals.{Taken, check_up_to, is_holder, read, refused_at, taken}
use Rattle.rules.specs.TableText.{Records, is_budget, most_holds, most_jobs, no_speed, nth, padded, with_budget}
use Rattle.rules.specs.declared.Refusal.{Refusal}
use Rattle.rules.specs.declared.Speed.{Speed}
use Rattle.rules.specs.declared.Job.{Job}
use Rattle.rules.specs.declared.Hold.{Hold}
use Rattle.rules.specs.declared.Table.{Table}

-- "Let the top speed be the last F."
unfoldable pub top_of : Records → Speed
top_of t = last_or no_speed t.speeds

-- "Run time is cycles × 1000 / speed in ms, compared exactly by multiplying out, never rounded": clock + run time ≤ end.
-- Nothing is subtracted, so that nothing needs a sign.
unfoldable pub ends_by : ℕ → ℕ → ℕ → ℕ → Bool
ends_by clock mhz cycles end = leb (clock * mhz + cycles * 1000) (end * mhz)

unfoldable pub cycles_of : List Job → ℕ
cycles_of js = total (λ (j : Job). j.cycles) js

-- each job, run in order, with the cycles run by its end; c cycles have run before
pub record Run : Type 0 where
  pub job : Job
  pub cycles_by_end : ℕ

unfoldable pub runs_from : ℕ → List Job → List Run
runs_from c [] = []
runs_from c (j ∷ js) = record { job = j; cycles_by_end = c + j.cycles } ∷ runs_from (c + j.cycles) js

unfoldable pub runs_of : List Job → List Run
runs_of js = runs_from 0 js

-- the job ends at or before its termination
unfoldable pub ends_in_time : ℕ → ℕ → Run → Bool
ends_in_time clock mhz r = ends_by clock mhz r.cycles_by_end r.job.termination

-- two jobs of a table are one when they have the same number
unfoldable pub same : Job → Job → Bool
same j k = eqb j.number k.number

-- A ratio is a pair, "compared exactly".
pub record Ratio : Type 0 where
  pub over : ℕ
  pub under : ℕ

unfoldable pub less : Ratio → Ratio → Bool
less a b = ltb (a.over * b.under) (b.over * a.under)

unfoldable pub equal : Ratio → Ratio → Bool
equal a b = eqb (a.over * b.under) (b.over * a.under)

-- 1. Late alone. "A job with now + its run time at top speed > termination is taken out".
unfoldable pub late_in : Records → Job → Bool
late_in t j = not (ends_by t.clock (top_of t).mhz j.cycles j.termination)

unfoldable pub timely : Records → List Job
timely t = keep (λ j. not (late_in t j)) t.jobs

-- 2. Deadlock. "A job waits for the remaining job that holds the resource it requests." "What it held is
-- free": a job that was taken out is not among the remaining. (No H line names resource 0: a request of 0 waits for nobody.)
unfoldable pub asks_for : Job → Hold → Bool
asks_for j h = eqb h.resource j.request

unfoldable pub holder_in : List Job → Option Hold → Option Job
holder_in js none = none
holder_in js (some h) = find (is_holder h) js

unfoldable pub waits_for : List Hold → List Job → Job → Option Job
waits_for hs js j = holder_in js (find (asks_for j) hs)

-- a job, the job that it waits for, and so on: n of them, or fewer where one waits for nobody
unfoldable pub follow : (Job → Option Job) → ℕ → Option Job → List Job
follow next zero o = []
follow next (suc n) none = []
follow next (suc n) (some k) = k ∷ follow next n (next k)

-- all that a job waits for: the job it waits for, the job that one waits for, and so on; on a ring it goes round. Each of
-- them holds one of 32 resources, so that after 32 steps the walk has met all that it can meet.
unfoldable pub awaited : (Job → Option Job) → Job → List Job
awaited next j = follow next most_holds (next j)

-- a ring job's weight in a table: "worth / cycles"
unfoldable pub weight_in : Records → Job → Ratio
weight_in t j = record { over = j.worth; under = j.cycles }

-- "the one with the least worth / cycles ..; among equals, the one with the greatest number": j goes rather than k, or is k
unfoldable pub goes_rather : Records → Job → Job → Bool
goes_rather t j k =
    less (weight_in t j) (weight_in t k) || (equal (weight_in t j) (weight_in t k) && leb k.number j.number)

-- "On each ring of waiting jobs": j waits in the end for itself, so that all that it waits for are its ring
unfoldable pub on_ring : List Job → Job → Bool
on_ring ring j = any (same j) ring

-- j is the one of its ring that is taken out
unfoldable pub leaves_ring : Records → List Job → Job → Bool
leaves_ring t ring j = on_ring ring j && all (goes_rather t j) ring

-- whom a job waits for among those that step 1 leaves
unfoldable pub waits_timely : Records → Job → Option Job
waits_timely t j = waits_for t.holds (timely t) j

unfoldable pub leaves_its_ring : Records → Job → Bool
leaves_its_ring t j = leaves_ring t (awaited (waits_timely t) j) j

-- the jobs that step 2 leaves
unfoldable pub left : Records → List Job
left t = keep (λ j. not (leaves_its_ring t j)) (timely t)

unfoldable pub waits_left : Records → Job → Option Job
waits_left t j = waits_for t.holds (left t) j

-- 3. Chain. "A job's chain is itself, then the job it waits for, and so on."
unfoldable pub chain_of : Records → Job → List Job
chain_of t j = j ∷ awaited (waits_left t) j

-- "It runs from the far end to the job."
unfoldable pub far_end_first : List Job → List Job
far_end_first chain = reverse chain

-- 4. Ratio. "Each member that finishes at or before its termination gives its worth, else 0": what a member gives when it
-- ends after so many cycles.
unfoldable pub gives : Records → Run → ℕ
gives t r = cond (ends_in_time t.clock (top_of t).mhz r) r.job.worth 0

-- "Run the chain alone from now at top speed. .. The ratio is the sum of these over the sum of the chain's cycles."
unfoldable pub ratio_of : Records → List Job → Ratio
ratio_of t chain = record { over = total (gives t) (runs_of (far_end_first chain)); under = cycles_of chain }

-- 5. Turns. A job with the rest of its chain and its ratio.
pub record Turn : Type 0 where
  pub job : Job
  pub awaited : List Job
  pub ratio : Ratio

unfoldable pub turn_of : Records → Job → Turn
turn_of t j = record { job = j; awaited = awaited (waits_left t) j; ratio = ratio_of t (chain_of t j) }

-- "Jobs are taken by falling ratio; among equals, the lower number first."
unfoldable pub before : Turn → Turn → Bool
before a b = less b.ratio a.ratio || (equal b.ratio a.ratio && ltb a.job.number b.job.number)

unfoldable pub turns : Records → List Turn
turns t = sorted before (map (turn_of t) (left t))

-- 6. Trial. "Each plan entry has a job and a key."
pub record Entry : Type 0 where
  pub job : Job
  pub key : ℕ

unfoldable pub jobs_of : List Entry → List Job
jobs_of p = map (λ (e : Entry). e.job) p

unfoldable pub is_of : Job → Entry → Bool
is_of j e = same j e.job

unfoldable pub in_plan : Job → List Entry → Bool
in_plan j p = any (is_of j) p

-- "Insert at key K means: before the first entry whose key is K or more; every later entry moves one place down"
unfoldable pub goes_before : Entry → Entry → Bool
goes_before new e = leb new.key e.key

unfoldable pub insert : Job → ℕ → List Entry → List Entry
insert j key p = put_in goes_before (record { job = j; key = key }) p

-- the plan without the job's entry
unfoldable pub remove : Job → List Entry → List Entry
remove j [] = []
remove j (e ∷ es) = cond (is_of j e) es (e ∷ remove j es)

-- a plan in mid-trial, with the limit
pub record Limited : Type 0 where
  pub limit : ℕ
  pub plan : List Entry

unfoldable pub stays_below : ℕ → Entry → Bool
stays_below limit e = ltb e.key limit

-- "a member in the plan with key below the limit stays, and the limit becomes that key; one with key at or above the limit
-- is removed and inserted at the limit"
unfoldable pub member_planned : Job → Limited → Entry → Limited
member_planned k s e =
    cond (stays_below s.limit e)
    (record { limit = e.key; plan = s.plan })
    (record { limit = s.limit; plan = insert k s.limit (remove k s.plan) })

-- "one not in the plan lowers the limit to its critical time if that is less, and is inserted at the limit"
unfoldable pub member_new : Job → Limited → Limited
member_new k s =
    let limit = min s.limit k.critical in record { limit = limit; plan = insert k limit s.plan }

unfoldable pub member_found : Job → Limited → Option Entry → Limited
member_found k s none = member_new k s
member_found k s (some e) = member_planned k s e

unfoldable pub member : Job → Limited → Limited
member k s = member_found k s (find (is_of k) s.plan)

-- "along its chain, starting with the job it waits for and going outwards to the far end"
unfoldable pub members : List Job → Limited → Limited
members [] s = s
members (k ∷ ks) s = members ks (member k s)

-- "Insert the job at its critical time; call that key the limit."
unfoldable pub begin : Job → List Entry → Limited
begin j p = record { limit = j.critical; plan = insert j j.critical p }

unfoldable pub trial : Turn → List Entry → List Entry
trial i p = (members i.awaited (begin i.job p)).plan

-- 7. Accept or not. "run in order": the jobs of a plan in the order in which they are run.
unfoldable pub run_order : Records → List Entry → List Job
run_order t p = jobs_of p

-- "If some entry, run in order from now at top speed, ends after its termination"
unfoldable pub in_time : ℕ → ℕ → List Job → Bool
in_time clock mhz js = all (ends_in_time clock mhz) (runs_of js)

unfoldable pub ends_late : Records → List Entry → Bool
ends_late t p = not (in_time t.clock (top_of t).mhz (run_order t p))

-- "if all its cycles × top cost exceed the budget"
unfoldable pub too_dear : Records → List Entry → Bool
too_dear t p = ltb t.budget (cycles_of (run_order t p) * (top_of t).cost)

-- The fates: planned; late alone; taken from a ring; ratio 0; with it some entry would end late; over the budget.
abbrev pub fate_planned : ℕ
fate_planned = 1

abbrev pub fate_late : ℕ
fate_late = 2

abbrev pub fate_deadlock : ℕ
fate_deadlock = 3

abbrev pub fate_ratio_zero : ℕ
fate_ratio_zero = 4

abbrev pub fate_time : ℕ
fate_time = 5

abbrev pub fate_budget : ℕ
fate_budget = 6

-- what a turn leaves: the plan with its keys, and the fate of its job
pub record Outcome : Type 0 where
  pub plan : List Entry
  pub fate : ℕ

-- The trial q of the plan p. "A dropped trial leaves plan and keys as they stood."
unfoldable pub judge : Records → List Entry → List Entry → Outcome
judge t p q =
    cond (ends_late t q) (record { plan = p; fate = fate_time })
    (cond (too_dear t q) (record { plan = p; fate = fate_budget }) (record { plan = q; fate = fate_planned }))

-- "Ratio 0 gives fate 4."
unfoldable pub ratio_zero : Turn → Bool
ratio_zero i = eqb i.ratio.over 0

-- "A job already in the plan is passed over."
unfoldable pub turn : Records → Turn → List Entry → Outcome
turn t i p =
    cond (in_plan i.job p) (record { plan = p; fate = fate_planned })
    (cond (ratio_zero i) (record { plan = p; fate = fate_ratio_zero }) (judge t p (trial i p)))

-- a job and its fate
pub record Fated : Type 0 where
  pub job : Job
  pub fate : ℕ

-- the plan so far, and the fate that each job's own turn gave
pub record Course : Type 0 where
  pub plan : List Entry
  pub own_fates : List Fated

unfoldable pub after : Records → Turn → Course → Course
after t i c =
    let o = turn t i c.plan in record { plan = o.plan; own_fates = record { job = i.job; fate = o.fate } ∷ c.own_fates }

unfoldable pub course : Records → List Turn → Course → Course
course t [] c = c
course t (i ∷ is) c = course t is (after t i c)

-- before the first turn: the empty plan, and no fate
unfoldable pub no_turn_yet : Course
no_turn_yet = record { plan = []; own_fates = [] }

-- the course of all turns, from the empty plan
unfoldable pub course_of : Records → Course
course_of t = course t (turns t) no_turn_yet

-- 8. Fate. "Planned is 1, also for a job that came in with another's chain after its own turn failed. A job taken out in
-- step 1 or 2 keeps 2 or 3. Otherwise the fate is that of its own turn."
-- (each job that step 2 leaves has a turn: there is always one)
unfoldable pub fate_told : Option Fated → ℕ
fate_told none = 0
fate_told (some i) = i.fate

unfoldable pub own_fate : Job → Course → ℕ
own_fate j c = fate_told (find (λ i. same j i.job) c.own_fates)

unfoldable pub fate_in : Records → Course → Job → ℕ
fate_in t c j =
    cond (late_in t j) fate_late
    (cond (leaves_its_ring t j) fate_deadlock
    (cond (in_plan j c.plan) fate_planned (own_fate j c)))

-- 9. Speed. A speed qualifies "at which every entry still ends by its termination and all cycles × that speed's cost are
-- within budget".
unfoldable pub energy_at : Speed → List Job → ℕ
energy_at f js = cycles_of js * f.cost

unfoldable pub qualifies : Records → List Job → Speed → Bool
qualifies t js f = in_time t.clock f.mhz js && leb (energy_at f js) t.budget

-- (the top speed qualifies for every accepted plan: there is always one)
unfoldable pub speed_or : Option Speed → Speed
speed_or none = no_speed
speed_or (some f) = f

-- "the one with the least energy": none of these speeds has less
unfoldable pub least_energy : List Job → List Speed → Speed → Bool
least_energy js fs f = all (λ g. leb (energy_at f js) (energy_at g js)) fs

-- Changed by document 02's A1, where 01 says "The lowest speed": "among the speeds that qualify, the one with the least
-- energy, and among equals the lowest". The speeds rise: the lowest is the first. Of an empty plan every speed qualifies, all
-- at energy 0: "An empty plan takes the first speed and energy 0."
unfoldable pub speed_for : Records → List Job → Speed
speed_for t js = let fs = keep (qualifies t js) t.speeds in speed_or (find (least_energy js fs) fs)

-- The decision: the jobs in the plan's order, a fate for each job of the table, the speed. "The energy is that product."
pub record Plan : Type 0 where
  pub jobs : List Job
  pub fates : List Fated
  pub speed : Speed
  pub energy : ℕ

unfoldable pub plan_from : Records → Course → Plan
plan_from t c =
    let js = run_order t c.plan in
    let f = speed_for t js in
    record {
      jobs = js;
      fates = map (λ j. record { job = j; fate = fate_in t c j }) t.jobs;
      speed = f;
      energy = energy_at f js;
    }

unfoldable pub plan_of : Records → Plan
plan_of t = plan_from t (course_of t)

-- "On success the plan is handed back as the front part of the lent order buffer, as job numbers; places after it hold 0.
-- Fate places follow the J lines; places after the last hold 0."
pub record AfterPlanning : Type 0 where
  pub answer : Answer
  pub order : List ℕ
  pub fates : List ℕ

unfoldable pub numbers_of : List Job → List ℕ
numbers_of js = map (λ (j : Job). j.number) js

unfoldable pub fates_of : List Fated → List ℕ
fates_of is = map (λ (i : Fated). i.fate) is

unfoldable pub leaves_plan : Plan → List ℕ → List ℕ → AfterPlanning
leaves_plan p order fates =
    record {
      answer = good (length p.jobs ∷ p.speed.mhz ∷ p.energy ∷ []);
      order = padded (length order) 0 (numbers_of p.jobs);
      fates = padded (length fates) 0 (fates_of p.fates);
    }

-- the part that is handed back, "of length equal to the plan"
unfoldable pub part_of : AfterPlanning → List ℕ
part_of a = take (nth a.answer.values 0) a.order

-- refused: an empty plan, "and no lent byte or place changes"
unfoldable pub leaves_all : Refusal → ℕ → List ℕ → List ℕ → AfterPlanning
leaves_all why line order fates =
    record { answer = refused why line (0 ∷ 0 ∷ 0 ∷ []); order = order; fates = fates }

unfoldable pub leaves_of : Taken → List ℕ → List ℕ → AfterPlanning
leaves_of (taken t) order fates = leaves_plan (plan_of t) order fates
leaves_of (refused_at why line) order fates = leaves_all why line order fates

-- "an order buffer or a fate buffer of fewer than 64 places is refused 8 with line 0", before anything else is looked at
unfoldable pub too_small_up_to : ℕ → List ℕ → Bool
too_small_up_to most buffer = ltb (length buffer) most

abbrev pub too_small : List ℕ → Bool
too_small = too_small_up_to most_jobs

unfoldable pub planning_of_up_to : ℕ → Taken → List ℕ → List ℕ → AfterPlanning
planning_of_up_to most k order fates =
    let planned = leaves_of k order fates in
    cond (too_small_up_to most order || too_small_up_to most fates) (leaves_all Refusal.Room 0 order fates) planned

-- Planning, of the records that were taken or of their refusal.
abbrev pub planning_of : Taken → List ℕ → List ℕ → AfterPlanning
planning_of = planning_of_up_to most_jobs

-- Changed by document 02's A5, where 01 says "The planner takes a text": "The one call that takes text and gives a plan becomes
-- two: one reads the text to a table, one plans a table with a budget given beside it."

-- "2 for the budget, line 1"
abbrev pub budget_refused : Taken
budget_refused = refused_at Refusal.Range 1

-- "a budget given beside it": the records that were taken, with it in the place of their own, if it is in its range
unfoldable pub at_budget : ℕ → Taken → Taken
at_budget budget (taken t) = cond (is_budget budget) (taken (with_budget t budget)) budget_refused
at_budget budget (refused_at why line) = refused_at why line

-- "The second call checks its table as the writer does." The budget's refusal comes "before the table's own".
unfoldable pub taken_with_up_to : ℕ → Table → ℕ → Taken
taken_with_up_to most table budget = cond (is_budget budget) (at_budget budget (check_up_to most table)) budget_refused

abbrev pub taken_with : Table → ℕ → Taken
taken_with = taken_with_up_to most_jobs

-- The second call: "Refusals: 2 for the budget, line 1, after 8 and before the table's own."
abbrev pub planning_with : Table → ℕ → List ℕ → List ℕ → AfterPlanning
planning_with table budget = planning_of (taken_with table budget)

-- The one call of document 01, "The planner takes a text, and before reading it looks at its two lent buffers". No call is it any
-- more: it is what the two are held to (demands/proofs/ReadOnce). "With the text's own budget and buffers large enough, the two
-- answer as the one did, refusals included; the buffer check moves with planning, after reading": so where a buffer is too small
-- and the text is refused, the one said 8, line 0, and the two say the text's refusal; nowhere else do they differ.
abbrev pub planning : List ℕ → List ℕ → List ℕ → AfterPlanning
planning text = planning_of (read text)
