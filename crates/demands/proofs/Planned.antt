-- Demand 2 over the calls: what they answer where nothing is refused is what the rules give, in every lent buffer, to the last
-- place. Each law speaks of any answer that the call's promise allows. Assumes nothing.
use mathlib.Core.Bool.{true}
use mathlib.Core.List.{List, []}
use mathlib.Core.Path.{◌≡◌, refl, ap, ◌∙◌}
use Prim.Native.Nat.{ℕ, ◌≤◌}
use borrow.Author.Tests.{le-leb}
use contract.Lifetimes.{Lfts}
use denote.Ref.{Bor, MutBor}
use lib.ListN.{length, length-map, take}
use lib.Seq.{take_at}
use Rattle.std.specs.Prelude.{Result, Ok}
use Rattle.boundary.specs.Told as boundary
use Rattle.boundary.specs.declared.PlanAnswer.{PlanAnswer}
use Rattle.boundary.specs.declared.TableAnswer.{TableAnswer}
use Rattle.boundary.specs.declared.TextAnswer.{TextAnswer}
use Rattle.demands.specs.Plans.{AtFront, HasRoom, PartBy, PlannedBy}
use Rattle.front.proofs.Unique as front
use Rattle.front.proofs.WholeText.{answer_of_table, clock_of}
use Rattle.front.specs.declared.Clock.{Clock}
use Rattle.grammar.proofs.BudgetBeside.{taken-with}
use Rattle.grammar.proofs.Trips.{check_exactly}
use Rattle.laws.proofs.Unique.{reading_unique}
use Rattle.listing.proofs.Unique as listing
use Rattle.planner.proofs.Decisions.{room}
use Rattle.planner.proofs.Unique as planner
use Rattle.planner.specs.Promises.{PlannedAs}
use Rattle.planner.specs.declared.Planned.{Planned}
use Rattle.reader.proofs.Unique as reader
use Rattle.rules.specs.Answers.{Answer, decision_says, good, written_says}
use Rattle.rules.specs.Listing.{listed_with, listing, listing_of, listing_with}
use Rattle.rules.specs.Plan.{AfterPlanning, leaves_of, leaves_plan, numbers_of, part_of, plan_of, planning_of_up_to, planning_of, taken_with}
use Rattle.rules.specs.Refusals.{AfterWriting, check, read, reading_up_to, table_answer_up_to, taken, writing, written, written_of, Taken}
use Rattle.rules.specs.TableText.{Records, is_budget, padded, records_of, table_of, text_of, with_budget}
use Rattle.rules.specs.Valid.{Valid, WithinPlaces}
use Rattle.rules.specs.declared.Refused.{Refused}
use Rattle.rules.specs.declared.Decision.{Decision}
use Rattle.rules.specs.declared.Table.{Table}
use Rattle.writer.proofs.Unique as writer

-- the rules plan what is taken, where both buffers have room
planning_taken : (k : Taken) (order fates : List ℕ) (t : Records) → k ≡ taken t → HasRoom order fates
    → planning_of k order fates ≡ leaves_plan (plan_of t) order fates
unfolding planning_of_up_to leaves_of
planning_taken k order fates t e large = rw (room order large.first_room) (rw (room fates large.second_room) (rw e))

planned_by : (k : Taken) (order fates : List ℕ) (t : Records) → k ≡ taken t → HasRoom order fates
    → (says : Answer) (order' fates' : List ℕ) → says ≡ (planning_of k order fates).answer
    → order' ≡ (planning_of k order fates).order → fates' ≡ (planning_of k order fates).fates
    → PlannedBy t order fates says order' fates'
unfolding leaves_plan
planned_by k order fates t e large says order' fates' answered order_left fates-left =
    let same = planning_taken k order fates t e large in
    record {
      answer = answered ∙ ap (λ (a : AfterPlanning). a.answer) same;
      order_left = order_left ∙ ap (λ (a : AfterPlanning). a.order) same;
      fates-left = fates-left ∙ ap (λ (a : AfterPlanning). a.fates) same;
    }

-- `plan_into`
pub plan_into_gives : (lifetimes : Lfts 2) (table : Table) (budget : ℕ) (order fates order' fates' : MutBor (List ℕ)) (d : Result Decision Refused)
    (t : Records) → planner.Promised lifetimes table budget order fates d order' fates' → check table ≡ taken t
    → is_budget budget ≡ true → HasRoom order.now fates.now
    → PlannedBy (with_budget t budget) order.now fates.now (decision_says d) order'.now fates'.now
plan_into_gives lifetimes table budget order fates order' fates' d t promise e h large =
    planned_by (taken_with table budget) order.now fates.now (with_budget t budget) (taken-with table budget t h e) large
    (decision_says d) order'.now fates'.now
    (ap (λ (a : AfterPlanning). a.answer) promise)
    (ap (λ (a : AfterPlanning). a.order) promise)
    (ap (λ (a : AfterPlanning). a.fates) promise)

pub cuddlelamb_plan_gives : (table : Table) (budget : ℕ) (order fates order' fates' : List ℕ) (r : PlanAnswer) (t : Records)
    → boundary.PlanTold (taken_with table budget) order fates r order' fates' → check table ≡ taken t → is_budget budget ≡ true
    → HasRoom order fates → PlannedBy (with_budget t budget) order fates (boundary.plan_says r) order' fates'
cuddlelamb_plan_gives table budget order fates order' fates' r t promise e h large =
    planned_by (taken_with table budget) order fates (with_budget t budget) (taken-with table budget t h e) large
    (boundary.plan_says r) order' fates' promise.answer promise.order_left promise.fates-left

numbers_length : (t : Records) → length (numbers_of (plan_of t).jobs) ≡ length (plan_of t).jobs
unfolding numbers_of
numbers_length t = length-map (plan_of t).jobs (λ j. j.number)

-- the numbers of the plan stand at the front of what is padded behind them
pub front_of_plan : (t : Records) (places : ℕ)
    → take (length (plan_of t).jobs) (padded places 0 (numbers_of (plan_of t).jobs)) ≡ numbers_of (plan_of t).jobs
front_of_plan t places = take_at (numbers_of (plan_of t).jobs) _ (length (plan_of t).jobs) (numbers_length t)

-- `plan`: the part is the plan
pub plan_gives : (table : Table) (budget : ℕ) (order fates : List ℕ) (begin : ℕ × ℕ) (r : Planned) (fates' : List ℕ) (t : Records)
    → PlannedAs (taken_with table budget) order fates begin r fates' → check table ≡ taken t → is_budget budget ≡ true
    → HasRoom order fates → PartBy (with_budget t budget) fates (decision_says r.decision) r.plan.now fates'
unfolding leaves_plan part_of
plan_gives table budget order fates begin r fates' t promise e h large =
    let same =
    planning_taken (taken_with table budget) order fates (with_budget t budget) (taken-with table budget t h e) large in
    record {
      part_is = promise.plan ∙ ap part_of same ∙ front_of_plan (with_budget t budget) (length order);
      answer = promise.decided ∙ ap (λ (a : AfterPlanning). a.answer) same;
      fates-left = promise.fates-left ∙ ap (λ (a : AfterPlanning). a.fates) same;
    }

-- a text with room is written to the front of the buffer
at_front : (text out : List ℕ) → length text ≤ length out → (says : Answer) (after : List ℕ)
    → says ≡ (written text out).answer → after ≡ (written text out).out → AtFront text out says after
unfolding written
at_front text out h says after answered left =
    let fits = le-leb (length text) (length out) h in
    record { answer = answered ∙ rw fits; out_left = left ∙ rw fits }

-- `list`: the listing
pub list_gives : (lifetimes : Lfts 2) (text : Bor (List ℕ)) (out after : MutBor (List ℕ)) (w : Result ℕ Refused)
    → listing.Promised lifetimes text out w after → length (listing_of text.now) ≤ length out.now
    → AtFront (listing_of text.now) out.now (written_says w) after.now
unfolding listing
list_gives lifetimes text out after w promise h =
    at_front (listing_of text.now) out.now h (written_says w) after.now
    (ap (λ (a : AfterWriting). a.answer) promise) (ap (λ (a : AfterWriting). a.out) promise)

-- `list_with_budget`
pub list_with_gives : (lifetimes : Lfts 2) (text : Bor (List ℕ)) (budget : ℕ) (out after : MutBor (List ℕ)) (w : Result ℕ Refused)
    → listing.PromisedWith lifetimes text budget out w after → length (listed_with text.now budget) ≤ length out.now
    → AtFront (listed_with text.now budget) out.now (written_says w) after.now
unfolding listing_with
list_with_gives lifetimes text budget out after w promise h =
    at_front (listed_with text.now budget) out.now h (written_says w) after.now
    (ap (λ (a : AfterWriting). a.answer) promise) (ap (λ (a : AfterWriting). a.out) promise)

pub cuddlelamb_list_with_gives : (text : List ℕ) (budget : ℕ) (out after : List ℕ) (r : TextAnswer)
    → boundary.ListWithTold text budget out r after → length (listed_with text budget) ≤ length out
    → AtFront (listed_with text budget) out (boundary.text_says r) after
unfolding listing_with
cuddlelamb_list_with_gives text budget out after r promise h =
    at_front (listed_with text budget) out h (boundary.text_says r) after promise.answer promise.out_left

pub cuddlelamb_list_gives : (text out after : List ℕ) (r : TextAnswer) → boundary.ListTold text out r after
    → length (listing_of text) ≤ length out → AtFront (listing_of text) out (boundary.text_says r) after
unfolding listing
cuddlelamb_list_gives text out after r promise h =
    at_front (listing_of text) out h (boundary.text_says r) after promise.answer promise.out_left

-- `write`: a valid table's text
writing_valid : (t : Table) (out : List ℕ) → WithinPlaces t → Valid (records_of t)
    → writing t out ≡ written (text_of (records_of t)) out
unfolding writing written_of
writing_valid t out fits valid = rw ((check_exactly t (records_of t)).1 (valid, refl, fits))

pub write_gives : (lifetime : Lfts 1) (t : Table) (out after : MutBor (List ℕ)) (w : Result ℕ Refused)
    → writer.Promised lifetime t out w after → WithinPlaces t → Valid (records_of t)
    → length (text_of (records_of t)) ≤ length out.now
    → AtFront (text_of (records_of t)) out.now (written_says w) after.now
write_gives lifetime t out after w promise fits valid h =
    let same = writing_valid t out.now fits valid in
    at_front (text_of (records_of t)) out.now h (written_says w) after.now
    (promise.answer ∙ ap (λ (a : AfterWriting). a.answer) same) (promise.buffer ∙ ap (λ (a : AfterWriting). a.out) same)

pub cuddlelamb_write_gives : (t : Table) (out after : List ℕ) (r : TextAnswer) → boundary.WriteTold t out r after
    → WithinPlaces t → Valid (records_of t) → length (text_of (records_of t)) ≤ length out
    → AtFront (text_of (records_of t)) out (boundary.text_says r) after
cuddlelamb_write_gives t out after r promise fits valid h =
    let same = writing_valid t out fits valid in
    at_front (text_of (records_of t)) out h (boundary.text_says r) after
    (promise.answer ∙ ap (λ (a : AfterWriting). a.answer) same) (promise.out_left ∙ ap (λ (a : AfterWriting). a.out) same)

-- `read`: the table of the records
pub read_gives : (lifetime : Lfts 1) (text : Bor (List ℕ)) (r : Result Table Refused) (t : Records) → reader.Promised lifetime text r
    → read text.now ≡ taken t → r ≡ Ok (table_of t)
unfolding reading_up_to table_answer_up_to
read_gives lifetime text r t promise e =
    reading_unique r (Ok (table_of t)) (promise ∙ rw e)

pub cuddlelamb_read_gives : (text : List ℕ) (r : TableAnswer) (t : Records) → boundary.ReadTold text r → read text ≡ taken t
    → (boundary.table_says r ≡ good []) × (r.table ≡ table_of t)
unfolding reading_up_to table_answer_up_to
cuddlelamb_read_gives text r t promise e = (promise.answer ∙ rw e, promise.table ∙ rw e)

-- `clock_and_budget`: those of the table
pub clock_and_budget_gives : (lifetime : Lfts 1) (text : Bor (List ℕ)) (r : Result Clock Refused) (t : Records)
    → front.Promised lifetime text r → read text.now ≡ taken t → r ≡ clock_of t
clock_and_budget_gives lifetime text r t promise e = answer_of_table text.now t r promise e
