-- Demand 1 over the calls. Each call answers and leaves what a definition of the rules gives, and so it refuses what the rules
-- refuse, as they do. Each law speaks of any answer that the call's promise allows. Assumes nothing.
use mathlib.Core.Bool.{true}
use mathlib.Core.List.{List, [], ◌∷◌}
use mathlib.Core.Path.{◌≡◌, refl, sym, ap, ◌∙◌}
use Prim.Native.Nat.{ℕ}
use contract.Lifetimes.{Lfts}
use denote.Ref.{Bor, MutBor}
use lib.ListN.{length}
use Rattle.std.specs.Prelude.{Result, Ok, Err, is_err}
use Rattle.boundary.specs.Told as boundary
use Rattle.boundary.specs.declared.CostsAnswer.{CostsAnswer}
use Rattle.boundary.specs.declared.CyclesAnswer.{CyclesAnswer}
use Rattle.boundary.specs.declared.PlanAnswer.{PlanAnswer}
use Rattle.boundary.specs.declared.TableAnswer.{TableAnswer}
use Rattle.boundary.specs.declared.TextAnswer.{TextAnswer}
use Rattle.costs.proofs.Unique as costs
use Rattle.cycles.proofs.Unique as cycles
use Rattle.demands.proofs.RulesRefuse.{allocation_refuses, carried, costs_refuses, first_line_refuses, listing_refuses, listing_with_refuses, planning_refuses, reading_refuses, writing_refuses}
use Rattle.demands.specs.Refused.{AllocationRefused, CostsRefused, FirstLineRefused, IsRefusal, ListRefused, NothingLent, PlanRefused, ReadRefused, Refuses, WriteRefused}
use Rattle.front.proofs.FirstLine.{no_line}
use Rattle.front.proofs.Unique as front
use Rattle.front.proofs.WholeText.{clock_line_unique}
use Rattle.front.specs.ClockLine.{clock_line_says}
use Rattle.front.specs.declared.Clock.{Clock}
use Rattle.listing.proofs.Unique as listing
use Rattle.planner.proofs.Unique as planner
use Rattle.planner.specs.Promises.{PlannedAs}
use Rattle.planner.specs.declared.Planned.{Planned}
use Rattle.reader.proofs.Unique as reader
use Rattle.rules.specs.Answers.{ReadAnswer, allocated_says, decision_says, reading_says, refuses, supplied_says, written_says}
use Rattle.rules.specs.Listing.{listed_with, listing_of}
use Rattle.rules.specs.Plan.{AfterPlanning, taken_with}
use Rattle.rules.specs.Refusals.{AfterWriting}
use Rattle.rules.specs.TableText.{no_records, table_of}
use Rattle.rules.specs.declared.Decision.{Decision}
use Rattle.rules.specs.declared.Refusal.{Refusal}
use Rattle.rules.specs.declared.Refused.{Refused}
use Rattle.rules.specs.declared.Table.{Table}
use Rattle.writer.proofs.Unique as writer

-- the calls of Rattle

pub plan_into_refuses : (lifetimes : Lfts 2) (table : Table) (budget : ℕ) (order fates order' fates' : MutBor (List ℕ)) (d : Result Decision Refused)
    → planner.Promised lifetimes table budget order fates d order' fates'
    → Refuses (PlanRefused table budget order.now fates.now) (decision_says d) (0 ∷ 0 ∷ 0 ∷ [])
    ((order'.now ≡ order.now) × (fates'.now ≡ fates.now))
plan_into_refuses lifetimes table budget order fates order' fates' d promise =
    carried (planning_refuses table budget order.now fates.now) (ap (λ (a : AfterPlanning). a.answer) promise)
    (λ held. (ap (λ (a : AfterPlanning). a.order) promise ∙ held.0, ap (λ (a : AfterPlanning). a.fates) promise ∙ held.1))

pub plan_refuses : (table : Table) (budget : ℕ) (order fates : List ℕ) (begin : ℕ × ℕ) (r : Planned) (fates' : List ℕ)
    → PlannedAs (taken_with table budget) order fates begin r fates'
    → Refuses (PlanRefused table budget order fates) (decision_says r.decision) (0 ∷ 0 ∷ 0 ∷ [])
    ((r.plan.now ≡ []) × (fates' ≡ fates))
plan_refuses table budget order fates begin r fates' promise =
    carried (planning_refuses table budget order fates) promise.decided
    (λ held. (promise.plan ∙ held.2, promise.fates-left ∙ held.1))

pub list_refuses : (lifetimes : Lfts 2) (text : Bor (List ℕ)) (out after : MutBor (List ℕ)) (w : Result ℕ Refused)
    → listing.Promised lifetimes text out w after
    → Refuses (ListRefused (listing_of text.now) out.now) (written_says w) (0 ∷ []) (after.now ≡ out.now)
list_refuses lifetimes text out after w promise =
    carried (listing_refuses text.now out.now) (ap (λ (a : AfterWriting). a.answer) promise)
    (λ held. ap (λ (a : AfterWriting). a.out) promise ∙ held)

pub list_with_refuses : (lifetimes : Lfts 2) (text : Bor (List ℕ)) (budget : ℕ) (out after : MutBor (List ℕ)) (w : Result ℕ Refused)
    → listing.PromisedWith lifetimes text budget out w after
    → Refuses (ListRefused (listed_with text.now budget) out.now) (written_says w) (0 ∷ []) (after.now ≡ out.now)
list_with_refuses lifetimes text budget out after w promise =
    carried (listing_with_refuses text.now budget out.now) (ap (λ (a : AfterWriting). a.answer) promise)
    (λ held. ap (λ (a : AfterWriting). a.out) promise ∙ held)

pub write_refuses : (lifetime : Lfts 1) (t : Table) (out after : MutBor (List ℕ)) (w : Result ℕ Refused)
    → writer.Promised lifetime t out w after
    → Refuses (WriteRefused t out.now) (written_says w) (0 ∷ []) (after.now ≡ out.now)
write_refuses lifetime t out after w promise =
    carried (writing_refuses t out.now) promise.answer (λ held. promise.buffer ∙ held)

no_table : (r : Result Table Refused) → IsRefusal (reading_says r).answer → is_err r ≡ true
no_table (Ok table) other = absurd (other refl)
no_table (Err why) other = refl

pub read_refuses : (lifetime : Lfts 1) (text : Bor (List ℕ)) (r : Result Table Refused) → reader.Promised lifetime text r
    → Refuses (ReadRefused text.now) (reading_says r).answer [] ((is_err r ≡ true) × ((reading_says r).table ≡ table_of no_records))
read_refuses lifetime text r promise =
    let told = carried (reading_refuses text.now) (ap (λ (a : ReadAnswer). a.answer) promise)
    (λ held. ap (λ (a : ReadAnswer). a.table) promise ∙ held) in
    record { told = told.told; nowhere_else = told.nowhere_else; held = λ other. (no_table r other, told.held other) }

pub clock_and_budget_refuses : (lifetime : Lfts 1) (text : Bor (List ℕ)) (r : Result Clock Refused) → front.Promised lifetime text r
    → Refuses (FirstLineRefused text.now) (clock_line_says r) [] NothingLent
clock_and_budget_refuses lifetime text r promise = carried (first_line_refuses text.now) promise (λ held. held)

pub empty_text_refused : (lifetime : Lfts 1) (text : Bor (List ℕ)) (r : Result Clock Refused) → front.Promised lifetime text r
    → text.now ≡ [] → r ≡ refuses Refusal.Order 1
empty_text_refused lifetime text r promise e =
    clock_line_unique r (refuses Refusal.Order 1) (promise ∙ sym (no_line text.now (ap length e)))

pub allocate_refuses : (mean variance assurance : ℕ) (r : Result ℕ Refused) → cycles.Promised mean variance assurance r
    → Refuses (AllocationRefused mean variance assurance) (allocated_says r) (0 ∷ []) NothingLent
allocate_refuses mean variance assurance r promise =
    carried (allocation_refuses mean variance assurance) promise (λ held. held)

pub supplied_refuses : (model : ℕ) (r : Result (List ℕ) Refused) → costs.Promised model r
    → Refuses (CostsRefused model) (supplied_says r) (0 ∷ 0 ∷ 0 ∷ 0 ∷ 0 ∷ 0 ∷ 0 ∷ []) NothingLent
supplied_refuses model r promise = carried (costs_refuses model) promise (λ held. held)

-- the calls for C and Rust

pub cuddlelamb_plan_refuses : (table : Table) (budget : ℕ) (order fates order' fates' : List ℕ) (r : PlanAnswer)
    → boundary.PlanTold (taken_with table budget) order fates r order' fates'
    → Refuses (PlanRefused table budget order fates) (boundary.plan_says r) (0 ∷ 0 ∷ 0 ∷ []) ((order' ≡ order) × (fates' ≡ fates))
cuddlelamb_plan_refuses table budget order fates order' fates' r promise =
    carried (planning_refuses table budget order fates) promise.answer
    (λ held. (promise.order_left ∙ held.0, promise.fates-left ∙ held.1))

pub cuddlelamb_list_refuses : (text out after : List ℕ) (r : TextAnswer) → boundary.ListTold text out r after
    → Refuses (ListRefused (listing_of text) out) (boundary.text_says r) (0 ∷ []) (after ≡ out)
cuddlelamb_list_refuses text out after r promise =
    carried (listing_refuses text out) promise.answer (λ held. promise.out_left ∙ held)

pub cuddlelamb_list_with_refuses : (text : List ℕ) (budget : ℕ) (out after : List ℕ) (r : TextAnswer)
    → boundary.ListWithTold text budget out r after
    → Refuses (ListRefused (listed_with text budget) out) (boundary.text_says r) (0 ∷ []) (after ≡ out)
cuddlelamb_list_with_refuses text budget out after r promise =
    carried (listing_with_refuses text budget out) promise.answer (λ held. promise.out_left ∙ held)

pub cuddlelamb_write_refuses : (t : Table) (out after : List ℕ) (r : TextAnswer) → boundary.WriteTold t out r after
    → Refuses (WriteRefused t out) (boundary.text_says r) (0 ∷ []) (after ≡ out)
cuddlelamb_write_refuses t out after r promise =
    carried (writing_refuses t out) promise.answer (λ held. promise.out_left ∙ held)

pub cuddlelamb_read_refuses : (text : List ℕ) (r : TableAnswer) → boundary.ReadTold text r
    → Refuses (ReadRefused text) (boundary.table_says r) [] (r.table ≡ table_of no_records)
cuddlelamb_read_refuses text r promise =
    carried (reading_refuses text) promise.answer (λ held. promise.table ∙ held)

pub cuddlelamb_allocate_refuses : (mean variance assurance : ℕ) (r : CyclesAnswer)
    → boundary.AllocateTold mean variance assurance r
    → Refuses (AllocationRefused mean variance assurance) (boundary.cycles_says r) (0 ∷ []) NothingLent
cuddlelamb_allocate_refuses mean variance assurance r promise =
    carried (allocation_refuses mean variance assurance) promise.answer (λ held. held)

pub cuddlelamb_costs_refuses : (model : ℕ) (r : CostsAnswer) → boundary.CostsTold model r
    → Refuses (CostsRefused model) (boundary.costs_says r) (0 ∷ 0 ∷ 0 ∷ 0 ∷ 0 ∷ 0 ∷ 0 ∷ []) NothingLent
cuddlelamb_costs_refuses model r promise = carried (costs_refuses model) promise.answer (λ held. held)
