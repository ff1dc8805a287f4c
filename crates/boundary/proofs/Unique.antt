-- Any two answers that a promise for C and Rust allows are equal: each of their numbers is the rules', and so is what the lent
-- buffers hold. Assumes nothing.
use mathlib.Core.List.{List}
use mathlib.Core.Path.{◌≡◌, refl, sym, ap, ◌∙◌}
use Prim.Native.Nat.{ℕ}
use contract.Lifetimes.{Lfts}
use denote.Ref.{Bor, MutBor}
use Rattle.boundary.proofs.cuddlelamb_allocate.Reads as allocate
use Rattle.boundary.proofs.cuddlelamb_costs.Reads as costs
use Rattle.boundary.proofs.cuddlelamb_list.Reads as list
use Rattle.boundary.proofs.cuddlelamb_list_with_budget.Reads as list-with
use Rattle.boundary.proofs.cuddlelamb_plan.Reads as plan
use Rattle.boundary.proofs.cuddlelamb_read.Reads as read
use Rattle.boundary.proofs.cuddlelamb_rooms.Reads as telling
use Rattle.boundary.proofs.cuddlelamb_write.Reads as write
use Rattle.boundary.specs.Told.{AllocateTold, CostsTold, ListTold, ListWithTold, PlanTold, ReadTold, RoomsTold, WriteTold, costs_says, cycles_says, plan_says, rooms_says, table_says, text_says}
use Rattle.boundary.specs.declared.CostsAnswer.{CostsAnswer}
use Rattle.boundary.specs.declared.CyclesAnswer.{CyclesAnswer}
use Rattle.boundary.specs.declared.PlanAnswer.{PlanAnswer}
use Rattle.boundary.specs.declared.RoomsAnswer.{RoomsAnswer}
use Rattle.boundary.specs.declared.TableAnswer.{TableAnswer}
use Rattle.boundary.specs.declared.TextAnswer.{TextAnswer}
use Rattle.laws.proofs.Unique.{known_by}
use Rattle.rules.specs.Answers.{Answer}
use Rattle.rules.specs.TableText.{nth}
use Rattle.rules.specs.declared.Table.{Table}
use Rattle.rules.specs.Plan.{taken_with}

-- an answer is known by what it says
plan_known : (r s : PlanAnswer) → plan_says r ≡ plan_says s → r ≡ s
plan_known = known_by plan_says (λ a. record {
  number = a.number;
  line = a.line;
  count = nth a.values 0;
  speed = nth a.values 1;
  energy = nth a.values 2;
}) (λ r. refl)

rooms_known : (r s : RoomsAnswer) → rooms_says r ≡ rooms_says s → r ≡ s
rooms_known = known_by rooms_says (λ a. record {
  number = a.number;
  line = a.line;
  turns = nth a.values 0;
  room = nth a.values 1;
}) (λ r. refl)

pub text_known : (r s : TextAnswer) → text_says r ≡ text_says s → r ≡ s
text_known = known_by text_says (λ a. record { number = a.number; line = a.line; length = nth a.values 0 }) (λ r. refl)

cycles_known : (r s : CyclesAnswer) → cycles_says r ≡ cycles_says s → r ≡ s
cycles_known = known_by cycles_says (λ a. record { number = a.number; line = a.line; cycles = nth a.values 0 }) (λ r. refl)

costs_known : (r s : CostsAnswer) → costs_says r ≡ costs_says s → r ≡ s
costs_known = known_by costs_says (λ a. record { number = a.number; line = a.line; costs = a.values }) (λ r. refl)

table_known : (r s : TableAnswer) → table_says r ≡ table_says s → r.table ≡ s.table → r ≡ s
table_known r s e t =
    ap (λ (a : Answer). record { number = a.number; line = a.line; table = r.table }) e
    ∙ ap (λ t. record { number = s.number; line = s.line; table = t }) t

pub plan_unique : (table : Table) (budget : ℕ) (order fates : List ℕ) (r s : PlanAnswer) (a b a' b' : List ℕ)
    → PlanTold (taken_with table budget) order fates r a b → PlanTold (taken_with table budget) order fates s a' b'
    → (r ≡ s) × (a ≡ a') × (b ≡ b')
plan_unique table budget order fates r s a b a' b' p q = (
  plan_known r s (p.answer ∙ sym q.answer),
  p.order_left ∙ sym q.order_left,
  p.fates-left ∙ sym q.fates-left,
)

pub rooms_unique : (table : Table) (budget : ℕ) (turns rooms : List ℕ) (r s : RoomsAnswer) (a b a' b' : List ℕ)
    → RoomsTold (taken_with table budget) turns rooms r a b → RoomsTold (taken_with table budget) turns rooms s a' b'
    → (r ≡ s) × (a ≡ a') × (b ≡ b')
rooms_unique table budget turns rooms r s a b a' b' p q = (
  rooms_known r s (p.answer ∙ sym q.answer),
  p.turns_left ∙ sym q.turns_left,
  p.rooms_left ∙ sym q.rooms_left,
)

pub list_unique : (text out : List ℕ) (r s : TextAnswer) (a b : List ℕ) → ListTold text out r a → ListTold text out s b
    → (r ≡ s) × (a ≡ b)
list_unique text out r s a b p q = (text_known r s (p.answer ∙ sym q.answer), p.out_left ∙ sym q.out_left)

pub list_with_unique : (text : List ℕ) (budget : ℕ) (out : List ℕ) (r s : TextAnswer) (a b : List ℕ)
    → ListWithTold text budget out r a → ListWithTold text budget out s b → (r ≡ s) × (a ≡ b)
list_with_unique text budget out r s a b p q = (text_known r s (p.answer ∙ sym q.answer), p.out_left ∙ sym q.out_left)

pub read_unique : (text : List ℕ) (r s : TableAnswer) → ReadTold text r → ReadTold text s → r ≡ s
read_unique text r s p q = table_known r s (p.answer ∙ sym q.answer) (p.table ∙ sym q.table)

pub write_unique : (table : Table) (out : List ℕ) (r s : TextAnswer) (a b : List ℕ) → WriteTold table out r a
    → WriteTold table out s b → (r ≡ s) × (a ≡ b)
write_unique table out r s a b p q = (text_known r s (p.answer ∙ sym q.answer), p.out_left ∙ sym q.out_left)

pub allocate_unique : (mean variance assurance : ℕ) (r s : CyclesAnswer) → AllocateTold mean variance assurance r
    → AllocateTold mean variance assurance s → r ≡ s
allocate_unique mean variance assurance r s p q = cycles_known r s (p.answer ∙ sym q.answer)

pub costs_unique : (model : ℕ) (r s : CostsAnswer) → CostsTold model r → CostsTold model s → r ≡ s
costs_unique model r s p q = costs_known r s (p.answer ∙ sym q.answer)

-- The contract of each call is its record.
pub plan-says : (l : Lfts 2) (table : Table) (budget : ℕ) (order fates order' fates' : MutBor (List ℕ)) (r : PlanAnswer)
    → plan.Learnt l (table, (budget, (order, (fates, tt)))) r (table, (budget, (order', (fates', tt))))
    ≡ PlanTold (taken_with table budget) order.now fates.now r order'.now fates'.now
plan-says l table budget order fates order' fates' r = refl

pub rooms-says : (l : Lfts 2) (table : Table) (budget : ℕ) (turns rooms turns' rooms' : MutBor (List ℕ)) (r : RoomsAnswer)
    → telling.Learnt l (table, (budget, (turns, (rooms, tt)))) r (table, (budget, (turns', (rooms', tt))))
    ≡ RoomsTold (taken_with table budget) turns.now rooms.now r turns'.now rooms'.now
rooms-says l table budget turns rooms turns' rooms' r = refl

pub list_says : (l : Lfts 2) (text : Bor (List ℕ)) (out out' : MutBor (List ℕ)) (r : TextAnswer)
    → list.Learnt l (text, (out, tt)) r (text, (out', tt)) ≡ ListTold text.now out.now r out'.now
list_says l text out out' r = refl

pub list_with_says : (l : Lfts 2) (text : Bor (List ℕ)) (budget : ℕ) (out out' : MutBor (List ℕ)) (r : TextAnswer)
    → list-with.Learnt l (text, (budget, (out, tt))) r (text, (budget, (out', tt)))
    ≡ ListWithTold text.now budget out.now r out'.now
list_with_says l text budget out out' r = refl

pub read_says : (l : Lfts 1) (text : Bor (List ℕ)) (r : TableAnswer)
    → read.Learnt l (text, tt) r (text, tt) ≡ ReadTold text.now r
read_says l text r = refl

pub write_says : (l : Lfts 1) (table : Table) (out out' : MutBor (List ℕ)) (r : TextAnswer)
    → write.Learnt l (table, (out, tt)) r (table, (out', tt)) ≡ WriteTold table out.now r out'.now
write_says l table out out' r = refl

pub allocate_says : (l : Lfts 0) (mean variance assurance : ℕ) (r : CyclesAnswer)
    → allocate.Learnt l (mean, (variance, (assurance, tt))) r (mean, (variance, (assurance, tt)))
    ≡ AllocateTold mean variance assurance r
allocate_says l mean variance assurance r = refl

pub costs-says : (l : Lfts 0) (model : ℕ) (r : CostsAnswer) → costs.Learnt l (model, tt) r (model, tt) ≡ CostsTold model r
costs-says l model r = refl
