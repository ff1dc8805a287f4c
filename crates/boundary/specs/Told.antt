-- What the calls for C and Rust tell: the number, the line and the values that the rules give, and what the lent buffers hold.
use Rattle.std.specs.Prelude.{List, [], ◌∷◌, ◌≡◌, ℕ}
use Rattle.boundary.specs.declared.CostsAnswer.{CostsAnswer}
use Rattle.boundary.specs.declared.CyclesAnswer.{CyclesAnswer}
use Rattle.boundary.specs.declared.PlanAnswer.{PlanAnswer}
use Rattle.boundary.specs.declared.RoomsAnswer.{RoomsAnswer}
use Rattle.boundary.specs.declared.TableAnswer.{TableAnswer}
use Rattle.boundary.specs.declared.TextAnswer.{TextAnswer}
use Rattle.rules.specs.Answers.{Answer, ReadAnswer}
use Rattle.rules.specs.Costs.{supplied_costs}
use Rattle.rules.specs.Cycles.{allocation}
use Rattle.rules.specs.Listing.{listing, listing_with}
use Rattle.rules.specs.Plan.{planning_of}
use Rattle.rules.specs.Refusals.{reading, writing, Taken}
use Rattle.rules.specs.Rooms.{panel_of}
use Rattle.rules.specs.declared.Table.{Table}

-- each answer, as the rules write one
abbrev pub plan_says : PlanAnswer → Answer
plan_says a = record { number = a.number; line = a.line; values = a.count ∷ a.speed ∷ a.energy ∷ [] }

abbrev pub text_says : TextAnswer → Answer
text_says a = record { number = a.number; line = a.line; values = a.length ∷ [] }

abbrev pub table_says : TableAnswer → Answer
table_says a = record { number = a.number; line = a.line; values = [] }

abbrev pub read_says : TableAnswer → ReadAnswer
read_says a = record { answer = table_says a; table = a.table }

abbrev pub cycles_says : CyclesAnswer → Answer
cycles_says a = record { number = a.number; line = a.line; values = a.cycles ∷ [] }

abbrev pub costs_says : CostsAnswer → Answer
costs_says a = record { number = a.number; line = a.line; values = a.costs }

abbrev pub rooms_says : RoomsAnswer → Answer
rooms_says a = record { number = a.number; line = a.line; values = a.turns ∷ a.room ∷ [] }

-- "cuddlelamb_plan"
pub record PlanTold (k : Taken) (order fates : List ℕ) (r : PlanAnswer) (order' fates' : List ℕ) : Type 0 where
  pub answer : plan_says r ≡ (planning_of k order fates).answer
  pub order_left : order' ≡ (planning_of k order fates).order
  pub fates-left : fates' ≡ (planning_of k order fates).fates

-- "cuddlelamb_list"
pub record ListTold (text out : List ℕ) (r : TextAnswer) (out' : List ℕ) : Type 0 where
  pub answer : text_says r ≡ (listing text out).answer
  pub out_left : out' ≡ (listing text out).out

-- "cuddlelamb_list_with_budget"
pub record ListWithTold (text : List ℕ) (budget : ℕ) (out : List ℕ) (r : TextAnswer) (out' : List ℕ) : Type 0 where
  pub answer : text_says r ≡ (listing_with text budget out).answer
  pub out_left : out' ≡ (listing_with text budget out).out

-- "cuddlelamb_read"
pub record ReadTold (text : List ℕ) (r : TableAnswer) : Type 0 where
  pub answer : table_says r ≡ (reading text).answer
  pub table : r.table ≡ (reading text).table

-- "cuddlelamb_write"
pub record WriteTold (table : Table) (out : List ℕ) (r : TextAnswer) (out' : List ℕ) : Type 0 where
  pub answer : text_says r ≡ (writing table out).answer
  pub out_left : out' ≡ (writing table out).out

-- "cuddlelamb_allocate"
pub record AllocateTold (mean variance assurance : ℕ) (r : CyclesAnswer) : Type 0 where
  pub answer : cycles_says r ≡ allocation mean variance assurance

-- "cuddlelamb_costs"
pub record CostsTold (model : ℕ) (r : CostsAnswer) : Type 0 where
  pub answer : costs_says r ≡ supplied_costs model

-- "cuddlelamb_rooms"
pub record RoomsTold (k : Taken) (turns rooms : List ℕ) (r : RoomsAnswer) (turns' rooms' : List ℕ) : Type 0 where
  pub answer : rooms_says r ≡ (panel_of k turns rooms).answer
  pub turns_left : turns' ≡ (panel_of k turns rooms).turns
  pub rooms_left : rooms' ≡ (panel_of k turns rooms).rooms
