-- Words for what holds of the rooms that document 02's A2 asks for: the budget and the plan, a turn that comes to a trial, a trial
-- that is accepted, what it adds, what the rows tell, and demand 3 of them.
use Rattle.std.specs.Prelude.{Bool, false, not, List, ◌∷◌, map, ◌≡◌, ℕ, ◌+◌, ◌*◌, ◌≤◌}
use Rattle.rules.specs.Lists.{keep}
use Rattle.rules.specs.Plan.{Entry, Fated, Turn, cycles_of, fate_planned, in_plan, ratio_zero, run_order, top_of, turn}
use Rattle.rules.specs.Rooms.{TurnRoom, last_room, room_left, rooms_of}
use Rattle.rules.specs.TableText.{Records}
use Rattle.rules.specs.declared.Job.{Job}

-- the plan is within budget at top cost
abbrev pub InBudget : Records → List Entry → Type 0
InBudget t p = cycles_of (run_order t p) * (top_of t).cost ≤ t.budget

-- the room and the plan's cycles at top cost make up the budget: the subtraction does not stop at 0
abbrev pub MakesBudget : Records → List Entry → Type 0
MakesBudget t p = room_left t p + cycles_of (run_order t p) * (top_of t).cost ≡ t.budget

-- the turn comes to a trial: its job is not in the plan, and its ratio is not 0
abbrev pub ComesToTrial : Turn → List Entry → Type 0
ComesToTrial i p = (in_plan i.job p ≡ false) × (ratio_zero i ≡ false)

-- its trial is accepted: the job was not in the plan, and its turn gives 1
abbrev pub Accepted : Records → Turn → List Entry → Type 0
Accepted t i p = (in_plan i.job p ≡ false) × ((turn t i p).fate ≡ fate_planned)

-- what its trial adds to the plan: the job and those of its chain, where they are not in the plan
unfoldable pub added_by : Turn → List Entry → List Job
added_by i p = keep (λ j. not (in_plan j p)) (i.job ∷ i.awaited)

-- the rooms after each turn, in the order of turns
abbrev pub rooms_along : Records → List ℕ
rooms_along t = map (λ (r : TurnRoom). r.room) (rooms_of t)

-- the job and the fate of a row
abbrev pub fated_in : TurnRoom → Fated
fated_in r = record { job = r.job; fate = r.fate }

-- `out n`: the job of number n lies outside the set of demand 3
module _ (out : ℕ → Bool) where
  -- the row of "every job outside"
  abbrev pub outer_row : TurnRoom → Bool
  outer_row r = out r.job.number

  -- both give the same rows to every job outside the set, and leave the same room at the end
  pub record RoomsAlike (a b : Records) : Type 0 where
    pub rows : keep outer_row (rooms_of a) ≡ keep outer_row (rooms_of b)
    pub last : last_room a ≡ last_room b
