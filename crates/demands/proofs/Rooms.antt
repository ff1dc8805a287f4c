-- The demands over the panel's calls (document 02, A2). They answer and leave what a definition of the rules gives: so they refuse
-- what planning refuses, tell the rules' rooms, and do not look at the table's own budget; and the rows of two tables as demand 3
-- has them are alike. Each law speaks of any answer that the call's promise allows. Assumes nothing.
use mathlib.Core.Bool.{Bool, true}
use mathlib.Core.List.{List, [], ◌∷◌}
use mathlib.Core.Path.{◌≡◌, sym, ap, ◌∙◌}
use Prim.Native.Nat.{ℕ}
use contract.Lifetimes.{Lfts}
use denote.Ref.{MutBor}
use Rattle.std.specs.Prelude.{Result}
use Rattle.boundary.proofs.Unique.{rooms_unique}
use Rattle.boundary.specs.Told as boundary
use Rattle.boundary.specs.declared.RoomsAnswer.{RoomsAnswer}
use Rattle.demands.proofs.RulesRefuse.{carried, panel_refuses}
use Rattle.demands.specs.Plans.{HasRoom, RoomsBy}
use Rattle.demands.specs.Refused.{PlanRefused, Refuses}
use Rattle.demands.specs.Unplanned.{BothAgree, SameRooms}
use Rattle.grammar.proofs.BudgetBeside.{budget_beside_counts, taken-with}
use Rattle.grammar.proofs.Trips.{check_exactly}
use Rattle.laws.proofs.Unique.{panel_unique}
use Rattle.planner.proofs.Decisions.{room}
use Rattle.planner.proofs.Unique as planner
use Rattle.rules.specs.Answers.{Answer, panel_says}
use Rattle.rules.specs.Plan.{taken_with}
use Rattle.rules.specs.Refusals.{Taken, check, taken}
use Rattle.rules.specs.Rooms.{AfterRooms, leaves_rooms, leaves_rooms_of, panel_of, panel_of_up_to}
use Rattle.rules.specs.TableText.{Records, is_budget, table_with_budget, with_budget}
use Rattle.rules.specs.declared.Refused.{Refused}
use Rattle.rules.specs.declared.Panel.{Panel}
use Rattle.rules.specs.declared.Table.{Table}
use Rattle.theorems.proofs.Demand3Rooms.{unplanned_leave_the_rooms}
use Rattle.theorems.specs.Demand3.{NonePlanned, out_of}

-- demand 1

pub rooms_refuses : (l : Lfts 2) (table : Table) (budget : ℕ) (turns rooms turns' rooms' : MutBor (List ℕ)) (r : Result Panel Refused)
    → planner.PromisedRooms l table budget turns rooms r turns' rooms'
    → Refuses (PlanRefused table budget turns.now rooms.now) (panel_says r) (0 ∷ 0 ∷ [])
    ((turns'.now ≡ turns.now) × (rooms'.now ≡ rooms.now))
rooms_refuses l table budget turns rooms turns' rooms' r promise =
    carried (panel_refuses table budget turns.now rooms.now) (ap (λ (a : AfterRooms). a.answer) promise)
    (λ held. (ap (λ (a : AfterRooms). a.turns) promise ∙ held.0, ap (λ (a : AfterRooms). a.rooms) promise ∙ held.1))

pub cuddlelamb_rooms_refuses : (table : Table) (budget : ℕ) (turns rooms turns' rooms' : List ℕ) (r : RoomsAnswer)
    → boundary.RoomsTold (taken_with table budget) turns rooms r turns' rooms'
    → Refuses (PlanRefused table budget turns rooms) (boundary.rooms_says r) (0 ∷ 0 ∷ []) ((turns' ≡ turns) × (rooms' ≡ rooms))
cuddlelamb_rooms_refuses table budget turns rooms turns' rooms' r promise =
    carried (panel_refuses table budget turns rooms) promise.answer
    (λ held. (promise.turns_left ∙ held.0, promise.rooms_left ∙ held.1))

-- demand 2: the rules tell the rooms of what is taken, where both buffers have room

panel_taken : (k : Taken) (turns rooms : List ℕ) (t : Records) → k ≡ taken t → HasRoom turns rooms
    → panel_of k turns rooms ≡ leaves_rooms t turns rooms
unfolding panel_of_up_to leaves_rooms_of
panel_taken k turns rooms t e large = rw (room turns large.first_room) (rw (room rooms large.second_room) (rw e))

rooms_by : (k : Taken) (turns rooms : List ℕ) (t : Records) → k ≡ taken t → HasRoom turns rooms
    → (says : Answer) (turns' rooms' : List ℕ) → says ≡ (panel_of k turns rooms).answer
    → turns' ≡ (panel_of k turns rooms).turns → rooms' ≡ (panel_of k turns rooms).rooms
    → RoomsBy t turns rooms says turns' rooms'
unfolding leaves_rooms
rooms_by k turns rooms t e large says turns' rooms' answered turns_left rooms_left =
    let same = panel_taken k turns rooms t e large in
    record {
      answer = answered ∙ ap (λ (a : AfterRooms). a.answer) same;
      turns_left = turns_left ∙ ap (λ (a : AfterRooms). a.turns) same;
      rooms_left = rooms_left ∙ ap (λ (a : AfterRooms). a.rooms) same;
    }

pub rooms_gives : (l : Lfts 2) (table : Table) (budget : ℕ) (turns rooms turns' rooms' : MutBor (List ℕ)) (r : Result Panel Refused) (t : Records)
    → planner.PromisedRooms l table budget turns rooms r turns' rooms' → check table ≡ taken t → is_budget budget ≡ true
    → HasRoom turns.now rooms.now
    → RoomsBy (with_budget t budget) turns.now rooms.now (panel_says r) turns'.now rooms'.now
rooms_gives l table budget turns rooms turns' rooms' r t promise e h large =
    rooms_by (taken_with table budget) turns.now rooms.now (with_budget t budget) (taken-with table budget t h e) large
    (panel_says r) turns'.now rooms'.now
    (ap (λ (a : AfterRooms). a.answer) promise)
    (ap (λ (a : AfterRooms). a.turns) promise)
    (ap (λ (a : AfterRooms). a.rooms) promise)

pub cuddlelamb_rooms_gives : (table : Table) (budget : ℕ) (turns rooms turns' rooms' : List ℕ) (r : RoomsAnswer) (t : Records)
    → boundary.RoomsTold (taken_with table budget) turns rooms r turns' rooms' → check table ≡ taken t → is_budget budget ≡ true
    → HasRoom turns rooms → RoomsBy (with_budget t budget) turns rooms (boundary.rooms_says r) turns' rooms'
cuddlelamb_rooms_gives table budget turns rooms turns' rooms' r t promise e h large =
    rooms_by (taken_with table budget) turns rooms (with_budget t budget) (taken-with table budget t h e) large
    (boundary.rooms_says r) turns' rooms' promise.answer promise.turns_left promise.rooms_left

-- the budget beside the table is the one that the rooms are told with

module _ (table : Table) (budget : ℕ) (own : is_budget table.budget ≡ true) (beside : is_budget budget ≡ true) where
  pub rooms_as_its_own : (l l* : Lfts 2) (turns rooms a b a' b' : MutBor (List ℕ)) (r s : Result Panel Refused)
      → planner.PromisedRooms l table budget turns rooms r a b
      → planner.PromisedRooms l* (table_with_budget table budget) budget turns rooms s a' b'
      → (r ≡ s) × (a.now ≡ a'.now) × (b.now ≡ b'.now)
  rooms_as_its_own l l* turns rooms a b a' b' r s p q =
      let same = p ∙ ap (λ k. panel_of k turns.now rooms.now) (sym (budget_beside_counts budget table own beside)) ∙ sym q in (
        panel_unique r s (ap (λ (told : AfterRooms). told.answer) same),
        ap (λ (told : AfterRooms). told.turns) same,
        ap (λ (told : AfterRooms). told.rooms) same,
      )

  pub cuddlelamb_rooms_as_its_own : (turns rooms a b a' b' : List ℕ) (r s : RoomsAnswer)
      → boundary.RoomsTold (taken_with table budget) turns rooms r a b
      → boundary.RoomsTold (taken_with (table_with_budget table budget) budget) turns rooms s a' b' → (r ≡ s) × (a ≡ a') × (b ≡ b')
  cuddlelamb_rooms_as_its_own turns rooms a b a' b' r s p q =
      rooms_unique table budget turns rooms r s a b a' b' p (rw (sym (budget_beside_counts budget table own beside)) q)

-- demand 3

module _ (set : ℕ → Bool) (table table* : Table) (budget : ℕ) (a b : Records)
    (both : BothAgree set (check table) (check table*) a b) (in-range : is_budget budget ≡ true)
    (first_unplanned : NonePlanned set (with_budget a budget)) (second_unplanned : NonePlanned set (with_budget b budget)) where
  alike_by : (turns rooms turns* rooms* : List ℕ) (says says* : Answer) (turns' rooms' turns*' rooms*' : List ℕ)
      → RoomsBy (with_budget a budget) turns rooms says turns' rooms'
      → RoomsBy (with_budget b budget) turns* rooms* says* turns*' rooms*'
      → SameRooms (out_of set) (with_budget a budget) (with_budget b budget) turns rooms turns* rooms* says says* turns' rooms' turns*'
      rooms*'
  alike_by turns rooms turns* rooms* says says* turns' rooms' turns*' rooms*' p q = record {
    first = p;
    second = q;
    alike =
        unplanned_leave_the_rooms set budget in-range a b ((check_exactly table a).0 both.first).0
        ((check_exactly table* b).0 both.second).0 both.agree both.first_asks both.second_asks first_unplanned
        second_unplanned;
  }

  pub unplanned_do_not_matter_to_rooms : (l l* : Lfts 2) (turns rooms turns* rooms* turns' rooms' turns*' rooms*' : MutBor (List ℕ))
      (r s : Result Panel Refused) → planner.PromisedRooms l table budget turns rooms r turns' rooms'
      → planner.PromisedRooms l* table* budget turns* rooms* s turns*' rooms*'
      → HasRoom turns.now rooms.now → HasRoom turns*.now rooms*.now
      → SameRooms (out_of set) (with_budget a budget) (with_budget b budget) turns.now rooms.now turns*.now rooms*.now
      (panel_says r) (panel_says s) turns'.now rooms'.now turns*'.now rooms*'.now
  unplanned_do_not_matter_to_rooms l l* turns rooms turns* rooms* turns' rooms' turns*' rooms*' r s p q large large* =
      alike_by turns.now rooms.now turns*.now rooms*.now (panel_says r) (panel_says s) turns'.now rooms'.now
      turns*'.now rooms*'.now (rooms_gives l table budget turns rooms turns' rooms' r a p both.first in-range large)
      (rooms_gives l* table* budget turns* rooms* turns*' rooms*' s b q both.second in-range large*)

  pub unplanned_do_not_matter_to_cuddlelamb_rooms : (turns rooms turns* rooms* turns' rooms' turns*' rooms*' : List ℕ)
      (r s : RoomsAnswer) → boundary.RoomsTold (taken_with table budget) turns rooms r turns' rooms'
      → boundary.RoomsTold (taken_with table* budget) turns* rooms* s turns*' rooms*' → HasRoom turns rooms → HasRoom turns* rooms*
      → SameRooms (out_of set) (with_budget a budget) (with_budget b budget) turns rooms turns* rooms*
      (boundary.rooms_says r) (boundary.rooms_says s) turns' rooms' turns*' rooms*'
  unplanned_do_not_matter_to_cuddlelamb_rooms turns rooms turns* rooms* turns' rooms' turns*' rooms*' r s p q large large* =
      alike_by turns rooms turns* rooms* (boundary.rooms_says r) (boundary.rooms_says s) turns' rooms' turns*' rooms*'
      (cuddlelamb_rooms_gives table budget turns rooms turns' rooms' r a p both.first in-range large)
      (cuddlelamb_rooms_gives table* budget turns* rooms* turns*' rooms*' s b q both.second in-range large*)
