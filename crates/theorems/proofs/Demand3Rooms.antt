-- Demand 3 of the rooms: jobs that are not planned do not matter to them. A turn of the set leaves the plan as it was, so that the
-- rows of the others are those of the table without the set, and without the set the two tables are one. Assumes nothing.
use mathlib.Core.Bool.{Bool, true}
use mathlib.Core.List.{List, [], ◌∷◌}
use mathlib.Core.Path.{◌≡◌, refl, sym, ap, ◌∙◌}
use Prim.Native.Nat.{ℕ}
use Rattle.grammar.proofs.BudgetBeside.{valid_at}
use Rattle.laws.proofs.Choices.{split}
use Rattle.rules.specs.Lists.{keep}
use Rattle.rules.specs.Plan.{Course, Entry, Turn, after, course, course_of, ends_late, judge, no_turn_yet, run_order, too_dear, top_of, turn, turns}
use Rattle.rules.specs.Rooms.{TurnRoom, last_room, room_left, rooms_from, rooms_of}
use Rattle.rules.specs.TableText.{Records, is_budget, with_budget}
use Rattle.rules.specs.Valid.{Valid}
use Rattle.theorems.proofs.Demand3.{Fit, fit_parted, fits, same_outside}
use Rattle.theorems.proofs.Outside.{AllOut, Parted, inside_idle, only_outside, outer_turn, plan_same, turns_same}
use Rattle.theorems.specs.Demand3.{Agree, NoneAsksInside, NonePlanned, out_of}
use Rattle.theorems.specs.Rooms.{RoomsAlike, outer_row}

-- the row of a turn
unfoldable row_of : Records → Turn → List Entry → TurnRoom
row_of t i p = record { job = i.job; room = room_left t (turn t i p).plan; fate = (turn t i p).fate }

module _ (out : ℕ → Bool) (t : Records) where
  -- the set's turns may be left out
  rows_without_inside : (is : List Turn) (c : Course) → AllOut out (course t is c).plan
      → keep (outer_row out) (rooms_from t is c.plan) ≡ rooms_from t (keep (outer_turn out) is) c.plan
  unfolding rooms_from course after row_of
  rows_without_inside [] c a = refl
  rows_without_inside (i ∷ is) c a =
      split (outer_turn out i)
      (λ h. rw h (ap {B = List TurnRoom} (λ rs. row_of t i c.plan ∷ rs) (rows_without_inside is (after t i c) a)))
      (λ h. rw h (rows_without_inside is (after t i c) a ∙ rw (inside_idle out t i is c a h)))

  -- nothing but clock, budget and speeds is asked of the table by these
  room_same : (p : List Entry) → room_left (only_outside out t) p ≡ room_left t p
  unfolding room_left top_of only_outside run_order
  room_same p = refl

  rows_same : (is : List Turn) (p : List Entry) → rooms_from (only_outside out t) is p ≡ rooms_from t is p
  unfolding rooms_from row_of room_left turn judge ends_late too_dear top_of only_outside run_order
  rows_same [] p = refl
  rows_same (i ∷ is) p = ap {B = List TurnRoom} (λ rs. row_of t i p ∷ rs) (rows_same is (turn t i p).plan)

  -- the rooms without the set
  module _ (parted : Parted out t) where
    rows_alone : rooms_of (only_outside out t) ≡ keep (outer_row out) (rooms_of t)
    unfolding rooms_of course_of
    rows_alone =
        rw (turns_same out t parted)
        (rows_same (keep (outer_turn out) (turns t)) no_turn_yet.plan
        ∙ sym (rows_without_inside (turns t) no_turn_yet parted.none_in))

    last_room_alone : last_room (only_outside out t) ≡ last_room t
    unfolding last_room
    last_room_alone = room_same (course_of (only_outside out t)).plan ∙ ap (room_left t) (plan_same out t parted)

-- Demand 3 of the rooms, with the premises that its proof uses.
rooms_alike : (out : ℕ → Bool) (a b : Records) → only_outside out a ≡ only_outside out b → Fit out a → Fit out b → RoomsAlike out a b
rooms_alike out a b e fa fb =
    let x = fit_parted out a fa in
    let y = fit_parted out b fb in
    record {
      rows = sym (rows_alone out a x) ∙ ap rooms_of e ∙ rows_alone out b y;
      last = sym (last_room_alone out a x) ∙ ap last_room e ∙ last_room_alone out b y;
    }

-- Of two tables as demand 3 has them, with one budget, the rows of all jobs outside the set are the same, and so is the last room.
pub unplanned_leave_the_rooms : (set : ℕ → Bool) (budget : ℕ) → is_budget budget ≡ true → (a b : Records) → Valid a → Valid b
    → Agree set a b → NoneAsksInside set a → NoneAsksInside set b
    → NonePlanned set (with_budget a budget) → NonePlanned set (with_budget b budget)
    → RoomsAlike (out_of set) (with_budget a budget) (with_budget b budget)
unplanned_leave_the_rooms set budget in-range a b va vb g aa ab na nb =
    rooms_alike (out_of set) (with_budget a budget) (with_budget b budget) (same_outside set budget in-range a b g)
    (fits set (with_budget a budget) (valid_at va budget in-range) aa na)
    (fits set (with_budget b budget) (valid_at vb budget in-range) ab nb)
