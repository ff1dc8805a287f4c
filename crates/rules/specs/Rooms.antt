-- Document 02, "A2. How much room is left": what the plan leaves of the budget after each turn, and the panel's call that tells it.
use Rattle.std.specs.Prelude.{cond, ◌||◌, List, [], ◌∷◌, ◌++◌, map, ℕ, suc, ◌-◌, ◌*◌, length}
use Rattle.rules.specs.Answers.{Answer, good, refused}
use Rattle.rules.specs.Listing.{lines_for}
use Rattle.rules.specs.Lists.{joined}
use Rattle.rules.specs.Plan.{Entry, Turn, at_budget, course_of, cycles_of, no_turn_yet, run_order, taken_with, too_small_up_to, top_of, turn, turns}
use Rattle.rules.specs.Refusals.{Taken, read, refused_at, taken}
use Rattle.rules.specs.TableText.{Records, digits_of, line_feed, most_jobs, padded, tab}
use Rattle.rules.specs.declared.Job.{Job}
use Rattle.rules.specs.declared.Refusal.{Refusal}
use Rattle.rules.specs.declared.Table.{Table}

-- "how much budget the plan leaves at top cost": the budget less all entries' cycles × the cost of the last F. (No plan of the
-- course is over the budget, so that the subtraction never stops at 0: theorems/proofs/Rooms.)
unfoldable pub room_left : Records → List Entry → ℕ
room_left t p = t.budget - cycles_of (run_order t p) * (top_of t).cost

-- a turn's job, the room left after the turn, and the fate that the turn gave
pub record TurnRoom : Type 0 where
  pub job : Job
  pub room : ℕ
  pub fate : ℕ

-- "after every accepted job": one row for each turn, also where the job is passed over, has ratio 0 or its trial is dropped
unfoldable pub rooms_from : Records → List Turn → List Entry → List TurnRoom
rooms_from t [] p = []
rooms_from t (i ∷ is) p =
    let o = turn t i p in
    record { job = i.job; room = room_left t o.plan; fate = o.fate } ∷ rooms_from t is o.plan

unfoldable pub rooms_of : Records → List TurnRoom
rooms_of t = rooms_from t (turns t) no_turn_yet.plan

-- the room that is left at the end
unfoldable pub last_room : Records → ℕ
last_room t = room_left t (course_of t).plan

-- The panel's call: the job number of each turn and the room after it at the fronts of two lent buffers, places after them hold 0.
-- The answer: how many turns there were, and the room that is left at the end.
pub record AfterRooms : Type 0 where
  pub answer : Answer
  pub turns : List ℕ
  pub rooms : List ℕ

unfoldable pub leaves_rooms : Records → List ℕ → List ℕ → AfterRooms
leaves_rooms t turns rooms =
    let rs = rooms_of t in
    record {
      answer = good (length rs ∷ last_room t ∷ []);
      turns = padded (length turns) 0 (map (λ (r : TurnRoom). r.job.number) rs);
      rooms = padded (length rooms) 0 (map (λ (r : TurnRoom). r.room) rs);
    }

-- refused: no turn, no room, "and no lent byte or place changes"
unfoldable pub leaves_untold : Refusal → ℕ → List ℕ → List ℕ → AfterRooms
leaves_untold why line turns rooms = record { answer = refused why line (0 ∷ 0 ∷ []); turns = turns; rooms = rooms }

unfoldable pub leaves_rooms_of : Taken → List ℕ → List ℕ → AfterRooms
leaves_rooms_of (taken t) turns rooms = leaves_rooms t turns rooms
leaves_rooms_of (refused_at why line) turns rooms = leaves_untold why line turns rooms

-- The refusals are those of planning, in their order: a buffer too small before all else, then what was taken.
unfoldable pub panel_of_up_to : ℕ → Taken → List ℕ → List ℕ → AfterRooms
panel_of_up_to most k turns rooms =
    let long_enough = leaves_rooms_of k turns rooms in
    cond (too_small_up_to most turns || too_small_up_to most rooms) (leaves_untold Refusal.Room 0 turns rooms) long_enough

abbrev pub panel_of : Taken → List ℕ → List ℕ → AfterRooms
panel_of = panel_of_up_to most_jobs

abbrev pub panel_with : Table → ℕ → List ℕ → List ℕ → AfterRooms
panel_with table budget = panel_of (taken_with table budget)

-- For people: the number of each turn, its job, the room after it and the fate that it gave, as tab lines without a letter.
unfoldable pub tab_line : List ℕ → List ℕ
tab_line [] = line_feed ∷ []
tab_line (n ∷ ns) = digits_of n ++ (joined (λ m. tab ∷ digits_of m) ns ++ line_feed ∷ [])

unfoldable pub room_line : ℕ → TurnRoom → List ℕ
room_line n r = tab_line (n ∷ r.job.number ∷ r.room ∷ r.fate ∷ [])

unfoldable pub room_lines_from : ℕ → List TurnRoom → List ℕ
room_lines_from n [] = []
room_lines_from n (r ∷ rs) = room_line n r ++ room_lines_from (suc n) rs

-- a refusal prints its R line, as the listing does
unfoldable pub room_lines_for : Taken → List ℕ
room_lines_for (taken t) = room_lines_from 1 (rooms_of t)
room_lines_for (refused_at why line) = lines_for (refused_at why line)

-- What the program prints for a text when it is asked for the rooms, with the text's own budget or one beside it.
unfoldable pub room_listing : List ℕ → List ℕ
room_listing text = room_lines_for (read text)

unfoldable pub room_listing_with : List ℕ → ℕ → List ℕ
room_listing_with text budget = room_lines_for (at_budget budget (read text))
