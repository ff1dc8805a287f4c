-- Demand 2 as statements: what the calls answer and leave where nothing is refused. An answer is told in document 01's numbers
-- (rules/specs/Answers), so that a call and its form for C and Rust are held to one statement.
use Rattle.std.specs.Prelude.{List, [], ◌∷◌, ◌++◌, map, ◌≡◌, ℕ, ◌≤◌, drop, length}
use Rattle.rules.specs.Answers.{Answer, good}
use Rattle.rules.specs.Plan.{fates_of, numbers_of, plan_of}
use Rattle.rules.specs.Rooms.{TurnRoom, last_room, rooms_of}
use Rattle.rules.specs.TableText.{Records, most_jobs, padded}

-- both buffers of a call that plans have 64 places or more: order and fates, or those for the turns and the rooms
pub record HasRoom (first second : List ℕ) : Type 0 where
  pub first_room : most_jobs ≤ length first
  pub second_room : most_jobs ≤ length second

-- the rules' decision: how many jobs are planned, the speed, the energy
abbrev pub decided : Records → Answer
decided t = good (length (plan_of t).jobs ∷ (plan_of t).speed.mhz ∷ (plan_of t).energy ∷ [])

-- "Plan, fates, speed and energy are those that the rules of document 01 give, no others": the decision, the plan's job
-- numbers and then 0 to the end of the order buffer, a fate for each J line and then 0 to the end of the fate buffer
pub record PlannedBy (t : Records) (order fates : List ℕ) (says : Answer) (order' fates' : List ℕ) : Type 0 where
  pub answer : says ≡ decided t
  pub order_left : order' ≡ padded (length order) 0 (numbers_of (plan_of t).jobs)
  pub fates-left : fates' ≡ padded (length fates) 0 (fates_of (plan_of t).fates)

-- "the filled front part of the caller's &mut slice, of length equal to the plan"
pub record PartBy (t : Records) (fates : List ℕ) (says : Answer) (part fates' : List ℕ) : Type 0 where
  pub part_is : part ≡ numbers_of (plan_of t).jobs
  pub answer : says ≡ decided t
  pub fates-left : fates' ≡ padded (length fates) 0 (fates_of (plan_of t).fates)

-- document 02, A2: how many turns there were and the room at the end; the job numbers of the turns, in their order, and the room that
-- the plan leaves after each, reckoned from all its entries; then 0 to the end of each buffer
pub record RoomsBy (t : Records) (turns rooms : List ℕ) (says : Answer) (turns' rooms' : List ℕ) : Type 0 where
  pub answer : says ≡ good (length (rooms_of t) ∷ last_room t ∷ [])
  pub turns_left : turns' ≡ padded (length turns) 0 (map (λ (r : TurnRoom). r.job.number) (rooms_of t))
  pub rooms_left : rooms' ≡ padded (length rooms) 0 (map (λ (r : TurnRoom). r.room) (rooms_of t))

-- "the text is the front of its lent buffer and the bytes after it stay as they were"
pub record AtFront (text out : List ℕ) (says : Answer) (after : List ℕ) : Type 0 where
  pub answer : says ≡ good (length text ∷ [])
  pub out_left : after ≡ text ++ drop (length text) out
