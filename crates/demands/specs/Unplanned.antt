-- Demand 3 over the answers, as statements.
use Rattle.std.specs.Prelude.{Bool, true, List, ◌++◌, ◌≡◌, ℕ, ◌<◌, get_or, length, take}
use Rattle.demands.specs.Plans.{RoomsBy}
use Rattle.theorems.specs.Demand3.{Agree, NoneAsksInside, out_of, outer_fated}
use Rattle.theorems.specs.Rooms.{RoomsAlike}
use Rattle.rules.specs.Answers.{Answer}
use Rattle.rules.specs.Listing.{fate_line, order_line, plan_line, unplanned}
use Rattle.rules.specs.Lists.{Each, joined, keep}
use Rattle.rules.specs.Plan.{Fated, plan_of, runs_of}
use Rattle.rules.specs.Refusals.{Taken, taken}
use Rattle.rules.specs.TableText.{Records, no_job, nth}

-- "two valid tables that agree in every job outside some set .. in neither table a job outside the set asks for a resource that
-- a job inside holds": the records that were taken of two tables, by their check, or of two texts, by reading them. "In demand 3
-- the budget is the one given beside the table": their own may differ.
pub record BothAgree (set : ℕ → Bool) (k k* : Taken) (a b : Records) : Type 0 where
  pub first : k ≡ taken a
  pub second : k* ≡ taken b
  pub agree : Agree set a b
  pub first_asks : NoneAsksInside set a
  pub second_asks : NoneAsksInside set b

-- what an answer hands back at the front of a buffer: as many places as its first value says
abbrev pub front_of : Answer → List ℕ → List ℕ
front_of says buffer = take (nth says.values 0) buffer

-- "neither plan contains a job of the set": no number of the set stands in the front part of an order buffer
abbrev pub NoneInFront : (ℕ → Bool) → List ℕ → Type 0
NoneInFront set front = Each (λ n. out_of set n ≡ true) front

-- "the same fate to every job outside the set": where a job of one number has its J line at place i of one table and at place k
-- of the other, the fates there are one
abbrev pub SameFates : (ℕ → Bool) → Records → Records → List ℕ → List ℕ → Type 0
SameFates out a b fates fates* =
    (i k : ℕ) → i < length a.jobs → k < length b.jobs
    → (get_or a.jobs i no_job).number ≡ (get_or b.jobs k no_job).number → out (get_or a.jobs i no_job).number ≡ true
    → get_or fates i 0 ≡ get_or fates* k 0

-- "both give the same plan, speed and energy, and the same fate to every job outside the set": the answers are one, and so are
-- the plans at the front of the order buffers; where these are equally long, they hold the same to the last place
pub record SameOutside (out : ℕ → Bool) (a b : Records) (says says* : Answer) (order order* fates fates* : List ℕ) : Type 0 where
  pub answer : says ≡ says*
  pub front : front_of says order ≡ front_of says* order*
  pub whole : length order ≡ length order* → order ≡ order*
  pub fate : SameFates out a b fates fates*

-- the same, of the front parts that are handed back
pub record SamePart (out : ℕ → Bool) (a b : Records) (says says* : Answer) (part part* fates fates* : List ℕ) : Type 0 where
  pub answer : says ≡ says*
  pub plan : part ≡ part*
  pub fate : SameFates out a b fates fates*

-- the same, of the rooms: each call tells its table's rows, the rows of the jobs outside are the same in both, and so is the last room
pub record SameRooms (out : ℕ → Bool) (a b : Records) (turns rooms turns* rooms* : List ℕ) (says says* : Answer)
    (turns' rooms' turns*' rooms*' : List ℕ) : Type 0 where
  pub first : RoomsBy a turns rooms says turns' rooms'
  pub second : RoomsBy b turns* rooms* says* turns*' rooms*'
  pub alike : RoomsAlike out a b

-- the O lines of a table's listing
abbrev pub order_lines : Records → List ℕ
order_lines t = joined (order_line t.clock (plan_of t).speed.mhz) (runs_of (plan_of t).jobs)

-- the jobs that have an X line, in table order, and the lines of such jobs
abbrev pub unplanned_of : Records → List Fated
unplanned_of t = keep unplanned (plan_of t).fates

abbrev pub fate_lines : List Fated → List ℕ
fate_lines is = joined fate_line is

-- the same, of the listings: each is a P line, O lines and X lines; the P lines are the same bytes, the O lines are, and so are
-- the X lines of the jobs outside
pub record SameListing (out : ℕ → Bool) (a b : Records) (lines lines* : List ℕ) : Type 0 where
  pub first : lines ≡ plan_line (plan_of a) ++ (order_lines a ++ fate_lines (unplanned_of a))
  pub second : lines* ≡ plan_line (plan_of b) ++ (order_lines b ++ fate_lines (unplanned_of b))
  pub plan-line : plan_line (plan_of a) ≡ plan_line (plan_of b)
  pub order-lines : order_lines a ≡ order_lines b
  pub fate-lines : fate_lines (keep (outer_fated out) (unplanned_of a)) ≡ fate_lines (keep (outer_fated out) (unplanned_of b))
