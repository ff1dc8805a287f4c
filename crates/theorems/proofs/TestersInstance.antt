-- The theorems for testers speak of something: a valid table with a ring of three and a fourth that waits for it; case S, with its
-- rooms; case S with one unit less of budget, in which job 1 gets a 6 that stays true; and the table with model 3's speeds under
-- version four's rule of step 9 and under A1's. antt computes all. Assumes nothing.
use mathlib.Core.List.{List, [], ◌∷◌, map}
use mathlib.Core.Path.{◌≡◌, refl}
use Prim.Native.Nat.{ℕ, ◌+◌, ◌*◌, ◌<◌}
use Rattle.laws.proofs.Lookups.{each_first}
use Rattle.steps.proofs.Overtaken.{lacking, six_stays_true}
use Rattle.steps.proofs.Rings.{OnRing}
use Rattle.grammar.proofs.Tables.{hold, job, read_valid, speed, table, two_speeds}
use Rattle.rules.specs.Case.{right}
use Rattle.rules.specs.Plan.{Turn, course_of, cycles_of, fate_budget, fate_in, fate_time, fates_of, plan_of, top_of, turn, turn_of, waits_timely, run_order}
use Rattle.rules.specs.Rooms.{TurnRoom, last_room, room_left, rooms_of}
use Rattle.rules.specs.TableText.{Records}
use Rattle.rules.specs.Valid.{Valid}
use Rattle.theorems.proofs.Rooms.{five_whatever_room}
use Rattle.theorems.specs.Rooms.{added_by}
use Rattle.theorems.specs.SpeedRules.{lowest_for, plan_by}

abbrev ringed : Records
ringed =
    table 0 1000000000000000 two_speeds
    (job 1 100 10 5000 5000 2 ∷ job 2 100 10 5000 5000 3 ∷ job 3 100 10 5000 5000 1 ∷ job 4 100 10 5000 5000 1 ∷ [])
    (hold 1 1 ∷ hold 2 2 ∷ hold 3 3 ∷ [])

pub ringed_valid : Valid ringed
unfolding right
ringed_valid = read_valid ringed refl

pub ring : OnRing (waits_timely ringed) (job 1 100 10 5000 5000 2)
unfolding right
ring = (2, refl)

pub ringed_fates : fates_of (plan_of ringed).fates ≡ 1 ∷ 1 ∷ 3 ∷ 1 ∷ []
unfolding right
ringed_fates = refl

-- case S, with a budget
abbrev case_s : ℕ → Records
case_s budget =
    table 0 budget two_speeds
    (job 1 1000 50 3000 3000 0 ∷ job 2 1000 90 2000 2000 1 ∷ job 3 500 10 5000 5000 0 ∷ job 4 2000 40 4000 4000 0
    ∷ job 5 3000 1 2500 2500 0 ∷ [])
    (hold 1 3 ∷ [])

-- a row's job number, room and fate
abbrev row_numbers : TurnRoom → List ℕ
row_numbers r = r.job.number ∷ r.room ∷ r.fate ∷ []

abbrev whole : Records
whole = case_s 2500000000

pub whole_valid : Valid whole
unfolding right
whole_valid = read_valid whole refl

-- job 2 comes in with job 3; job 1 takes the rest; job 3 is passed over; job 4 is dropped
pub whole_rooms : (map row_numbers (rooms_of whole)
    ≡ (2 ∷ 1000000000 ∷ 1 ∷ []) ∷ (1 ∷ 0 ∷ 1 ∷ []) ∷ (3 ∷ 0 ∷ 1 ∷ []) ∷ (4 ∷ 0 ∷ 5 ∷ []) ∷ [])
    × (last_room whole ≡ 0)
unfolding right
whole_rooms = (refl, refl)

-- Job 4's turn is the last, so that the plan before it is the final one. There is no room at all for what it adds; but its trial
-- ends late, and time comes first.
abbrev fourth : Turn
fourth = turn_of whole (job 4 2000 40 4000 4000 0)

pub no_room_for_the_fourth : (room_left whole (course_of whole).plan ≡ 0) × (cycles_of (added_by fourth (course_of whole).plan) ≡ 2000)
unfolding right added_by
no_room_for_the_fourth = (refl, refl)

pub five_for_the_fourth : (turn whole fourth (course_of whole).plan).fate ≡ fate_time
unfolding right
five_for_the_fourth = five_whatever_room whole fourth (course_of whole).plan (refl, refl) refl

abbrev short : Records
short = case_s 2499999999

pub short_valid : Valid short
unfolding right
short_valid = read_valid short refl

pub short_fates : fates_of (plan_of short).fates ≡ 6 ∷ 1 ∷ 1 ∷ 6 ∷ 2 ∷ []
unfolding right
short_fates = refl

-- what is left is one unit less than job 1 takes
pub short_rooms : (map row_numbers (rooms_of short)
    ≡ (2 ∷ 999999999 ∷ 1 ∷ []) ∷ (1 ∷ 999999999 ∷ 6 ∷ []) ∷ (3 ∷ 999999999 ∷ 1 ∷ []) ∷ (4 ∷ 999999999 ∷ 6 ∷ []) ∷ [])
    × (last_room short ≡ 999999999)
unfolding right
short_rooms = (refl, refl)

short_six : fate_in short (course_of short) (job 1 1000 50 3000 3000 0) ≡ fate_budget
unfolding right
short_six = refl

pub short_stays : 2499999999
    < (cycles_of (run_order short (course_of short).plan) + cycles_of (lacking short (job 1 1000 50 3000 3000 0))) * (top_of short).cost
short_stays = each_first (six_stays_true short short_valid) short_six

abbrev model_three : Records
model_three =
    table 0 1200000000
    (speed 360 1453689 ∷ speed 550 1060341 ∷ speed 640 986050 ∷ speed 730 951382 ∷ speed 820 945957 ∷ speed 910 963501
    ∷ speed 1000 1000000 ∷ [])
    (job 1 1000 1 3000 3000 0 ∷ [])
    []

pub model_three_valid : Valid model_three
unfolding right
model_three_valid = read_valid model_three refl

pub by_version_four : ((plan_by lowest_for model_three).speed.mhz ≡ 550) × ((plan_by lowest_for model_three).energy ≡ 1060341000)
unfolding right plan_by lowest_for
by_version_four = (refl, refl)

pub by_a1 : ((plan_of model_three).speed.mhz ≡ 820) × ((plan_of model_three).energy ≡ 945957000)
unfolding right
by_a1 = (refl, refl)
