-- What is not true of the rules, each with a table that shows it. Nobody may rely on these, and no promise says them. antt
-- computes the plans; each table is one that the reader takes. Assumes nothing.
use mathlib.Core.Bool.{true, false}
use mathlib.Core.List.{[], ◌∷◌, map}
use mathlib.Core.Path.{◌≡◌, refl}
use Prim.Native.Nat.{ℕ}
use Rattle.grammar.proofs.Tables.{hold, job, read_valid, speed, table}
use Rattle.rules.specs.Case.{right}
use Rattle.rules.specs.Plan.{Plan, course_of, ends_late, fates_of, numbers_of, plan_of, qualifies, too_dear, trial, turn_of}
use Rattle.rules.specs.Rooms.{TurnRoom, last_room, rooms_of}
use Rattle.rules.specs.TableText.{Records, with_budget}
use Rattle.rules.specs.Valid.{Valid}

-- NOT TRUE: more budget never loses a job. With a budget of 200 beside the table jobs 3 and 1 run; with 300 job 2, whose ratio
-- is the highest, is bought first, and both get a 6.
abbrev bought : Records
bought =
    table 0 0 (speed 1000 10 ∷ [])
    (job 1 5 10 60 90 0 ∷ job 2 30 90 40 70 0 ∷ job 3 5 10 40 70 0 ∷ [])
    []

abbrev bought_with : ℕ → Plan
bought_with budget = plan_of (with_budget bought budget)

pub bought_valid : Valid bought
unfolding right
bought_valid = read_valid bought refl

pub less_budget_plans_two : numbers_of (bought_with 200).jobs ≡ 3 ∷ 1 ∷ []
unfolding right
less_budget_plans_two = refl

pub more_budget_loses_them : (numbers_of (bought_with 300).jobs ≡ 2 ∷ []) × (fates_of (bought_with 300).fates ≡ 6 ∷ 1 ∷ 6 ∷ [])
unfolding right
more_budget_loses_them = (refl, refl)

-- NOT TRUE: a 5 still holds against the final plan. Job 1 gets a 5; then job 3 comes in and takes job 2, for which it waits,
-- forward. Tried again, job 1 would end in time and within budget.
abbrev outlived : Records
outlived =
    table 0 99 (speed 1000 1 ∷ [])
    (job 1 2 7 2 5 0 ∷ job 2 1 6 2 2 0 ∷ job 3 2 3 1 3 1 ∷ [])
    (hold 1 2 ∷ [])

pub outlived_valid : Valid outlived
unfolding right
outlived_valid = read_valid outlived refl

pub five_given : fates_of (plan_of outlived).fates ≡ 5 ∷ 1 ∷ 1 ∷ []
unfolding right
five_given = refl

pub five_would_fit : let again = trial (turn_of outlived (job 1 2 7 2 5 0)) (course_of outlived).plan in
    (ends_late outlived again ≡ false) × (too_dear outlived again ≡ false)
unfolding right
five_would_fit = (refl, refl)

-- NOT TRUE: no speed below the printed one would do. At 500 MHz job 1 would end in time and within budget, for 60 units; it is
-- run at 1000 MHz for 50. (Version four printed the lowest speed that would do.)
abbrev dearer : Records
dearer = table 0 300 (speed 500 12 ∷ speed 1000 10 ∷ []) (job 1 5 90 50 70 0 ∷ []) []

pub dearer_valid : Valid dearer
unfolding right
dearer_valid = read_valid dearer refl

pub lower_would_do : (qualifies dearer (plan_of dearer).jobs (speed 500 12) ≡ true) × ((plan_of dearer).speed.mhz ≡ 1000)
unfolding right
lower_would_do = (refl, refl)

-- NOT TRUE: a job of worth 0 matters only to those waiting for it. Nobody waits for job 2, and it is planned, since its chain
-- has worth; its charge is spent.
abbrev worthless : Records
worthless = table 0 300 (speed 1000 10 ∷ []) (job 1 5 90 50 50 0 ∷ job 2 5 0 60 60 1 ∷ []) (hold 1 1 ∷ [])

pub worthless_valid : Valid worthless
unfolding right
worthless_valid = read_valid worthless refl

pub worthless_planned : (numbers_of (plan_of worthless).jobs ≡ 1 ∷ 2 ∷ []) × ((plan_of worthless).energy ≡ 100)
unfolding right
worthless_planned = (refl, refl)

-- NOT TRUE: a job whose chain fits the room at top cost is planned. Job 2 alone would take 300 of the 700 that job 1 leaves, and
-- would end in time; behind job 1, which is planned, it would not, and gets a 5.
abbrev crowded : Records
crowded = table 0 1000 (speed 1000 10 ∷ []) (job 1 30 90 40 40 0 ∷ job 2 30 60 40 40 0 ∷ []) []

pub crowded_valid : Valid crowded
unfolding right
crowded_valid = read_valid crowded refl

pub room_but_no_time : (map (λ (r : TurnRoom). r.room) (rooms_of crowded) ≡ 700 ∷ 700 ∷ [])
    × (fates_of (plan_of crowded).fates ≡ 1 ∷ 5 ∷ [])
unfolding right
room_but_no_time = (refl, refl)

-- NOT TRUE: the last room and the plan's energy make up the budget. The room is reckoned at top cost, 50 for job 1, and the energy
-- at the chosen speed's, 25: 250 and 25 of 300.
abbrev slower : Records
slower = table 0 300 (speed 500 5 ∷ speed 1000 10 ∷ []) (job 1 5 90 50 70 0 ∷ []) []

pub slower_valid : Valid slower
unfolding right
slower_valid = read_valid slower refl

pub room_and_energy_are_less : (last_room slower ≡ 250) × ((plan_of slower).energy ≡ 25)
unfolding right
room_and_energy_are_less = (refl, refl)
