-- Each premise of demand 3 is needed: for each, two valid tables that meet all the others and are planned differently. A table
-- stands here with the budget beside it in its T. The set is the numbers from 4 on. antt computes the tests. Assumes nothing.
use mathlib.Core.Bool.{Bool, false, not, ◌&&◌}
use mathlib.Core.List.{List, [], ◌∷◌, map}
use mathlib.Core.Path.{◌≡◌, refl}
use Prim.Native.Nat.{ℕ}
use lib.Dec.{eqb, leb}
use Rattle.theorems.proofs.Demand3Instance.{none_asks, none_planned}
use Rattle.grammar.proofs.Tables.{hold, job, speed, table, two_speeds}
use Rattle.rules.specs.Case.{alike, right}
use Rattle.rules.specs.Lists.{joined, keep}
use Rattle.rules.specs.Plan.{Fated, fates_of, numbers_of, plan_of}
use Rattle.rules.specs.Refusals.{read, taken}
use Rattle.rules.specs.TableText.{Records, text_of}
use Rattle.rules.specs.declared.Hold.{Hold}
use Rattle.rules.specs.declared.Job.{Job}
use Rattle.rules.specs.declared.Speed.{Speed}

abbrev in_set : ℕ → Bool
in_set n = leb 4 n

abbrev job_places : Job → List ℕ
job_places j = j.number ∷ j.cycles ∷ j.worth ∷ j.critical ∷ j.termination ∷ j.request ∷ []

abbrev outer_jobs : Records → List ℕ
outer_jobs t = joined job_places (keep (λ (j : Job). not (in_set j.number)) t.jobs)

abbrev outer_holds : Records → List ℕ
outer_holds t = joined (λ (h : Hold). h.resource ∷ h.holder ∷ []) (keep (λ (h : Hold). not (in_set h.holder)) t.holds)

-- clock, the budget beside, speeds, costs, jobs outside, resources they hold, asks, not planned
abbrev premises : Records → Records → List Bool
premises a b =
    eqb a.clock b.clock
    ∷ eqb a.budget b.budget
    ∷ alike (map (λ (f : Speed). f.mhz) a.speeds) (map (λ (f : Speed). f.mhz) b.speeds)
    ∷ alike (map (λ (f : Speed). f.cost) a.speeds) (map (λ (f : Speed). f.cost) b.speeds)
    ∷ alike (outer_jobs a) (outer_jobs b)
    ∷ alike (outer_holds a) (outer_holds b)
    ∷ (none_asks in_set a && none_asks in_set b)
    ∷ (none_planned in_set a && none_planned in_set b)
    ∷ []

abbrev outer_fates : Records → List ℕ
outer_fates t = fates_of (keep (λ (i : Fated). not (in_set i.job.number)) (plan_of t).fates)

-- the same plan, speed and energy, and the same fates outside
abbrev conclusion : Records → Records → Bool
conclusion a b =
    alike (numbers_of (plan_of a).jobs) (numbers_of (plan_of b).jobs)
    && eqb (plan_of a).speed.mhz (plan_of b).speed.mhz
    && eqb (plan_of a).energy (plan_of b).energy
    && alike (outer_fates a) (outer_fates b)

-- all but the one of this place
abbrev all_but : ℕ → List Bool
all_but n = map (λ m. not (eqb m n)) (0 ∷ 1 ∷ 2 ∷ 3 ∷ 4 ∷ 5 ∷ 6 ∷ 7 ∷ [])

-- the premise of this place is needed: both tables are read, meet all others, and are planned differently
abbrev pub Needed : ℕ → Records → Records → Type 0
Needed place a b =
    (read (text_of a) ≡ taken a)
    × (read (text_of b) ≡ taken b)
    × (premises a b ≡ all_but place)
    × (conclusion a b ≡ false)

-- a job of 1000 cycles: at 500 MHz it takes 2000 ms, and at 1000 MHz the whole budget
abbrev lone : List Job
lone = job 1 1000 1 2000 2000 0 ∷ []

abbrev lone_in : ℕ → ℕ → List Speed → Records
lone_in clock budget speeds = table clock budget speeds lone []

pub clock_needed : Needed 0 (lone_in 0 1000000000 two_speeds) (lone_in 1 1000000000 two_speeds)
unfolding right
clock_needed = (refl, refl, refl, refl)

pub budget_needed : Needed 1 (lone_in 0 1000000000 two_speeds) (lone_in 0 999999999 two_speeds)
unfolding right
budget_needed = (refl, refl, refl, refl)

pub speeds_needed : Needed 2 (lone_in 0 1000000000 two_speeds) (lone_in 0 1000000000 (speed 499 700000 ∷ speed 1000 1000000 ∷ []))
unfolding right
speeds_needed = (refl, refl, refl, refl)

pub costs_needed : Needed 3 (lone_in 0 1000000000 two_speeds) (lone_in 0 1000000000 (speed 500 700001 ∷ speed 1000 1000000 ∷ []))
unfolding right
costs_needed = (refl, refl, refl, refl)

pub jobs_needed : Needed 4 (lone_in 0 1000000000 two_speeds) (table 0 1000000000 two_speeds (job 1 999 1 2000 2000 0 ∷ []) [])
unfolding right
jobs_needed = (refl, refl, refl, refl)

-- job 2 waits for job 1, which has no worth and comes in with its chain; or job 1 holds nothing
abbrev pair : List Hold → Records
pair holds = table 0 2000000000 two_speeds (job 1 1000 0 5000 5000 0 ∷ job 2 1000 10 5000 5000 1 ∷ []) holds

pub resources_needed : Needed 5 (pair (hold 1 1 ∷ [])) (pair [])
unfolding right
resources_needed = (refl, refl, refl, refl)

-- job 1 waits for job 4, inside, and would end too late behind it; or job 4 is late alone, and job 1 waits for nobody
abbrev waiting : ℕ → Records
waiting end = table 0 6000000000 two_speeds (job 1 1000 10 5000 5000 1 ∷ job 4 5000 0 end end 0 ∷ []) (hold 1 4 ∷ [])

pub asks_needed : Needed 6 (waiting 6000) (waiting 4000)
unfolding right
asks_needed = (refl, refl, refl, refl)

-- job 4, inside, takes the budget
pub not_planned_needed : Needed 7 (table 0 1000000000 two_speeds (job 1 1000 1 2000 2000 0 ∷ job 4 1000 10 2000 2000 0 ∷ []) [])
    (lone_in 0 1000000000 two_speeds)
unfolding right
not_planned_needed = (refl, refl, refl, refl)
