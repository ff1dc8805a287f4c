-- Demand 3's premises can be met: case S, and S with job 4 changed, job 5 gone, job 6 new and another budget of its own. With
-- S's budget beside them the plans are both 3, 2, 1. The set is the numbers from 4 on. In the second table job 4, inside, waits
-- for job 3, outside. antt computes each of the premises. Assumes nothing.
use mathlib.Core.Bool.{Bool, true, false, not, ◌||◌}
use mathlib.Core.List.{List, [], ◌∷◌}
use mathlib.Core.Option.{some}
use mathlib.Core.Path.{◌≡◌, refl}
use Prim.Native.Nat.{ℕ}
use lib.Dec.{leb}
use Rattle.laws.proofs.Choices.{clash}
use Rattle.theorems.proofs.Demand3.{unplanned_do_not_matter}
use Rattle.theorems.proofs.Demand3Rooms.{unplanned_leave_the_rooms}
use Rattle.laws.proofs.Elements.{each_too}
use Rattle.laws.proofs.Lookups.{all_each}
use Rattle.grammar.proofs.Tables.{hold, job, read_valid, table, two_speeds}
use Rattle.theorems.specs.Demand3.{Agree, Alike, NoneAsksInside, NonePlanned, out_of}
use Rattle.theorems.specs.Rooms.{RoomsAlike}
use Rattle.rules.specs.Case.{right}
use Rattle.rules.specs.Lists.{all}
use Rattle.rules.specs.Plan.{asks_for, numbers_of, plan_of, waits_left}
use Rattle.rules.specs.TableText.{Records, is_budget, with_budget}
use Rattle.rules.specs.Valid.{Valid}
use Rattle.rules.specs.declared.Hold.{Hold}
use Rattle.rules.specs.declared.Job.{Job}

-- the premises on asking and on the plan, as tests
module _ (set : ℕ → Bool) where
  abbrev asks_test : Job → Hold → Bool
  asks_test j h = set j.number || (not (asks_for j h) || not (set h.holder))

  abbrev pub none_asks : Records → Bool
  none_asks t = all (λ (j : Job). all (asks_test j) t.holds) t.jobs

  abbrev pub none_planned : Records → Bool
  none_planned t = all (λ (j : Job). not (set j.number)) (plan_of t).jobs

  asked : (s x y : Bool) → s || (not x || y) ≡ true → not s ≡ true → x ≡ true → y ≡ true
  asked true x y h o e = clash {b = false} o refl
  asked false true y h o e = h
  asked false false y h o e = clash {b = false} e refl

  asks_tested : (t : Records) → none_asks t ≡ true → NoneAsksInside set t
  asks_tested t h =
      each_too
      (λ j g o. each_too (λ i k e. asked (set j.number) (asks_for j i) (not (set i.holder)) k o e)
      (all_each (asks_test j) t.holds g))
      (all_each (λ (j : Job). all (asks_test j) t.holds) t.jobs h)

  plan_tested : (t : Records) → none_planned t ≡ true → NonePlanned set t
  plan_tested t h = all_each (λ (j : Job). not (set j.number)) (plan_of t).jobs h

abbrev from4 : ℕ → Bool
from4 n = leb 4 n

abbrev outside_jobs : List Job → List Job
outside_jobs more = job 1 1000 50 3000 3000 0 ∷ job 2 1000 90 2000 2000 1 ∷ job 3 500 10 5000 5000 0 ∷ more

abbrev a : Records
a = table 0 2500000000 two_speeds (outside_jobs (job 4 2000 40 4000 4000 0 ∷ job 5 3000 1 2500 2500 0 ∷ [])) (hold 1 3 ∷ [])

abbrev b : Records
b =
    table 0 7 two_speeds (outside_jobs (job 4 2000 90 4000 4000 1 ∷ job 6 9000 1 2500 2500 0 ∷ []))
    (hold 1 3 ∷ hold 2 6 ∷ [])

pub a_valid : Valid a
unfolding right
a_valid = read_valid a refl

pub b_valid : Valid b
unfolding right
b_valid = read_valid b refl

a_asks : NoneAsksInside from4 a
unfolding right
a_asks = asks_tested from4 a refl

b_asks : NoneAsksInside from4 b
unfolding right
b_asks = asks_tested from4 b refl

-- with the budget beside them
abbrev beside : Records → Records
beside t = with_budget t 2500000000

a_plan : NonePlanned from4 (beside a)
unfolding right
a_plan = plan_tested from4 (beside a) refl

b_plan : NonePlanned from4 (beside b)
unfolding right
b_plan = plan_tested from4 (beside b) refl

-- the plan is not empty
pub plan_is : numbers_of (plan_of (beside a)).jobs ≡ 3 ∷ 2 ∷ 1 ∷ []
unfolding right
plan_is = refl

-- a job inside waits for one outside
pub inside_waits : waits_left b (job 4 2000 90 4000 4000 1) ≡ some (job 3 500 10 5000 5000 0)
unfolding right
inside_waits = refl

in-range : is_budget 2500000000 ≡ true
unfolding right
in-range = refl

agree : Agree from4 a b
agree = record { clock = refl; speeds = refl; jobs = refl; holds = refl }

pub alike_plans : Alike (out_of from4) (beside a) (beside b)
alike_plans =
    unplanned_do_not_matter from4 2500000000 in-range a b a_valid b_valid agree a_asks b_asks a_plan b_plan

pub alike_rooms : RoomsAlike (out_of from4) (beside a) (beside b)
alike_rooms =
    unplanned_leave_the_rooms from4 2500000000 in-range a b a_valid b_valid agree a_asks b_asks a_plan b_plan

-- with the second's own budget it would plan nothing
pub own_budget_plans_nothing : (plan_of b).jobs ≡ []
unfolding right
own_budget_plans_nothing = refl
