-- The faults by letter, reckoned from the small state, are the rules' faults of the record after the records that the state
-- stands for: each test of the rules reads only a count, the last first number, or the holder. Assumes nothing.
use mathlib.Core.Bool.{Bool, true, false, cond, not, ◌&&◌, ◌||◌}
use mathlib.Core.List.{List, [], ◌∷◌}
use mathlib.Core.Option.{Option, none, some}
use mathlib.Core.Path.{◌≡◌, refl, sym}
use Prim.Native.Nat.{ℕ}
use lib.Dec.{eqb, ltb, eqb-suc-zero}
use lib.ListN.{length}
use Rattle.rules.specs.Lists.{any, empty, last_or}
use Rattle.rules.specs.Refusals.{Before, asks_own, critical_after, fault_of, fault_of_up_to, is_holder, may_stand, out_of_order, out_of_range, own_request, rises, too_many_up_to, unknown_job}
use Rattle.rules.specs.TableText.{Record, no_hold, no_job, no_speed}
use Rattle.rules.specs.declared.Hold.{Hold}
use Rattle.rules.specs.declared.Job.{Job}
use Rattle.rules.specs.declared.Refusal.{Refusal}
use Rattle.rules.specs.declared.Speed.{Speed}
use Rattle.records.specs.Faults.{clock_fault, speed_fault, job_fault, hold_fault, holder_fault}
use Rattle.records.specs.Standing.{standing_of}
use Rattle.std.specs.Prelude.{Option as Answer}

empty_count : {A : Type 0} (xs : List A) → empty xs ≡ eqb (length xs) 0
empty_count [] = refl
empty_count (x ∷ xs) = sym (eqb-suc-zero (length xs))

-- a negation of tests, test by test
not_one : (a : Bool) → not (not a && true) ≡ a
not_one true = refl
not_one false = refl

not_two : (a b : Bool) → not (not a && b) ≡ a || not b
not_two true b = refl
not_two false b = refl

not_three : (a b c : Bool) → not (a && b && c) ≡ not a || not b || not c
not_three true true c = refl
not_three true false c = refl
not_three false b c = refl

not_three_first : (a b c : Bool) → not (not a && b && c) ≡ a || not b || not c
not_three_first true b c = refl
not_three_first false true c = refl
not_three_first false false c = refl

pub clock-fault : (b : Before) (clock budget : ℕ) → fault_of b (Record.T clock budget) ≡ clock_fault (standing_of b) clock budget
unfolding fault_of_up_to out_of_range out_of_order may_stand rises too_many_up_to critical_after unknown_job own_request clock_fault
clock-fault b clock budget = rw (not_one b.begun)

pub speed-fault : (b : Before) (f : Speed) → fault_of b (Record.F f) ≡ speed_fault (standing_of b) f
unfolding fault_of_up_to out_of_range out_of_order may_stand rises too_many_up_to critical_after unknown_job own_request speed_fault
speed-fault b f =
    rw (empty_count b.records.jobs) (rw (not_three b.begun (eqb (length b.records.jobs) 0) (ltb (last_or no_speed b.records.speeds).mhz f.mhz)))

pub job-fault : (b : Before) (j : Job) → fault_of b (Record.J j) ≡ job_fault (standing_of b) j
unfolding fault_of_up_to out_of_range out_of_order may_stand rises too_many_up_to critical_after unknown_job own_request job_fault
job-fault b j =
    rw (empty_count b.records.speeds)
    (rw (empty_count b.records.holds)
    (rw (not_three_first (eqb (length b.records.speeds) 0) (eqb (length b.records.holds) 0) (ltb (last_or no_job b.records.jobs).number j.number))))

-- the refusals 6 and 7 of an H line
unfoldable pub holder-fault : List Job → Hold → Option Refusal
holder-fault js h =
    cond (not (any (is_holder h) js)) (some Refusal.UnknownJob) (cond (any (asks_own h) js) (some Refusal.OwnRequest) none)

pub hold-fault : (b : Before) (h : Hold) (holder : Answer ℕ) → holder-fault b.records.jobs h ≡ holder_fault holder h
    → fault_of b (Record.H h) ≡ hold_fault (standing_of b) h holder
unfolding fault_of_up_to out_of_range out_of_order may_stand rises too_many_up_to critical_after unknown_job own_request hold_fault holder-fault
hold-fault b h holder e =
    rw (empty_count b.records.jobs)
    (rw (not_two (eqb (length b.records.jobs) 0) (ltb (last_or no_hold b.records.holds).resource h.resource))
    (rw e refl))
