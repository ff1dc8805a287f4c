-- The lowest refusal of a record, by its letter, from the state of what stands before it.
use Rattle.std.specs.Prelude.{None, Some, Result, Ok, Err, Option as Answer}
use Rattle.std.specs.Prelude.{Bool, cond, not, ◌||◌, List, ◌≡◌, ℕ, leb, ltb, eqb}
use Rattle.std.proofs.Math.Option.{Option, none, some}
use Rattle.rules.specs.Lists.{Rising, find}
use Rattle.rules.specs.TableText.{Record, in_range, most_jobs, most_speeds}
use Rattle.rules.specs.declared.Hold.{Hold}
use Rattle.rules.specs.declared.Job.{Job}
use Rattle.rules.specs.declared.Refusal.{Refusal}
use Rattle.rules.specs.declared.Speed.{Speed}
use Rattle.records.specs.declared.Standing.{Standing}

-- a judgement as the refusal that it names
abbrev pub fault_says : Result (Unit {0}) Refusal → Option Refusal
fault_says (Ok _) = none
fault_says (Err r) = some r

abbrev pub first_fault : Bool → Refusal → Option Refusal → Option Refusal
first_fault t r others = cond t (some r) others

unfoldable pub clock_fault : Standing → ℕ → ℕ → Option Refusal
clock_fault s clock budget =
    first_fault (not (in_range (Record.T clock budget))) Refusal.Range (first_fault s.begun Refusal.Order none)

unfoldable pub speed_fault : Standing → Speed → Option Refusal
speed_fault s f =
    first_fault (not (in_range (Record.F f))) Refusal.Range
    (first_fault (not s.begun || not (eqb s.jobs 0) || not (ltb s.mhz f.mhz)) Refusal.Order
    (first_fault (leb most_speeds s.speeds) Refusal.TooMany none))

unfoldable pub job_fault : Standing → Job → Option Refusal
job_fault s j =
    first_fault (not (in_range (Record.J j))) Refusal.Range
    (first_fault (eqb s.speeds 0 || not (eqb s.holds 0) || not (ltb s.number j.number)) Refusal.Order
    (first_fault (leb most_jobs s.jobs) Refusal.TooMany
    (first_fault (ltb j.termination j.critical) Refusal.CriticalAfterTermination none)))

-- what the holder's request says: unknown, its own resource, or nothing
abbrev pub holder_fault : Answer ℕ → Hold → Option Refusal
holder_fault None h = some Refusal.UnknownJob
holder_fault (Some request) h = first_fault (eqb request h.resource) Refusal.OwnRequest none

-- what the job of a number requests, among those of the table
abbrev pub requested : Option Job → Answer ℕ
requested none = None
requested (some j) = Some j.request

unfoldable pub looked_up : List Job → ℕ → Answer ℕ
looked_up js number = requested (find (λ j. eqb j.number number) js)

-- what the job of a number requests, among jobs whose numbers rise
abbrev pub RequestOf : List Job → ℕ → Answer ℕ → Type 0
RequestOf js number request = Rising (λ j. j.number) js → request ≡ looked_up js number

unfoldable pub hold_fault : Standing → Hold → Answer ℕ → Option Refusal
hold_fault s h request =
    first_fault (not (in_range (Record.H h))) Refusal.Range
    (first_fault (eqb s.jobs 0 || not (ltb s.resource h.resource)) Refusal.Order (holder_fault request h))
