use mathlib.Core.Bool.{cond}
use mathlib.Core.List.{List}
use mathlib.Core.Option.{Option}
use mathlib.Core.Path.{◌≡◌}
use Prim.Native.Nat.{ℕ, ◌≤◌, ◌<◌}
use lib.Dec.{eqb}
use lib.ListN.{get_or, length}
use Rattle.chains.specs.Waits.{Waits}
use Rattle.columns.specs.Columns.{Column}
use Rattle.columns.specs.declared.Columns.{Columns}
use Rattle.remaining.proofs.FilledTo.{FilledTo}
use Rattle.remaining.specs.Promises.{Awaited}
use Rattle.rules.specs.Lists.{Rising}
use Rattle.rules.specs.Plan.{awaited, fate_deadlock, leaves_ring}
use Rattle.rules.specs.TableText.{Records, no_job}
use Rattle.rules.specs.declared.Job.{Job}
use Rattle.remaining.proofs.ring_fates.Given as goal

-- the fate of the job at a place after step 2, in a table of so many jobs
abbrev pub FateAt : (late waits : List ℕ) (jobs : Columns) (count place fate : ℕ) → Type 0
FateAt late waits jobs count place fate =
    (t : Records) (js : List Job) (next : Job → Option Job) → length js ≡ count → Rising (λ j. j.number) js
    → Waits js next waits → Column (λ j. j.number) js jobs.number → Column (λ j. j.worth) js jobs.worth
    → Column (λ j. j.cycles) js jobs.cycles → place < length js
    → fate
    ≡ cond (eqb (get_or late place 0) 0)
    (cond (leaves_ring t (awaited next (get_or js place no_job)) (get_or js place no_job)) fate_deadlock 0) (get_or late place 0)

-- from a place on stand the fates of step 1
abbrev pub StillLate : List ℕ → ℕ → List ℕ → Type 0
StillLate late i fates = (place : ℕ) → i ≤ place → get_or fates place 0 ≡ get_or late place 0

abbrev pub invariant-loop-i : goal.invariant-loop-i
invariant-loop-i l =
    FilledTo (FateAt l.initial.fates l.waits l.jobs l.job_count) l.i l.fates
    × StillLate l.initial.fates l.i l.fates
    × Awaited l.waits l.job_count l.marks
