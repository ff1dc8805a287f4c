use mathlib.Core.Path.{◌≡◌}
use Prim.Native.Nat.{ℕ}
use lib.ListN.{length, take}
use Rattle.chains.specs.Promises.{most_deadline}
use Rattle.columns.proofs.Stored.{Filled}
use Rattle.columns.specs.Columns.{AtMost, Column, TermsOf}
use Rattle.rules.specs.Plan.{top_of}
use Rattle.rules.specs.TableText.{Records, most_jobs}
use Rattle.rules.specs.declared.Job.{Job}
use Rattle.steps.specs.Deadlines.{deadline_of}
use Rattle.chains.proofs.deadlines.Given as goal

-- the deadlines of the table's jobs
abbrev pub deadlineIn : Records → Job → ℕ
deadlineIn t = deadline_of t.clock (top_of t).mhz

abbrev pub invariant-loop-i : goal.invariant-loop-i
invariant-loop-i l = (length l.deadline_at ≡ most_jobs)
    × AtMost most_deadline l.deadline_at
    × ((t : Records) → TermsOf t l.terms → Column (λ j. j.termination) t.jobs l.termination
    → Filled (deadlineIn t) (take l.i t.jobs) l.deadline_at)
