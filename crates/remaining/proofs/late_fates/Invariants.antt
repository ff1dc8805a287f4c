use mathlib.Core.Bool.{cond, not}
use mathlib.Core.Path.{◌≡◌}
use Prim.Native.Nat.{ℕ}
use lib.ListN.{get_or}
use Rattle.columns.specs.declared.Columns.{Columns}
use Rattle.columns.specs.declared.Terms.{Terms}
use Rattle.remaining.proofs.FilledTo.{FilledTo}
use Rattle.rules.specs.Plan.{ends_by, fate_late}
use Rattle.remaining.proofs.late_fates.Given as goal

-- the fate of step 1 for the job at a place, read from the columns
abbrev pub LateFate : Columns → Terms → ℕ → ℕ → Type 0
LateFate jobs terms place fate =
    fate ≡ cond (not (ends_by terms.clock terms.mhz (get_or jobs.cycles place 0) (get_or jobs.termination place 0))) fate_late 0

abbrev pub invariant-loop-i : goal.invariant-loop-i
invariant-loop-i l = FilledTo (LateFate l.jobs l.terms) l.i l.fates
