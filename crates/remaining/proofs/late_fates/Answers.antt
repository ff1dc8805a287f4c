-- `remaining::late_fates` meets its contract. At the place of each job passed stands the fate that step 1 gives it. Assumes nothing.
use mathlib.Core.List.{List}
use mathlib.Core.Path.{◌≡◌, ◌∙◌}
use Prim.Native.Nat.{ℕ}
use native.Mathlib.Omega.{arith}
use lib.ListN.{get_or, length}
use Rattle.chains.specs.Stage.{fate_if_late}
use Rattle.columns.specs.Columns.{RunsOf, TermsOf}
use Rattle.columns.specs.declared.Columns.{Columns}
use Rattle.columns.specs.declared.Terms.{Terms}
use Rattle.remaining.proofs.FilledTo.{RightBelow, filled_below, one_more_filled}
use Rattle.remaining.specs.Promises.{LateFates}
use Rattle.rules.specs.Plan.{late_in}
use Rattle.rules.specs.TableText.{Records, most_jobs, no_job}
use Rattle.remaining.proofs.late_fates.Invariants.{LateFate}
use Rattle.remaining.proofs.late_fates.Goals as goal

module _ (jobs : Columns) (terms : Terms) where
  read-from-columns : (t : Records) → TermsOf t terms → RunsOf t.jobs jobs.cycles jobs.termination → (place fate : ℕ)
      → LateFate jobs terms place fate → fate ≡ fate_if_late t (get_or t.jobs place no_job)
  unfolding fate_if_late late_in
  read-from-columns t terms_of runs place fate e =
      e ∙ rw (runs.cycles-of place, runs.termination_of place, terms_of.clock, terms_of.mhz)

  all-late-fates : (fates : List ℕ) → length fates ≡ most_jobs
      → RightBelow (LateFate jobs terms) terms.job_count fates → LateFates jobs terms fates
  all-late-fates fates whole right = record {
    whole = whole;
    late = λ t terms_of runs i l.
        read-from-columns t terms_of runs i (get_or fates i 0) (right i (omega (arith, terms_of.job-count)));
  }

pub loop-i-preserved : goal.loop-i-preserved
loop-i-preserved c =
    let loop = c.loop-i in
    one_more_filled _ loop.fates loop.i _ (omega arith) loop.invariant c.fate_if_late.ensures

pub returns : goal.returns
returns c =
    let loop = c.loop-i in
    all-late-fates c.args.jobs.now c.args.terms loop.fates loop.invariant.whole
    (filled_below _ loop.fates loop.i c.args.terms.job_count (omega arith) loop.invariant)
