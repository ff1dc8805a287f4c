-- `remaining::mark_awaited` meets its contract. Each job that one of the jobs passed waits for has its mark. Assumes nothing.
use mathlib.Core.List.{List}
use mathlib.Core.Path.{◌≡◌}
use Prim.Native.Nat.{ℕ, ◌+◌, ◌≤◌, ◌<◌}
use native.Mathlib.Omega.{arith}
use lib.ListN.{get_or, set}
use lib.Seq.{get_or-take, length-take-le}
use Rattle.remaining.proofs.Marks.{none_to_mark, nothing_marked, one_more_marked}
use Rattle.remaining.specs.Promises.{Awaited}
use Rattle.remaining.specs.declared.Mark.{Mark}
use Rattle.rules.specs.TableText.{most_jobs}
use Rattle.remaining.proofs.mark_awaited.Goals as goal
use Rattle.remaining.proofs.mark_awaited.Goals.{then-holder-lt-MOST_JOBS, else-holder-lt-MOST_JOBS}

module _ (waits : List ℕ) (i holder : ℕ) (marks after : List Mark) (so_far : Awaited waits i marks) (is : holder ≡ get_or waits i 0) where
  marked : holder < most_jobs → after ≡ set marks holder Mark.Awaited → Awaited waits (i + 1) after
  marked h e = rw (e, is) (one_more_marked waits i marks so_far (omega arith))

  not_marked : most_jobs ≤ holder → after ≡ marks → Awaited waits (i + 1) after
  not_marked h e = rw e (none_to_mark waits i marks so_far (omega arith))

pub loop-awaited-init : goal.loop-awaited-init
loop-awaited-init c = rw c.requires.1 (nothing_marked c.args.waits.now)

pub loop-awaited-preserved : goal.loop-awaited-preserved
loop-awaited-preserved c =
    let loop = c.loop-awaited in
    let inside : loop.awaited-index < c.args.job_count = omega (arith, length-take-le c.args.job_count c.args.waits.now) in
    let is = get_or-take c.args.job_count c.args.waits.now loop.awaited-index 0 inside in
    elim c.if-holder-lt-MOST_JOBS.branch [
      | then-holder-lt-MOST_JOBS w ↦ marked c.args.waits.now loop.awaited-index _ loop.marks _ loop.invariant is
          w.if-holder-lt-MOST_JOBS.true w.marks-is
      | else-holder-lt-MOST_JOBS w ↦ not_marked c.args.waits.now loop.awaited-index _ loop.marks _ loop.invariant is
          w.if-holder-lt-MOST_JOBS.false w.marks-is
    ]
