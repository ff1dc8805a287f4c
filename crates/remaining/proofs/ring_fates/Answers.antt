-- `remaining::ring_fates` meets its contract. At the place of each job passed stands the fate that step 2 leaves it, and at
-- each later place still that of step 1; the marks tell who is awaited, and of whom it is known that his walk ends. Assumes nothing.
use mathlib.Core.List.{List}
use mathlib.Core.Path.{◌≡◌, ◌∙◌}
use Prim.Native.Nat.{ℕ, ◌+◌, ◌<◌}
use native.Mathlib.Omega.{arith}
use lib.ListN.{get_or, length, set}
use lib.Seq.{get_or-set_other}
use Rattle.remaining.proofs.FilledTo.{RightBelow, filled_below, one_more_filled}
use Rattle.remaining.proofs.Settling.{still_awaited}
use Rattle.remaining.specs.Promises.{Awaited, RingFate, RingFates}
use Rattle.columns.specs.declared.Columns.{Columns}
use Rattle.remaining.specs.Ends.{mark_at}
use Rattle.remaining.specs.declared.Mark.{Mark}
use Rattle.rules.specs.TableText.{most_jobs}
use Rattle.remaining.proofs.ring_fates.Invariants.{FateAt, StillLate}
use Rattle.remaining.proofs.ring_fates.Goals as goal

late-stay : (late : List ℕ) (i v : ℕ) (fates : List ℕ) → StillLate late i fates → StillLate late (i + 1) (set fates i v)
late-stay late i v fates still place l =
    get_or-set_other fates i place v 0 (λ (e : place ≡ i). omega arith) ∙ still place (omega arith)

module _ (late waits : List ℕ) (jobs : Columns) (count : ℕ) where
  -- the marks tell what the fate was found by
  fate-by-mark : (marks : List Mark) (place fate : ℕ) → place < most_jobs → Awaited waits count marks
      → RingFate (get_or late place 0) (mark_at marks place) place waits jobs fate
      → FateAt late waits jobs count place fate
  fate-by-mark marks place fate h marked found t js next long rising waits_of number_of_lem worth_of cycles-of l =
      found.fate t js next (λ z k m. marked.unmarked place h z k (omega arith)) (marked.ended place) rising waits_of l
      number_of_lem worth_of cycles-of

  all-ring-fates : (fates : List ℕ) → length fates ≡ most_jobs
      → RightBelow (FateAt late waits jobs count) count fates
      → RingFates late waits jobs count fates
  all-ring-fates fates whole right = record {
    whole = whole;
    fates = λ t js next long rising waits_of number_of_lem worth_of cycles-of i l.
        right i (omega arith) t js next long rising waits_of number_of_lem worth_of cycles-of l;
  }

pub loop-i-preserved : goal.loop-i-preserved
loop-i-preserved c =
    let loop = c.loop-i in
    let late = c.args.fates.now in
    let marked = still_awaited c.args.waits.now c.args.job_count loop.marks c.settle.new.marks loop.invariant.2 c.settle.ensures in (
      one_more_filled _ loop.fates loop.i _ (omega arith) loop.invariant.0
          (fate-by-mark late _ _ _ c.settle.new.marks loop.i _ (omega arith) marked
          (rw (loop.invariant.1 loop.i (omega arith)) at c.ring_fate.ensures)),
      late-stay late loop.i _ loop.fates loop.invariant.1,
      marked,
    )

pub returns : goal.returns
returns c =
    let loop = c.loop-i in
    all-ring-fates _ _ _ _ loop.fates loop.invariant.0.whole
    (filled_below _ loop.fates loop.i c.args.job_count (omega arith) loop.invariant.0)
