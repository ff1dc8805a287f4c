use mathlib.Core.Path.{◌≡◌}
use Prim.Native.Nat.{ℕ}
use lib.ListN.{drop, length}
use Rattle.plans.proofs.Marks.{marked_at}
use Rattle.rules.specs.Plan.{fate_planned}
use Rattle.rules.specs.TableText.{most_jobs}
use Rattle.plans.proofs.mark_planned.Given as goal

abbrev pub invariant-loop-place : goal.invariant-loop-place
invariant-loop-place l = record {
  whole : length l.fates ≡ most_jobs;
  marked : (k : ℕ) → marked_at (drop l.place-index l.places) fate_planned l.fates k
      ≡ marked_at l.places fate_planned l.initial.fates k;
}
