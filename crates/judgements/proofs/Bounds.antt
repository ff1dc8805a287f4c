-- How far a run comes: each entry and each change adds the cycles of one job at most. So no sum wraps. An entry passed is an entry
-- that has left, or that is run, in time or late. Assumes nothing.
use mathlib.Core.Bool.{true, false}
use mathlib.Core.List.{List}
use mathlib.Core.Path.{◌≡◌}
use Prim.Native.Nat.{ℕ, ◌+◌, ◌≤◌, ◌<◌}
use native.Mathlib.Omega.{arith}
use borrow.Author.Tests.{ltb-false, ltb-true}
use lib.Dec.{ltb}
use lib.ListN.{get_or, length}
use Rattle.columns.specs.Columns.{AtMost}
use Rattle.judgements.specs.Changes.{change_on, is_next_to_go, pass_on}
use Rattle.judgements.specs.Promises.{RunSoFar}
use Rattle.judgements.specs.declared.Noted.{Noted}
use Rattle.judgements.specs.declared.Run.{Run}
use Rattle.laws.proofs.Choices.{split}
use Rattle.rules.specs.TableText.{most_cycles}
use Rattle.std.specs.Prelude.{None, Option, Some}

-- a run with more changes allowed
pub more_changes : {ps : List ℕ} (m n : ℕ) {run : Run} → m ≤ n → RunSoFar ps m run → RunSoFar ps n run
more_changes m n l far = record {
  cycles_small = omega (arith, far.cycles_small);
  passed_inside = far.passed_inside;
  gone_few = far.gone_few;
}

-- the cycles run by the end of the job at a place
abbrev pub by_end : List ℕ → Run → ℕ → ℕ
by_end cycles run p = run.cycles + get_or cycles p 0

module _ (cycles deadline : List ℕ) (run : Run) (p : ℕ) where
  -- a change run: in time, or late
  pub by_change : (P : Option Run → Type 0)
      → (get_or deadline p 0 < by_end cycles run p → P None)
      → (by_end cycles run p ≤ get_or deadline p 0 → P (Some (record { cycles = by_end cycles run p; passed = run.passed; gone = run.gone })))
      → P (change_on cycles deadline run p)
  by_change P late timely =
      split (ltb (get_or deadline p 0) (by_end cycles run p))
      (λ h. rw h (late (ltb-true (get_or deadline p 0) (by_end cycles run p) h)))
      (λ h. rw h (timely (ltb-false (get_or deadline p 0) (by_end cycles run p) h)))

  -- an entry passed: it has left, or is run, in time or late
  pub by_pass : (changed : List ℕ) (noted : Noted) (P : Option Run → Type 0)
      → (is_next_to_go changed noted run.gone p ≡ true
      → P (Some (record { cycles = run.cycles; passed = run.passed + 1; gone = run.gone + 1 })))
      → (is_next_to_go changed noted run.gone p ≡ false → get_or deadline p 0 < by_end cycles run p → P None)
      → (is_next_to_go changed noted run.gone p ≡ false → by_end cycles run p ≤ get_or deadline p 0
      → P (Some (record { cycles = by_end cycles run p; passed = run.passed + 1; gone = run.gone })))
      → P (pass_on changed noted cycles deadline run p)
  by_pass changed noted P leaves late timely =
      split (is_next_to_go changed noted run.gone p)
      (λ g. rw g (leaves g))
      (λ g. split (ltb (get_or deadline p 0) (by_end cycles run p))
      (λ h. rw (g, h) (late g (ltb-true (get_or deadline p 0) (by_end cycles run p) h)))
      (λ h. rw (g, h) (timely g (ltb-false (get_or deadline p 0) (by_end cycles run p) h))))

module _ (cycles : List ℕ) (small : AtMost most_cycles cycles) (ps : List ℕ) (m : ℕ) (run : Run) (far : RunSoFar ps m run) where
  -- One change run.
  pub change_so_far : (p : ℕ)
      → RunSoFar ps (m + 1) (record { cycles = by_end cycles run p; passed = run.passed; gone = run.gone })
  change_so_far p = record {
    cycles_small = omega (arith, far.cycles_small, small p);
    passed_inside = far.passed_inside;
    gone_few = far.gone_few;
  }

  -- One entry left.
  pub left_so_far : run.passed < length ps
      → RunSoFar ps m (record { cycles = run.cycles; passed = run.passed + 1; gone = run.gone + 1 })
  left_so_far l = record {
    cycles_small = omega (arith, far.cycles_small);
    passed_inside = omega arith;
    gone_few = omega (arith, far.gone_few);
  }

  -- One entry run.
  pub entry_so_far : (p : ℕ) → run.passed < length ps
      → RunSoFar ps m (record { cycles = by_end cycles run p; passed = run.passed + 1; gone = run.gone })
  entry_so_far p l = record {
    cycles_small = omega (arith, far.cycles_small, small p);
    passed_inside = omega arith;
    gone_few = omega (arith, far.gone_few);
  }

-- Either way one more is passed.
pub one_more : (changed : List ℕ) (noted : Noted) (cycles deadline : List ℕ) (run : Run) (p : ℕ) (r : Run)
    → Some r ≡ pass_on changed noted cycles deadline run p → r.passed ≡ run.passed + 1
one_more changed noted cycles deadline run p r e =
    by_pass cycles deadline run p changed noted (λ o. Some r ≡ o → r.passed ≡ run.passed + 1)
    (λ g h. cc)
    (λ g l h. cc)
    (λ g l h. cc)
    e
