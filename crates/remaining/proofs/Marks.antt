-- Marks for the jobs that are awaited, set job by job: a place without a mark is none that a job passed waits for, since a
-- mark set stays. Assumes nothing.
use mathlib.Core.Bool.{true, false}
use mathlib.Core.List.{List}
use mathlib.Core.Path.{◌≡◌, refl, sym, ap, ◌∙◌}
use Prim.Native.Nat.{ℕ, zero, suc, ◌+◌, ◌≤◌, ◌<◌}
use native.Mathlib.Omega.{arith}
use borrow.Author.Tests.{eqb-false, eqb-true}
use lib.Dec.{eqb}
use lib.ListN.{get_or, length-set, replicate, set}
use lib.Seq.{get_or-set_other, get_or-set_same}
use Rattle.remaining.specs.Ends.{mark_at}
use Rattle.remaining.specs.declared.Mark.{Mark}
use Rattle.laws.proofs.Choices.{split}
use Rattle.remaining.proofs.Settling.{ends_stay}
use Rattle.remaining.specs.Promises.{Awaited, NobodyWaits}
use Rattle.rules.specs.TableText.{most_jobs}

none_at : (n place : ℕ) → mark_at (replicate n Mark.Unawaited) place ≡ Mark.Unawaited
none_at zero place = refl
none_at (suc n) zero = refl
none_at (suc n) (suc place) = none_at n place

module _ (waits : List ℕ) where
  -- one more job, which waits for another
  not_that_one : (place i : ℕ) → NobodyWaits waits i place → (get_or waits i 0 ≡ place → ⊥)
      → NobodyWaits waits (i + 1) place
  not_that_one place i nobody other k l e =
      split (eqb k i)
      (λ (h : eqb k i ≡ true). other (sym (ap (λ n. get_or waits n 0) (eqb-true k i h)) ∙ e))
      (λ (h : eqb k i ≡ false). nobody k (omega (arith, eqb-false k i h)) e)

  pub nothing_marked : Awaited waits 0 (replicate most_jobs Mark.Unawaited)
  nothing_marked = record {
    whole = refl;
    unmarked = λ place l z k m e. omega arith;
    ended = λ place e. cc (none_at most_jobs place);
  }

  -- a job that waits for nobody
  pub none_to_mark : (i : ℕ) (marks : List Mark) → Awaited waits i marks → most_jobs ≤ get_or waits i 0
      → Awaited waits (i + 1) marks
  none_to_mark i marks so_far beyond = record {
    whole = so_far.whole;
    unmarked = λ place l z. not_that_one place i (so_far.unmarked place l z) (λ e. omega arith);
    ended = so_far.ended;
  }

  -- a job that waits for one, which has its mark now
  pub one_more_marked : (i : ℕ) (marks : List Mark) → Awaited waits i marks → get_or waits i 0 < most_jobs
      → Awaited waits (i + 1) (set marks (get_or waits i 0) Mark.Awaited)
  one_more_marked i marks so_far h = record {
    whole = length-set marks (get_or waits i 0) Mark.Awaited ∙ so_far.whole;
    unmarked = λ place l z.
        let marked : mark_at (set marks (get_or waits i 0) Mark.Awaited) (get_or waits i 0) ≡ Mark.Awaited =
        get_or-set_same marks (get_or waits i 0) Mark.Awaited Mark.Unawaited (omega (arith, so_far.whole)) in
        let other : get_or waits i 0 ≡ place → ⊥ =
        λ e. cc (marked, z, ap (mark_at (set marks (get_or waits i 0) Mark.Awaited)) e) in
        not_that_one place i
        (so_far.unmarked place l (sym (get_or-set_other marks (get_or waits i 0) place Mark.Awaited Mark.Unawaited (λ e. other (sym e))) ∙ z)) other;
    ended = ends_stay waits marks (get_or waits i 0) Mark.Awaited (omega (arith, so_far.whole)) (λ e. cc) so_far.ended;
  }
