-- Marks of walks, set place by place: a mark set is one of a walk, which says that it ends only where it does. Assumes nothing.
use mathlib.Core.Bool.{Bool, true, false}
use mathlib.Core.List.{List}
use mathlib.Core.Path.{◌≡◌, sym, ap, ◌∙◌}
use Prim.Native.Nat.{ℕ, ◌<◌}
use native.Mathlib.Omega.{arith}
use borrow.Author.Tests.{eqb-false, eqb-true}
use lib.Dec.{eqb}
use lib.ListN.{length, length-set, set}
use lib.Seq.{get_or-set_other, get_or-set_same}
use Rattle.laws.proofs.Choices.{split}
use Rattle.remaining.specs.Ends.{EndMarks, Ends, is_walked, mark_at}
use Rattle.remaining.specs.declared.Mark.{Mark}
use Rattle.remaining.specs.Promises.{Awaited, Settled}
use Rattle.rules.specs.TableText.{most_jobs}

module _ (waits : List ℕ) where
  -- one more mark leaves those that say that a walk ends where it does
  pub ends_stay : (marks : List Mark) (at : ℕ) (mark : Mark) → at < length marks → (mark ≡ Mark.Ends → Ends waits at)
      → EndMarks waits marks → EndMarks waits (set marks at mark)
  ends_stay marks at mark l ends so_far place e =
      split (eqb place at)
      (λ (h : eqb place at ≡ true).
      rw (eqb-true place at h)
      (ends (sym (get_or-set_same marks at mark Mark.Unawaited l) ∙ rw (eqb-true place at h) at e)))
      (λ (h : eqb place at ≡ false). so_far place (sym (get_or-set_other marks at place mark Mark.Unawaited (eqb-false place at h)) ∙ e))

  -- a walk's mark makes no place one without a mark
  no_mark_lost : (marks : List Mark) (at : ℕ) (mark : Mark) → at < length marks → is_walked mark ≡ true → (place : ℕ)
      → mark_at (set marks at mark) place ≡ Mark.Unawaited → mark_at marks place ≡ Mark.Unawaited
  no_mark_lost marks at mark l known place z =
      split (eqb place at)
      (λ (h : eqb place at ≡ true).
      let none : mark ≡ Mark.Unawaited = sym (get_or-set_same marks at mark Mark.Unawaited l) ∙ rw (eqb-true place at h) at z in
      cc (ap {B = Bool} is_walked none))
      (λ (h : eqb place at ≡ false). sym (get_or-set_other marks at place mark Mark.Unawaited (eqb-false place at h)) ∙ z)

  pub one_more_settled : (before marks : List Mark) (at : ℕ) (mark : Mark) → Settled waits before marks → at < most_jobs
      → is_walked mark ≡ true → (mark ≡ Mark.Ends → Ends waits at) → Settled waits before (set marks at mark)
  one_more_settled before marks at mark so_far h known ends =
      let l : at < length marks = omega (arith, so_far.whole) in record {
        whole = length-set marks at mark ∙ so_far.whole;
        unmarked = λ place z. so_far.unmarked place (no_mark_lost marks at mark l known place z);
        ended = ends_stay marks at mark l ends so_far.ended;
      }

  -- who is not awaited has no mark still
  pub still_awaited : (count : ℕ) (before marks : List Mark) → Awaited waits count before → Settled waits before marks
      → Awaited waits count marks
  still_awaited count before marks marked settled = record {
    whole = settled.whole;
    unmarked = λ place l z. marked.unmarked place l (settled.unmarked place z);
    ended = settled.ended;
  }
