-- A job whose walk ends is on no ring: each job on the walk is fewer steps from the end than the job itself, so that the walk
-- never comes back to its place; and where the numbers of the jobs rise, a job is known by its place. Assumes nothing.
use mathlib.Core.Bool.{false}
use mathlib.Core.List.{List}
use mathlib.Core.Logic.{inl, inr}
use mathlib.Core.Option.{Option}
use mathlib.Core.Path.{◌≡◌, refl, sym, ap, ◌∙◌}
use Prim.Native.Nat.{ℕ, zero, suc, ◌<◌}
use native.Mathlib.Omega.{arith}
use borrow.Author.Tests.{ne_eqb}
use lib.ListN.{get_or, length}
use Rattle.chains.proofs.Walks.{job-at, nobody_at}
use Rattle.chains.specs.Waits.{PlaceOrNobody, Waits, at_place}
use Rattle.laws.proofs.Numbered.{same_place}
use Rattle.remaining.specs.Ends.{Ends, EndsAfter}
use Rattle.rules.specs.Lists.{Rising, any}
use Rattle.rules.specs.Plan.{awaited, follow, leaves_ring, on_ring, same}
use Rattle.rules.specs.TableText.{Records, most_holds, most_jobs, no_job}
use Rattle.rules.specs.declared.Job.{Job}

module _ (waits : List ℕ) where
  -- the walk from a job ends where that from the one it waits for does
  pub ends_before : (p : ℕ) → p < most_jobs → Ends waits (get_or waits p 0) → Ends waits p
  ends_before p h e = record { steps = suc e.steps; after = (h, e.after) }

  on_after : (n p : ℕ) → p < most_jobs → EndsAfter waits n p → Ends waits (get_or waits p 0)
  on_after zero p h e = absurd (omega (arith, e))
  on_after (suc n) p h e = record { steps = n; after = e.1 }

  pub ends_on : (p : ℕ) → p < most_jobs → Ends waits p → Ends waits (get_or waits p 0)
  ends_on p h e = on_after e.steps p h e.after

  -- one place is so many steps from the end and no fewer
  one_end : (n m p : ℕ) → EndsAfter waits n p → EndsAfter waits m p → n < m → ⊥
  one_end n zero p e f l = omega arith
  one_end zero (suc m) p e f l = omega (arith, e, f.0)
  one_end (suc n) (suc m) p e f l = one_end n m (get_or waits p 0) e.1 f.1 (omega arith)

module _ (js : List Job) (next : Job → Option Job) (waits : List ℕ) (rising : Rising (λ j. j.number) js)
    (column : Waits js next waits) (place : ℕ) (l : place < length js) where
  abbrev job : Job
  job = get_or js place no_job

  -- a walk from a place nearer to the end does not meet the job
  not_met : (k n m p : ℕ) → PlaceOrNobody js p → EndsAfter waits m place → EndsAfter waits n p → n < m
      → any (same job) (follow next k (at_place js p)) ≡ false
  unfolding follow
  not_met zero n m p w far near nearer = refl
  not_met (suc k) zero m p (inl h) far near nearer = absurd (omega (arith, near, column.few))
  not_met (suc k) (suc n) m p (inl h) far near nearer =
      rw (
        job-at js p h,
        same_place js rising place p l h,
        ne_eqb place p (λ e. one_end waits (suc n) m place (rw (sym e) at near) far nearer),
      )
      (ap (λ o. any (same job) (follow next k o)) (sym (column.whom p h))
      ∙ not_met k n m (get_or waits p 0) (column.place_or_nobody p h) far near.1 (omega arith))
  not_met (suc k) n m p (inr e) far near nearer = rw (e, nobody_at js most_jobs column.few)

  on_no_ring : (m : ℕ) → EndsAfter waits m place → on_ring (awaited next job) job ≡ false
  unfolding awaited on_ring
  on_no_ring zero e = absurd (omega (arith, e, column.few))
  on_no_ring (suc m) e =
      ap (λ o. any (same job) (follow next most_holds o)) (sym (column.whom place l))
      ∙ not_met most_holds m (suc m) (get_or waits place 0) (column.place_or_nobody place l) e e.1 (omega arith)

  pub leaves_no_ring : Ends waits place → (t : Records) → leaves_ring t (awaited next job) job ≡ false
  unfolding leaves_ring
  leaves_no_ring e t = rw (on_no_ring e.steps e.after)
