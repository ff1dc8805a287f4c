-- A job for which nobody waits is on no ring: each job on the walk is one that a job of the table waits for, so that the
-- walk never comes to its place; and where the numbers of the jobs rise, a job is known by its place. Assumes nothing.
use mathlib.Core.Bool.{false}
use mathlib.Core.List.{List}
use mathlib.Core.Logic.{inl, inr}
use mathlib.Core.Option.{Option}
use mathlib.Core.Path.{◌≡◌, refl, sym, ap, ◌∙◌}
use Prim.Native.Nat.{ℕ, zero, suc, ◌<◌}
use borrow.Author.Tests.{ne_eqb}
use lib.ListN.{get_or, length}
use Rattle.chains.proofs.Walks.{job-at, nobody_at}
use Rattle.chains.specs.Waits.{PlaceOrNobody, Waits, at_place}
use Rattle.laws.proofs.Numbered.{same_place}
use Rattle.remaining.specs.Promises.{NobodyWaits}
use Rattle.rules.specs.Lists.{Rising, any}
use Rattle.rules.specs.Plan.{awaited, follow, leaves_ring, on_ring, same}
use Rattle.rules.specs.TableText.{Records, most_holds, most_jobs, no_job}
use Rattle.rules.specs.declared.Job.{Job}

module _ (js : List Job) (next : Job → Option Job) (waits : List ℕ) (rising : Rising (λ j. j.number) js)
    (column : Waits js next waits) (place : ℕ) (l : place < length js) (nobody : NobodyWaits waits (length js) place) where
  abbrev job : Job
  job = get_or js place no_job

  -- a walk from elsewhere does not meet the job
  not_met : (n p : ℕ) → PlaceOrNobody js p → (p ≡ place → ⊥) → any (same job) (follow next n (at_place js p)) ≡ false
  unfolding follow
  not_met zero p w other = refl
  not_met (suc n) p (inl h) other =
      rw (job-at js p h, same_place js rising place p l h, ne_eqb place p (λ e. other (sym e)))
      (ap (λ o. any (same job) (follow next n o)) (sym (column.whom p h))
      ∙ not_met n (get_or waits p 0) (column.place_or_nobody p h) (nobody p h))
  not_met (suc n) p (inr e) other = rw (e, nobody_at js most_jobs column.few)

  on_no_ring : on_ring (awaited next job) job ≡ false
  unfolding awaited on_ring
  on_no_ring =
      ap (λ o. any (same job) (follow next most_holds o)) (sym (column.whom place l))
      ∙ not_met most_holds (get_or waits place 0) (column.place_or_nobody place l) (nobody place l)

  pub leaves_no_ring : (t : Records) → leaves_ring t (awaited next job) job ≡ false
  unfolding leaves_ring
  leaves_no_ring t = rw on_no_ring
