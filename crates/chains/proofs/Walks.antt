-- A walk along the column of places, one place at a time. The jobs at the places that it meets are those that the rules
-- follow, since each entry of the column is the place of the job waited for, or nobody's. Assumes nothing.
use mathlib.Core.List.{List, [], ◌∷◌}
use mathlib.Core.Logic.{inl, inr, ⊎_elim}
use mathlib.Core.Option.{Option, none, some}
use mathlib.Core.Path.{◌≡◌, refl, sym, ap, ◌∙◌}
use Prim.Native.Nat.{ℕ, zero, suc, ◌≤◌, ◌<◌}
use native.Mathlib.Omega.{arith}
use borrow.Author.Tests.{le-ltb, lt-ltb}
use lib.Dec.{ltb}
use lib.ListN.{get_or, length}
use Rattle.chains.specs.Promises.{most_members}
use Rattle.chains.specs.Waits.{PlaceOrNobody, Waits, at_place, places_from}
use Rattle.columns.specs.Columns.{AllBelow, jobs_at}
use Rattle.laws.proofs.Choices.{nothing_there, split}
use Rattle.rules.specs.Plan.{awaited, follow}
use Rattle.rules.specs.TableText.{most_holds, most_jobs, no_job}
use Rattle.rules.specs.declared.Job.{Job}
use Rattle.steps.proofs.Walks.{stands_after}

-- a place below `most_jobs` is a job's
pub is_place : (js : List Job) (p : ℕ) → PlaceOrNobody js p → p < most_jobs → p < length js
is_place js p w h = ⊎_elim (λ (l : p < length js). l) (λ (e : p ≡ most_jobs). absurd (omega arith)) w

module _ (waits : List ℕ) where
  pub no_step_left : (at : ℕ) → places_from waits 0 at ≡ []
  unfolding places_from
  no_step_left at = refl

  pub nobody_met : (n at : ℕ) → most_jobs ≤ at → places_from waits n at ≡ []
  unfolding places_from
  nobody_met zero at h = refl
  nobody_met (suc n) at h = rw (le-ltb at most_jobs h)

  pub next_met : (n m at : ℕ) → n ≡ suc m → at < most_jobs
      → places_from waits n at ≡ at ∷ places_from waits m (get_or waits at 0)
  unfolding places_from
  next_met n m at e h = rw (e, lt-ltb at most_jobs h)

  -- no walk meets more places than it has steps
  pub few_met : (n at : ℕ) → length (places_from waits n at) ≤ n
  unfolding places_from
  few_met zero at = omega arith
  few_met (suc n) at =
      split (ltb at most_jobs)
      (λ e. rw e (omega (arith, few_met n (get_or waits at 0))))
      (λ e. rw e (omega arith))

places_first : {n : ℕ} (p : ℕ) (ps : List ℕ) → p < n → AllBelow n ps → AllBelow n (p ∷ ps)
places_first p ps h below zero l = h
places_first p ps h below (suc i) l = below i (omega arith)

module _ (js : List Job) where
  pub job-at : (p : ℕ) → p < length js → at_place js p ≡ some (get_or js p no_job)
  unfolding at_place
  job-at p h = rw (lt-ltb p (length js) h)

  pub nobody_at : (p : ℕ) → length js ≤ p → at_place js p ≡ none
  unfolding at_place
  nobody_at p h = rw (le-ltb p (length js) h)

module _ (js : List Job) (next : Job → Option Job) (waits : List ℕ) (column : Waits js next waits) where
  walk_follows : (n p : ℕ) → PlaceOrNobody js p → jobs_at js (places_from waits n p) ≡ follow next n (at_place js p)
  unfolding places_from follow
  walk_follows zero p w = refl
  walk_follows (suc n) p (inl h) =
      rw (lt-ltb p most_jobs (omega (arith, column.few)), job-at js p h)
      (ap {B = List Job} (λ ks. get_or js p no_job ∷ ks)
      (walk_follows n (get_or waits p 0) (column.place_or_nobody p h) ∙ ap (follow next n) (column.whom p h)))
  walk_follows (suc n) p (inr e) = rw (e, nobody_at js most_jobs column.few)

  -- a walk that has ended meets nobody more
  pub walk_is_whole : (n p : ℕ) → PlaceOrNobody js p → stands_after next n (at_place js p) ≡ none
      → places_from waits (suc n) p ≡ places_from waits n p
  walk_is_whole zero p (inl h) e = nothing_there (job-at js p h) e
  walk_is_whole zero p (inr e) ended = nobody_met waits 1 p (omega arith) ∙ sym (no_step_left waits p)
  walk_is_whole (suc n) p (inl h) e =
      let met : p < most_jobs = omega (arith, column.few) in
      next_met waits (suc (suc n)) (suc n) p refl met
      ∙ ap (λ ps. p ∷ ps)
      (walk_is_whole n (get_or waits p 0) (column.place_or_nobody p h)
      (ap (stands_after next n) (column.whom p h) ∙ rw (job-at js p h) at e))
      ∙ sym (next_met waits (suc n) n p refl met)
  walk_is_whole (suc n) p (inr e) ended =
      nobody_met waits (suc (suc n)) p (omega arith) ∙ sym (nobody_met waits (suc n) p (omega arith))

  pub met_are_places : (n p : ℕ) → PlaceOrNobody js p → AllBelow (length js) (places_from waits n p)
  met_are_places zero p w = rw (no_step_left waits p) (λ i l. absurd (omega arith))
  met_are_places (suc n) p (inl h) =
      rw (next_met waits (suc n) n p refl (omega (arith, column.few)))
      (places_first p (places_from waits n (get_or waits p 0)) h
      (met_are_places n (get_or waits p 0) (column.place_or_nobody p h)))
  met_are_places (suc n) p (inr e) = rw (nobody_met waits (suc n) p (omega arith)) (λ i l. absurd (omega arith))

  module _ (place : ℕ) (h : place < length js) where
    -- the places that the job at a place waits for, in the end
    pub awaited_met : jobs_at js (places_from waits most_holds (get_or waits place 0)) ≡ awaited next (get_or js place no_job)
    unfolding awaited
    awaited_met =
        walk_follows most_holds (get_or waits place 0) (column.place_or_nobody place h)
        ∙ ap (follow next most_holds) (column.whom place h)

    pub awaited_are_places : AllBelow (length js) (places_from waits most_holds (get_or waits place 0))
    awaited_are_places = met_are_places most_holds (get_or waits place 0) (column.place_or_nobody place h)

    -- the places of the chain of the job at a place
    pub chain_met : jobs_at js (places_from waits most_members place)
        ≡ get_or js place no_job ∷ awaited next (get_or js place no_job)
    chain_met =
        ap (jobs_at js) (next_met waits most_members most_holds place refl (omega (arith, column.few)))
        ∙ ap {B = List Job} (λ ks. get_or js place no_job ∷ ks) awaited_met
