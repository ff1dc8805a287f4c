-- The jobs at places, one at a time. The jobs of the entries that places stand for are the jobs at these places.
-- Assumes nothing.
use mathlib.Core.List.{List, [], ◌∷◌}
use mathlib.Core.Path.{◌≡◌, refl, ap}
use Prim.Native.Nat.{ℕ, suc, ◌+◌, ◌≤◌, ◌<◌}
use native.Mathlib.Numerals.{add-one}
use lib.ListN.{length, get_or, drop, drop_of_length-le}
use lib.Seq.{drop-cons}
use Rattle.columns.specs.Columns.{entries_in, jobs_at}
use Rattle.rules.specs.Plan.{jobs_of}
use Rattle.rules.specs.TableText.{no_job}
use Rattle.rules.specs.declared.Job.{Job}

module _ (js : List Job) where
  pub jobs_of_entries : (keys ps : List ℕ) → jobs_of (entries_in js keys ps) ≡ jobs_at js ps
  unfolding jobs_of
  jobs_of_entries keys [] = refl
  jobs_of_entries keys (p ∷ ps) = ap {B = List Job} (λ r. get_or js p no_job ∷ r) (jobs_of_entries keys ps)

  pub length_jobs_at : (ps : List ℕ) → length (jobs_at js ps) ≡ length ps
  length_jobs_at [] = refl
  length_jobs_at (p ∷ ps) = ap suc (length_jobs_at ps)

  -- the jobs at the places that are left: the next, and those behind it
  pub next_job : (ps : List ℕ) (i : ℕ) → i < length ps
      → jobs_at js (drop i ps) ≡ get_or js (get_or ps i 0) no_job ∷ jobs_at js (drop (i + 1) ps)
  next_job ps i h = rw (add-one i, drop-cons ps i 0 h)

  pub no_job_left : (ps : List ℕ) (i : ℕ) → length ps ≤ i → jobs_at js (drop i ps) ≡ []
  no_job_left ps i h = rw (drop_of_length-le ps h)
