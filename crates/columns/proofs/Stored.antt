-- A column with one job's field stored behind the others is the column of one job more: at the job's place it holds
-- what was stored, and at every other place what it held. Assumes nothing.
use mathlib.Core.List.{List, [], ◌∷◌}
use mathlib.Core.Path.{◌≡◌, refl, sym, ◌∙◌}
use Prim.Native.Nat.{ℕ, zero, suc, ◌+◌, ◌<◌}
use native.Mathlib.Numerals.{add-one}
use native.Mathlib.Omega.{arith}
use lib.ListN.{length, get_or, set, take, replicate, length-set}
use lib.Seq.{take-nil}
use Rattle.columns.specs.Columns.{Column}
use Rattle.rules.specs.TableText.{most_jobs, no_job}
use Rattle.rules.specs.declared.Job.{Job}

-- a column of the jobs, with all its places
pub record Filled (f : Job → ℕ) (js : List Job) (c : List ℕ) : Type 0 where
  pub column : Column f js c
  pub whole : length c ≡ most_jobs

-- a column of zeros holds 0 everywhere
pub zeros_at : (n i : ℕ) → ◌≡◌ {A = ℕ} (get_or (replicate n 0) i 0) 0
zeros_at zero i = refl
zeros_at (suc n) zero = refl
zeros_at (suc n) (suc i) = zeros_at n i

module _ (f : Job → ℕ) where
  pub nothing_filled : f no_job ≡ 0 → Filled f [] (replicate most_jobs 0)
  nothing_filled e = record { column = λ i. zeros_at most_jobs i ∙ sym e; whole = refl }

  stored_column : (js : List Job) (c : List ℕ) (i : ℕ) → i < length c → Column f (take i js) c
      → Column f (take (suc i) js) (set c i (f (get_or js i no_job)))
  stored_column js [] i h column k = absurd (omega arith)
  stored_column [] (x ∷ c) zero h column zero = refl
  stored_column [] (x ∷ c) zero h column (suc k) = column (suc k)
  stored_column [] (x ∷ c) (suc i) h column zero = column 0
  stored_column [] (x ∷ c) (suc i) h column (suc k) =
      stored_column [] c i (omega arith) (rw (take-nil {A = Job} i) (λ m. column (suc m))) k
  stored_column (j ∷ js) (x ∷ c) zero h column zero = refl
  stored_column (j ∷ js) (x ∷ c) zero h column (suc k) = column (suc k)
  stored_column (j ∷ js) (x ∷ c) (suc i) h column zero = column 0
  stored_column (j ∷ js) (x ∷ c) (suc i) h column (suc k) =
      stored_column js c i (omega arith) (λ m. column (suc m)) k

  pub one_more_filled : (js : List Job) (c : List ℕ) (i : ℕ) → i < most_jobs → Filled f (take i js) c
      → Filled f (take (i + 1) js) (set c i (f (get_or js i no_job)))
  one_more_filled js c i h filled = record {
    column = rw add-one (stored_column js c i (omega (arith, filled.whole)) filled.column);
    whole = length-set c i (f (get_or js i no_job)) ∙ filled.whole;
  }
