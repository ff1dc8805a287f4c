-- The cycles at places: those of the jobs there. One place put in adds its cycles, and one taken out takes its own away, so
-- that a place which is moved changes nothing. In its range the sum is at most 1,000,000 for each place. Assumes nothing.
use mathlib.Core.List.{List, [], ◌∷◌}
use mathlib.Core.Path.{◌≡◌, refl}
use Prim.Native.Nat.{ℕ, zero, suc, ◌+◌, ◌*◌, ◌≤◌, ◌<◌}
use native.Mathlib.Omega.{arith}
use lib.ListN.{get_or, length}
use Rattle.columns.specs.Columns.{AtMost, Column, jobs_at}
use Rattle.entries.specs.Places.{with_at, without_at}
use Rattle.entries.specs.Promises.{cycles_at}
use Rattle.rules.specs.Plan.{cycles_of}
use Rattle.rules.specs.TableText.{most_cycles}
use Rattle.rules.specs.declared.Job.{Job}

module _ (cycles : List ℕ) where
  pub cycles_of_jobs : (js : List Job) → Column (λ j. j.cycles) js cycles → (ps : List ℕ)
      → cycles_at cycles ps ≡ cycles_of (jobs_at js ps)
  unfolding cycles_of
  cycles_of_jobs js column [] = refl
  cycles_of_jobs js column (p ∷ ps) = rw (column p, cycles_of_jobs js column ps)

  pub cycles_with : (at place : ℕ) (ps : List ℕ) → cycles_at cycles (with_at at place ps) ≡ get_or cycles place 0 + cycles_at cycles ps
  cycles_with zero place ps = refl
  cycles_with (suc at) place [] = refl
  cycles_with (suc at) place (p ∷ ps) = omega (arith, cycles_with at place ps)

  pub cycles_without : (at : ℕ) (ps : List ℕ) → at < length ps
      → get_or cycles (get_or ps at 0) 0 + cycles_at cycles (without_at at ps) ≡ cycles_at cycles ps
  unfolding without_at
  cycles_without at [] h = absurd (omega arith)
  cycles_without zero (p ∷ ps) h = refl
  cycles_without (suc at) (p ∷ ps) h = omega (arith, cycles_without at ps (omega arith))

  pub cycles_at_most : AtMost most_cycles cycles → (ps : List ℕ) → cycles_at cycles ps ≤ most_cycles * length ps
  cycles_at_most small [] = omega arith
  cycles_at_most small (p ∷ ps) = omega (arith, small p, cycles_at_most small ps)
