-- Step 4 of "From jobs to a plan": a chain runs from its far end to its job, so that the job ends when it and all behind
-- it in the chain have run. What a chain gives is what its job then gives, and what the rest of the chain gives.
-- Assumes nothing.
use mathlib.Core.List.{List, [], ◌∷◌, ◌++◌, reverse, reverse_aux, reverse_aux-eq}
use mathlib.Core.Path.{◌≡◌, refl, ap, ◌∙◌}
use Prim.Native.Nat.{ℕ, ◌+◌}
use native.Mathlib.Nat.{add_comm}
use native.Mathlib.Omega.{arith}
use Rattle.rules.specs.Lists.{total}
use Rattle.rules.specs.Plan.{cycles_of, gives, far_end_first, runs_from, runs_of}
use Rattle.rules.specs.TableText.{Records}
use Rattle.rules.specs.declared.Job.{Job}

cycles_of_both : (js ks : List Job) → cycles_of (reverse_aux js ks) ≡ cycles_of js + cycles_of ks
unfolding cycles_of
cycles_of_both [] ks = omega arith
cycles_of_both (j ∷ js) ks = omega (arith, cycles_of_both js (j ∷ ks))

cycles_in_running_order : (js : List Job) → cycles_of (reverse js) ≡ cycles_of js
unfolding cycles_of
cycles_in_running_order js = omega (arith, cycles_of_both js [])

module _ (t : Records) where
  -- what the members of a chain give, run alone from the clock at top speed
  abbrev pub chain_gives : List Job → ℕ
  chain_gives chain = total (gives t) (runs_of (far_end_first chain))

  last_run : (c : ℕ) (js : List Job) (j : Job) (end : ℕ) → c + cycles_of js + j.cycles ≡ end
      → total (gives t) (runs_from c (js ++ j ∷ []))
      ≡ total (gives t) (runs_from c js) + gives t (record { job = j; cycles_by_end = end })
  unfolding cycles_of runs_from
  last_run c [] j end e = let q : c + j.cycles ≡ end = omega arith in rw q (omega arith)
  last_run c (k ∷ js) j end e = omega (arith, last_run (c + k.cycles) js j end (omega arith))

  pub no_job_gives : chain_gives [] ≡ 0
  unfolding runs_of runs_from far_end_first
  no_job_gives = refl

  pub job_and_rest_give : (j : Job) (js : List Job)
      → chain_gives (j ∷ js)
      ≡ gives t (record { job = j; cycles_by_end = j.cycles + cycles_of js }) + chain_gives js
  unfolding runs_of far_end_first
  job_and_rest_give j js =
      ap (λ (order : List Job). total (gives t) (runs_from 0 order)) (reverse_aux-eq js (j ∷ []))
      ∙ last_run 0 (reverse js) j (j.cycles + cycles_of js) (omega (arith, cycles_in_running_order js))
      ∙ add_comm _ _
