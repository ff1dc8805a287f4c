-- Steps 7 and 9 of "From jobs to a plan", one job at a time: what jobs run in order come to is what the first adds and
-- what the others come to behind it. Assumes nothing.
use mathlib.Core.Bool.{Bool, true, false, ◌&&◌}
use mathlib.Core.List.{List, [], ◌∷◌}
use mathlib.Core.Path.{◌≡◌, refl}
use Prim.Native.Nat.{ℕ, ◌+◌, ◌*◌, ◌≤◌, ◌<◌}
use borrow.Author.Tests.{le-leb, lt-leb}
use Rattle.rules.specs.Lists.{all}
use Rattle.rules.specs.Plan.{ends_by, ends_in_time, in_time, runs_from, runs_of}
use Rattle.rules.specs.declared.Job.{Job}

-- each job, run in order behind so many cycles, ends at or before its termination
abbrev pub in_time_behind : ℕ → ℕ → ℕ → List Job → Bool
in_time_behind clock mhz cycles js = all (ends_in_time clock mhz) (runs_from cycles js)

module _ (clock mhz : ℕ) where
  pub in_time_behind_none : (js : List Job) → in_time clock mhz js ≡ in_time_behind clock mhz 0 js
  unfolding in_time runs_of
  in_time_behind_none js = refl

  pub no_job_late : (cycles : ℕ) → in_time_behind clock mhz cycles [] ≡ true
  unfolding runs_from
  no_job_late cycles = refl

  pub first_and_others : (cycles : ℕ) (j : Job) (js : List Job) → in_time_behind clock mhz cycles (j ∷ js)
      ≡ ends_by clock mhz (cycles + j.cycles) j.termination && in_time_behind clock mhz (cycles + j.cycles) js
  unfolding runs_from ends_in_time
  first_and_others cycles j js = refl

  module _ (cycles : ℕ) (j : Job) (js : List Job) where
    pub first-in-time : clock * mhz + (cycles + j.cycles) * 1000 ≤ j.termination * mhz
        → in_time_behind clock mhz cycles (j ∷ js) ≡ in_time_behind clock mhz (cycles + j.cycles) js
    unfolding runs_from ends_in_time ends_by
    first-in-time l = rw (le-leb (clock * mhz + (cycles + j.cycles) * 1000) (j.termination * mhz) l)

    pub first_late : j.termination * mhz < clock * mhz + (cycles + j.cycles) * 1000
        → in_time_behind clock mhz cycles (j ∷ js) ≡ false
    unfolding runs_from ends_in_time ends_by
    first_late l = rw (lt-leb (clock * mhz + (cycles + j.cycles) * 1000) (j.termination * mhz) l)
