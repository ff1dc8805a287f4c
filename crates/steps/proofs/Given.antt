-- What a member of a chain gives, and what a job weighs on its ring: what each definition looks at, and no more. Other laws
-- cite these. Assumes nothing.
use mathlib.Core.Bool.{true, false}
use mathlib.Core.Path.{◌≡◌, refl}
use Prim.Native.Nat.{ℕ}
use Rattle.rules.specs.Plan.{Run, ends_by, ends_in_time, gives, top_of, weight_in}
use Rattle.rules.specs.TableText.{Records}
use Rattle.rules.specs.declared.Job.{Job}

module _ (t : Records) (r : Run) (clock mhz cycles termination : ℕ) (clock_of : t.clock ≡ clock)
    (mhz_of : (top_of t).mhz ≡ mhz) (cycles-of : r.cycles_by_end ≡ cycles) (termination_of : r.job.termination ≡ termination) where
  pub timely_gives_worth : ends_by clock mhz cycles termination ≡ true → gives t r ≡ r.job.worth
  unfolding gives ends_in_time
  timely_gives_worth e = rw (mhz_of, clock_of, cycles-of, termination_of, e)

  pub late_gives_nothing : ends_by clock mhz cycles termination ≡ false → gives t r ≡ 0
  unfolding gives ends_in_time
  late_gives_nothing e = rw (mhz_of, clock_of, cycles-of, termination_of, e)

-- The clock, the top speed, when the member ends, its termination and its worth decide what it gives.
pub gives_by : (t u : Records) (r s : Run) → t.clock ≡ u.clock → (top_of t).mhz ≡ (top_of u).mhz → r.cycles_by_end ≡ s.cycles_by_end
    → r.job.termination ≡ s.job.termination → r.job.worth ≡ s.job.worth → gives t r ≡ gives u s
unfolding gives ends_in_time
gives_by t u r s clock mhz cycles termination worth = rw (mhz, clock, cycles, termination, worth)

-- A job's weight is its worth over its cycles.
pub weight_is : (t : Records) (j : Job) → weight_in t j ≡ record { over = j.worth; under = j.cycles }
unfolding weight_in
weight_is t j = refl
