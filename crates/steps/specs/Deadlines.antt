-- Steps 1, 4 and 7 told in whole cycles: by how many cycles a job must have ended, and how many can have run before those that are
-- to run in order.
use Rattle.std.specs.Prelude.{Bool, true, ◌&&◌, List, [], ◌∷◌, ℕ, ◌+◌, ◌*◌, ◌-◌, ◌/◌, min, leb}
use Rattle.rules.specs.declared.Job.{Job}

-- The deadline of a time, in cycles: the most that can have run by then, the whole part of (end − clock) × speed / 1000. By a time
-- before the clock none can.
unfoldable pub cycles_by : ℕ → ℕ → ℕ → ℕ
cycles_by clock mhz end = (end - clock) * mhz / 1000

-- the deadline of a job, at a clock and a speed
abbrev pub deadline_of : ℕ → ℕ → Job → ℕ
deadline_of clock mhz j = cycles_by clock mhz j.termination

module _ {A : Type 0} (cycles deadline : A → ℕ) where
  -- each, run in order behind so many cycles, ends by its deadline
  unfoldable pub timely_behind : ℕ → List A → Bool
  timely_behind run [] = true
  timely_behind run (x ∷ xs) = leb (run + cycles x) (deadline x) && timely_behind (run + cycles x) xs

  -- The latest beginning of those that are to run in order and in time: how many cycles can have run before them, counted from the
  -- clock, so that what is put in before them does not change it. Without any there is no bound but `most`.
  unfoldable pub latest_of : ℕ → List A → ℕ
  latest_of most [] = most
  latest_of most (x ∷ xs) = min (deadline x) (latest_of most xs) - cycles x
