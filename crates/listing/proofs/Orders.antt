-- The O lines that are left from an index of the places on, behind so many cycles: the line of the job there, which ends
-- behind its own cycles, and the lines behind it. So the two numbers stored for that job take its line from those left to those
-- stored. Assumes nothing.
use mathlib.Core.List.{List, [], ◌∷◌, ◌++◌, append_assoc}
use mathlib.Core.Path.{◌≡◌, refl}
use Prim.Native.Nat.{ℕ, ◌+◌, ◌*◌, ◌≤◌, ◌<◌}
use lib.ListN.{length, drop, get_or, set, take}
use Rattle.columns.proofs.Entries.{next_job, no_job_left}
use Rattle.columns.specs.Columns.{Column, jobs_at}
use Rattle.listing.proofs.RowsStored.{two_stored}
use Rattle.listing.specs.Texts.{rows_lines, row_fields}
use Rattle.rules.specs.Costs.{rounded_up}
use Rattle.rules.specs.Listing.{finish, letter_o, order_line}
use Rattle.rules.specs.Lists.{joined}
use Rattle.rules.specs.Plan.{runs_from, runs_of}
use Rattle.rules.specs.TableText.{line_text}
use Rattle.rules.specs.declared.Job.{Job}

-- the O lines of the jobs from an index of the places on, run behind so many cycles
abbrev pub orders_left : List Job → List ℕ → ℕ → ℕ → ℕ → ℕ → List ℕ
orders_left js places clock mhz run i = joined (order_line clock mhz) (runs_from run (jobs_at js (drop i places)))

-- the finish behind so many cycles
abbrev pub finish_behind : ℕ → ℕ → ℕ → ℕ
finish_behind clock mhz run = clock + rounded_up (run * 1000) mhz

pub all_orders_left : (js : List Job) (places : List ℕ) (clock mhz : ℕ)
    → orders_left js places clock mhz 0 0 ≡ joined (order_line clock mhz) (runs_of (jobs_at js places))
unfolding runs_of
all_orders_left js places clock mhz = refl

module _ (js : List Job) (number cycles : List ℕ) (number_of_lem : Column (λ j. j.number) js number)
    (cycles-of : Column (λ j. j.cycles) js cycles) (places : List ℕ) (clock mhz run i : ℕ) where
  abbrev place : ℕ
  place = get_or places i 0

  abbrev run_by_end : ℕ
  run_by_end = run + get_or cycles place 0

  next_order : i < length places → orders_left js places clock mhz run i
      ≡ line_text letter_o (get_or number place 0 ∷ finish_behind clock mhz run_by_end ∷ [])
      ++ orders_left js places clock mhz run_by_end (i + 1)
  unfolding runs_from order_line finish
  next_order h = rw (next_job js places i h, number_of_lem place, cycles-of place)

  pub no_order_left : length places ≤ i → orders_left js places clock mhz run i ≡ []
  unfolding runs_from
  no_order_left h = rw (no_job_left js places i h)

  pub order_stored : (rows : List ℕ) (filled : ℕ) → i < length places → filled ≡ i * row_fields → filled + row_fields ≤ length rows
      → let stored = set (set rows filled (get_or number place 0)) (filled + 1) (finish_behind clock mhz run_by_end) in
      rows_lines letter_o (take (filled + row_fields) stored) ++ orders_left js places clock mhz run_by_end (i + 1)
      ≡ rows_lines letter_o (take filled rows) ++ orders_left js places clock mhz run i
  order_stored rows filled h e room =
      let more = two_stored letter_o i filled rows (get_or number place 0) (finish_behind clock mhz run_by_end) e room in
      rw (more, next_order h, append_assoc)
