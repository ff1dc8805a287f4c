-- What the functions of the listing ask and promise.
use Rattle.std.specs.Prelude.{List, map, ◌≡◌, ℕ, ◌≤◌, ◌<◌, get_or, length, take}
use Rattle.columns.specs.Columns.{Column, jobs_at}
use Rattle.entries.specs.Promises.{Summable}
use Rattle.rules.specs.Lists.{joined, keep}
use Rattle.rules.specs.Listing.{fate_line, letter_o, letter_x, order_line, unplanned}
use Rattle.rules.specs.Plan.{runs_of}
use Rattle.rules.specs.TableText.{most_mhz, most_time, no_job}
use Rattle.listing.specs.Texts.{rows_lines, most_row_numbers}
use Rattle.rules.specs.declared.Job.{Job}

-- Places, cycles, a clock and a speed in their ranges.
pub record Finishable (places cycles : List ℕ) (clock mhz : ℕ) : Type 0 where
  pub summable : Summable places cycles
  pub clock_small : clock ≤ most_time
  pub some_speed : 1 ≤ mhz
  pub mhz_small : mhz ≤ most_mhz

-- "O job finish .., in plan order"
pub record OrderRows (places number cycles : List ℕ) (clock mhz : ℕ) (rows : List ℕ) (filled : ℕ) : Type 0 where
  pub few : filled ≤ most_row_numbers
  pub lines : (js : List Job) → Column (λ j. j.number) js number → Column (λ j. j.cycles) js cycles
      → rows_lines letter_o (take filled rows) ≡ joined (order_line clock mhz) (runs_of (jobs_at js places))

-- "X job fate, for each unplanned job in table order"
pub record FateRows (number fates rows : List ℕ) (filled : ℕ) : Type 0 where
  pub few : filled ≤ most_row_numbers
  pub lines : (js : List Job) (fate : Job → ℕ) → length js ≡ length fates → Column (λ j. j.number) js number
      → ((i : ℕ) → i < length js → get_or fates i 0 ≡ fate (get_or js i no_job))
      → rows_lines letter_x (take filled rows) ≡ joined fate_line (keep unplanned (map (λ j. record { job = j; fate = fate j }) js))
