-- The text of a plan's lines, from the numbers of these.
use Rattle.std.specs.Prelude.{List, [], ◌∷◌, ◌++◌, ℕ, ◌*◌, ◌≤◌, length}
use Rattle.digits.specs.Rows.{row_lines}
use Rattle.listing.specs.declared.PlanLines.{PlanLines}
use Rattle.rules.specs.Listing.{letter_o, letter_p, letter_x}
use Rattle.rules.specs.TableText.{line_text, most_jobs}

-- "O job finish", "X job fate": two numbers a line
abbrev pub row_fields : ℕ
row_fields = 2

-- one line for each job
abbrev pub most_row_numbers : ℕ
most_row_numbers = row_fields * most_jobs

-- the lines of numbers that stand one after the other
abbrev pub rows_lines : ℕ → List ℕ → List ℕ
rows_lines letter numbers = row_lines letter row_fields numbers

-- "P speed energy count; O job finish ..; X job fate"
unfoldable pub plan_text : PlanLines → List ℕ
plan_text l =
    line_text letter_p (l.speed ∷ l.energy ∷ l.count ∷ [])
    ++ (rows_lines letter_o l.orders.now ++ rows_lines letter_x l.others.now)

-- no more rows than there are jobs
pub record FewRows (l : PlanLines) : Type 0 where
  pub orders : length l.orders.now ≤ most_row_numbers
  pub others : length l.others.now ≤ most_row_numbers
