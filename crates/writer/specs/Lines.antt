-- The lines of a table's text: which record stands on each, what is written for it, and what is known once the check is done.
use Rattle.std.specs.Prelude.{List, ◌∷◌, ◌≡◌, ℕ, suc, ◌≤◌, ◌<◌, length, drop, get_or, take}
use Rattle.grammar.specs.Longest.{most_bytes}
use Rattle.rules.specs.TableText.{Record, line_text, lined, most_holds, most_jobs, most_speeds, no_hold, no_job, no_speed, record_text, records_of, text_of, most_fields}
use Rattle.checks.specs.declared.Spot.{Spot}
use Rattle.rules.specs.declared.Table.{Table}
use Rattle.writer.specs.declared.Row.{Row}

-- no count is beyond the places that there are
pub record RecordsPlaced (t : Table) : Type 0 where
  pub speeds : t.speed_count ≤ length t.speeds
  pub jobs : t.job_count ≤ length t.jobs
  pub holds : t.hold_count ≤ length t.holds

-- what is known of a table whose check is done: no count is beyond its places, and its text is at most the longest
pub record Checked (t : Table) : Type 0 where
  pub placed : RecordsPlaced t
  pub speeds : t.speed_count ≤ most_speeds
  pub jobs : t.job_count ≤ most_jobs
  pub holds : t.hold_count ≤ most_holds
  pub bytes : length (text_of (records_of t)) ≤ most_bytes

-- no more numbers than there are places for
pub record Filled (row : Row) : Type 0 where
  pub few : row.count ≤ most_fields
  pub places : length row.numbers ≡ most_fields

-- the line of a row
abbrev pub row_text : Row → List ℕ
row_text row = line_text row.letter (take row.count row.numbers)

-- the record that a table holds at a spot
abbrev pub record_on : Table → Spot → Record
record_on t Spot.Clock = Record.T t.clock t.budget
record_on t (Spot.Speed n) = Record.F (get_or t.speeds n no_speed)
record_on t (Spot.Job n) = Record.J (get_or t.jobs n no_job)
record_on t (Spot.Hold n) = Record.H (get_or t.holds n no_hold)

-- its place is within the table's count of that letter
abbrev pub Within : Table → Spot → Type 0
Within t Spot.Clock = 0 < 1
Within t (Spot.Speed n) = n < t.speed_count
Within t (Spot.Job n) = n < t.job_count
Within t (Spot.Hold n) = n < t.hold_count

-- x stands at place i of the list
abbrev pub At : {A : Type 0} → List A → ℕ → A → Type 0
At xs i x = drop i xs ≡ x ∷ drop (suc i) xs

-- the record of a spot stands at place i of a table's lines, and within its count
pub record SpotAt (t : Table) (i : ℕ) (spot : Spot) : Type 0 where
  pub within : Within t spot
  pub there : At (lined (records_of t)) i (record_on t spot)

-- a row whose line is that of the record at place i of a table's lines
pub record RowAt (t : Table) (i : ℕ) (row : Row) : Type 0 where
  pub filled : Filled row
  pub stands : Record
  pub there : At (lined (records_of t)) i stands
  pub text : row_text row ≡ record_text stands
