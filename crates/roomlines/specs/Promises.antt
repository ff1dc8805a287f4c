-- What the functions of the rooms' lines ask and promise.
use Rattle.std.specs.Prelude.{List, ◌≡◌, ℕ, ◌*◌, ◌≤◌, ◌<◌, get_or, length, take}
use Rattle.digits.specs.Rows.{tab_rows}
use Rattle.rules.specs.Rooms.{TurnRoom, room_lines_from}
use Rattle.rules.specs.TableText.{most_jobs, no_job}

-- "the number of each turn, its job, the room after it and the fate that it gave": four numbers a line
abbrev pub row_fields : ℕ
row_fields = 4

-- one line for each turn
abbrev pub most_row_numbers : ℕ
most_row_numbers = row_fields * most_jobs

-- what stands beyond the last turn
abbrev pub no_turn : TurnRoom
no_turn = record { job = no_job; room = 0; fate = 0 }

-- Places of jobs, no more than there are places.
pub record TurnPlaces (order : List ℕ) : Type 0 where
  pub few : length order ≤ most_jobs
  pub below : (k : ℕ) → k < length order → get_or order k 0 < most_jobs

-- The turns' rows, by the places of their jobs in the order of turns: the number of its job and the fate of its own turn stand in
-- the columns, and the room after it in the order of turns.
pub record RowsBy (rows : List TurnRoom) (order rooms number fates : List ℕ) : Type 0 where
  pub job_numbers : (k : ℕ) → k < length rows → get_or number (get_or order k 0) 0 ≡ (get_or rows k no_turn).job.number
  pub rooms_left : (k : ℕ) → k < length rows → get_or rooms k 0 ≡ (get_or rows k no_turn).room
  pub own-fates : (k : ℕ) → k < length rows → get_or fates (get_or order k 0) 0 ≡ (get_or rows k no_turn).fate

-- The first so many numbers are those of the lines of all rows that stand so.
pub record RoomRows (order rooms number fates numbers : List ℕ) (filled : ℕ) : Type 0 where
  pub few : filled ≤ most_row_numbers
  pub lines : (rows : List TurnRoom) → length rows ≡ length order → RowsBy rows order rooms number fates
      → tab_rows row_fields (take filled numbers) ≡ room_lines_from 1 rows
