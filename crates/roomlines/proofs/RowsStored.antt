-- The lines that are left from a turn on: that turn's line, and those of the turns behind it. So the four numbers stored for a
-- turn take its line from those left to those stored. Assumes nothing.
use mathlib.Core.List.{List, [], ◌∷◌, ◌++◌, append_assoc}
use mathlib.Core.Path.{◌≡◌, refl}
use Prim.Native.Nat.{ℕ, suc, ◌+◌, ◌*◌, ◌≤◌, ◌<◌}
use native.Mathlib.Numerals.{add-one}
use native.Mathlib.Omega.{arith}
use lib.ListN.{drop, drop_of_length-le, get_or, length, set, take}
use lib.Seq.{drop-cons}
use Rattle.digits.proofs.LinesOfRows.{line_stored, no_line_from}
use Rattle.digits.specs.Rows.{tab_rows}
use Rattle.roomlines.specs.Promises.{RowsBy, no_turn, row_fields}
use Rattle.rules.specs.Rooms.{TurnRoom, room_line, room_lines_from, tab_line}

pub no_number_no_line : (numbers : List ℕ) → tab_rows row_fields (take 0 numbers) ≡ []
unfolding tab_rows
no_number_no_line numbers = no_line_from tab_line row_fields (omega arith) [] 0 (omega arith)

-- four numbers stored behind whole rows are one line more behind theirs
four_stored : (rows filled : ℕ) (numbers : List ℕ) (a b c d : ℕ) → filled ≡ rows * row_fields → filled + row_fields ≤ length numbers
    → tab_rows row_fields
    (take (filled + row_fields) (set (set (set (set numbers filled a) (filled + 1) b) (filled + 2) c) (filled + 3) d))
    ≡ tab_rows row_fields (take filled numbers) ++ tab_line (a ∷ b ∷ c ∷ d ∷ [])
unfolding tab_rows
four_stored rows filled numbers a b c d e room =
    rw (add-one filled, add_two filled, add_three filled)
    (line_stored tab_line row_fields (omega arith) rows filled numbers (a ∷ b ∷ c ∷ d ∷ []) e refl room)
  where
    add_two : (n : ℕ) → n + 2 ≡ suc (suc n)
    add_two n = omega arith

    add_three : (n : ℕ) → n + 3 ≡ suc (suc (suc n))
    add_three n = omega arith

-- the lines of the turns behind the first so many
abbrev pub lines_left : List TurnRoom → ℕ → List ℕ
lines_left rows turn = room_lines_from (turn + 1) (drop turn rows)

module _ (rows : List TurnRoom) (turn : ℕ) where
  pub no_line_left : length rows ≤ turn → lines_left rows turn ≡ []
  unfolding room_lines_from
  no_line_left h = rw (drop_of_length-le rows h)

  module _ (order rooms number fates : List ℕ) (by : RowsBy rows order rooms number fates) (h : turn < length rows) where
    abbrev place : ℕ
    place = get_or order turn 0

    next_line : lines_left rows turn
        ≡ tab_line ((turn + 1) ∷ get_or number place 0 ∷ get_or rooms turn 0 ∷ get_or fates place 0 ∷ []) ++ lines_left rows (turn + 1)
    unfolding room_lines_from room_line
    next_line =
        rw (drop-cons rows turn no_turn h, by.job_numbers turn h, by.rooms_left turn h, by.own-fates turn h, add-one turn, add-one (suc turn))

    pub turn_stored : (numbers : List ℕ) (filled : ℕ) → filled ≡ turn * row_fields → filled + row_fields ≤ length numbers
        → let one = set numbers filled (turn + 1) in
        let two = set one (filled + 1) (get_or number place 0) in
        let three = set two (filled + 2) (get_or rooms turn 0) in
        let four = set three (filled + 3) (get_or fates place 0) in
        tab_rows row_fields (take (filled + row_fields) four) ++ lines_left rows (turn + 1)
        ≡ tab_rows row_fields (take filled numbers) ++ lines_left rows turn
    turn_stored numbers filled e room =
        let more = four_stored turn filled numbers (turn + 1) (get_or number place 0) (get_or rooms turn 0) (get_or fates place 0) e room in
        rw (more, next_line, append_assoc)
