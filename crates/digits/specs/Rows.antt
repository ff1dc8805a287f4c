-- Lines of one letter, or of none, made of numbers that stand one after the other, so many to a line.
use Rattle.std.specs.Prelude.{List, Option, Some, None, [], ◌∷◌, ℕ, zero, suc, ◌/◌, ◌^◌, length, take, drop}
use Rattle.rules.specs.Lists.{joined}
use Rattle.rules.specs.Rooms.{tab_line}
use Rattle.rules.specs.TableText.{line_text}

-- More numbers than any line has, or any lines of one letter have together.
abbrev pub most_numbers : ℕ
most_numbers = 2 ^ 32

-- the first so many rows, of so many numbers each
unfoldable pub rows_of : ℕ → ℕ → List ℕ → List (List ℕ)
rows_of fields zero numbers = []
rows_of fields (suc rows) numbers = take fields numbers ∷ rows_of fields rows (drop fields numbers)

-- the lines of all whole rows
unfoldable pub row_lines : ℕ → ℕ → List ℕ → List ℕ
row_lines letter fields numbers = joined (line_text letter) (rows_of fields (length numbers / fields) numbers)

-- the tab lines of all whole rows
unfoldable pub tab_rows : ℕ → List ℕ → List ℕ
tab_rows fields numbers = joined tab_line (rows_of fields (length numbers / fields) numbers)

-- the lines of a letter, or the tab lines where there is none
abbrev pub line_of : Option ℕ → List ℕ → List ℕ
line_of (Some letter) = line_text letter
line_of None = tab_line

abbrev pub rows_text : Option ℕ → ℕ → List ℕ → List ℕ
rows_text (Some letter) = row_lines letter
rows_text None = tab_rows
