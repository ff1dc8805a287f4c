-- The lines of one letter, of rows that stand one after the other, and their tab lines. A row has some number, so that its two
-- other bytes and the 21 at most of each number make at most 23 a number, and its tab line is the line without its letter and the
-- tab behind it. Assumes nothing.
use mathlib.Core.List.{List, [], ◌++◌}
use mathlib.Core.Path.{◌≡◌, ap, refl}
use Prim.Native.Nat.{ℕ, zero, suc, ◌+◌, ◌-◌, ◌*◌, ◌/◌, ◌≤◌, ◌<◌}
use native.Mathlib.Nat.{div-mul-le_self, suc-mul}
use native.Mathlib.Omega.{arith}
use lib.ListN.{length, drop, length-append, length-drop, take}
use lib.Seq.{length-take-le, sets}
use Rattle.std.specs.Prelude.{None, Option, Some}
use Rattle.digits.proofs.LinesOfRows.{line_stored, lines_of_rows, no_line_from}
use Rattle.digits.proofs.TabLine.{line_of_tab_line}
use Rattle.digits.specs.Rows.{line_of, row_lines, rows_of, rows_text, tab_rows}
use Rattle.grammar.proofs.LineText.{length_line}
use Rattle.rules.specs.Lists.{joined}
use Rattle.rules.specs.Rooms.{tab_line}
use Rattle.rules.specs.TableText.{line_text}

-- the lines of a letter, or the tab lines, by the line of one row
pub rows_are : (letter : Option ℕ) (fields : ℕ) (ns : List ℕ) → rows_text letter fields ns ≡ lines_of_rows (line_of letter) fields ns
unfolding row_lines tab_rows
rows_are (Some letter) fields ns = refl
rows_are None fields ns = refl

module _ (letter fields : ℕ) (some_field : 1 ≤ fields) where
  -- less than a row from a place on
  pub no_row_from : (ns : List ℕ) (i : ℕ) → length ns - i < fields → row_lines letter fields (drop i ns) ≡ []
  unfolding row_lines
  no_row_from = no_line_from (line_text letter) fields some_field

  -- a row stored number after number behind so many whole ones
  pub row_stored : (rows at : ℕ) (ns row : List ℕ) → at ≡ rows * fields → length row ≡ fields → at + fields ≤ length ns
      → row_lines letter fields (take (at + fields) (sets ns at row)) ≡ row_lines letter fields (take at ns) ++ line_text letter row
  unfolding row_lines
  row_stored = line_stored (line_text letter) fields some_field

  rows-length : (rows : ℕ) (ns : List ℕ) → rows * fields ≤ length ns
      → length (joined (line_text letter) (rows_of fields rows ns)) ≤ 23 * length ns
  unfolding rows_of
  rows-length zero ns h = omega arith
  rows-length (suc rows) ns h =
      let row = take fields ns in
      let rest = rows_of fields rows (drop fields ns) in
      omega (
        arith,
        length-append (line_text letter row) (joined (line_text letter) rest),
        length_line letter row,
        length-take-le fields ns (omega (arith, suc-mul rows fields)),
        rows-length rows (drop fields ns) (omega (arith, length-drop fields ns, suc-mul rows fields)),
        length-drop fields ns,
        suc-mul rows fields,
      )

  pub row_lines_length : (ns : List ℕ) → length (row_lines letter fields ns) ≤ 23 * length ns
  unfolding row_lines
  row_lines_length ns = rows-length (length ns / fields) ns (div-mul-le_self (length ns) fields)

  tab_lines_shorter : (rows : ℕ) (ns : List ℕ) → rows * fields ≤ length ns
      → length (joined (line_text letter) (rows_of fields rows ns)) ≡ 2 * rows + length (joined tab_line (rows_of fields rows ns))
  unfolding rows_of
  tab_lines_shorter zero ns h = omega arith
  tab_lines_shorter (suc rows) ns h =
      let row = take fields ns in
      let rest = rows_of fields rows (drop fields ns) in
      let long = length-take-le fields ns (omega (arith, suc-mul rows fields)) in
      omega (
        arith,
        length-append (line_text letter row) (joined (line_text letter) rest),
        length-append (tab_line row) (joined tab_line rest),
        ap length (line_of_tab_line letter row (omega arith)),
        tab_lines_shorter rows (drop fields ns) (omega (arith, length-drop fields ns, suc-mul rows fields)),
      )

  -- each tab line is two bytes shorter than the line of a letter
  pub tab_rows_shorter : (ns : List ℕ) → length (row_lines letter fields ns) ≡ 2 * (length ns / fields) + length (tab_rows fields ns)
  unfolding row_lines tab_rows
  tab_rows_shorter ns = tab_lines_shorter (length ns / fields) ns (div-mul-le_self (length ns) fields)
