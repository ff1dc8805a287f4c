-- The lines of rows, one row at a time, whatever a row's line is: the first row's line stands before those of the rows behind it,
-- a row behind the last adds its line behind theirs, and where less than a row is left there is no line. Assumes nothing.
use mathlib.Core.List.{List, [], ◌∷◌, ◌++◌, append_assoc, append-nil}
use mathlib.Core.Path.{◌≡◌, ◌∙◌}
use Prim.Native.Nat.{ℕ, zero, suc, ◌+◌, ◌-◌, ◌*◌, ◌/◌, ◌≤◌, ◌<◌}
use native.Mathlib.Nat.{div-eq_of_eq-mul_left, div-eq_of_lt, div-eq-sub-div, suc-mul}
use native.Mathlib.Numerals.{add-one}
use native.Mathlib.Omega.{arith}
use lib.ListN.{length, drop, length-append, length-drop, take}
use lib.Seq.{drop-append-le, drop_at, length-take-le, sets, sets-eq, take-append-le, take_at, take-length}
use Rattle.digits.specs.Rows.{rows_of}
use Rattle.rules.specs.Lists.{joined}

-- the lines of all whole rows
abbrev pub lines_of_rows : (List ℕ → List ℕ) → ℕ → List ℕ → List ℕ
lines_of_rows line fields ns = joined line (rows_of fields (length ns / fields) ns)

module _ (line : List ℕ → List ℕ) (fields : ℕ) (some_field : 1 ≤ fields) where
  pub no_row_left : (ns : List ℕ) → length ns < fields → lines_of_rows line fields ns ≡ []
  unfolding rows_of
  no_row_left ns h = rw (div-eq_of_lt h)

  first_row : (ns : List ℕ) → fields ≤ length ns
      → lines_of_rows line fields ns ≡ line (take fields ns) ++ lines_of_rows line fields (drop fields ns)
  unfolding rows_of
  first_row ns h = rw (div-eq-sub-div some_field h, ← length-drop fields ns, add-one (length (drop fields ns) / fields))

  -- a row, and those behind it
  pub row_first : (row rest : List ℕ) → length row ≡ fields
      → lines_of_rows line fields (row ++ rest) ≡ line row ++ lines_of_rows line fields rest
  row_first row rest long =
      first_row (row ++ rest) (omega (arith, length-append row rest))
      ∙ rw (take_at row rest fields long, drop_at row rest fields long)

  -- less than a row from a place on
  pub no_line_from : (ns : List ℕ) (i : ℕ) → length ns - i < fields → lines_of_rows line fields (drop i ns) ≡ []
  no_line_from ns i h = no_row_left (drop i ns) (omega (arith, length-drop i ns))

  last_row : (rows : ℕ) (ns row : List ℕ) → length ns ≡ rows * fields → length row ≡ fields
      → joined line (rows_of fields (suc rows) (ns ++ row)) ≡ joined line (rows_of fields rows ns) ++ line row
  unfolding rows_of
  last_row zero [] row e long = rw (← long, take-length row) (append-nil (line row))
  last_row zero (n ∷ ns) row e long = absurd (omega arith)
  last_row (suc rows) ns row e long =
      let there : fields ≤ length ns = omega (arith, suc-mul rows fields) in
      let behind = last_row rows (drop fields ns) row (omega (arith, length-drop fields ns, suc-mul rows fields)) long in
      rw (take-append-le fields ns row there, drop-append-le fields ns row there) (rw (behind, append_assoc))

  -- a row behind so many whole ones
  row_behind : (rows : ℕ) (ns row : List ℕ) → length ns ≡ rows * fields → length row ≡ fields
      → lines_of_rows line fields (ns ++ row) ≡ lines_of_rows line fields ns ++ line row
  row_behind rows ns row e long =
      let more : length (ns ++ row) ≡ suc rows * fields = omega (arith, length-append ns row, suc-mul rows fields) in
      rw (div-eq_of_eq-mul_left some_field more, div-eq_of_eq-mul_left some_field e) (last_row rows ns row e long)

  -- a row stored number after number behind so many whole ones
  pub line_stored : (rows at : ℕ) (ns row : List ℕ) → at ≡ rows * fields → length row ≡ fields → at + fields ≤ length ns
      → lines_of_rows line fields (take (at + fields) (sets ns at row)) ≡ lines_of_rows line fields (take at ns) ++ line row
  line_stored rows at ns row e long room =
      let before : length (take at ns) ≡ at = length-take-le at ns (omega arith) in
      let whole : length (take at ns ++ row) ≡ at + fields = omega (arith, length-append (take at ns) row) in
      rw (sets-eq row ns at (omega arith), take_at (take at ns ++ row) (drop (at + length row) ns) (at + fields) whole)
      (row_behind rows (take at ns) row (before ∙ e) long)
