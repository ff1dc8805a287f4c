-- Two numbers stored behind whole rows are one line more behind theirs. Assumes nothing.
use mathlib.Core.List.{List, [], ◌∷◌, ◌++◌}
use mathlib.Core.Path.{◌≡◌, refl}
use Prim.Native.Nat.{ℕ, ◌+◌, ◌*◌, ◌≤◌}
use native.Mathlib.Numerals.{add-one}
use native.Mathlib.Omega.{arith}
use lib.ListN.{length, set, take}
use Rattle.digits.proofs.Rows.{no_row_from, row_stored}
use Rattle.listing.specs.Texts.{rows_lines, row_fields}
use Rattle.rules.specs.TableText.{line_text}

module _ (letter : ℕ) where
  pub no_row_no_line : (rows : List ℕ) → rows_lines letter (take 0 rows) ≡ []
  no_row_no_line rows = no_row_from letter row_fields (omega arith) [] 0 (omega arith)

  pub two_stored : (count filled : ℕ) (rows : List ℕ) (x y : ℕ) → filled ≡ count * row_fields → filled + row_fields ≤ length rows
      → rows_lines letter (take (filled + row_fields) (set (set rows filled x) (filled + 1) y))
      ≡ rows_lines letter (take filled rows) ++ line_text letter (x ∷ y ∷ [])
  two_stored count filled rows x y e room =
      rw (add-one filled) (row_stored letter row_fields (omega arith) count filled rows (x ∷ y ∷ []) e refl room)
