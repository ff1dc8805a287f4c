use mathlib.Core.List.{List, ◌++◌}
use mathlib.Core.Path.{◌≡◌}
use Prim.Native.Nat.{ℕ, ◌*◌, ◌/◌, ◌≤◌}
use lib.ListN.{length, take}
use Rattle.columns.specs.Columns.{Column}
use Rattle.listing.proofs.Unplanned.{FatesAt, fates_left}
use Rattle.listing.specs.Texts.{rows_lines, row_fields}
use Rattle.rules.specs.Listing.{letter_x}
use Rattle.rules.specs.declared.Job.{Job}
use Rattle.listing.proofs.fate_rows.Given as goal

abbrev pub invariant-loop-place : goal.invariant-loop-place
invariant-loop-place l = record {
  few : l.filled ≤ l.place * row_fields;
  counted : l.filled ≡ l.filled / row_fields * row_fields;
  so_far : (js : List Job) (fate : Job → ℕ) → length js ≡ length l.fates → Column (λ j. j.number) js l.number
      → FatesAt js fate l.fates
      → rows_lines letter_x (take l.filled l.rows) ++ fates_left js fate l.place ≡ fates_left js fate 0;
}
