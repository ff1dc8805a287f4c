-- The X lines that are left from a place of the table on: those behind the place, and before them the line of the job there
-- if it is unplanned. So the two numbers stored for that job take its line from those left to those stored. Assumes nothing.
use mathlib.Core.List.{List, [], ◌∷◌, ◌++◌, append_assoc, map}
use mathlib.Core.Path.{◌≡◌}
use Prim.Native.Nat.{ℕ, ◌+◌, ◌*◌, ◌≤◌, ◌<◌}
use native.Mathlib.Numerals.{add-one}
use borrow.Author.Tests.{eq-eqb, ne_eqb}
use lib.ListN.{length, drop, drop_of_length-le, get_or, set, take}
use lib.Seq.{drop-cons}
use Rattle.columns.specs.Columns.{Column}
use Rattle.listing.proofs.RowsStored.{two_stored}
use Rattle.listing.specs.Texts.{rows_lines, row_fields}
use Rattle.rules.specs.Listing.{fate_line, letter_x, unplanned}
use Rattle.rules.specs.Lists.{joined, keep}
use Rattle.rules.specs.Plan.{fate_planned}
use Rattle.rules.specs.TableText.{line_text, no_job}
use Rattle.rules.specs.declared.Job.{Job}

-- the X lines of the jobs from a place on
abbrev pub fates_left : List Job → (Job → ℕ) → ℕ → List ℕ
fates_left js fate i = joined fate_line (keep unplanned (map (λ j. record { job = j; fate = fate j }) (drop i js)))

-- at each place of a job its fate
abbrev pub FatesAt : List Job → (Job → ℕ) → List ℕ → Type 0
FatesAt js fate fates = (i : ℕ) → i < length js → get_or fates i 0 ≡ fate (get_or js i no_job)

module _ (js : List Job) (fate : Job → ℕ) (number fates : List ℕ) (number_of_lem : Column (λ j. j.number) js number)
    (fates_at : FatesAt js fate fates) (i : ℕ) where
  next_unplanned : i < length js → (get_or fates i 0 ≡ fate_planned → ⊥)
      → fates_left js fate i ≡ line_text letter_x (get_or number i 0 ∷ get_or fates i 0 ∷ []) ++ fates_left js fate (i + 1)
  unfolding unplanned fate_line
  next_unplanned h other =
      rw (drop-cons js i no_job h, ← fates_at i h, ne_eqb (get_or fates i 0) fate_planned other, number_of_lem i, add-one i)

  pub next_planned : i < length js → get_or fates i 0 ≡ fate_planned → fates_left js fate i ≡ fates_left js fate (i + 1)
  unfolding unplanned
  next_planned h planned =
      rw (drop-cons js i no_job h, ← fates_at i h, eq-eqb (get_or fates i 0) fate_planned planned, add-one i)

  pub no_fate_left : length js ≤ i → fates_left js fate i ≡ []
  no_fate_left h = rw (drop_of_length-le js h)

  pub fate_stored : (rows : List ℕ) (count filled : ℕ) → i < length js → filled ≡ count * row_fields
      → filled + row_fields ≤ length rows → (get_or fates i 0 ≡ fate_planned → ⊥)
      → rows_lines letter_x (take (filled + row_fields) (set (set rows filled (get_or number i 0)) (filled + 1) (get_or fates i 0)))
      ++ fates_left js fate (i + 1)
      ≡ rows_lines letter_x (take filled rows) ++ fates_left js fate i
  fate_stored rows count filled h e room other =
      rw (two_stored letter_x count filled rows (get_or number i 0) (get_or fates i 0) e room, next_unplanned h other, append_assoc)
