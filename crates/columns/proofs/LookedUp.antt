-- The place found is that of the first job of the number, since numbers rise and no job before it has as high a number; and
-- where the number stands nowhere, there is no such job. Assumes nothing.
use mathlib.Core.List.{List, [], ◌∷◌}
use mathlib.Core.Option.{Option, none, some}
use Rattle.std.specs.Prelude.{None, Some, Option as Answer}
use mathlib.Core.Path.{◌≡◌, refl, sym, ◌∙◌}
use Prim.Native.Nat.{ℕ, zero, suc, ◌≤◌, ◌<◌}
use native.Mathlib.Omega.{arith}
use borrow.Author.Tests.{eq-eqb, ne_eqb}
use lib.Dec.{eqb}
use lib.ListN.{get_or, length, take}
use Rattle.std.proofs.lemmas.List.{get_or-take, length-take-le}
use Rattle.columns.specs.Columns.{Column}
use Rattle.columns.specs.LookUp.{Rises, StandsAt}
use Rattle.laws.proofs.Numbered.{later_greater}
use Rattle.rules.specs.Lists.{Rising, find}
use Rattle.rules.specs.TableText.{no_job}
use Rattle.rules.specs.declared.Job.{Job}

-- the job found
abbrev pub found_in : List Job → Answer ℕ → Option Job
found_in js (Some place) = some (get_or js place no_job)
found_in js None = none

module _ (number : ℕ) where
  pub first_there : (js : List Job) (p : ℕ) → p < length js → (get_or js p no_job).number ≡ number
      → ((q : ℕ) → q < p → (get_or js q no_job).number ≡ number → ⊥)
      → some (get_or js p no_job) ≡ find (λ j. eqb j.number number) js
  first_there [] p h e none_before = absurd (omega arith)
  first_there (j ∷ js) zero h e none_before = rw (eq-eqb j.number number e)
  first_there (j ∷ js) (suc p) h e none_before =
      rw (ne_eqb j.number number (none_before 0 (omega arith)))
      (first_there js p (omega arith) e (λ q l. none_before (suc q) (omega arith)))

  pub nobody_there : (js : List Job) → ((q : ℕ) → q < length js → (get_or js q no_job).number ≡ number → ⊥)
      → none ≡ find (λ j. eqb j.number number) js
  nobody_there [] nowhere = refl
  nobody_there (j ∷ js) nowhere =
      rw (ne_eqb j.number number (nowhere 0 (omega arith)))
      (nobody_there js (λ q l. nowhere (suc q) (omega arith)))

  module _ (js : List Job) (numbers : List ℕ) (rising : Rising (λ j. j.number) js)
      (number_of_lem : Column (λ j. j.number) js numbers) (fits : length js ≤ length numbers) where
    abbrev first_numbers : List ℕ
    first_numbers = take (length js) numbers

    as_many : length first_numbers ≡ length js
    as_many = length-take-le (length js) numbers fits

    number_there : (q : ℕ) → q < length js → get_or first_numbers q 0 ≡ (get_or js q no_job).number
    number_there q h = get_or-take (length js) numbers q 0 h ∙ number_of_lem q

    first_rise : Rises first_numbers
    first_rise p q l h =
        let inside : q < length js = omega (arith, as_many) in
        let before : p < length js = omega arith in
        rw (number_there p before, number_there q inside) (later_greater (λ j. j.number) no_job js rising p q l inside)

    -- the rules' search of the jobs, for the place found in the column of their numbers
    pub found_job : (r : Answer ℕ) → StandsAt (take (length js) numbers) number r
        → found_in js r ≡ find (λ j. eqb j.number number) js
    found_job (Some place) (h, e) =
        let inside : place < length js = omega (arith, as_many) in
        let here : (get_or js place no_job).number ≡ number = sym (number_there place inside) ∙ e in
        first_there js place inside here
        (λ q l f. omega (arith, later_greater (λ j. j.number) no_job js rising q place l inside))
    found_job None nowhere =
        nobody_there js (λ q l e. nowhere first_rise q (rw as_many l) (number_there q l ∙ e))
