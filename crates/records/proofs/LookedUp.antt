-- Refusals 6 and 7 of an H line from the one job that it names: the numbers rise, so that no other job has that number.
-- The place found in the column of numbers is that job's. Assumes nothing.
use mathlib.Core.Bool.{Bool, true, false, or-false}
use mathlib.Core.List.{List, [], ◌∷◌}
use Rattle.std.proofs.lemmas.Bool.Decides.{nat_tests}
use Rattle.std.specs.List.Sorted.{IsBinarySearchResult, IsNonDecreasingBy, IsSearchInRange}
use Rattle.std.specs.Ordering.{nat_cmp, ordering_index}
use Rattle.std.specs.Prelude.{None, Some, Result, Ok, Err, Option as Answer}
use Rattle.std.specs.Result.{result_ok}
use mathlib.Core.Path.{◌≡◌, refl, ap}
use Prim.Native.Nat.{ℕ, ◌≤◌, ◌<◌}
use native.Mathlib.Omega.{arith}
use borrow.Author.Tests.{ne_eqb, eqb-true}
use lib.Dec.{eqb, ltb}
use Rattle.std.proofs.Common.{ltb-true, ltb-false}
use Rattle.std.proofs.lemmas.List.{get_or_default}
use Rattle.laws.proofs.Choices.{split}
use lib.ListN.{length, get_or}
use Rattle.columns.proofs.LookedUp.{first_there, nobody_there}
use Rattle.laws.proofs.Numbered.{later_greater, rising_others}
use Rattle.rules.specs.Lists.{Rising, one_element, ◌below◌, any}
use Rattle.rules.specs.Refusals.{asks_own, is_holder}
use Rattle.rules.specs.TableText.{no_job}
use Rattle.rules.specs.declared.Hold.{Hold}
use Rattle.rules.specs.declared.Job.{Job}
use Rattle.records.specs.Faults.{holder_fault, looked_up, requested}
use Rattle.records.proofs.Faults.{holder-fault}

-- in a rising list each later number is above the first
later_above : (x y : Job) (ys : List Job) → Rising (λ (j : Job). j.number) (x ∷ y ∷ ys) → Rising (λ (j : Job). j.number) (x ∷ ys)
later_above x y [] r = one_element
later_above x y (z ∷ ys) (h below (k below r)) = let l : x.number < z.number = omega arith in l below r

none-asks : (h : Hold) (x : Job) (xs : List Job) → Rising (λ (j : Job). j.number) (x ∷ xs) → x.number ≡ h.holder → any (asks_own h) xs ≡ false
unfolding asks_own is_holder
none-asks h x [] r e = refl
none-asks h x (y ∷ ys) (l below r) e =
    rw (ne_eqb y.number h.holder (λ q. omega arith)) (none-asks h x ys (later_above x y ys (l below r)) e)

by_first : (h : Hold) (x : Job) (xs : List Job) (t : Bool) → eqb x.number h.holder ≡ t → Rising (λ (j : Job). j.number) (x ∷ xs)
    → holder-fault xs h ≡ holder_fault (looked_up xs h.holder) h
    → holder-fault (x ∷ xs) h ≡ holder_fault (looked_up (x ∷ xs) h.holder) h
unfolding holder-fault asks_own is_holder looked_up
by_first h x xs true e r ih =
    let n = none-asks h x xs r (eqb-true x.number h.holder e) in
    rw e (rw n (rw (or-false (eqb x.request h.resource))))
by_first h x xs false e r ih = rw e ih

pub holder_fault_looked_up : (h : Hold) (js : List Job) → Rising (λ (j : Job). j.number) js
    → holder-fault js h ≡ holder_fault (looked_up js h.holder) h
unfolding holder-fault looked_up
holder_fault_looked_up h [] r = refl
holder_fault_looked_up h (x ∷ xs) r =
    by_first h x xs (eqb x.number h.holder) refl r (holder_fault_looked_up h xs (rising_others r))

-- What std's search by the number finds: the first job that has it, since numbers rise, or that no job has.
abbrev pub request_at : List Job → Answer ℕ → Answer ℕ
request_at js (Some place) = Some (get_or js place no_job).request
request_at js None = None

module _ (js : List Job) (number : ℕ) (rising : Rising (λ (j : Job). j.number) js) where
  before : (p q : ℕ) → p < q → q < length js → (get_or js p no_job).number < (get_or js q no_job).number
  before p q l h = later_greater (λ j. j.number) no_job js rising p q l h

  -- numbers that are not lower do not compare lower
  higher : (a b : ℕ) → a ≤ b → ordering_index (nat_cmp a number) ≤ ordering_index (nat_cmp b number)
  higher a b le = grind (arith, nat_tests)

  not_lower : IsNonDecreasingBy (λ (j : Job). ordering_index (nat_cmp j.number number)) js
  not_lower a b d le lt =
      rw (get_or_default js a d no_job (omega arith), get_or_default js b d no_job lt)
      (higher (get_or js a no_job).number (get_or js b no_job).number
      (split (ltb a b) (λ h. omega (arith, before a b (ltb-true a b h) lt))
      (λ h. let same : a ≡ b = omega (arith, ltb-false a b h) in rw same (omega arith))))

  pub request_found : (r : Result ℕ ℕ) → IsSearchInRange r (length js)
      → IsBinarySearchResult (λ (j : Job). nat_cmp j.number number) js r → request_at js (result_ok r) ≡ looked_up js number
  unfolding looked_up
  request_found (Ok i) inside h =
      let at = h no_job in
      let here : (get_or js i no_job).number ≡ number = grind (arith, nat_tests) in
      ap requested (first_there number js i inside here (λ q l e. omega (arith, before q i l inside)))
  request_found (Err i) inside h =
      let parted = h not_lower in
      ap requested (nobody_there number js (λ q l e.
      split (ltb q i)
      (λ h. let low = parted.0 q no_job (omega arith) (ltb-true q i h) in grind (arith, nat_tests))
      (λ h. let high = parted.1 q no_job (ltb-false q i h) l in grind (arith, nat_tests))))
