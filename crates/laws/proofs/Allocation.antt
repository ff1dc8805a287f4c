-- Document 01's allocation is the least number of cycles that is enough: a search that goes up and stops at the first
-- number that passes has found the least, and one that finds none has tried them all. Assumes nothing.
use mathlib.Core.Bool.{Bool, true, false, cond, false≢true}
use mathlib.Core.List.{[], ◌∷◌}
use mathlib.Core.Logic.{⊎_elim, ◌↔◌}
use mathlib.Core.Option.{Option, none, some}
use mathlib.Core.Path.{◌≡◌, refl, sym, ap, ◌∙◌}
use Prim.Native.Nat.{ℕ, zero, suc, ◌+◌, ◌-◌, ◌^◌, ◌≤◌, ◌<◌}
use native.Mathlib.Nat.{eq-or-lt_of_le, le_antisymm, le_refl, le_trans, mul-le-mul, mul-le-mul_right}
use native.Mathlib.Omega.{arith}
use lib.ListN.{get_or}
use borrow.Author.Tests.{le-leb, leb-true}
use Rattle.laws.proofs.Tests.{both_true, not_true_false, within_true}
use Rattle.rules.specs.Answers.{Answer, good, refused}
use Rattle.rules.specs.Cycles.{allocated, allocation, asked_in_range, enough, least_from}
use Rattle.rules.specs.TableText.{most_cycles}
use Rattle.rules.specs.declared.Refusal.{Refusal}

-- no number from low on and below end passes
abbrev pub Nowhere : (ℕ → Bool) → ℕ → ℕ → Type 0
Nowhere p low end = (d : ℕ) → low ≤ d → d < end → p d ≡ false

-- what a search from low on and below end comes to: the first number that passes, or none where none passes
pub data Sought (p : ℕ → Bool) (low end : ℕ) : Option ℕ → Type 0 where
  first : {c : ℕ} → low ≤ c → c < end → p c ≡ true → Nowhere p low c → Sought p low end (some c)
  nowhere : Nowhere p low end → Sought p low end none

nowhere_more : {p : ℕ → Bool} {low end : ℕ} → p low ≡ false → Nowhere p (low + 1) end → Nowhere p low end
nowhere_more {low} e n d l h =
    ⊎_elim (λ (q : low ≡ d). rw q at e) (λ (m : low < d). n d (omega arith) h) (eq-or-lt_of_le l)

sought_more : {p : ℕ → Bool} {low end : ℕ} (t : Bool) (later : Option ℕ) → low < end → p low ≡ t
    → Sought p (low + 1) end later → Sought p low end (cond t (some low) later)
sought_more {low} true later h e s = first (le_refl low) h e (λ d l m. absurd (omega arith))
sought_more false later h e (first {c} l m t n) = first {c = c} (omega arith) m t (nowhere_more e n)
sought_more false later h e (nowhere n) = nowhere (nowhere_more e n)

pub sought : (p : ℕ → Bool) (low count end : ℕ) → low + count ≡ end → Sought p low end (least_from p low count)
unfolding least_from
sought p low zero end e = nowhere (λ d l h. absurd (omega arith))
sought p low (suc count) end e =
    sought_more (p low) (least_from p (low + 1) count) (omega arith) refl (sought p (low + 1) count end (omega arith))

not_before : {p : ℕ → Bool} {low c d : ℕ} → Nowhere p low c → low ≤ d → p d ≡ true → c ≤ d
not_before {c} {d} n l t = let no : ¬ (d < c) = λ h. false≢true (sym (n d l h) ∙ t) in omega arith

-- a search comes to one thing only
pub sought_unique : {p : ℕ → Bool} {low end : ℕ} {o q : Option ℕ} → Sought p low end o → Sought p low end q → o ≡ q
sought_unique (first l h t n) (first m k u w) = ap some (le_antisymm (not_before n m u) (not_before w l t))
sought_unique (first l h t n) (nowhere w) = absurd (false≢true (sym (w _ l h) ∙ t))
sought_unique (nowhere n) (first m k u w) = absurd (false≢true (sym (n _ m k) ∙ u))
sought_unique (nowhere n) (nowhere w) = refl

-- different numbers are different answers, and the cycles stand in theirs
same-answer : (t : Bool) (o q : Option ℕ)
    → cond t (allocated o) (refused Refusal.Range 0 (0 ∷ [])) ≡ allocated q → (t ≡ true) × (o ≡ q)
unfolding allocated
same-answer true none none e = (refl, refl)
same-answer true none (some d) e = absurd (omega (arith, ap (λ (a : Answer). a.number) e))
same-answer true (some c) none e = absurd (omega (arith, ap (λ (a : Answer). a.number) e))
same-answer true (some c) (some d) e = (refl, ap (λ a. some (get_or a.values 0 0)) e)
same-answer false o none e = absurd (omega (arith, ap (λ (a : Answer). a.number) e))
same-answer false o (some d) e = absurd (omega (arith, ap (λ (a : Answer). a.number) e))

pub record InRanges (mean variance assurance : ℕ) : Type 0 where
  pub mean_from : 1 ≤ mean
  pub mean_to : mean ≤ most_cycles
  pub variance_to : variance ≤ 10 ^ 12
  pub assurance_to : assurance ≤ 999

module _ (mean variance assurance : ℕ) where
  abbrev passes : ℕ → Bool
  passes = enough mean variance assurance

  -- what is enough stays enough with more cycles
  pub enough_above : (c d : ℕ) → c ≤ d → enough mean variance assurance c ≡ true
      → enough mean variance assurance d ≡ true
  unfolding enough
  enough_above c d l e =
      let h : c - mean ≤ d - mean = omega arith in
      le-leb _ _ (le_trans (leb-true _ _ e) (mul-le-mul_right (1000 - assurance) (mul-le-mul h h)))

  -- what is not enough is not enough with fewer
  pub not_enough_below : (c d : ℕ) → c ≤ d → enough mean variance assurance d ≡ false
      → enough mean variance assurance c ≡ false
  not_enough_below c d l e = not_true_false (passes c) (λ t. false≢true (sym e ∙ enough_above c d l t))

  pub in_ranges : asked_in_range mean variance assurance ≡ true → InRanges mean variance assurance
  unfolding asked_in_range
  in_ranges e =
      let AllThree = both_true _ _ e in
      let first_two = both_true _ _ AllThree.0 in
      let mean_within = within_true 1 most_cycles mean first_two.0 in
      record {
        mean_from = mean_within.0;
        mean_to = mean_within.1;
        variance_to = (within_true 0 (10 ^ 12) variance first_two.1).1;
        assurance_to = (within_true 0 999 assurance AllThree.1).1;
      }

  abbrev found : Option ℕ
  found = least_from passes mean (most_cycles + 1 - mean)

  found_sought : asked_in_range mean variance assurance ≡ true → Sought passes mean (most_cycles + 1) found
  found_sought e =
      let ranges = in_ranges e in
      sought passes mean (most_cycles + 1 - mean) (most_cycles + 1) (omega arith)

  allocation_sought : (o : Option ℕ) → (allocation mean variance assurance ≡ allocated o)
      ↔ ((asked_in_range mean variance assurance ≡ true) × Sought passes mean (most_cycles + 1) o)
  unfolding allocation
  allocation_sought o = (
    λ e.
        let s = same-answer (asked_in_range mean variance assurance) found o e in
        (s.0, rw s.1 at (found_sought s.0)),
    λ s. rw (s.0, sought_unique (found_sought s.0) s.1),
  )

  -- c is the least number of cycles, from the mean to 1,000,000, that is enough
  pub record Least (c : ℕ) : Type 0 where
    pub from_mean : mean ≤ c
    pub to_most : c ≤ most_cycles
    pub is_enough : enough mean variance assurance c ≡ true
    pub none_less : (d : ℕ) → mean ≤ d → d < c → enough mean variance assurance d ≡ false

  first_least : {c : ℕ} → Sought passes mean (most_cycles + 1) (some c) → Least c
  first_least (first l h t n) = record { from_mean = l; to_most = omega arith; is_enough = t; none_less = n }

  -- c is the answer exactly when it is the least
  pub answer_is_least : (c : ℕ) → (allocation mean variance assurance ≡ good (c ∷ []))
      ↔ ((asked_in_range mean variance assurance ≡ true) × Least c)
  unfolding allocated
  answer_is_least c = (
    λ e. let s = (allocation_sought (some c)).0 e in (s.0, first_least s.1),
    λ s.
        let l = s.1 in
        (allocation_sought (some c)).1 (s.0, first l.from_mean (omega arith) l.is_enough l.none_less),
  )

  nowhere_enough : Sought passes mean (most_cycles + 1) none → (c : ℕ) → mean ≤ c → c ≤ most_cycles → passes c ≡ false
  nowhere_enough (nowhere n) c l h = n c l (omega arith)

  -- refused 10 exactly when no number of cycles to 1,000,000 is enough
  pub refused_where_none_enough : (allocation mean variance assurance ≡ refused Refusal.Allocation 0 (0 ∷ []))
      ↔ ((asked_in_range mean variance assurance ≡ true)
      × ((c : ℕ) → mean ≤ c → c ≤ most_cycles → enough mean variance assurance c ≡ false))
  unfolding allocated
  refused_where_none_enough = (
    λ e. let s = (allocation_sought none).0 e in (s.0, nowhere_enough s.1),
    λ s. (allocation_sought none).1 (s.0, nowhere (λ c l h. s.1 c l (omega arith))),
  )

  -- refused 2 exactly when outside the ranges
  pub refused_outside : (allocation mean variance assurance ≡ refused Refusal.Range 0 (0 ∷ []))
      ↔ (asked_in_range mean variance assurance ≡ false)
  unfolding allocation
  refused_outside = (
    λ e. not_true_false _ (λ t. false≢true (same-answer false none found (sym e ∙ rw t)).0),
    λ f. rw f,
  )
