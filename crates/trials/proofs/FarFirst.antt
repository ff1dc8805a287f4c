-- The changes that are noted, from the far end on. A store behind them leaves them as they are, and one at their end is then the
-- first; what each of them has, each that is noted has, and the one so many from the far end is that many from the last noted.
-- Assumes nothing.
use mathlib.Core.List.{List, ◌∷◌}
use mathlib.Core.Path.{◌≡◌, refl, ap, ◌∙◌}
use Prim.Native.Nat.{ℕ, zero, suc, ◌+◌, ◌-◌, ◌≤◌, ◌<◌}
use native.Mathlib.Numerals.{add-one}
use native.Mathlib.Omega.{arith}
use borrow.Author.Tests.{eqb-false, eqb-true}
use lib.Dec.{eqb}
use lib.ListN.{get_or, length, set}
use lib.Seq.{get_or-set_other, get_or-set_same}
use Rattle.judgements.specs.Changes.{Change, far_first, places_of}
use Rattle.laws.proofs.Choices.{split}
use Rattle.laws.proofs.Lookups.{each_first, each_rest, length-map}
use Rattle.rules.specs.Lists.{Each}

-- the change of the job at a place, to a key
abbrev pub change : ℕ → ℕ → Change
change place key = record { place = place; key = key }

module _ (changed fresh : List ℕ) where
  pub noted_before : (n i place key : ℕ) → n ≤ i → far_first n (set changed i place) (set fresh i key) ≡ far_first n changed fresh
  noted_before zero i place key h = refl
  noted_before (suc n) i place key h =
      rw (
        get_or-set_other changed i n place 0 (λ e. absurd (omega arith)),
        get_or-set_other fresh i n key 0 (λ e. absurd (omega arith)),
        noted_before n i place key (omega arith),
      )

  -- one store more
  pub noted_next : (n place key : ℕ) → n < length changed → n < length fresh
      → far_first (n + 1) (set changed n place) (set fresh n key) ≡ change place key ∷ far_first n changed fresh
  noted_next n place key h l =
      rw add-one
      (rw (get_or-set_same changed n place 0 h, get_or-set_same fresh n key 0 l, noted_before n n place key (omega arith)))

  pub length_far_first : (n : ℕ) → length (far_first n changed fresh) ≡ n
  length_far_first zero = refl
  length_far_first (suc n) = ap suc (length_far_first n)

  pub length_places : (n : ℕ) → length (places_of (far_first n changed fresh)) ≡ n
  length_places n = length-map (λ (c : Change). c.place) (far_first n changed fresh) ∙ length_far_first n

  -- by the index at which it is noted
  pub each_noted : {P : Change → Type 0} (n : ℕ) → Each P (far_first n changed fresh)
      → (i : ℕ) → i < n → P (change (get_or changed i 0) (get_or fresh i 0))
  each_noted zero h i l = absurd (omega arith)
  each_noted {P = P} (suc n) h i l =
      split (eqb i n)
      (λ e. rw (eqb-true i n e) (each_first h))
      (λ e. let other = eqb-false i n e in each_noted {P = P} n (each_rest h) i (omega arith))

  pub place_from_far : (n s : ℕ) → s < n → get_or (places_of (far_first n changed fresh)) s 0 ≡ get_or changed (n - 1 - s) 0
  place_from_far zero s l = absurd (omega arith)
  place_from_far (suc n) zero l = ap (λ i. get_or changed i 0) (omega arith)
  place_from_far (suc n) (suc s) l = place_from_far n s (omega arith) ∙ ap (λ i. get_or changed i 0) (omega arith)
