-- What a trial leaves as it stands: the first place whose key is not below this one stands behind lower ones alone, and two lists
-- that agree so far and in the next element agree that much further. Assumes nothing.
use mathlib.Core.Bool.{Bool, false}
use mathlib.Core.List.{List, [], ◌∷◌}
use mathlib.Core.Path.{◌≡◌, sym, ◌∙◌}
use Prim.Native.Nat.{ℕ, zero, suc, ◌+◌, ◌-◌, ◌≤◌, ◌<◌}
use native.Mathlib.Numerals.{add-one}
use native.Mathlib.Omega.{arith}
use borrow.Author.Tests.{leb-false}
use lib.Dec.{leb}
use lib.ListN.{drop, get_or, length, length-drop, take}
use lib.Seq.{get_or-drop, take-suc}
use Rattle.entries.specs.Places.{Sorted, first_where}
use Rattle.entries.specs.Promises.{PlacedFor}
use Rattle.judgements.specs.Changes.{far_first, places_of}
use Rattle.judgements.specs.declared.Noted.{Noted}
use Rattle.laws.proofs.Choices.{split}
use Rattle.trials.proofs.FarFirst.{length_places, place_from_far}
use Rattle.trials.specs.Promises.{LeftUntouched}

fails_before_first : (test : ℕ → Bool) (xs : List ℕ) (i : ℕ) → i < first_where test xs → test (get_or xs i 0) ≡ false
unfolding first_where
fails_before_first test [] i h = absurd (omega arith)
fails_before_first test (x ∷ xs) zero h =
    split (test x) (λ t. absurd (let none : 0 < 0 = rw t at h in omega arith)) (λ t. t)
fails_before_first test (x ∷ xs) (suc i) h =
    split (test x)
    (λ t. absurd (let none : suc i < 0 = rw t at h in omega arith))
    (λ t. fails_before_first test xs i (let more : suc i < suc (first_where test xs) = rw t at h in omega arith))

-- before the first whose key is this one or more, keys are lower
pub lower_before : (key : ℕ) (keys ps : List ℕ) (r : ℕ) → PlacedFor key keys ps r → Sorted keys ps
    → (i : ℕ) → i < r → get_or keys (get_or ps i 0) 0 < key
lower_before key keys ps r placed sorted i h =
    leb-false key (get_or keys (get_or ps i 0) 0)
    (fails_before_first (λ p. leb key (get_or keys p 0)) ps i (omega (arith, placed.first sorted)))

agree_further : (xs ys : List ℕ) (n : ℕ) → n < length xs → n < length ys → take n xs ≡ take n ys
    → get_or xs n 0 ≡ get_or ys n 0 → take (n + 1) xs ≡ take (n + 1) ys
agree_further xs ys n l m e h = rw add-one (rw (take-suc xs n 0 l, take-suc ys n 0 m, e, h))

module _ (ps changed fresh : List ℕ) (changes below settled : ℕ) where
  -- one more that stands where it is to stand
  pub one_more_settled : below + settled < length ps → settled < changes
      → get_or ps (below + settled) 0 ≡ get_or changed (changes - 1 - settled) 0
      → take settled (drop below ps) ≡ take settled (places_of (far_first changes changed fresh))
      → take (settled + 1) (drop below ps) ≡ take (settled + 1) (places_of (far_first changes changed fresh))
  one_more_settled h l e was =
      agree_further (drop below ps) (places_of (far_first changes changed fresh)) settled
      (omega (arith, length-drop below ps))
      (omega (arith, length_places changed fresh changes))
      was
      (get_or-drop below ps settled 0 ∙ e ∙ sym (place_from_far changed fresh changes settled l))

module _ (ps keys changed fresh : List ℕ) (noted : Noted) (below settled : ℕ) where
  pub untouched : PlacedFor (get_or fresh (noted.changes - 1) 0) keys ps below → settled ≤ noted.moved
      → below + settled ≤ length ps
      → take settled (drop below ps) ≡ take settled (places_of (far_first noted.changes changed fresh))
      → LeftUntouched ps keys changed fresh noted (record { below = below; settled = settled })
  untouched placed few inside settle = record {
    inside = inside;
    settled_few = few;
    lower = lower_before (get_or fresh (noted.changes - 1) 0) keys ps below placed;
    settle = settle;
  }
