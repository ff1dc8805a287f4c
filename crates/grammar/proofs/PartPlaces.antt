-- A text from the beginning of one of its parts on: the part, the byte that ends it, and what stands behind, or the part alone
-- if it is the last. No part holds the byte that the text is parted by, nor a byte that the text does not hold. By the parts
-- put together again. Assumes nothing.
use mathlib.Core.Bool.{Bool, true, false, cond}
use mathlib.Core.List.{List, [], ◌∷◌, ◌++◌}
use mathlib.Core.Path.{◌≡◌, refl, sym, ap, ◌∙◌}
use Prim.Native.Nat.{ℕ, zero, suc, ◌+◌, ◌≤◌, ◌<◌}
use native.Mathlib.Omega.{arith}
use lib.Dec.{eqb}
use lib.ListN.{length, drop, get_or, length-append}
use lib.Seq.{drop-append-add}
use Rattle.rules.specs.Lists.{Each, none_left, ◌and◌}
use Rattle.rules.specs.TableText.{onto_first, parted_by}
use Rattle.grammar.specs.PartPlaces.{begin_of}
use Rattle.laws.proofs.Choices.{neither}
use Rattle.grammar.proofs.Parted.{Without, parted_rejoined, rejoined}

-- what stands behind the first part and its byte
behind_first : (b : ℕ) (p rest : List ℕ) (n : ℕ) → drop (length p + 1 + n) (p ++ b ∷ rest) ≡ drop n rest
behind_first b p rest n =
    ap (λ m. drop m (p ++ b ∷ rest)) (same (length p) n) ∙ drop-append-add p (b ∷ rest) (suc n)
  where
    same : (a c : ℕ) → a + 1 + c ≡ a + suc c
    same a c = omega arith

-- from a part that is not the last
pub rejoined_at : (b : ℕ) (ps : List (List ℕ)) (i : ℕ) → suc i < length ps
    → drop (begin_of ps i) (rejoined b ps) ≡ get_or ps i [] ++ b ∷ drop (begin_of ps (suc i)) (rejoined b ps)
unfolding begin_of rejoined
rejoined_at b [] i h = absurd (omega arith)
rejoined_at b (p ∷ []) i h = absurd (omega arith)
rejoined_at b (p ∷ (q ∷ ps)) zero h = ap (λ r. p ++ b ∷ r) (sym (behind_first b p (rejoined b (q ∷ ps)) 0))
rejoined_at b (p ∷ (q ∷ ps)) (suc i) h =
    let rest = rejoined b (q ∷ ps) in
    behind_first b p rest (begin_of (q ∷ ps) i)
    ∙ rejoined_at b (q ∷ ps) i (omega arith)
    ∙ ap (λ r. get_or (q ∷ ps) i [] ++ b ∷ r) (sym (behind_first b p rest (begin_of (q ∷ ps) (suc i))))

-- from the last
rejoined_last : (b : ℕ) (ps : List (List ℕ)) (i : ℕ) → suc i ≡ length ps → drop (begin_of ps i) (rejoined b ps) ≡ get_or ps i []
unfolding begin_of rejoined
rejoined_last b [] i h = absurd (omega arith)
rejoined_last b (p ∷ []) zero h = refl
rejoined_last b (p ∷ []) (suc i) h = absurd (omega arith)
rejoined_last b (p ∷ (q ∷ ps)) zero h = absurd (omega arith)
rejoined_last b (p ∷ (q ∷ ps)) (suc i) h =
    behind_first b p (rejoined b (q ∷ ps)) (begin_of (q ∷ ps) i) ∙ rejoined_last b (q ∷ ps) i (omega arith)

-- each part begins within the text
begins_within : (b : ℕ) (ps : List (List ℕ)) (i : ℕ) → i < length ps → begin_of ps i ≤ length (rejoined b ps)
unfolding begin_of rejoined
begins_within b ps zero h = omega arith
begins_within b [] (suc i) h = absurd (omega arith)
begins_within b (p ∷ []) (suc i) h = absurd (omega arith)
begins_within b (p ∷ (q ∷ ps)) (suc i) h =
    omega (arith, begins_within b (q ∷ ps) i (omega arith), length-append p (b ∷ rejoined b (q ∷ ps)))

module _ (b : ℕ) (s : List ℕ) where
  abbrev ps : List (List ℕ)
  ps = parted_by b s

  pub part_at : (i : ℕ) → suc i < length ps → drop (begin_of ps i) s ≡ get_or ps i [] ++ b ∷ drop (begin_of ps (suc i)) s
  part_at i h =
      ap (drop (begin_of ps i)) (sym (parted_rejoined b s))
      ∙ rejoined_at b ps i h
      ∙ ap (λ t. get_or ps i [] ++ b ∷ drop (begin_of ps (suc i)) t) (parted_rejoined b s)

  pub last_part_at : (i : ℕ) → suc i ≡ length ps → drop (begin_of ps i) s ≡ get_or ps i []
  last_part_at i h = ap (drop (begin_of ps i)) (sym (parted_rejoined b s)) ∙ rejoined_last b ps i h

  pub part_within : (i : ℕ) → i < length ps → begin_of ps i ≤ length s
  part_within i h = omega (arith, begins_within b ps i h, ap length (parted_rejoined b s))

-- a part begins behind the one before it and its byte
pub begin_next : (parts : List (List ℕ)) (i : ℕ) → i < length parts
    → begin_of parts (suc i) ≡ begin_of parts i + length (get_or parts i []) + 1
unfolding begin_of
begin_next [] i h = absurd (omega arith)
begin_next (p ∷ parts) zero h = omega arith
begin_next (p ∷ parts) (suc i) h = omega (arith, begin_next parts i (omega arith))

-- a byte more that is not c
more_without : (c x : ℕ) (p : List ℕ) → eqb x c ≡ false → Without c p → Without c (x ∷ p)
more_without c x p e w = rw e w

onto_without : (t : Bool) (c x : ℕ) (parts : List (List ℕ)) → (t ≡ false → eqb x c ≡ false) → Each (Without c) parts
    → Each (Without c) (cond t ([] ∷ parts) (onto_first x parts))
unfolding onto_first
onto_without true c x parts e w = refl and w
onto_without false c x [] e w = more_without c x [] (e refl) refl and none_left
onto_without false c x (p ∷ parts) e (w and ws) = more_without c x p (e refl) w and ws

-- No part holds the byte that the text is parted by.
pub parted_without : (b : ℕ) (s : List ℕ) → Each (Without b) (parted_by b s)
unfolding parted_by
parted_without b [] = refl and none_left
parted_without b (x ∷ s) = onto_without (eqb x b) b x (parted_by b s) (λ e. e) (parted_without b s)

-- Nor one that the text does not hold.
pub parted_lacks : (b c : ℕ) (s : List ℕ) → Without c s → Each (Without c) (parted_by b s)
unfolding parted_by
parted_lacks b c [] w = refl and none_left
parted_lacks b c (x ∷ s) w =
    let h = neither (eqb x c) _ w in
    onto_without (eqb x b) c x (parted_by b s) (λ e. h.0) (parted_lacks b c s h.1)
