-- A text is its parts with the byte put back between them, and parts without the byte are what it is parted into: the
-- parting goes byte by byte, and at each byte b it begins a part. Lines and fields are both parted so. Assumes nothing.
use mathlib.Core.Bool.{Bool, true, false, cond}
use mathlib.Core.List.{List, [], ◌∷◌, ◌++◌}
use mathlib.Core.Path.{◌≡◌, refl}
use Prim.Native.Nat.{ℕ, ◌≤◌}
use native.Mathlib.Omega.{arith}
use borrow.Author.Tests.{eqb-true}
use lib.Dec.{eqb}
use lib.ListN.{length}
use Rattle.rules.specs.Lists.{Each, any, none_left, ◌and◌}
use Rattle.rules.specs.TableText.{onto_first, parted_by}
use Rattle.laws.proofs.Choices.{neither}
use Rattle.grammar.proofs.Parts.{parts_more, parts_one}

-- the byte does not stand in the part
abbrev pub Without : ℕ → List ℕ → Type 0
Without b part = any (λ x. eqb x b) part ≡ false

pub without_append : (b : ℕ) (s t : List ℕ) → Without b s → Without b t → Without b (s ++ t)
without_append b [] t v w = w
without_append b (x ∷ s) t v w = let h = neither (eqb x b) _ v in rw (h.0, without_append b s t h.1 w)

-- the parts, with the byte between each and the next
unfoldable pub rejoined : ℕ → List (List ℕ) → List ℕ
rejoined b [] = []
rejoined b (p ∷ []) = p
rejoined b (p ∷ (q ∷ ps)) = p ++ b ∷ rejoined b (q ∷ ps)

pub rejoined_first : (b : ℕ) (p : List ℕ) (ps : List (List ℕ)) → 1 ≤ length ps → rejoined b (p ∷ ps) ≡ p ++ b ∷ rejoined b ps
unfolding rejoined
rejoined_first b p [] h = absurd (omega arith)
rejoined_first b p (q ∷ ps) h = refl

-- Parts without the byte, with the byte between them, are parted into themselves.
pub rejoined_parted : (b : ℕ) (ps : List (List ℕ)) → 1 ≤ length ps → Each (Without b) ps → parted_by b (rejoined b ps) ≡ ps
unfolding rejoined
rejoined_parted b [] h none_left = absurd (omega arith)
rejoined_parted b (p ∷ []) h (w and ws) = parts_one b p w
rejoined_parted b (p ∷ (q ∷ ps)) h (w and ws) =
    rw (parts_more b p (rejoined b (q ∷ ps)) w, rejoined_parted b (q ∷ ps) (omega arith) ws)

-- There is a part, and the parts make the text again.
pub parted_some : (b : ℕ) (s : List ℕ) → 1 ≤ length (parted_by b s)
unfolding parted_by onto_first
parted_some b [] = omega arith
parted_some b (x ∷ s) = go (eqb x b) (parted_by b s)
  where
    go : (t : Bool) (ps : List (List ℕ)) → 1 ≤ length (cond t ([] ∷ ps) (onto_first x ps))
    go true ps = omega arith
    go false [] = omega arith
    go false (p ∷ ps) = omega arith

pub parted_rejoined : (b : ℕ) (s : List ℕ) → rejoined b (parted_by b s) ≡ s
unfolding parted_by onto_first rejoined
parted_rejoined b [] = refl
parted_rejoined b (x ∷ s) = go (eqb x b) refl (parted_by b s) (parted_some b s) (parted_rejoined b s)
  where
    go : (t : Bool) → eqb x b ≡ t → (ps : List (List ℕ)) → 1 ≤ length ps → rejoined b ps ≡ s
        → rejoined b (cond t ([] ∷ ps) (onto_first x ps)) ≡ x ∷ s
    go t e [] h again = absurd (omega arith)
    go true e (p ∷ ps) h again = rw (again, eqb-true x b e)
    go false e (p ∷ []) h again = rw again
    go false e (p ∷ (q ∷ ps)) h again = rw again
