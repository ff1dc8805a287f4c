-- The parts of a text between the bytes b are what stands before the first b, and then the parts of what stands behind
-- it: by the definition of both, byte by byte. Bytes that are not b change neither where the first b is nor what stands
-- behind it. Assumes nothing.
use mathlib.Core.Path.{◌≡◌, refl}
use mathlib.Core.Bool.{Bool, true, false, cond, ◌||◌}
use mathlib.Core.List.{List, [], ◌∷◌, ◌++◌, append-nil}
use Prim.Native.Nat.{ℕ, ◌≤◌, ◌<◌}
use native.Mathlib.Omega.{arith}
use borrow.Author.Tests.{eq-eqb}
use lib.Dec.{eqb}
use lib.ListN.{length}
use Rattle.rules.specs.TableText.{onto_first, parted_by}
use Rattle.grammar.specs.FirstLine.{behind, has, up_to}
use Rattle.laws.proofs.Choices.{neither}

-- the parts behind the first
abbrev further : ℕ → List ℕ → List (List ℕ)
further b s = cond (has b s) (parted_by b (behind b s)) []

parts_by_test : (t : Bool) (b x : ℕ) (s : List ℕ)
    → parted_by b s ≡ up_to b s ∷ further b s
    → cond t ([] ∷ parted_by b s) (onto_first x (parted_by b s))
    ≡ cond t [] (x ∷ up_to b s) ∷ cond (t || has b s) (parted_by b (cond t s (behind b s))) []
unfolding onto_first
parts_by_test true b x s h = refl
parts_by_test false b x s h = rw h

pub parts : (b : ℕ) (s : List ℕ) → parted_by b s ≡ up_to b s ∷ further b s
unfolding parted_by up_to behind
parts b [] = refl
parts b (x ∷ s) = parts_by_test (eqb x b) b x s (parts b s)

-- bytes that are not b are passed over
pub passed : (b : ℕ) (ds r : List ℕ) → has b ds ≡ false
    → (has b (ds ++ r) ≡ has b r) × (up_to b (ds ++ r) ≡ ds ++ up_to b r) × (behind b (ds ++ r) ≡ behind b r)
unfolding up_to behind
passed b [] r h = (refl, refl, refl)
passed b (x ∷ ds) r h =
    let n = neither (eqb x b) (has b ds) h in
    let p = passed b ds r n.1 in
    (rw n.0 p.0, rw (n.0, p.1), rw n.0 p.2)

pub parts_onto : (b : ℕ) (ds r : List ℕ) → has b ds ≡ false → parted_by b (ds ++ r) ≡ (ds ++ up_to b r) ∷ further b r
parts_onto b ds r h = let p = passed b ds r h in rw (parts b (ds ++ r), p.0, p.1, p.2)

pub parts_one : (b : ℕ) (ds : List ℕ) → has b ds ≡ false → parted_by b ds ≡ ds ∷ []
unfolding up_to
parts_one b ds h = rw append-nil at (parts_onto b ds [] h)

pub behind_none : (b : ℕ) (ds : List ℕ) → has b ds ≡ false → behind b ds ≡ []
unfolding behind
behind_none b ds h = rw append-nil at (passed b ds [] h).2

pub parts_more : (b : ℕ) (ds r : List ℕ) → has b ds ≡ false → parted_by b (ds ++ b ∷ r) ≡ ds ∷ parted_by b r
unfolding up_to behind
parts_more b ds r h = rw (eq-eqb b b refl, append-nil) at (parts_onto b ds (b ∷ r) h)

-- what stands behind the first b is shorter than the text
behind_by_test : (t : Bool) (s r : List ℕ) → length r ≤ length s → length (cond t s r) ≤ length s
behind_by_test true s r h = omega arith
behind_by_test false s r h = h

pub behind_within : (b : ℕ) (s : List ℕ) → length (behind b s) ≤ length s
unfolding behind
behind_within b [] = omega arith
behind_within b (x ∷ s) = omega (arith, behind_by_test (eqb x b) s (behind b s) (behind_within b s))

pub behind_shorter : (b x : ℕ) (s : List ℕ) → length (behind b (x ∷ s)) < length (x ∷ s)
unfolding behind
behind_shorter b x s = omega (arith, behind_by_test (eqb x b) s (behind b s) (behind_within b s))
