-- A line is its letter and what stands behind it: for each number a tab and its digits, last the line feed.
-- Both the length of a line and its writing go number by number through that. Assumes nothing.
use mathlib.Core.Path.{◌≡◌, refl}
use mathlib.Core.List.{List, [], ◌∷◌, ◌++◌, append_assoc}
use Prim.Native.Nat.{ℕ, ◌+◌, ◌*◌, ◌≤◌, ◌<◌}
use native.Mathlib.Numerals.{add-one}
use native.Mathlib.Omega.{arith}
use lib.ListN.{length, drop, get_or, set, length-append, length-set, drop_of_length-le}
use lib.Seq.{drop-cons}
use Rattle.rules.specs.Lists.{joined}
use Rattle.rules.specs.TableText.{digits_of, line_feed, line_text, tab}
use Rattle.grammar.specs.Put.{put}
use Rattle.grammar.proofs.Decimal.{digits_of_at_most_20}
use Rattle.grammar.proofs.Put.{put_behind, put_byte}

-- what stands behind a line's letter
unfoldable pub behind_letter : List ℕ → List ℕ
behind_letter ns = joined (λ n. tab ∷ digits_of n) ns ++ line_feed ∷ []

pub line_behind_letter : (letter : ℕ) (ns : List ℕ) → line_text letter ns ≡ letter ∷ behind_letter ns
unfolding line_text behind_letter
line_behind_letter letter ns = refl

-- behind the last number
pub behind_all : (ns : List ℕ) (i : ℕ) → length ns ≤ i → behind_letter (drop i ns) ≡ line_feed ∷ []
unfolding behind_letter
behind_all ns i h = rw (drop_of_length-le ns h)

-- one number more
pub behind_next : (ns : List ℕ) (i : ℕ) → i < length ns
    → behind_letter (drop i ns) ≡ tab ∷ (digits_of (get_or ns i 0) ++ behind_letter (drop (i + 1) ns))
unfolding behind_letter
behind_next ns i h = rw (drop-cons ns i 0 h, add-one i, append_assoc)

pub length_behind_next : (ns : List ℕ) (i : ℕ) → i < length ns
    → length (behind_letter (drop i ns)) ≡ 1 + (length (digits_of (get_or ns i 0)) + length (behind_letter (drop (i + 1) ns)))
length_behind_next ns i h =
    rw (behind_next ns i h, length-append (digits_of (get_or ns i 0)) (behind_letter (drop (i + 1) ns))) (omega arith)

-- A line's letter, its line feed, and for each number a tab and at most 20 digits.
pub length_line : (letter : ℕ) (ns : List ℕ) → length (line_text letter ns) ≤ 2 + 21 * length ns
length_line letter ns = rw (line_behind_letter letter ns) (omega (arith, go ns))
  where
    go : (ns : List ℕ) → length (behind_letter ns) ≤ 1 + 21 * length ns
    go [] = rw (behind_all [] 0 (omega arith)) (omega arith)
    go (n ∷ ns) = omega (arith, length_behind_next (n ∷ ns) 0 (omega arith), digits_of_at_most_20 n, go ns)

-- The letter stored, and what stands behind it put behind it: the line.
pub put_letter : (s : List ℕ) (at letter : ℕ) (ns : List ℕ) → at < length s
    → put (set s at letter) (at + 1) (behind_letter ns) ≡ put s at (line_text letter ns)
put_letter s at letter ns h =
    rw (line_behind_letter letter ns, ← put_byte s at letter h) (put_behind s at (letter ∷ []) (behind_letter ns) (omega arith))

-- A tab stored, a number put behind it, and then the rest of the line: no other bytes than before.
pub put_next : (s : List ℕ) (at : ℕ) (ns : List ℕ) (i : ℕ) → i < length ns → at < length s
    → put (put (set s at tab) (at + 1) (digits_of (get_or ns i 0))) (at + 1 + length (digits_of (get_or ns i 0))) (behind_letter (drop (i + 1) ns))
    ≡ put s at (behind_letter (drop i ns))
put_next s at ns i h room =
    let n = digits_of (get_or ns i 0) in
    let more = behind_letter (drop (i + 1) ns) in
    rw (put_behind (set s at tab) (at + 1) n more (rw (length-set s at tab) (omega arith)), ← put_byte s at tab room, behind_next ns i h)
    (put_behind s at (tab ∷ []) (n ++ more) (omega arith))
