-- What `put` does to a buffer. What stands before a place and behind a text is split off by `take` and `drop`, so each
-- law is one about the seams of appended lists. Assumes nothing.
use mathlib.Core.Path.{◌≡◌, sym, ap, ◌∙◌}
use mathlib.Core.List.{List, [], ◌∷◌, ◌++◌, append_assoc}
use Prim.Native.Nat.{ℕ, ◌+◌, ◌-◌, ◌≤◌, ◌<◌}
use native.Mathlib.Nat.{add-zero, zero-add, add_assoc}
use native.Mathlib.Numerals.{add-one}
use native.Mathlib.Omega.{arith}
use lib.ListN.{length, take, drop, set, length-append, take-append-drop}
use lib.Seq.{length-take-le, take_at, drop-append-add, set_split, drop-drop}
use Rattle.grammar.specs.Put.{put}

-- putting nothing changes nothing
pub put_nothing : (s : List ℕ) (at : ℕ) → put s at [] ≡ s
unfolding put
put_nothing s at = rw (add-zero at) (take-append-drop at s)

-- one byte put is one byte stored
pub put_byte : (s : List ℕ) (at b : ℕ) → at < length s → put s at (b ∷ []) ≡ set s at b
unfolding put
put_byte s at b h = rw (add-one at) (sym (set_split s at b h))

-- a text put at the front
pub put_at_front : (s text : List ℕ) → put s 0 text ≡ text ++ drop (length text) s
unfolding put
put_at_front s text = rw (zero-add (length text))

-- one text put behind another is both put at once
pub put_behind : (s : List ℕ) (at : ℕ) (a b : List ℕ) → at ≤ length s
    → put (put s at a) (at + length a) b ≡ put s at (a ++ b)
unfolding put
put_behind s at a b room =
    let front = take at s in
    let behind = drop (at + length a) s in
    let long : length (front ++ a) ≡ at + length a = length-append front a ∙ omega (arith, length-take-le at s room) in
    let whole : front ++ (a ++ behind) ≡ (front ++ a) ++ behind = sym (append_assoc front a behind) in
    let rest : drop (at + length a + length b) ((front ++ a) ++ behind) ≡ drop (at + length (a ++ b)) s =
    ap (λ (k : ℕ). drop (k + length b) ((front ++ a) ++ behind)) (sym long)
    ∙ drop-append-add (front ++ a) behind (length b)
    ∙ rw (drop-drop (length b) (at + length a) s, length-append a b, add_assoc) in
    rw (whole, take_at (front ++ a) behind (at + length a) long, rest, append_assoc, append_assoc)

-- a lent part of the buffer that comes back as a text
pub put_part : (s : List ℕ) (at end : ℕ) (text : List ℕ) → end ≡ at + length text
    → take at s ++ (text ++ drop (end - at) (drop at s)) ≡ put s at text
unfolding put
put_part s at end text e =
    let long : end - at ≡ length text = omega arith in
    rw (long, drop-drop (length text) at s)
