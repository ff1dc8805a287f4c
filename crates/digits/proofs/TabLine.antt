-- A tab line of some numbers is a line without its letter and the tab behind it: the digits of the first number, and then what a
-- line of the others has behind its letter. So a line of the others, put where the last of these digits stands and with it for
-- its letter, makes the tab line. Assumes nothing.
use mathlib.Core.Path.{◌≡◌, sym}
use mathlib.Core.List.{List, [], ◌∷◌, ◌++◌, append_assoc}
use Prim.Native.Nat.{ℕ, ◌+◌, ◌-◌, ◌≤◌, ◌<◌}
use native.Mathlib.Omega.{arith}
use lib.ListN.{length, drop, get_or, length-append, take}
use lib.Seq.{set-get_or, take_all}
use Rattle.grammar.proofs.LineText.{behind_letter, put_letter}
use Rattle.grammar.proofs.Put.{put_behind}
use Rattle.grammar.specs.Put.{put}
use Rattle.rules.specs.Rooms.{tab_line}
use Rattle.rules.specs.TableText.{digits_of, line_text, tab}

pub line_of_tab_line : (letter : ℕ) (ns : List ℕ) → 1 ≤ length ns → line_text letter ns ≡ letter ∷ tab ∷ tab_line ns
unfolding line_text tab_line
line_of_tab_line letter [] some = absurd (omega arith)
line_of_tab_line letter (n ∷ ns) some = rw append_assoc

-- the digits of the first number, and the numbers behind it
abbrev pub first_digits : List ℕ → List ℕ
first_digits ns = digits_of (get_or ns 0 0)

abbrev pub others : List ℕ → List ℕ
others ns = take (length ns - 1) (drop 1 ns)

tab-line : (ns : List ℕ) → 1 ≤ length ns → tab_line ns ≡ first_digits ns ++ behind_letter (others ns)
unfolding tab_line behind_letter
tab-line [] some = absurd (omega arith)
tab-line (n ∷ ns) some = rw (take_all (length (n ∷ ns) - 1) ns (omega arith))

pub length_tab_line : (ns : List ℕ) → 1 ≤ length ns
    → length (tab_line ns) ≡ length (first_digits ns) + length (behind_letter (others ns))
length_tab_line ns some = rw (tab-line ns some) (length-append (first_digits ns) (behind_letter (others ns)))

-- a line whose letter stands there already
put_behind_letter : (s : List ℕ) (at : ℕ) (ns : List ℕ) → at < length s
    → put s at (line_text (get_or s at 0) ns) ≡ put s (at + 1) (behind_letter ns)
put_behind_letter s at ns h = sym (rw (set-get_or s at 0) at (put_letter s at (get_or s at 0) ns h))

pub put-tab-line : (s s' : List ℕ) (at last : ℕ) (ns : List ℕ) → 1 ≤ length ns → at ≤ length s
    → s' ≡ put s at (first_digits ns) → last + 1 ≡ at + length (first_digits ns) → last < length s'
    → put s' last (line_text (get_or s' last 0) (others ns)) ≡ put s at (tab_line ns)
put-tab-line s s' at last ns some room put_first e h =
    rw (put_behind_letter s' last (others ns) h, e, put_first, tab-line ns some)
    (put_behind s at (first_digits ns) (behind_letter (others ns)) room)
