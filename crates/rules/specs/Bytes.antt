-- Texts in quotes, as the bytes that the rules speak of, and back, so that a case can be read as document 01 prints it.
use Rattle.std.specs.Prelude.{cond, List, [] as nil, ◌∷◌ as ◌cons◌, ℕ, eqb}
use Prim.Native.Char.{Char, code}
use Prim.Native.String.{String, [], ◌∷◌}

unfoldable pub bytes : String → List ℕ
bytes [] = nil
bytes (c ∷ s) = code c cons bytes s

-- the character of a listing's byte; "?" for any other
unfoldable pub char_among : String → ℕ → Char
char_among [] b = "?"
char_among (c ∷ s) b = cond (eqb (code c) b) c (char_among s b)

unfoldable pub shown : List ℕ → String
shown nil = []
shown (b cons bs) = char_among "\t\n0123456789POXR" b ∷ shown bs
