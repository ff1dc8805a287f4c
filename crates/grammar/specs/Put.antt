-- A text written into a buffer.
use Rattle.std.specs.Prelude.{List, ◌++◌, ℕ, ◌+◌, length, take, drop}

-- the buffer s with a text put at a place: what stands before it and behind it stays
unfoldable pub put : List ℕ → ℕ → List ℕ → List ℕ
put s at text = take at s ++ (text ++ drop (at + length text) s)
