-- Where the parts of a text stand: document 01, "fields parted by one tab, each line ended by one line feed".
use Rattle.std.specs.Prelude.{List, [], ◌∷◌, ℕ, zero, suc, ◌+◌, length}

-- where part i begins: behind the parts before it, each with the byte that ends it
unfoldable pub begin_of : List (List ℕ) → ℕ → ℕ
begin_of parts zero = 0
begin_of [] (suc i) = 0
begin_of (p ∷ parts) (suc i) = length p + 1 + begin_of parts i
