-- The first line of a text, what it holds, and what stands behind it: document 01, "each line ended by one line feed".
use Rattle.std.specs.Prelude.{Bool, cond, List, [], ◌∷◌, ℕ, eqb}
use Rattle.rules.specs.Lists.{any}
use Rattle.rules.specs.TableText.{line_feed, shape_of}
use Rattle.rules.specs.Refusals.{Item, bad, item_shaped}
use Rattle.rules.specs.declared.Refusal.{Refusal}

-- some byte of the text is b
abbrev pub has : ℕ → List ℕ → Bool
has b s = any (λ x. eqb x b) s

-- what stands before the first byte b, or all of the text where there is none
unfoldable pub up_to : ℕ → List ℕ → List ℕ
up_to b [] = []
up_to b (x ∷ s) = cond (eqb x b) [] (x ∷ up_to b s)

-- what stands behind the first byte b, or nothing where there is none
unfoldable pub behind : ℕ → List ℕ → List ℕ
behind b [] = []
behind b (x ∷ s) = cond (eqb x b) s (behind b s)

-- "the line has none of the four shapes: .. no line feed at the end"; an empty text has no line, and no shape
unfoldable pub first_item : List ℕ → Item
first_item s = cond (has line_feed s) (item_shaped (shape_of (up_to line_feed s))) (bad Refusal.Shape)

-- the lines behind the first
unfoldable pub rest_of : List ℕ → List ℕ
rest_of s = behind line_feed s
