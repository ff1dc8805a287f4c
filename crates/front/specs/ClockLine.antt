-- What the rules say of a text's first line alone: the clock and the budget of its T, or the refusal of line 1.
use Rattle.std.specs.Prelude.{List, Result, [], ◌∷◌, ℕ}
use Rattle.rules.specs.Answers.{Answer, good, refused, says}
use Rattle.rules.specs.Refusals.{Item, Judged, accept, accepted, items_in, nothing, refused_for}
use Rattle.rules.specs.TableText.{lines_of}
use Rattle.rules.specs.declared.Refusal.{Refusal}
use Rattle.rules.specs.declared.Refused.{Refused}
use Rattle.front.specs.declared.Clock.{Clock}

-- The number, the line and the values of each case: the clock and the budget.
abbrev pub clock_line_says : Result Clock Refused → Answer
clock_line_says = says (λ c. c.clock ∷ c.budget ∷ []) []

-- line 1, once it is judged
unfoldable pub line_one_says : Judged → Answer
line_one_says (accepted b) = good (b.records.clock ∷ b.records.budget ∷ [])
line_one_says (refused_for why) = refused why 1 []

-- "the text ends before an F has been read (line: one after the last)": the empty text is refused 3, line 1
unfoldable pub first_of : List Item → Answer
first_of [] = refused Refusal.Order 1 []
first_of (i ∷ is) = line_one_says (accept nothing i)

unfoldable pub first_line : List ℕ → Answer
first_line text = first_of (items_in (lines_of text))
