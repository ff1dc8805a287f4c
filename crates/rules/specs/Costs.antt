-- Document 01, "Supplied costs".
use Rattle.std.specs.Prelude.{cond, List, [], ◌∷◌, map, ℕ, ◌+◌, ◌-◌, ◌*◌, ◌/◌, ◌^◌, get_or, length, replicate}
use Rattle.rules.specs.Answers.{Answer, good, refused}
use Rattle.rules.specs.Lists.{within}
use Rattle.rules.specs.declared.Refusal.{Refusal}

-- a / b, "rounded up to a whole number"
unfoldable pub rounded_up : ℕ → ℕ → ℕ
rounded_up a b = (a + (b - 1)) / b

-- "speeds 360, 550, 640, 730, 820, 910, 1000 MHz"
abbrev pub supplied_speeds : List ℕ
supplied_speeds = 360 ∷ 550 ∷ 640 ∷ 730 ∷ 820 ∷ 910 ∷ 1000 ∷ []

-- "The cost of model 1 is f²; of model 2, 0.75f² + 0.25·1000³/f; of model 3, 0.5f² + 0.5·1000³/f": how many quarters of
-- the cost are f²; the others are 1000³/f.
abbrev pub square_quarters : List ℕ
square_quarters = 4 ∷ 3 ∷ 2 ∷ []

-- q quarters of f² and 4 - q quarters of 1000³ / f, over the common denominator 4 f
unfoldable pub cost_of : ℕ → ℕ → ℕ
cost_of q f = rounded_up (q * (f * f * f) + (4 - q) * 1000 ^ 3) (4 * f)

unfoldable pub costs_of : ℕ → List ℕ
costs_of q = map (cost_of q) supplied_speeds

-- The three rows, one for each model.
unfoldable pub cost_rows : List (List ℕ)
cost_rows = map costs_of square_quarters

-- "Asked by model number, the supplied table answers its seven costs"; 9: "a cost model other than 1, 2, 3", line 0.
unfoldable pub supplied_costs : ℕ → Answer
supplied_costs model =
    cond (within 1 3 model)
    (good (get_or cost_rows (model - 1) []))
    (refused Refusal.Model 0 (replicate (length supplied_speeds) 0))
