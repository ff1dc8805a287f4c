-- The costs that document 01 prints are those of its rule, over all rows and speeds at once: antt computes both sides.
-- Rounding up gives the least whole number that is enough, since what division leaves over is below the divisor. Assumes
-- nothing.
use mathlib.Core.List.{List, [], ◌∷◌}
use mathlib.Core.Path.{◌≡◌, refl}
use Prim.Native.Nat.{ℕ, suc, ◌+◌, ◌-◌, ◌*◌, ◌≤◌}
use native.Mathlib.Nat.{div-lt_iff_lt-mul, lt-div-mul-add, suc-mul}
use native.Mathlib.Omega.{arith}
use Rattle.rules.specs.Costs.{rounded_up, cost_of, costs_of, cost_rows}

-- "The three tables of seven costs"
abbrev pub printed_rows : List (List ℕ)
printed_rows =
    (129600 ∷ 302500 ∷ 409600 ∷ 532900 ∷ 672400 ∷ 828100 ∷ 1000000 ∷ [])
    ∷ (791645 ∷ 681421 ∷ 697825 ∷ 742141 ∷ 809179 ∷ 895801 ∷ 1000000 ∷ [])
    ∷ (1453689 ∷ 1060341 ∷ 986050 ∷ 951382 ∷ 945957 ∷ 963501 ∷ 1000000 ∷ [])
    ∷ []

pub printed_by_rule : printed_rows ≡ cost_rows
unfolding cost_rows costs_of cost_of rounded_up
printed_by_rule = refl

module _ (a b : ℕ) (h : 1 ≤ b) where
  pub rounded_up_enough : a ≤ rounded_up a b * b
  unfolding rounded_up
  rounded_up_enough = omega (arith, lt-div-mul-add {a = a + (b - 1)} {b = b} h)

  pub rounded_up_least : (n : ℕ) → a ≤ n * b → rounded_up a b ≤ n
  unfolding rounded_up
  rounded_up_least n l =
      omega (arith, (div-lt_iff_lt-mul {k = b} {x = a + (b - 1)} {y = suc n} h).1 (omega (arith, suc-mul n b)))
