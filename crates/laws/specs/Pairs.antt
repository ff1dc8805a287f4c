-- What holds of each element and each behind it, and lists of distinct numbers.
use Rattle.std.specs.Prelude.{Bool, false, List, [], ◌∷◌, ◌≡◌, ℕ, eqb}
use Rattle.rules.specs.Lists.{Each, any}

module _ {A : Type 0} where
  infixr 5 ◌then◌
  -- any two elements, the earlier first, are in the relation R
  pub data Pairwise (R : A → A → Type 0) : List A → Type 0 where
    no_pair : Pairwise R []
    ◌then◌ : {x : A} {xs : List A} → Each (R x) xs → Pairwise R xs → Pairwise R (x ∷ xs)

-- n is one of the numbers
abbrev pub among : List ℕ → ℕ → Bool
among ns n = any (eqb n) ns

abbrev pub Distinct : List ℕ → Type 0
Distinct ns = Pairwise (λ m n. eqb m n ≡ false) ns
