-- A list that a loop overwrites from the front.
use Rattle.std.specs.Prelude.{List, ◌++◌, ℕ, take, drop}

module _ {A : Type 0} where
  -- the new list up to place i, the old one from there on
  abbrev pub overwritten : List A → List A → ℕ → List A
  overwritten new old i = take i new ++ drop i old
