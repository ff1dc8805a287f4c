-- The job of a number, by its place: where in a column of numbers it stands.
use Rattle.std.specs.Prelude.{List, Option, Some, None, ◌≡◌, ℕ, ◌<◌, get_or, length}

-- the numbers rise
abbrev pub Rises : List ℕ → Type 0
Rises numbers = (p q : ℕ) → p < q → q < length numbers → get_or numbers p 0 < get_or numbers q 0

-- The number stands at this place; or, where the numbers rise, at none.
abbrev pub StandsAt : List ℕ → ℕ → Option ℕ → Type 0
StandsAt numbers number (Some place) = (place < length numbers) × (get_or numbers place 0 ≡ number)
StandsAt numbers number None = Rises numbers → (p : ℕ) → p < length numbers → get_or numbers p 0 ≡ number → ⊥
