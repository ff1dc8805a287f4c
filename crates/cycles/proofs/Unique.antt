-- Any two answers that the promise of `allocate` allows are equal: both say what the rules say, and an answer is known
-- by what it says. Assumes nothing.
use mathlib.Core.Path.{◌≡◌, sym, ◌∙◌}
use Prim.Native.Nat.{ℕ}
use Rattle.std.specs.Prelude.{Result}
use Rattle.cycles.proofs.allocate.Reads.{Learnt}
use Rattle.laws.proofs.Unique.{allocated_unique}
use Rattle.rules.specs.declared.Refused.{Refused}

-- what the promise tells a caller of an answer r
abbrev pub Promised : ℕ → ℕ → ℕ → Result ℕ Refused → Type 0
Promised mean variance assurance r =
    Learnt _ (mean, (variance, (assurance, tt))) r (mean, (variance, (assurance, tt)))

pub unique : (mean variance assurance : ℕ) (r s : Result ℕ Refused)
    → Promised mean variance assurance r → Promised mean variance assurance s → r ≡ s
unique mean variance assurance r s p q = allocated_unique r s (p ∙ sym q)
