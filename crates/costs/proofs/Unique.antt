-- Any two answers that the promise of `supplied` allows are equal: both say what the rules say, and an answer is known
-- by what it says. Assumes nothing.
use mathlib.Core.Path.{◌≡◌, sym, ◌∙◌}
use Prim.Native.Nat.{ℕ}
use Rattle.std.specs.Prelude.{List, Result}
use Rattle.costs.proofs.supplied.Reads.{Learnt}
use Rattle.laws.proofs.Unique.{supplied_unique}
use Rattle.rules.specs.declared.Refused.{Refused}

-- what the promise tells a caller of an answer r
abbrev pub Promised : ℕ → Result (List ℕ) Refused → Type 0
Promised model r = Learnt _ (model, tt) r (model, tt)

pub unique : (model : ℕ) (r s : Result (List ℕ) Refused) → Promised model r → Promised model s → r ≡ s
unique model r s p q = supplied_unique r s (p ∙ sym q)
