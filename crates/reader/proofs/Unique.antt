-- Any two answers that the promise of `read` allows are equal: both say what the rules say of the text, and an answer is known
-- by what it says. Assumes nothing.
use mathlib.Core.List.{List}
use mathlib.Core.Path.{◌≡◌, sym, ◌∙◌}
use Prim.Native.Nat.{ℕ}
use contract.Lifetimes.{Lfts}
use denote.Ref.{Bor}
use Rattle.laws.proofs.Unique.{reading_unique}
use Rattle.reader.proofs.read.Reads.{Learnt}
use Rattle.rules.specs.declared.Refused.{Refused}
use Rattle.rules.specs.declared.Table.{Table}
use Rattle.std.specs.Prelude.{Result}

-- what the promise tells a caller of an answer r
abbrev pub Promised : Lfts 1 → Bor (List ℕ) → Result Table Refused → Type 0
Promised lifetime text r = Learnt lifetime (text, tt) r (text, tt)

pub unique : (lifetime : Lfts 1) (text : Bor (List ℕ)) (r s : Result Table Refused)
    → Promised lifetime text r → Promised lifetime text s → r ≡ s
unique lifetime text r s p q = reading_unique r s (p ∙ sym q)
