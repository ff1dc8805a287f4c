-- Any two answers and final buffers that the promise of `write` allows are equal: both say what the rules say, the buffers
-- are the rules', and an answer is known by what it says. Assumes nothing.
use mathlib.Core.List.{List}
use mathlib.Core.Path.{◌≡◌, sym, ◌∙◌}
use Prim.Native.Nat.{ℕ}
use contract.Lifetimes.{Lfts}
use denote.Ref.{MutBor}
use Rattle.laws.proofs.Unique.{written_unique}
use Rattle.rules.specs.declared.Refused.{Refused}
use Rattle.rules.specs.declared.Table.{Table}
use Rattle.std.specs.Prelude.{Result}
use Rattle.writer.proofs.write.Reads.{Learnt}

-- what the promise tells a caller of an answer r and the lent buffer behind the call
abbrev pub Promised : Lfts 1 → Table → MutBor (List ℕ) → Result ℕ Refused → MutBor (List ℕ) → Type 0
Promised lifetime t out r after = Learnt lifetime (t, (out, tt)) r (t, (after, tt))

pub unique : (lifetime : Lfts 1) (t : Table) (out a b : MutBor (List ℕ)) (r s : Result ℕ Refused)
    → Promised lifetime t out r a → Promised lifetime t out s b → (r ≡ s) × (a.now ≡ b.now)
unique lifetime t out a b r s p q = (written_unique r s (p.answer ∙ sym q.answer), p.buffer ∙ sym q.buffer)
