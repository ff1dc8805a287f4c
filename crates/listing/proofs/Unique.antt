-- Any two answers that the promise of `list`, or of `list_with_budget`, allows are equal, and so are the buffers: both are what the
-- rules say of the text, the budget beside it and the buffer lent, and an answer is known by what it says. Assumes nothing.
use mathlib.Core.List.{List}
use mathlib.Core.Path.{◌≡◌, sym, ap, ◌∙◌}
use Prim.Native.Nat.{ℕ}
use contract.Lifetimes.{Lfts}
use denote.Ref.{Bor, MutBor}
use Rattle.std.specs.Prelude.{Result}
use Rattle.beside.specs.Listed.{wrote}
use Rattle.laws.proofs.Unique.{written_unique}
use Rattle.listing.proofs.list.Reads.{Learnt}
use Rattle.listing.proofs.list_with_budget.Reads as with-budget
use Rattle.rules.specs.Refusals.{AfterWriting}
use Rattle.rules.specs.declared.Refused.{Refused}

-- what the promise tells a caller of an answer and the lent buffer behind the call
abbrev pub Promised : Lfts 2 → (text : Bor (List ℕ)) (out : MutBor (List ℕ)) → Result ℕ Refused → (after : MutBor (List ℕ)) → Type 0
Promised lifetimes text out r after = Learnt lifetimes (text, (out, tt)) r (text, (after, tt))

abbrev pub PromisedWith : Lfts 2 → (text : Bor (List ℕ)) → ℕ → (out : MutBor (List ℕ)) → Result ℕ Refused → (after : MutBor (List ℕ)) → Type 0
PromisedWith lifetimes text budget out r after =
    with-budget.Learnt lifetimes (text, (budget, (out, tt))) r (text, (budget, (after, tt)))

-- an answer and a buffer are known by what they say
known : {all : AfterWriting} (r s : Result ℕ Refused) (after after' : List ℕ) → wrote r after ≡ all → wrote s after' ≡ all
    → (r ≡ s) × (after ≡ after')
known r s after after' p q =
    let same = p ∙ sym q in
    (written_unique r s (ap (λ (a : AfterWriting). a.answer) same), ap (λ (a : AfterWriting). a.out) same)

pub unique : (lifetimes : Lfts 2) (text : Bor (List ℕ)) (out after after' : MutBor (List ℕ)) (r s : Result ℕ Refused)
    → Promised lifetimes text out r after → Promised lifetimes text out s after' → (r ≡ s) × (after.now ≡ after'.now)
unique lifetimes text out after after' r s p q = known r s after.now after'.now p q

pub unique_with_budget : (lifetimes : Lfts 2) (text : Bor (List ℕ)) (budget : ℕ) (out after after' : MutBor (List ℕ)) (r s : Result ℕ Refused)
    → PromisedWith lifetimes text budget out r after → PromisedWith lifetimes text budget out s after'
    → (r ≡ s) × (after.now ≡ after'.now)
unique_with_budget lifetimes text budget out after after' r s p q = known r s after.now after'.now p q
