-- Any two parts that the promise of `hand_back` allows hold the same and begin at the same place. (The ghost name of a part
-- is no value of the program.) Assumes nothing.
use mathlib.Core.List.{List}
use mathlib.Core.Path.{◌≡◌, refl, sym, ◌∙◌}
use Prim.Native.Nat.{ℕ}
use contract.Lifetimes.{Lfts}
use denote.Ref.{Gone, MutBor}
use Rattle.handing.proofs.hand_back.Reads.{Learnt}
use Rattle.std.specs.Prelude.{Result}
use Rattle.handing.specs.Promises.{HandedBack}
use Rattle.rules.specs.declared.Decision.{Decision}
use Rattle.rules.specs.declared.Refused.{Refused}

pub hand_back_unique : (order : List ℕ) (begin : ℕ × ℕ) (d : Result Decision Refused) (part part' : List ℕ) (at at' : ℕ × ℕ)
    → HandedBack order begin d part at → HandedBack order begin d part' at' → (part ≡ part') × (at ≡ at')
hand_back_unique order begin d part part' at at' p q = (p.part_is ∙ sym q.part_is, p.begins ∙ sym q.begins)

-- the contract of `hand_back` is that record
pub hand_back_says : (lifetime : Lfts 1) (order : MutBor (List ℕ)) (d : Result Decision Refused) (r : MutBor (List ℕ)) (spent : Gone)
    → Learnt lifetime (order, (d, tt)) r (spent, (d, tt)) ≡ HandedBack order.now order.ref_ptr d r.now r.ref_ptr
hand_back_says lifetime order d r spent = refl
