-- Any two answers that a promise of the planner allows are equal: the decision says what the rules say, and is known by
-- it; the lists are the rules'; and the part begins where the order buffer does. (The ghost name of a part is no value of
-- the program.) Assumes nothing.
use mathlib.Core.List.{List}
use mathlib.Core.Path.{◌≡◌, refl, sym, ap, ◌∙◌}
use Prim.Native.Nat.{ℕ}
use base.Logic.{SProp}
use contract.Lifetimes.{Lfts}
use contract.Monad.{Fun, fact}
use denote.Ref.{Gone, MutBor}
use types.Logic.{Logic}
use seplogic.Ra.Ura.{Ura}
use prog.Memory.{Memory}
use prog.Routine.{Routine}
use Rattle.laws.proofs.Unique.{decision_unique, panel_unique}
use Rattle.planner.specs.contracts.plan as plan
use Rattle.planner.proofs.plan_into.Reads.{Learnt}
use Rattle.planner.proofs.rooms.Reads as telling
use Rattle.planner.specs.Promises.{PlannedAs}
use Rattle.planner.specs.declared.Planned.{Planned}
use Rattle.rules.specs.Plan.{AfterPlanning, taken_with}
use Rattle.rules.specs.Rooms.{AfterRooms}
use Rattle.rules.specs.declared.Decision.{Decision}
use Rattle.rules.specs.declared.Refused.{Refused}
use Rattle.std.specs.Prelude.{Result}
use Rattle.rules.specs.declared.Panel.{Panel}
use Rattle.rules.specs.declared.Table.{Table}

-- what the promise of `plan_into` tells a caller of a decision and the lent buffers behind the call
abbrev pub Promised : Lfts 2 → Table → (budget : ℕ) → (order fates : MutBor (List ℕ)) → Result Decision Refused → (order' fates' : MutBor (List ℕ))
    → Type 0
Promised lifetimes table budget order fates r order' fates' =
    Learnt lifetimes (table, (budget, (order, (fates, tt)))) r (table, (budget, (order', (fates', tt))))

pub unique_into : (lifetimes : Lfts 2) (table : Table) (budget : ℕ) (order fates a b a' b' : MutBor (List ℕ)) (r s : Result Decision Refused)
    → Promised lifetimes table budget order fates r a b → Promised lifetimes table budget order fates s a' b'
    → (r ≡ s) × (a.now ≡ a'.now) × (b.now ≡ b'.now)
unique_into lifetimes table budget order fates a b a' b' r s p q =
    let same = p ∙ sym q in (
      decision_unique r s (ap (λ (told : AfterPlanning). told.answer) same),
      ap (λ (told : AfterPlanning). told.order) same,
      ap (λ (told : AfterPlanning). told.fates) same,
    )

pub unique_plan : (table : Table) (budget : ℕ) (order fates : List ℕ) (begin : ℕ × ℕ) (r s : Planned) (b b' : List ℕ)
    → PlannedAs (taken_with table budget) order fates begin r b → PlannedAs (taken_with table budget) order fates begin s b'
    → (r.plan.now ≡ s.plan.now) × (r.plan.ref_ptr ≡ s.plan.ref_ptr) × (r.decision ≡ s.decision) × (b ≡ b')
unique_plan table budget order fates begin r s b b' p q = (
  p.plan ∙ sym q.plan,
  p.begins ∙ sym q.begins,
  decision_unique r.decision s.decision (p.decided ∙ sym q.decided),
  p.fates-left ∙ sym q.fates-left,
)

-- what the promise of `rooms` tells a caller of the panel's answer and the lent buffers behind the call
abbrev pub PromisedRooms : Lfts 2 → Table → (budget : ℕ) → (turns rooms : MutBor (List ℕ)) → Result Panel Refused → (turns' rooms' : MutBor (List ℕ))
    → Type 0
PromisedRooms lifetimes table budget turns rooms r turns' rooms' =
    telling.Learnt lifetimes (table, (budget, (turns, (rooms, tt)))) r (table, (budget, (turns', (rooms', tt))))

pub unique_rooms : (lifetimes : Lfts 2) (table : Table) (budget : ℕ) (turns rooms a b a' b' : MutBor (List ℕ)) (r s : Result Panel Refused)
    → PromisedRooms lifetimes table budget turns rooms r a b → PromisedRooms lifetimes table budget turns rooms s a' b'
    → (r ≡ s) × (a.now ≡ a'.now) × (b.now ≡ b'.now)
unique_rooms lifetimes table budget turns rooms a b a' b' r s p q =
    let same = p ∙ sym q in (
      panel_unique r s (ap (λ (told : AfterRooms). told.answer) same),
      ap (λ (told : AfterRooms). told.turns) same,
      ap (λ (told : AfterRooms). told.rooms) same,
    )

-- the contract of `plan` is that record
module _ {M : Type 1} {𝓤 : Ura M} (𝓛 : Logic 𝓤) (mem : Memory → SProp 𝓤) (run : Routine → Fun 𝓤) (κs : Lfts 2) where
  pub plan-says : (table : Table) (budget : ℕ) (order fates fates' : MutBor (List ℕ)) (spent : Gone) (r : Planned)
      → (plan.clauses 𝓛 mem run κs (table, (budget, (order, (fates, tt))))).ensures tt r (table, (budget, (spent, (fates', tt))))
      ≡ fact 𝓤 (PlannedAs (taken_with table budget) order.now fates.now order.ref_ptr r fates'.now)
  plan-says table budget order fates fates' spent r = refl
