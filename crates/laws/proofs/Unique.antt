-- Two answers that say the same are the same: from the number, the line and the values an answer can be made again, and
-- what is made is the answer. Assumes nothing.
use mathlib.Core.List.{List, [], ◌∷◌}
use mathlib.Core.Option.{Option, none, some}
use mathlib.Core.Path.{◌≡◌, refl, sym, ap, ◌∙◌}
use Prim.Native.Nat.{ℕ, zero, suc}
use native.Mathlib.Omega.{arith}
use lib.ListN.{get_or, get_elem?}
use Rattle.std.specs.Prelude.{Result, Ok, Err}
use Rattle.rules.specs.Answers.{Answer, allocated_says, decision_says, field_says, number_of, refuses}
use Rattle.rules.specs.Answers.{panel_says, reading_says, supplied_says, verdict_says, written_says}
use Rattle.rules.specs.declared.Decision.{Decision}
use Rattle.rules.specs.declared.Panel.{Panel}
use Rattle.rules.specs.declared.Refusal.{Refusal}
use Rattle.rules.specs.declared.Refused.{Refused}
use Rattle.rules.specs.declared.Table.{Table}

-- what can be made again from what it says is known by it
pub known_by : {A B : Type 0} (says : A → B) (made : B → A) → ((a : A) → made (says a) ≡ a)
    → (a b : A) → says a ≡ says b → a ≡ b
known_by says made again a b e = sym (again a) ∙ ap made e ∙ again b

-- in the order of their numbers, from 1
abbrev refusals : List Refusal
refusals =
    Refusal.Shape ∷ Refusal.Range ∷ Refusal.Order ∷ Refusal.TooMany ∷ Refusal.CriticalAfterTermination
    ∷ Refusal.UnknownJob ∷ Refusal.OwnRequest ∷ Refusal.Room ∷ Refusal.Model ∷ Refusal.Allocation ∷ []

abbrev refusal_of : ℕ → Option Refusal
refusal_of zero = none
refusal_of (suc n) = get_elem? refusals n

refusal_again : (r : Refusal) → refusal_of (number_of r) ≡ some r
refusal_again Refusal.Shape = refl
refusal_again Refusal.Range = refl
refusal_again Refusal.Order = refl
refusal_again Refusal.TooMany = refl
refusal_again Refusal.CriticalAfterTermination = refl
refusal_again Refusal.UnknownJob = refl
refusal_again Refusal.OwnRequest = refl
refusal_again Refusal.Room = refl
refusal_again Refusal.Model = refl
refusal_again Refusal.Allocation = refl

pub refusal_unique : (r s : Refusal) → number_of r ≡ number_of s → r ≡ s
refusal_unique r s e = cc (refusal_again r, refusal_again s, ap refusal_of e)

pub refusal_not_0 : (r : Refusal) → number_of r ≡ 0 → ⊥
refusal_not_0 r e = let z : ◌≡◌ {A = ℕ} 0 1 = cc (refusal_again r, ap refusal_of e) in omega arith

-- an answer, made from what is said: from its values where nothing is refused
abbrev made : {A : Type 0} → (List ℕ → A) → Answer → Result A Refused
made {A} done a = from (refusal_of a.number)
  where
    from : Option Refusal → Result A Refused
    from none = Ok (done a.values)
    from (some r) = refuses r a.line

pub field_unique : (a b : Result ℕ Refused) → field_says a ≡ field_says b → a ≡ b
field_unique =
    known_by field_says (made (λ values. get_or values 0 0)) (elim [ Ok n ↦ refl | Err r ↦ rw (refusal_again r.why) ])

pub allocated_unique : (a b : Result ℕ Refused) → allocated_says a ≡ allocated_says b → a ≡ b
allocated_unique =
    known_by allocated_says (made (λ values. get_or values 0 0)) (elim [ Ok c ↦ refl | Err r ↦ rw (refusal_again r.why) ])

pub written_unique : (a b : Result ℕ Refused) → written_says a ≡ written_says b → a ≡ b
written_unique =
    known_by written_says (made (λ values. get_or values 0 0)) (elim [ Ok n ↦ refl | Err r ↦ rw (refusal_again r.why) ])

pub verdict_unique : (a b : Result (Unit {0}) Refused) → verdict_says a ≡ verdict_says b → a ≡ b
verdict_unique = known_by verdict_says (made (λ values. tt)) (elim [ Ok u ↦ refl | Err r ↦ rw (refusal_again r.why) ])

pub decision_unique : (a b : Result Decision Refused) → decision_says a ≡ decision_says b → a ≡ b
decision_unique =
    known_by decision_says
    (made (λ values. record { count = get_or values 0 0; speed = get_or values 1 0; energy = get_or values 2 0 }))
    (elim [ Ok d ↦ refl | Err r ↦ rw (refusal_again r.why) ])

pub panel_unique : (a b : Result Panel Refused) → panel_says a ≡ panel_says b → a ≡ b
panel_unique =
    known_by panel_says (made (λ values. record { turns = get_or values 0 0; room = get_or values 1 0 }))
    (elim [ Ok p ↦ refl | Err r ↦ rw (refusal_again r.why) ])

pub supplied_unique : (a b : Result (List ℕ) Refused) → supplied_says a ≡ supplied_says b → a ≡ b
supplied_unique =
    known_by supplied_says (made (λ values. values)) (elim [ Ok costs ↦ refl | Err r ↦ rw (refusal_again r.why) ])

pub reading_unique : (a b : Result Table Refused) → reading_says a ≡ reading_says b → a ≡ b
reading_unique =
    known_by reading_says (λ told. made (λ values. told.table) told.answer)
    (elim [ Ok t ↦ refl | Err r ↦ rw (refusal_again r.why) ])
