-- `plan_into` and then `hand_back` of the order buffer that it left: together they promise every place. The part is the front of
-- that buffer, so the part and what `plan_into` left behind it are the buffer whole, as the rules give it: the plan's numbers and
-- then 0, or, where refused, nothing and then the buffer as it was lent. Assumes nothing.
use mathlib.Core.List.{List, [], ◌∷◌, ◌++◌}
use mathlib.Core.Path.{◌≡◌, refl, ap, ◌∙◌}
use Prim.Native.Nat.{ℕ, zero, suc}
use contract.Lifetimes.{Lfts}
use denote.Ref.{MutBor}
use lib.ListN.{drop, length, take}
use Rattle.handing.specs.Promises.{HandedBack, planned_count}
use Rattle.planner.specs.Promises.{Together}
use Rattle.planner.proofs.Answers.{part_of_leaves}
use Rattle.planner.proofs.Unique.{Promised}
use Rattle.rules.specs.Plan.{AfterPlanning, part_of, taken_with}
use Rattle.rules.specs.Answers.{refuses}
use Rattle.rules.specs.declared.Decision.{Decision}
use Rattle.rules.specs.declared.Refused.{Refused}
use Rattle.std.specs.Prelude.{Result}
use Rattle.rules.specs.declared.Refusal.{Refusal}
use Rattle.rules.specs.declared.Table.{Table}

-- a front part and what stands behind it are the list
front_and_behind : (n : ℕ) (xs : List ℕ) → take n xs ++ drop (length (take n xs)) xs ≡ xs
front_and_behind zero xs = refl
front_and_behind (suc n) [] = refl
front_and_behind (suc n) (x ∷ xs) = ap (λ (r : List ℕ). x ∷ r) (front_and_behind n xs)

pub plan_into_then_hand_back : (lifetimes : Lfts 2) (table : Table) (budget : ℕ) (order fates order' fates' : MutBor (List ℕ))
    (d : Result Decision Refused) (begin at : ℕ × ℕ) (part : List ℕ) → Promised lifetimes table budget order fates d order' fates'
    → HandedBack order'.now begin d part at
    → Together (taken_with table budget) order.now fates.now begin order'.now part at
plan_into_then_hand_back lifetimes table budget order fates order' fates' d begin at part promised handed = record {
  part_is = handed.part_is ∙ part_of_leaves d order'.now fates'.now ∙ ap part_of promised;
  begins = handed.begins;
  every_place = rw handed.part_is (front_and_behind (planned_count d) order'.now) ∙ ap (λ (a : AfterPlanning). a.order) promised;
}

-- where refused, the part is empty
pub refused_hands_back_nothing : (order : List ℕ) (begin : ℕ × ℕ) (why : Refusal) (line : ℕ) (part : List ℕ) (at : ℕ × ℕ)
    → HandedBack order begin (refuses why line) part at → part ≡ []
refused_hands_back_nothing order begin why line part at handed = handed.part_is
