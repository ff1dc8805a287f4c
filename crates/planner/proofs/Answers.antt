-- What is known of the decision and of both buffers when `plan_into` has returned and `hand_back` has cut the part is
-- what `plan` promises. Nothing of `planning_of` is opened: an equation of records gives one of each field. Assumes nothing.
use mathlib.Core.List.{List}
use mathlib.Core.Path.{◌≡◌, refl, ap, ◌∙◌}
use Prim.Native.Nat.{ℕ}
use denote.Ref.{MutBor}
use lib.ListN.{take}
use Rattle.handing.specs.Promises.{HandedBack, planned_count}
use Rattle.planner.specs.Promises.{PlannedAs}
use Rattle.plans.specs.Promises.{leaves}
use Rattle.rules.specs.Plan.{AfterPlanning, part_of, planning_of}
use Rattle.rules.specs.declared.Decision.{Decision}
use Rattle.rules.specs.declared.Refused.{Refused}
use Rattle.std.specs.Prelude.{Result}
use Rattle.rules.specs.Refusals.{Taken}

-- the first places of the order buffer, as many as are planned
pub part_of_leaves : (d : Result Decision Refused) (order fates : List ℕ) → take (planned_count d) order ≡ part_of (leaves d order fates)
unfolding part_of
part_of_leaves d order fates = refl

-- what `plan_into` says of its decision and of the lists that it leaves
abbrev pub IntoLeaves : Taken → (order fates : List ℕ) → Result Decision Refused → (order' fates' : List ℕ) → Type 0
IntoLeaves k order fates d order' fates' = leaves d order' fates' ≡ planning_of k order fates

-- what `hand_back` says of the part
abbrev pub Handed : Result Decision Refused → List ℕ → ℕ × ℕ → MutBor (List ℕ) → Type 0
Handed d order begin part = HandedBack order begin d part.now part.ref_ptr

pub plan_promised : (k : Taken) (order fates order' fates' : List ℕ) (begin : ℕ × ℕ) (d : Result Decision Refused) (part : MutBor (List ℕ))
    → IntoLeaves k order fates d order' fates' → Handed d order' begin part
    → PlannedAs k order fates begin (record { plan = part; decision = d }) fates'
plan_promised k order fates order' fates' begin d part decided handed = record {
  plan = handed.part_is ∙ part_of_leaves d order' fates' ∙ ap part_of decided;
  begins = handed.begins;
  decided = ap (λ (a : AfterPlanning). a.answer) decided;
  fates-left = ap (λ (a : AfterPlanning). a.fates) decided;
}
