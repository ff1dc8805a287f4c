-- Demand 3, "jobs that are not planned don't matter", as statements over two tables: what it asks of them, and what both then
-- give. "In demand 3 the budget is the one given beside the table" (document 02, A5): both are planned with one budget, and what
-- their own T say of a budget may differ.
use Rattle.std.specs.Prelude.{Bool, true, not, ◌≡◌, ℕ}
use Rattle.rules.specs.Lists.{Each, keep}
use Rattle.rules.specs.Plan.{Fated, asks_for, plan_of}
use Rattle.rules.specs.TableText.{Records}
use Rattle.rules.specs.declared.Hold.{Hold}
use Rattle.rules.specs.declared.Job.{Job}

-- "outside the set": `out n`, the job of number n is not in it
module _ (out : ℕ → Bool) where
  -- "every job outside"
  abbrev pub outer_job : Job → Bool
  outer_job j = out j.number

  -- "the resources those jobs hold"
  abbrev pub outer_hold : Hold → Bool
  outer_hold h = out h.holder

  -- the fate of "every job outside"
  abbrev pub outer_fated : Fated → Bool
  outer_fated i = out i.job.number

  -- "both give the same plan, speed and energy, and the same fate to every job outside the set"
  pub record Alike (a b : Records) : Type 0 where
    pub jobs : (plan_of a).jobs ≡ (plan_of b).jobs
    pub speed : (plan_of a).speed ≡ (plan_of b).speed
    pub energy : (plan_of a).energy ≡ (plan_of b).energy
    pub fates : keep outer_fated (plan_of a).fates ≡ keep outer_fated (plan_of b).fates

-- "some set": any job numbers, also of jobs that are in neither table
module _ (set : ℕ → Bool) where
  -- "outside"
  abbrev pub out_of : ℕ → Bool
  out_of n = not (set n)

  -- "agree in every job outside some set, in the resources those jobs hold, and in clock, budget, speeds and their costs", the
  -- budget being the one beside them
  pub record Agree (a b : Records) : Type 0 where
    pub clock : a.clock ≡ b.clock
    pub speeds : a.speeds ≡ b.speeds
    pub jobs : keep (outer_job out_of) a.jobs ≡ keep (outer_job out_of) b.jobs
    pub holds : keep (outer_hold out_of) a.holds ≡ keep (outer_hold out_of) b.holds

  -- "in neither table a job outside the set asks for a resource that a job inside holds"
  abbrev pub NoneAsksInside : Records → Type 0
  NoneAsksInside t =
      Each (λ j. out_of j.number ≡ true → Each (λ h. asks_for j h ≡ true → out_of h.holder ≡ true) t.holds) t.jobs

  -- "neither plan contains a job of the set"
  abbrev pub NonePlanned : Records → Type 0
  NonePlanned t = Each (λ (j : Job). out_of j.number ≡ true) (plan_of t).jobs
