-- Document 01, "Demand 2 shuts out these": each wrong planner that it names, as a function from what is lent to what is left,
-- and that it does not keep the promise of `plan_into`; and one more, which does not look at the budget beside the table. Case S, in
-- buffers marked with 7, tells each from the planner. Assumes nothing.
use mathlib.Core.Bool.{cond}
use mathlib.Core.List.{List, [], ◌∷◌, map}
use mathlib.Core.Path.{◌≡◌, refl, sym, ap, ◌∙◌}
use Prim.Native.Nat.{ℕ}
use native.Mathlib.Omega.{arith}
use lib.ListN.{get_or, length, replicate, take}
use Rattle.grammar.proofs.Tables.{hold, job, table, two_speeds}
use Rattle.laws.proofs.Unique.{refusal_not_0}
use Rattle.rules.specs.Answers.{Answer, good}
use Rattle.rules.specs.Case.{right}
use Rattle.rules.specs.Plan.{AfterPlanning, Course, at_budget, course, energy_at, in_plan, leaves_all, leaves_of, leaves_plan, numbers_of, planning_of_up_to, planning_with, speed_for, no_turn_yet, taken_with, taken_with_up_to, too_small_up_to, turns, run_order}
use Rattle.rules.specs.Refusals.{Taken, refused_at, taken}
use Rattle.rules.specs.TableText.{Records, most_jobs, nth, padded, table_of}
use Rattle.rules.specs.declared.Refusal.{Refusal}
use Rattle.rules.specs.declared.Table.{Table}

-- what a planner leaves for a table, a budget beside it and two lent buffers
abbrev pub Planner : Type 0
Planner = Table → ℕ → (order fates : List ℕ) → AfterPlanning

-- the promise of `plan_into`
abbrev pub Keeps : Planner → Type 0
Keeps planner = (t : Table) (budget : ℕ) (order fates : List ℕ) → planner t budget order fates ≡ planning_with t budget order fates

-- the table of case S
abbrev S : Table
S =
    table_of
    (table 0 2500000000 two_speeds
    (job 1 1000 50 3000 3000 0 ∷ job 2 1000 90 2000 2000 1 ∷ job 3 500 10 5000 5000 0 ∷ job 4 2000 40 4000 4000 0
    ∷ job 5 3000 1 2500 2500 0 ∷ [])
    (hold 1 3 ∷ []))

abbrev marked : List ℕ
marked = replicate most_jobs 7

-- what the rules leave of it, with its own budget, and how many they plan with one unit less
left_of_S : planning_with S 2500000000 marked marked
    ≡ record {
      answer = good (3 ∷ 1000 ∷ 2500000000 ∷ []);
      order = padded most_jobs 0 (3 ∷ 2 ∷ 1 ∷ []);
      fates = padded most_jobs 0 (1 ∷ 1 ∷ 1 ∷ 5 ∷ 2 ∷ []);
    }
unfolding right planning_of_up_to leaves_of leaves_plan too_small_up_to taken_with_up_to at_budget
left_of_S = refl

count_of_less : nth (planning_with S 2499999999 marked marked).answer.values 0 ≡ 2
unfolding right planning_of_up_to leaves_of leaves_plan too_small_up_to taken_with_up_to at_budget
count_of_less = refl

-- 1. "a planner that refuses every table": whatever number and line it tells, and whatever it leaves in the lent buffers
pub refuses_all_excluded : (planner : Planner)
    → ((t : Table) (budget : ℕ) (order fates : List ℕ) → (planner t budget order fates).answer.number ≡ 0 → ⊥) → Keeps planner → ⊥
refuses_all_excluded planner refuses keeps =
    refuses S 2500000000 marked marked
    (ap (λ (a : AfterPlanning). a.answer.number) (keeps S 2500000000 marked marked ∙ left_of_S))

-- as one that leaves all as it was, with number and line of its own making
abbrev pub refuses_all : (Table → ℕ → (order fates : List ℕ) → Refusal) → (Table → ℕ → (order fates : List ℕ) → ℕ) → Planner
refuses_all why line t budget order fates = leaves_all (why t budget order fates) (line t budget order fates) order fates

pub any_refusal_excluded : (why : Table → ℕ → (order fates : List ℕ) → Refusal) (line : Table → ℕ → (order fates : List ℕ) → ℕ)
    → Keeps (refuses_all why line) → ⊥
unfolding leaves_all
any_refusal_excluded why line =
    refuses_all_excluded (refuses_all why line) (λ t budget order fates. refusal_not_0 (why t budget order fates))

-- 2. "one that gives one plan always": whatever it makes of the buffers, it looks neither at the table nor at the budget
abbrev pub one_plan_always : (List ℕ → List ℕ → AfterPlanning) → Planner
one_plan_always leaves t budget order fates = leaves order fates

-- or, with a budget beside the table, one plan for the table, whatever the budget: as one that takes the table's own
abbrev pub one_plan_of_aTable : (Table → List ℕ → List ℕ → AfterPlanning) → Planner
one_plan_of_aTable leaves t budget order fates = leaves t order fates

pub any_budget_excluded : (leaves : Table → List ℕ → List ℕ → AfterPlanning) → Keeps (one_plan_of_aTable leaves) → ⊥
any_budget_excluded leaves keeps =
    let same : planning_with S 2500000000 marked marked ≡ planning_with S 2499999999 marked marked =
    sym (keeps S 2500000000 marked marked) ∙ keeps S 2499999999 marked marked in
    let three : nth (planning_with S 2500000000 marked marked).answer.values 0 ≡ 3 =
    ap (λ (a : AfterPlanning). nth a.answer.values 0) left_of_S in
    omega (arith, ap (λ (a : AfterPlanning). nth a.answer.values 0) same, three, count_of_less)

pub one_plan_excluded : (leaves : List ℕ → List ℕ → AfterPlanning) → Keeps (one_plan_always leaves) → ⊥
one_plan_excluded leaves keeps = any_budget_excluded (λ t. leaves) keeps

-- 3. "one that returns with the buffers untouched", whatever it answers
abbrev pub untouched : (Table → ℕ → (order fates : List ℕ) → Answer) → Planner
untouched answers t budget order fates = record { answer = answers t budget order fates; order = order; fates = fates }

pub untouched_excluded : (answers : Table → ℕ → (order fates : List ℕ) → Answer) → Keeps (untouched answers) → ⊥
untouched_excluded answers keeps =
    omega
    (arith, ap (λ (a : AfterPlanning). get_or a.order 0 0) (keeps S 2500000000 marked marked ∙ left_of_S))

-- 4. "one that takes a real turn for the first job and marks the rest 5": the course of one turn, and 1 or 5 for each job
abbrev after_first : Records → Course
after_first t = course t (take 1 (turns t)) no_turn_yet

abbrev first_of : Taken → List ℕ → List ℕ → AfterPlanning
first_of (taken t) order fates =
    let js = run_order t (after_first t).plan in
    let speed = speed_for t js in
    record {
      answer = good (length js ∷ speed.mhz ∷ energy_at speed js ∷ []);
      order = padded (length order) 0 (numbers_of js);
      fates = padded (length fates) 0 (map (λ j. cond (in_plan j (after_first t).plan) 1 5) t.jobs);
    }
first_of (refused_at why line) order fates = leaves_all why line order fates

abbrev pub first_turn_only : Planner
first_turn_only t budget order fates = first_of (taken_with t budget) order fates

first_of_S : nth (first_turn_only S 2500000000 marked marked).answer.values 0 ≡ 2
unfolding right taken_with_up_to at_budget
first_of_S = refl

pub first_turn_only_excluded : Keeps first_turn_only → ⊥
first_turn_only_excluded keeps =
    omega
    (arith, first_of_S, ap (λ (a : AfterPlanning). nth a.answer.values 0) (keeps S 2500000000 marked marked ∙ left_of_S))

-- 5. "one that makes up the energy or the count": the rules' answer with a number of its own, which for some table, budget and
-- buffers is another than the rules'
abbrev pub made_up : (ℕ → List ℕ → List ℕ) → (Table → ℕ → ℕ) → Planner
made_up put number t budget order fates =
    let a = planning_with t budget order fates in
    record {
      answer = record { number = a.answer.number; line = a.answer.line; values = put (number t budget) a.answer.values };
      order = a.order;
      fates = a.fates;
    }

-- another count, another energy
abbrev pub with_count : ℕ → List ℕ → List ℕ
with_count n values = n ∷ nth values 1 ∷ nth values 2 ∷ []

abbrev pub with_energy : ℕ → List ℕ → List ℕ
with_energy n values = nth values 0 ∷ nth values 1 ∷ n ∷ []

module _ (number : Table → ℕ → ℕ) (t : Table) (budget : ℕ) (order fates : List ℕ) where
  pub made_up_count_excluded : (number t budget ≡ nth (planning_with t budget order fates).answer.values 0 → ⊥)
      → Keeps (made_up with_count number) → ⊥
  made_up_count_excluded other keeps =
      other (ap (λ (a : AfterPlanning). nth a.answer.values 0) (keeps t budget order fates))

  pub made_up_energy_excluded : (number t budget ≡ nth (planning_with t budget order fates).answer.values 2 → ⊥)
      → Keeps (made_up with_energy number) → ⊥
  made_up_energy_excluded other keeps =
      other (ap (λ (a : AfterPlanning). nth a.answer.values 2) (keeps t budget order fates))
