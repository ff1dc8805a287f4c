-- One turn more of the course: it takes the plan on as the rules say, and its fate stands at its job's place. At the end
-- a job's fate is 1 where it is planned, and else what stands in the column. Assumes nothing.
use mathlib.Core.Bool.{Bool, true, false, cond}
use mathlib.Core.List.{List, [], ◌∷◌, ◌++◌, map}
use mathlib.Core.Path.{◌≡◌, refl, sym, ap, ◌∙◌}
use Prim.Native.Nat.{ℕ, ◌+◌, ◌<◌}
use native.Mathlib.Numerals.{add-one}
use native.Mathlib.Omega.{arith}
use borrow.Author.Tests.{eqb-false, eqb-true}
use lib.Dec.{eqb}
use lib.ListN.{get_or, length, set, take}
use lib.Seq.{get_or-set_other, get_or-set_same, take-suc}
use Rattle.chains.specs.Stage.{FatesSoFar, fate_so_far}
use Rattle.laws.proofs.Choices.{split}
use Rattle.laws.proofs.Elements.{each_at_place, map_append}
use Rattle.steps.proofs.Jobs.{jobs_listed, left_on_time, left_stays, listed_has}
use Rattle.laws.proofs.Numbered.{same_place}
use Rattle.steps.proofs.Planned.{planned_left}
use Rattle.plans.specs.Courses.{FatesByTurn, course_by, fate_by_turn, job_at, turn_at}
use Rattle.rules.specs.Lists.{Rising}
use Rattle.rules.specs.Plan.{Course, Outcome, Turn, after, course, course_of, fate_deadlock, fate_in, fate_late, fate_planned, fate_told, in_plan, late_in, leaves_its_ring, own_fate, same, no_turn_yet, turn, turn_of}
use Rattle.rules.specs.TableText.{Records, no_job}
use Rattle.rules.specs.Valid.{Valid}
use Rattle.rules.specs.declared.Job.{Job}

-- a turn behind others is taken after them
turn_behind : (t : Records) (is : List Turn) (i : Turn) (c : Course) → course t (is ++ i ∷ []) c ≡ after t i (course t is c)
unfolding course
turn_behind t [] i c = refl
turn_behind t (k ∷ is) i c = turn_behind t is i (after t k c)

one_more_taken : (order : List ℕ) (n : ℕ) → n < length order → take (n + 1) order ≡ take n order ++ (get_or order n 0 ∷ [])
one_more_taken order n h = rw add-one (take-suc order n 0 h)

pub one_more_turn : (t : Records) (order : List ℕ) (n : ℕ) → n < length order
    → course_by t order (n + 1) ≡ after t (turn_at t (get_or order n 0)) (course_by t order n)
one_more_turn t order n h =
    ap (λ ps. course t (map (turn_at t) ps) no_turn_yet) (one_more_taken order n h)
    ∙ ap (λ is. course t is no_turn_yet) (map_append (turn_at t) (take n order) (get_or order n 0 ∷ []))
    ∙ turn_behind t (map (turn_at t) (take n order)) (turn_at t (get_or order n 0)) no_turn_yet

-- what the turn leaves
pub plan_after : (t : Records) (i : Turn) (c : Course) (o : Outcome) → turn t i c.plan ≡ o → (after t i c).plan ≡ o.plan
unfolding after
plan_after t i c o e = ap (λ (o : Outcome). o.plan) e

own_fate_after : (t : Records) (i : Turn) (c : Course) (j : Job)
    → own_fate j (after t i c) ≡ cond (same j i.job) (turn t i c.plan).fate (own_fate j c)
unfolding after own_fate fate_told
own_fate_after t i c j = split (same j i.job) (λ h. rw h) (λ h. rw h)

stored_at : (fates : List ℕ) (place fate k : ℕ) → place < length fates
    → get_or (set fates place fate) k 0 ≡ cond (eqb k place) fate (get_or fates k 0)
stored_at fates place fate k h =
    split (eqb k place)
    (λ e. rw e (rw (eqb-true k place e) (get_or-set_same fates place fate 0 h)))
    (λ e. rw e (get_or-set_other fates place k fate 0 (eqb-false k place e)))

-- a job of fate 0 was taken out by neither step
remains_by : (late ring : Bool) → cond late fate_late (cond ring fate_deadlock 0) ≡ 0 → (late ≡ false) × (ring ≡ false)
remains_by true ring e = absurd (omega (arith, e))
remains_by false true e = absurd (omega (arith, e))
remains_by false false e = (refl, refl)

pub remains : (t : Records) (j : Job) → fate_so_far t j ≡ 0 → (late_in t j ≡ false) × (leaves_its_ring t j ≡ false)
unfolding fate_so_far
remains t j e = remains_by (late_in t j) (leaves_its_ring t j) e

chosen_by : (late ring same : Bool) (now before : ℕ) → (same ≡ true → (late ≡ false) × (ring ≡ false))
    → cond same now (cond late fate_late (cond ring fate_deadlock before))
    ≡ cond late fate_late (cond ring fate_deadlock (cond same now before))
chosen_by late ring true now before h = rw (h refl).0 (rw (h refl).1)
chosen_by late ring false now before h = refl

module _ (t : Records) (rising : Rising (λ j. j.number) t.jobs) (c : Course) (fates : List ℕ) (place fate : ℕ) where
  -- the turn's fate, stored at its job's place, makes the column that of one turn more
  pub fates_after : place < length t.jobs → place < length fates → fate_so_far t (job_at t place) ≡ 0
      → (turn t (turn_at t place) c.plan).fate ≡ fate
      → FatesByTurn t c fates → FatesByTurn t (after t (turn_at t place) c) (set fates place fate)
  unfolding fate_by_turn turn_of
  fates_after h l z e before i m =
      stored_at fates place fate i l
      ∙ ap (cond (eqb i place) fate) (before i m)
      ∙ chosen_by (late_in t (job_at t i)) (leaves_its_ring t (job_at t i)) (eqb i place) fate (own_fate (job_at t i) c)
      (λ q. rw (eqb-true i place q) (remains t (job_at t place) z))
      ∙ ap (λ own. cond (late_in t (job_at t i)) fate_late (cond (leaves_its_ring t (job_at t i)) fate_deadlock own))
      (ap (λ f. cond (eqb i place) f (own_fate (job_at t i) c)) (sym e)
      ∙ ap (λ s. cond s (turn t (turn_at t place) c.plan).fate (own_fate (job_at t i) c))
      (sym (same_place t.jobs rising i place m h))
      ∙ sym (own_fate_after t (turn_at t place) c (job_at t i)))

-- before the first turn
pub fates_at_start : (t : Records) (fates : List ℕ) → FatesSoFar t fates → FatesByTurn t no_turn_yet fates
unfolding fate_by_turn fate_so_far own_fate fate_told no_turn_yet
fates_at_start t fates e i h = e i h

planned_by : (late ring planned : Bool) (own : ℕ) → (planned ≡ true → (late ≡ false) × (ring ≡ false))
    → cond planned fate_planned (cond late fate_late (cond ring fate_deadlock own))
    ≡ cond late fate_late (cond ring fate_deadlock (cond planned fate_planned own))
planned_by late ring planned own h = chosen_by late ring planned fate_planned own h

-- 8: with 1 for the planned, the column has the fates
pub fates_at_end : (t : Records) → Valid t → (i : ℕ) → i < length t.jobs
    → cond (in_plan (job_at t i) (course_of t).plan) fate_planned (fate_by_turn t (course_of t) (job_at t i))
    ≡ fate_in t (course_of t) (job_at t i)
unfolding fate_by_turn fate_in
fates_at_end t v i h =
    let j = job_at t i in
    planned_by (late_in t j) (leaves_its_ring t j) (in_plan j (course_of t).plan) (own_fate j (course_of t))
    (λ p. let k = planned_left t v j (each_at_place no_job (jobs_listed t v) i h) p in
    (listed_has (left_on_time t) k, listed_has (left_stays t) k))
