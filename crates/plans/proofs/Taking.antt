-- The course of turns on a plan: after each turn it stands for the plan of the rules' course so far, and the fates for its
-- fates. Assumes nothing.
use mathlib.Core.List.{List, [], ◌∷◌, map}
use mathlib.Core.Path.{◌≡◌, refl, sym, ap, ◌∙◌}
use Prim.Native.Nat.{ℕ, ◌+◌, ◌*◌, ◌-◌, ◌≤◌, ◌<◌}
use native.Mathlib.Omega.{arith}
use lib.ListN.{get_or, length, set, take}
use lib.Seq.{get_or-take, length-take-le}
use Rattle.chains.specs.Stage.{fate_so_far}
use Rattle.columns.proofs.Entries.{jobs_of_entries}
use Rattle.columns.specs.Columns.{Column, TermsOf, jobs_at}
use Rattle.columns.specs.declared.Terms.{Terms}
use Rattle.entries.proofs.Found.{in_plan_among}
use Rattle.entries.proofs.Sums.{cycles_of_jobs}
use Rattle.entries.specs.Promises.{cycles_at}
use Rattle.judgements.specs.declared.Kept.{Kept}
use Rattle.laws.proofs.Elements.{each_map, each_of_places}
use Rattle.plans.proofs.Courses.{fates_after, fates_at_start, one_more_turn, plan_after}
use Rattle.plans.specs.Courses.{FatesByTurn, course_by, job_at, room_by, turn_at}
use Rattle.plans.specs.Promises.{CourseBy, TurnsOf}
use Rattle.rules.specs.Lists.{Each, Rising}
use Rattle.rules.specs.Plan.{Course, Outcome, Turn, course, cycles_of, in_plan, jobs_of, no_turn_yet, run_order, turn, turn_of}
use Rattle.rules.specs.Rooms.{room_left}
use Rattle.rules.specs.TableText.{Records}
use Rattle.steps.proofs.RunOrder.{run-order}
use Rattle.trials.specs.Promises.{OfJobs, Remains, TotalTrue, TurnColumns, TurnOf, TurnTaken, no_entries, plan_in, planned_places}
use Rattle.trials.specs.declared.JobInTurn.{JobInTurn}
use Rattle.trials.specs.declared.Plan.{Plan}

-- plan and fates stand for a course
pub record OnCourse (t : Records) (c : Course) (p : Plan) (fates : List ℕ) : Type 0 where
  pub plan : plan_in t.jobs p ≡ c.plan
  pub of_jobs : OfJobs t.jobs p
  pub fates_by_turn : FatesByTurn t c fates

-- the jobs at the plan's places are those of the course, in the order in which they are run
pub jobs_run : (t : Records) (c : Course) (p : Plan) → plan_in t.jobs p ≡ c.plan
    → jobs_at t.jobs (planned_places p) ≡ run_order t c.plan
jobs_run t c p e =
    sym (jobs_of_entries t.jobs p.keys (planned_places p)) ∙ ap jobs_of e ∙ sym (run-order t c.plan)

-- the room by the plan record's total is the room by all the entries
pub room_by_record : (t : Records) (c : Course) (places cycles : List ℕ) (total : ℕ) (terms : Terms) → TermsOf t terms
    → Column (λ j. j.cycles) t.jobs cycles → jobs_at t.jobs places ≡ run_order t c.plan → total ≡ cycles_at cycles places
    → terms.budget - total * terms.cost ≡ room_left t c.plan
unfolding room_left
room_by_record t c places cycles total terms of column jobs total_true =
    rw (of.budget, of.cost, total_true ∙ cycles_of_jobs cycles t.jobs column places ∙ ap cycles_of jobs)

-- after the last turn
pub at-end : {t : Records} {c : Course} (p : Plan) (fates : List ℕ) → Rising (λ j. j.number) t.jobs
    → OnCourse t c p fates → CourseBy t c p fates
at-end {t} {c} p fates rising on = record {
  jobs = jobs_run t c p on.plan;
  planned = λ i h.
      sym (in_plan_among t.jobs rising p.keys i h (planned_places p) on.of_jobs) ∙ ap (in_plan (job_at t i)) on.plan;
  fates = on.fates_by_turn;
}

module _ {t : Records} {turns over : List ℕ} {columns : TurnColumns} {so_far : List ℕ} {terms : Terms}
    (of : TurnsOf t turns over columns so_far terms) where
  pub at_start : OnCourse t (course_by t turns 0) no_entries so_far
  unfolding course no_turn_yet
  at_start = record {
    plan = refl;
    of_jobs = λ i h. absurd (omega arith);
    fates_by_turn = fates_at_start t so_far of.fates_so_far;
  }

  -- the jobs whose turns were taken remain
  turns_of_jobs : (ps : List ℕ) → map (turn_at t) ps ≡ map (turn_of t) (map (job_at t) ps)
  turns_of_jobs [] = refl
  turns_of_jobs (p ∷ ps) = ap {B = List Turn} (λ is. turn_at t p ∷ is) (turns_of_jobs ps)

  -- so it is after each turn
  pub room_of_turns : (n : ℕ) (p : Plan) → plan_in t.jobs p ≡ (course_by t turns n).plan → TotalTrue columns.cycles p
      → terms.budget - p.totals.cycles * terms.cost ≡ room_by t turns n
  room_of_turns n p on =
      room_by_record t (course_by t turns n) (planned_places p) columns.cycles p.totals.cycles terms of.terms_of
      of.columns_of.cycles-of (jobs_run t (course_by t turns n) p on)

  module _ (i : ℕ) (h : i < length turns) where
    taken_remain : (n : ℕ) → n ≤ length turns → Each (Remains t) (map (job_at t) (take n turns))
    taken_remain n l =
        each_map (job_at t) (each_of_places 0 (take n turns) (λ k m.
        let short : k < n = omega (arith, length-take-le n turns l) in
        rw (get_or-take n turns k 0 short) (of.remaining_jobs k (omega arith))))

    abbrev place : ℕ
    place = get_or turns i 0

    remains_so_far : fate_so_far t (job_at t place) ≡ 0
    remains_so_far = sym (of.fates_so_far place (of.of_jobs i h)) ∙ of.remain i h

    abbrev job : JobInTurn
    job = record { place = place; over = get_or over place 0 }

    module _ {p : Plan} {fates : List ℕ} (on : OnCourse t (course_by t turns i) p fates) where
      pub turn-of : TurnOf t p job columns terms
      turn-of = record {
        valid = of.valid;
        terms_of = of.terms_of;
        columns_of = of.columns_of;
        of_jobs = on.of_jobs;
        of_turns = record {
          taken = map (job_at t) (take i turns);
          remain = taken_remain i (omega arith);
          by_turns = on.plan ∙ ap (λ is. (course t is no_turn_yet).plan) (turns_of_jobs (take i turns));
        };
        place_of_job = of.of_jobs i h;
        remains = of.remaining_jobs i h;
        over_of = of.over_of place (of.of_jobs i h) (of.remain i h);
      }

      pub one_more_taken : {q : Plan} {kept : Kept} {changed fresh : List ℕ} {fate : ℕ} → place < length fates
          → TurnTaken p job columns terms q kept changed fresh fate
          → OnCourse t (course_by t turns (i + 1)) q (set fates place fate)
      one_more_taken {q} {fate} l taken =
          let before = course_by t turns i in
          let left : Outcome = record { plan = plan_in t.jobs q; fate = fate } in
          let goes : turn t (turn_at t place) before.plan ≡ left =
          ap (turn t (turn_at t place)) (sym on.plan) ∙ sym (taken.outcome t turn-of) in
          let more = one_more_turn t turns i h in
          record {
            plan = sym (plan_after t (turn_at t place) before left goes) ∙ ap (λ (c : Course). c.plan) (sym more);
            of_jobs = taken.of_jobs t turn-of;
            fates_by_turn =
                rw more
                (fates_after t of.valid.jobs_rise before fates place fate (of.of_jobs i h) l remains_so_far
                (ap (λ (o : Outcome). o.fate) goes) on.fates_by_turn);
          }
