-- Steps 8 and 9: from what the turns left, the speed that was chosen and the places that were marked, the rules' plan.
-- Assumes nothing.
use mathlib.Core.Bool.{cond}
use mathlib.Core.List.{List}
use mathlib.Core.Path.{◌≡◌, refl, sym, ap, ◌∙◌}
use Prim.Native.Nat.{ℕ, ◌-◌, ◌*◌}
use native.Mathlib.Omega.{arith}
use lib.ListN.{get_or}
use Rattle.columns.specs.Columns.{TermsOf, jobs_at}
use Rattle.columns.specs.declared.Columns.{Columns}
use Rattle.columns.specs.declared.Terms.{Terms}
use Rattle.entries.proofs.Sums.{cycles_of_jobs}
use Rattle.plans.proofs.Courses.{fates_at_end}
use Rattle.plans.specs.Courses.{job_at}
use Rattle.plans.specs.Promises.{Concluded, Marked, PlacesOfJobs, Totalled}
use Rattle.rules.specs.Plan.{course_of, cycles_of, energy_at, fate_planned, in_plan, plan_from, plan_of, speed_for, run_order}
use Rattle.rules.specs.Rooms.{last_room, room_left}
use Rattle.rules.specs.TableText.{Records}
use Rattle.rules.specs.declared.Job.{Job}
use Rattle.rules.specs.declared.Speed.{Speed}
use Rattle.speeds.specs.Promises.{ChosenSpeed}
use Rattle.speeds.specs.declared.Chosen.{Chosen}
use Rattle.trials.specs.Promises.{planned_places}
use Rattle.trials.specs.declared.Plan.{Plan}

-- the rules' plan, part by part
jobs_planned : (t : Records) → (plan_of t).jobs ≡ run_order t (course_of t).plan
unfolding plan_of plan_from
jobs_planned t = refl

speed_planned : (t : Records) (js : List Job) → js ≡ (plan_of t).jobs → speed_for t js ≡ (plan_of t).speed
unfolding plan_of plan_from
speed_planned t js e = ap (speed_for t) e

energy_planned : (t : Records) (js : List Job) (f : Speed) → js ≡ (plan_of t).jobs → f ≡ (plan_of t).speed
    → energy_at f js ≡ (plan_of t).energy
unfolding plan_of plan_from
energy_planned t js f e g = rw (e, g)

room_at_end : (t : Records) (terms : Terms) → TermsOf t terms → (cycles : ℕ) → cycles ≡ cycles_of (plan_of t).jobs
    → terms.budget - cycles * terms.cost ≡ last_room t
unfolding last_room room_left plan_of plan_from
room_at_end t terms of cycles all = rw (all, of.cost, of.budget)

module _ {speeds : List Speed} {jobs : Columns} {terms : Terms} (p : Plan) (fates : List ℕ) (chosen : Chosen) {fates' : List ℕ}
    (turns room : ℕ) where
  pub steps_8_and_9 : PlacesOfJobs p → Totalled p jobs.cycles terms
      → ChosenSpeed speeds (planned_places p) jobs.cycles jobs.termination terms chosen
      → Marked (planned_places p) fates fates' → room ≡ terms.budget - p.totals.cycles * terms.cost
      → Concluded speeds jobs terms turns p fates fates'
      (record { speed = chosen.speed; energy = chosen.energy; turns = turns; room = room })
  steps_8_and_9 placed totalled by_rule marked left = record {
    decided = λ t valid of by.
        let in_order : jobs_at t.jobs (planned_places p) ≡ (plan_of t).jobs = by.jobs ∙ sym (jobs_planned t) in
        let found : chosen.speed ≡ (plan_of t).speed =
        by_rule.speed t valid of ∙ speed_planned t (jobs_at t.jobs (planned_places p)) in_order in
        record {
          placed = placed;
          jobs = in_order;
          fates = λ i h.
              marked.marked i (omega (arith, valid.few_jobs))
              ∙ ap (λ b. cond b fate_planned (get_or fates i 0)) (by.planned i h)
              ∙ ap (cond (in_plan (job_at t i) (course_of t).plan) fate_planned) (by.fates i h)
              ∙ fates_at_end t valid i h;
          speed = found;
          energy = by_rule.energy t of ∙ energy_planned t (jobs_at t.jobs (planned_places p)) chosen.speed in_order found;
          room =
              left
              ∙ room_at_end t terms of.terms_of p.totals.cycles
              (totalled.total_true
              ∙ cycles_of_jobs jobs.cycles t.jobs of.runs-of.cycles-of (planned_places p)
              ∙ ap cycles_of in_order);
        };
    turns_counted = refl;
  }
