use Rattle.plans.proofs.Taking.{OnCourse}
use Rattle.plans.specs.Courses.{course_by}
use Rattle.plans.specs.Promises.{Totalled, TurnsNoted, TurnsOf}
use mathlib.Core.Path.{◌≡◌}
use lib.ListN.{length}
use Rattle.judgements.specs.Changes.{most_changes}
use Rattle.rules.specs.TableText.{Records, most_jobs}
use Rattle.trials.specs.Promises.{KeptTrue, PlanStanding, columns_read, planned_places}
use Rattle.plans.proofs.take_turns.Given as goal

abbrev pub invariant-loop-at : goal.invariant-loop-at
invariant-loop-at l = let columns = columns_read l.waits l.jobs.critical l.jobs.cycles l.deadline in
    let so_far = l.initial.fates in
    record {
      whole : length l.fates ≡ most_jobs;
      standing : PlanStanding l.plan;
      on_course : (t : Records) → TurnsOf t l.turns l.over columns so_far l.terms
          → OnCourse t (course_by t l.turns l.at) l.plan l.fates;
      totalled : Totalled l.plan l.jobs.cycles l.terms;
      kept_true : KeptTrue l.jobs.cycles l.deadline (planned_places l.plan) l.kept;
      changed_length : length l.changes.places ≡ most_changes;
      fresh_length : length l.changes.keys ≡ most_changes;
      noted : TurnsNoted l.at l.turns l.over columns so_far l.terms l.initial.order l.initial.rooms l.order l.rooms;
    }
