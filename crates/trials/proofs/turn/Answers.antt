-- `trials::turn` meets its contract. What it tests of keys and columns is what the rules test of the plan and the ratio. Assumes
-- nothing.
use Rattle.trials.proofs.Taken.{job_passed_over, ratio_is_zero}
use Rattle.trials.proofs.turn.Goals as goal

pub returns-then-plan-job-lt-NOT_PLANNED : goal.returns-then-plan-job-lt-NOT_PLANNED
returns-then-plan-job-lt-NOT_PLANNED c = job_passed_over c.requires c.if-plan-job-lt-NOT_PLANNED.true

pub returns-then-job-eq0 : goal.returns-then-job-eq0
returns-then-job-eq0 c = ratio_is_zero c.requires c.if-plan-job-lt-NOT_PLANNED.false c.if-job-eq0.true
