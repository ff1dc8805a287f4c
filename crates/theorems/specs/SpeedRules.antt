-- Step 9 by any rule: the plan and the fates that steps 1 to 8 give, and the speed that a rule names for that plan.
use Rattle.std.specs.Prelude.{List, map}
use Rattle.rules.specs.Lists.{find}
use Rattle.rules.specs.Plan.{Plan, course_of, energy_at, fate_in, qualifies, run_order, speed_or}
use Rattle.rules.specs.TableText.{Records}
use Rattle.rules.specs.declared.Job.{Job}
use Rattle.rules.specs.declared.Speed.{Speed}

-- which speed a table's jobs are run at
abbrev pub SpeedRule : Type 0
SpeedRule = Records → List Job → Speed

unfoldable pub plan_by : SpeedRule → Records → Plan
plan_by rule t =
    let c = course_of t in
    let js = run_order t c.plan in
    let f = rule t js in
    record {
      jobs = js;
      fates = map (λ j. record { job = j; fate = fate_in t c j }) t.jobs;
      speed = f;
      energy = energy_at f js;
    }

-- Version four's rule, document 01's before A1: "The lowest speed at which every entry still ends by its termination and all
-- cycles × that speed's cost are within budget."
unfoldable pub lowest_for : SpeedRule
lowest_for t js = speed_or (find (qualifies t js) t.speeds)
