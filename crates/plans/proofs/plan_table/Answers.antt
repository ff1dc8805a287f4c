-- `plans::plan_table` meets its contract: what is decided is put into both buffers. Assumes nothing.
use mathlib.Core.Path.{◌≡◌}
use native.Mathlib.Omega.{arith}
use borrow.Author.Rules.{rules}
use lib.ListN.{length}
use Rattle.plans.proofs.Leaving.{buffers_left}
use Rattle.rules.specs.TableText.{most_jobs}
use Rattle.plans.proofs.plan_table.Goals as goal

pub returns : goal.returns
returns c =
    let by = c.requires.0 in
    let whole : length c.decide-decided.new.fates ≡ most_jobs = search rules in
    let counted = c.decide-decided.ensures.counted in
    buffers_left c.decide-decided.new.plan c.decide-decided.new.fates c.decide-decided.result c.args.jobs.now.number
    c.decide-decided.ensures.decides by.columns_of.number c.args.table.now.job_count counted
    (omega (arith, counted, whole, by.plannable.few_jobs)) c.args.order.now c.args.fates.now c.put_order.ensures c.put_fates.ensures
