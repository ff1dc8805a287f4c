-- `judgements::Order::run_to_moved` meets its contract. Each time round an entry is passed, and the invariant is kept, or a job is
-- late; where all that leave have gone, or the end is reached, all to come stay. Assumes nothing.
use mathlib.Core.Path.{sym, ◌∙◌}
use Rattle.std.specs.Prelude.{None, Some}
use Rattle.judgements.proofs.Onwards.{all_gone, behind_begins, end_reached, entry_behind}
use Rattle.judgements.proofs.Order.run_to_moved.Goals as goal

pub loop-run-init : goal.loop-run-init
loop-run-init c = let o = c.args.self.now in behind_begins o.planned.now o.changes.now.places o.noted o.cycles.now o.deadline.now c.args.from c.requires

pub returns-in_err-run : goal.returns-in_err-run
returns-in_err-run c =
    let o = c.args.self.now in
    rw c.from_residual.ensures
    (entry_behind o.moved_few c.loop-run.invariant o.cycles_small c.if-run-self.true None (sym c.in_err-run.was ∙ c.pass.ensures))

pub loop-run-preserved : goal.loop-run-preserved
loop-run-preserved c =
    let o = c.args.self.now in
    entry_behind o.moved_few c.loop-run.invariant o.cycles_small c.if-run-self.true (Some c.in_ok-run.run')
    (sym c.in_ok-run.was ∙ c.pass.ensures)

pub returns-else-run-self : goal.returns-else-run-self
returns-else-run-self c = end_reached c.args.self.now.moved_few c.loop-run.invariant c.if-run-self.false

pub returns-after-loop-run : goal.returns-after-loop-run
returns-after-loop-run c = all_gone c.args.self.now.moved_few c.loop-run.invariant c.loop-run-test.false
