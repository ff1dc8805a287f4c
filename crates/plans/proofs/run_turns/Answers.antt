-- `plans::run_turns` meets its contract: steps 3 to 7 one after the other. Assumes nothing.
use Rattle.plans.proofs.Running.{steps_3_to_7, takeable, turns_noted}
use Rattle.plans.proofs.run_turns.Goals as goal

pub take_turns-requires : goal.take_turns-requires
take_turns-requires c = (
  c.requires.0,
  takeable c.deadlines.ensures c.order_turns-turn_count.ensures.ratios c.order_turns-turn_count.ensures.ordered c.requires.1.terms_small.job-count
      c.requires.1,
)

pub returns-clause-run : goal.returns-clause-run
returns-clause-run c =
    steps_3_to_7 c.deadlines.ensures c.order_turns-turn_count.ensures.ratios c.order_turns-turn_count.ensures.ordered c.requires.1.terms_small.job-count
    c.take_turns.ensures.taken

pub returns-clause-noted : goal.returns-clause-noted
returns-clause-noted c =
    turns_noted c.deadlines.ensures c.order_turns-turn_count.ensures.ratios c.order_turns-turn_count.ensures.ordered c.requires.1.terms_small.job-count
    c.take_turns.ensures.noted
