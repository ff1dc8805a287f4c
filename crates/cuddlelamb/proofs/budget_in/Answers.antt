-- `cuddlelamb::budget_in` meets its contract: the field that stands at the front of the buffer, ended by the byte 0, is the word.
-- Assumes nothing.
use Rattle.cuddlelamb.proofs.Fronts.{a_budget}
use Rattle.cuddlelamb.proofs.budget_in.Goals as goal

pub returns : goal.returns
returns c = rw c.ok.ensures.value (a_budget c.args.buffer.now c.number.result c.number.ensures)
