-- `cuddlelamb::plan_input` meets its contract: the bytes that were read are all of the input, or as many of its first
-- bytes as the program reads. Assumes nothing.
use Rattle.std.proofs.Common.{◌≡◌, ◌∙◌, ap, is_ok, rules}
use Rattle.cuddlelamb.proofs.Fronts.{planned}
use Rattle.cuddlelamb.specs.declared.TheConstants.{MOST_READ}
use Rattle.cuddlelamb.proofs.plan_input.Goals as goal

pub returns : goal.returns
returns g c =
    let told = c.print_asked-printed in
    let same : c.match-printed.printed ≡ told.result = search rules in
    planned _ _ _ c.read_input.new.buffer c.in-Ok.read MOST_READ (search rules) c.in-Ok.ensures.taken c.args.rooms c.args.asked _ _ told.result
    told.ensures _ (c.is_ok.ensures.value ∙ ap is_ok same)
