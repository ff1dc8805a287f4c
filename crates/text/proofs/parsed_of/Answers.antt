-- `text::parsed_of` meets its contract: its arms are those of `letter_record`, each with the letter's numbers in their order.
-- Assumes nothing.
use Rattle.std.proofs.Common.{ne_eqb}
use Rattle.rules.specs.TableText.{letter_record}
use Rattle.text.proofs.parsed_of.Goals as goal

pub returns-in-84 : goal.returns-in-84
unfolding letter_record
returns-in-84 c = rw c.in-84.is

pub returns-in-70 : goal.returns-in-70
unfolding letter_record
returns-in-70 c = rw c.in-70.is

pub returns-in-74 : goal.returns-in-74
unfolding letter_record
returns-in-74 c = rw c.in-74.is

pub returns-in-72 : goal.returns-in-72
unfolding letter_record
returns-in-72 c = rw c.in-72.is

pub returns-in_default : goal.returns-in_default
unfolding letter_record
returns-in_default c =
    let o = c.in_default.in_default-own.rest in
    simp (c.at.ensures, ne_eqb _ _ o.0.0.0.1, ne_eqb _ _ o.0.0.1, ne_eqb _ _ o.0.1, ne_eqb _ _ o.1)
