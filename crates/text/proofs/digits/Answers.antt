-- `text::digits` meets its contract: so many digits are read as far as one byte behind them, or to the end of the text.
-- Assumes nothing.
use Rattle.text.proofs.Numbers.{as_many, whole_read}
use Rattle.text.proofs.digits.Goals as goal

pub returns-then-most-text : goal.returns-then-most-text
returns-then-most-text c = rw (as_many _ _) at c.digits_within.ensures

pub returns : goal.returns
returns c =
    let a = c.args in
    whole_read a.text.now a.most c.digits_within-2.result c.if-most-text.false c.digits_within-2.ensures
