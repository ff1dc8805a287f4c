-- `listing::PlanLines::length` meets its contract: a plan's lines are its three parts, and no part is so long that their sum
-- wraps. Assumes nothing.
use mathlib.Core.List.{[], ◌∷◌}
use native.Mathlib.Omega.{arith}
use Rattle.digits.proofs.Rows.{row_lines_length}
use Rattle.grammar.proofs.LineText.{length_line}
use Rattle.listing.proofs.PlanTexts.{length_parts}
use Rattle.listing.specs.Texts.{row_fields}
use Rattle.rules.specs.Listing.{letter_o, letter_p, letter_x}
use Rattle.listing.proofs.PlanLines.length.Goals as goal

pub overflow_add-rows : goal.overflow_add-rows
overflow_add-rows c =
    let l = c.args.self.now in
    omega (
      arith,
      c.requires.orders,
      c.rows_length.ensures letter_o,
      row_lines_length letter_o row_fields (omega arith) l.orders.now,
      c.requires.others,
      c.rows_length-2.ensures letter_x,
      row_lines_length letter_x row_fields (omega arith) l.others.now,
    )

pub overflow_add-result : goal.overflow_add-result
overflow_add-result c =
    let l = c.args.self.now in
    omega (
      arith,
      c.requires.orders,
      c.rows_length.ensures letter_o,
      row_lines_length letter_o row_fields (omega arith) l.orders.now,
      c.requires.others,
      c.rows_length-2.ensures letter_x,
      row_lines_length letter_x row_fields (omega arith) l.others.now,
      c.line_length.ensures letter_p,
      length_line letter_p (l.speed ∷ l.energy ∷ l.count ∷ []),
    )

pub returns : goal.returns
returns c =
    omega (
      arith,
      c.rows_length.ensures letter_o,
      c.rows_length-2.ensures letter_x,
      c.line_length.ensures letter_p,
      length_parts c.args.self.now,
    )
