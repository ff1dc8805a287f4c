-- `text::Cursor::letter` meets its contract: at each `return` the tests that led there say whether a tab stands behind the
-- byte and whether the byte is a letter of a record. Assumes nothing.
use Rattle.std.proofs.Common.{◌+◌, length, sym, ◌∙◌, arith, le-ltb, lt-ltb, eq-eqb, ne_eqb}
use borrow.Author.Tests.{not-true, not-false}
use mathlib.Core.Bool.{and-false}
use Rattle.text.specs.Fields.{letter_at, line_behind}
use Rattle.text.proofs.Cursor.letter.Goals as goal

pub returns-then-text-at : goal.returns-then-text-at
unfolding letter_at
returns-then-text-at c = simp (c.refused_field.ensures, le-ltb (c.args.self.at + 1) (length c.args.text.now) (omega arith))

pub returns-then-behind-text : goal.returns-then-behind-text
unfolding letter_at
returns-then-behind-text c = simp (c.refused_field-then-behind-text.ensures, le-ltb (c.args.self.at + 1) (length c.args.text.now) (omega arith))

pub returns-then-text-behind-ne9 : goal.returns-then-text-behind-ne9
unfolding letter_at
returns-then-text-behind-ne9 c = simp (c.refused_field-then-text-behind-ne9.ensures, ne_eqb _ _ c.if-text-behind-ne9.true, and-false)

pub returns-then-not-is_letter : goal.returns-then-not-is_letter
unfolding letter_at
returns-then-not-is_letter c =
    let g = c in
    simp (c.refused_field-then-not-is_letter.ensures, sym g.is_letter.ensures ∙ not-true g.is_letter.result c.if-not-is_letter.true-raw, and-false)

pub overflow_cast-result : goal.overflow_cast-result
overflow_cast-result c =
    let l = c in
    omega (arith, l.shared_slice_known-3-1.given l.args.self.at)

pub returns : goal.returns
unfolding letter_at line_behind
returns c =
    let g = c in
    let a = g.args in
    simp (
      lt-ltb (a.self.at + 1) (length a.text.now) (omega arith),
      eq-eqb _ _ g.if-text-behind-ne9.false,
      sym g.is_letter.ensures ∙ not-false g.is_letter.result c.if-not-is_letter.false-raw,
    )
