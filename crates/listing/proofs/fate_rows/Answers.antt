-- `listing::fate_rows` meets its contract. At each place, the lines of the numbers stored and the lines of the unplanned jobs
-- from there on make the whole; no more rows are stored than places passed. Assumes nothing.
use mathlib.Core.List.{◌++◌}
use mathlib.Core.Path.{◌≡◌, sym, ap, ◌∙◌}
use Prim.Native.Nat.{◌/◌}
use native.Mathlib.Omega.{arith}
use borrow.Author.Rules.{rules}
use lib.ListN.{length, take}
use Rattle.listing.proofs.RowsStored.{no_row_no_line}
use Rattle.listing.proofs.Unplanned.{fate_stored, next_planned}
use Rattle.listing.specs.Texts.{rows_lines, most_row_numbers, row_fields}
use Rattle.rules.specs.Listing.{letter_x}
use Rattle.listing.proofs.fate_rows.Goals.{then-fate-planned, else-fate-planned}
use Rattle.listing.proofs.fate_rows.Goals as goal

pub loop-place-init : goal.loop-place-init
loop-place-init c = record {
  few = omega arith;
  counted = omega arith;
  so_far = λ js fate these number_of fates_at. rw (no_row_no_line letter_x c.args.rows.now);
}

pub loop-place-preserved : goal.loop-place-preserved
loop-place-preserved c =
    let number = c.args.number.now in
    let fates = c.args.fates.now in
    let loop = c.loop-place in
    let i = loop.place in
    let long : length loop.rows ≡ most_row_numbers = search rules in
    elim c.if-fate-planned.branch [
      | then-fate-planned w ↦
          (rw (w.rows-is, w.filled-is)
          record {
            few = omega (arith, loop.invariant.few);
            counted = omega (arith, loop.invariant.counted);
            so_far = λ js fate these number_of fates_at.
                fate_stored js fate number fates number_of fates_at i loop.rows (loop.filled / row_fields) loop.filled
                (omega (arith, these, c.loop-place-test.true)) loop.invariant.counted
                (omega (arith, long, loop.invariant.few, c.loop-place-test.true, c.requires))
                (λ e. w.if-fate-planned.true (e ∙ sym c.from-planned.ensures))
                ∙ loop.invariant.so_far js fate these number_of fates_at;
          })
      | else-fate-planned w ↦
          (rw (w.rows-is, w.filled-is)
          record {
            few = omega (arith, loop.invariant.few);
            counted = loop.invariant.counted;
            so_far = λ js fate these number_of fates_at.
                ap (λ left. rows_lines letter_x (take loop.filled loop.rows) ++ left)
                (sym
                (next_planned js fate number fates number_of fates_at i (omega (arith, these, c.loop-place-test.true))
                (w.if-fate-planned.false ∙ c.from-planned.ensures)))
                ∙ loop.invariant.so_far js fate these number_of fates_at;
          })
    ]
