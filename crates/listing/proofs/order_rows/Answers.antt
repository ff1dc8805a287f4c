-- `listing::order_rows` meets its contract. At each index, the lines of the numbers stored and the lines of the jobs left, run
-- behind the cycles of those passed, make the whole. Assumes nothing.
use mathlib.Core.List.{◌++◌, append-nil}
use mathlib.Core.Path.{◌≡◌, sym, ap, ◌∙◌}
use Prim.Native.Nat.{ℕ, suc, ◌≤◌}
use native.Mathlib.Nat.{lt_of_mul-lt-mul_right, suc-mul}
use native.Mathlib.Omega.{arith}
use borrow.Author.Rules.{rules}
use lib.ListN.{get_or, length, take}
use Rattle.std.proofs.lemmas.Grind.{div_ceil_times}
use Rattle.std.specs.Int.{div_ceil}
use Rattle.laws.proofs.Costs.{rounded_up_enough, rounded_up_least}
use Rattle.listing.proofs.Orders.{all_orders_left, no_order_left, order_stored}
use Rattle.listing.proofs.RowsStored.{no_row_no_line}
use Rattle.listing.specs.Texts.{rows_lines, most_row_numbers}
use Rattle.rules.specs.Costs.{rounded_up}
use Rattle.rules.specs.Listing.{letter_o}
use Rattle.listing.proofs.order_rows.Goals as goal

-- the library's quotient is the rules'
rounded : (a b : ℕ) → 1 ≤ b → div_ceil a b ≡ rounded_up a b
rounded a b h =
    let times = div_ceil_times a b h in
    let no_more = rounded_up_least a b h (div_ceil a b) times.0 in
    let no_less = lt_of_mul-lt-mul_right b {m = div_ceil a b} {n = suc (rounded_up a b)}
    (omega (arith, times.1, rounded_up_enough a b h, suc-mul (rounded_up a b) b)) in
    omega (arith, no_more, no_less)

pub loop-noted-init : goal.loop-noted-init
loop-noted-init c = record {
  run_small = omega arith;
  counted = omega arith;
  so_far = λ js number_of cycles_of.
      rw (no_row_no_line letter_o c.args.rows.now) (all_orders_left js c.args.places.now c.args.clock c.args.mhz);
}

pub loop-noted-preserved : goal.loop-noted-preserved
loop-noted-preserved c =
    let args = c.args in
    let loop = c.loop-noted in
    let long : length loop.rows ≡ most_row_numbers = search rules in
    record {
      run_small = omega (arith, c.requires.summable.cycles_small (get_or args.places.now loop.noted-index 0));
      counted = omega (arith, loop.invariant.counted);
      so_far = λ js number_of cycles_of.
          rw (c.div_ceil.ensures ∙ rounded _ args.mhz c.requires.some_speed)
          (order_stored js args.jobs.now.number args.jobs.now.cycles number_of cycles_of args.places.now args.clock
          args.mhz loop.run loop.noted-index loop.rows loop.filled c.loop-noted-test.true loop.invariant.counted
          (omega (arith, long, loop.invariant.counted, c.loop-noted-test.true, c.requires.summable.job-places.few)))
          ∙ loop.invariant.so_far js number_of cycles_of;
    }

pub returns : goal.returns
returns c =
    let args = c.args in
    let loop = c.loop-noted in
    record {
      few = omega (arith, loop.invariant.counted, c.requires.summable.job-places.few);
      lines = λ js number_of cycles_of.
          sym (append-nil _)
          ∙ ap (λ left. rows_lines letter_o (take loop.filled loop.rows) ++ left)
          (sym
          (no_order_left js args.jobs.now.number args.jobs.now.cycles number_of cycles_of args.places.now args.clock
          args.mhz loop.run loop.noted-index c.loop-noted-test.false))
          ∙ loop.invariant.so_far js number_of cycles_of;
    }
