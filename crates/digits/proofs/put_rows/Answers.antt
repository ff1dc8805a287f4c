-- `digits::put_rows` writes lines of rows. At each row, putting the lines left behind what is written gives the buffer that putting
-- all of them gives, and the lines left have room. Assumes nothing.
use mathlib.Core.List.{List, ◌++◌}
use mathlib.Core.Path.{◌≡◌, refl, sym, ap, ◌∙◌}
use Prim.Native.Nat.{ℕ, ◌+◌, ◌≤◌}
use native.Mathlib.Omega.{arith}
use lib.ListN.{length}
use Rattle.std.specs.Prelude.{None, Option, Some}
use Rattle.std.specs.declared.slice.ChunksExact.{ChunksExact}
use Rattle.digits.proofs.LinesOfRows.{lines_of_rows, no_row_left, row_first}
use Rattle.digits.proofs.PutSoFar.{PutSoFar, all_put, nothing_put, part_fits, part_put}
use Rattle.digits.proofs.Rows.{rows_are}
use Rattle.digits.specs.Rows.{line_of}
use Rattle.grammar.specs.Put.{put}
use Rattle.digits.proofs.put_rows.Goals as goal

module _ (letter : Option ℕ) (fields : ℕ) (some_field : 1 ≤ fields) (whole out₀ : List ℕ) (next₀ : ℕ) (row rest left out : List ℕ) (next : ℕ)
    (so_far : PutSoFar whole out₀ next₀ (lines_of_rows (line_of letter) fields left) out next)
    (first : left ≡ row ++ rest) (long : length row ≡ fields) (seen : Option ℕ) (same : letter ≡ seen) where
  row-first : lines_of_rows (line_of letter) fields left ≡ line_of letter row ++ lines_of_rows (line_of letter) fields rest
  row-first = rw first (row_first (line_of letter) fields some_field row rest long)

  row-fits : next + length (line_of seen row) ≤ length out
  row-fits = rw (sym same) (part_fits whole out₀ next₀ so_far (line_of letter row) (lines_of_rows (line_of letter) fields rest) row-first)

  row-put : (out' : List ℕ) (next' : ℕ) → next' ≡ next + length (line_of seen row)
      → out' ≡ put out next (line_of seen row) → length out' ≡ length out
      → PutSoFar whole out₀ next₀ (lines_of_rows (line_of letter) fields rest) out' next'
  row-put out' next' n o =
      part_put whole out₀ next₀ so_far (line_of letter row) (lines_of_rows (line_of letter) fields rest) out' next' row-first
      (n ∙ ap (λ l. next + length (line_of l row)) (sym same)) (o ∙ ap (λ l. put out next (line_of l row)) (sym same))

pub loop-row-init : goal.loop-row-init
loop-row-init c =
    let begun : c.into_iter-row-iterator.result ≡ c.chunks_exact-row-items.result = c.into_iter-row-iterator.ensures.into_iter_gives in
    let all : c.into_iter-row-iterator.result.rest.now ≡ c.args.numbers.now =
    ap (λ (rows : ChunksExact ℕ). rows.rest.now) begun ∙ c.chunks_exact-row-items.ensures.rest in
    record {
      size = ap (λ (rows : ChunksExact ℕ). rows.size) begun ∙ c.chunks_exact-row-items.ensures.size;
      same_letter = refl;
      so_far =
          rw all
          (nothing_put (lines_of_rows (line_of c.args.letter) c.args.fields c.args.numbers.now) _ _
          (rw (rows_are c.args.letter c.args.fields c.args.numbers.now) at c.requires.1));
    }

pub put_line-next-requires : goal.put_line-next-requires
put_line-next-requires c =
    let l = c.loop-row in
    let steps = c.in-Some.ensures.steps in
    row-fits c.args.letter c.args.fields c.requires.0 _ _ _ c.in-Some.row.now c.next.new.self.rest.now _ _ _ l.invariant.so_far steps.1.0
    (steps.1.1 ∙ l.invariant.size) (Some c.in-Some-letter.letter) (l.invariant.same_letter ∙ c.in-Some-letter.is)

pub put_tab_line-next-requires : goal.put_tab_line-next-requires
put_tab_line-next-requires c =
    let l = c.loop-row in
    let steps = c.in-Some.ensures.steps in (
      omega (arith, steps.1.1, l.invariant.size, c.requires.0),
      row-fits c.args.letter c.args.fields c.requires.0 _ _ _ c.in-Some.row.now c.next.new.self.rest.now _ _ _ l.invariant.so_far steps.1.0
          (steps.1.1 ∙ l.invariant.size) None (l.invariant.same_letter ∙ c.in-None-letter.is),
    )

pub loop-row-preserved-in-Some-letter : goal.loop-row-preserved-in-Some-letter
loop-row-preserved-in-Some-letter c =
    let l = c.loop-row in
    let steps = c.in-Some.ensures.steps in
    let same = l.invariant.same_letter ∙ c.in-Some-letter.is in
    record {
      size = steps.0 ∙ l.invariant.size;
      same_letter = same;
      so_far =
          row-put c.args.letter c.args.fields c.requires.0 _ _ _ c.in-Some.row.now c.next.new.self.rest.now _ _ _ l.invariant.so_far
          steps.1.0 (steps.1.1 ∙ l.invariant.size) (Some c.in-Some-letter.letter) same _ _ c.put_line-next.ensures.0
          c.put_line-next.ensures.1 c.put_line-next.auto.out;
    }

pub loop-row-preserved : goal.loop-row-preserved
loop-row-preserved c =
    let l = c.loop-row in
    let steps = c.in-Some.ensures.steps in
    record {
      size = steps.0 ∙ l.invariant.size;
      same_letter = l.invariant.same_letter;
      so_far =
          row-put c.args.letter c.args.fields c.requires.0 _ _ _ c.in-Some.row.now c.next.new.self.rest.now _ _ _ l.invariant.so_far
          steps.1.0 (steps.1.1 ∙ l.invariant.size) None (l.invariant.same_letter ∙ c.in-None-letter.is) _ _ c.put_tab_line-next.ensures.0
          c.put_tab_line-next.ensures.1 c.put_tab_line-next.auto.out;
    }

pub returns : goal.returns
returns c =
    let l = c.loop-row in
    let none =
    no_row_left (line_of c.args.letter) c.args.fields c.requires.0 l.row-iterator.rest.now
    (omega (arith, c.in-None.ensures.steps.1.0, l.invariant.size)) in
    rw (rows_are c.args.letter c.args.fields c.args.numbers.now) (all_put _ _ _ l.invariant.so_far none)
