-- A text put part by part: what is left of it, put behind the parts that are put, gives the buffer that the whole gives, and has
-- room. So a part more takes from what is left to what is put, and where nothing is left the whole is put. Assumes nothing.
use mathlib.Core.List.{List, [], ◌++◌}
use mathlib.Core.Path.{◌≡◌, refl, sym, ◌∙◌}
use Prim.Native.Nat.{ℕ, ◌+◌, ◌≤◌}
use native.Mathlib.Omega.{arith}
use lib.ListN.{length, length-append}
use Rattle.grammar.proofs.Put.{put_behind, put_nothing}
use Rattle.grammar.specs.Put.{put}

module _ (whole out₀ : List ℕ) (next₀ : ℕ) where
  pub record PutSoFar (left out : List ℕ) (next : ℕ) : Type 0 where
    pub same_length : length out ≡ length out₀
    pub room : next₀ + length whole ≤ length out₀
    pub behind : next + length left ≡ next₀ + length whole
    pub same : put out next left ≡ put out₀ next₀ whole

  pub nothing_put : next₀ + length whole ≤ length out₀ → PutSoFar whole out₀ next₀
  nothing_put room = record { same_length = refl; room = room; behind = refl; same = refl }

  module _ {left out : List ℕ} {next : ℕ} (so_far : PutSoFar left out next) where
    pub part_fits : (part rest : List ℕ) → left ≡ part ++ rest → next + length part ≤ length out
    part_fits part rest e =
        omega (arith, rw e at so_far.behind, length-append part rest, so_far.same_length, so_far.room)

    pub part_put : (part rest out' : List ℕ) (next' : ℕ) → left ≡ part ++ rest → next' ≡ next + length part
        → out' ≡ put out next part → length out' ≡ length out → PutSoFar rest out' next'
    part_put part rest out' next' e n o kept = record {
      same_length = kept ∙ so_far.same_length;
      room = so_far.room;
      behind = omega (arith, n, rw e at so_far.behind, length-append part rest);
      same =
          rw (o, n)
          (put_behind out next part rest (omega (arith, part_fits part rest e)) ∙ rw e at so_far.same);
    }

    pub all_put : left ≡ [] → (next ≡ next₀ + length whole) × (out ≡ put out₀ next₀ whole)
    all_put none = (omega (arith, rw none at so_far.behind), sym (put_nothing out next) ∙ rw none at so_far.same)
