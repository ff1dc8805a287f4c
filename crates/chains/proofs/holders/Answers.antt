-- `chains::holders` meets its contract. At each resource stands the place of the holder that the H lines passed name; the
-- line before them stores its own over it. Assumes nothing.
use mathlib.Core.List.{List, [], ◌∷◌, ◌++◌}
use mathlib.Core.Path.{◌≡◌, refl, sym, ◌∙◌}
use Prim.Native.Nat.{ℕ, ◌≤◌}
use native.Mathlib.Omega.{arith}
use lib.ListN.{length, length-set, replicate, set}
use Rattle.std.proofs.Common.{append_assoc, append-nil}
use Rattle.std.proofs.lemmas.List.Elements.{All-head, All-tail}
use Rattle.std.specs.List.{All, push}
use Rattle.chains.proofs.Holding.{no_line, one_line_more}
use Rattle.chains.proofs.holders.Invariants.{Passed}
use Rattle.chains.specs.Promises.{Holdable, Holders, PlaceOf}
use Rattle.chains.specs.Waits.{most_resources}
use Rattle.rules.specs.TableText.{most_holds, most_jobs}
use Rattle.rules.specs.declared.Hold.{Hold}
use Rattle.chains.proofs.holders.Goals as goal

-- one among H lines whose resources are small
small_there : (left passed : List Hold) (h : Hold) → All (λ g. g.resource ≤ most_holds) (left ++ h ∷ passed)
    → h.resource ≤ most_holds
small_there [] passed h all = All-head (λ g. g.resource ≤ most_holds) h passed all
small_there (g ∷ left) passed h all =
    small_there left passed h (All-tail (λ g. g.resource ≤ most_holds) g (left ++ h ∷ passed) all)

module _ (holds : List Hold) (numbers : List ℕ) (holdable : Holdable holds numbers) where
  none_passed : Passed holds numbers holds (replicate most_resources most_jobs)
  none_passed = record {
    passed = [];
    all = append-nil holds;
    long = refl;
    holders = λ js long rising column. no_line js (omega (arith, holdable.few_jobs));
  }

  module _ (left : List Hold) (h : Hold) (holder-at : List ℕ) (so-far : Passed holds numbers (push left h) holder-at) where
    all_with_it : left ++ (h ∷ so-far.passed) ≡ holds
    all_with_it = sym (append_assoc left (h ∷ []) so-far.passed) ∙ so-far.all

    its_resource : h.resource ≤ most_holds
    its_resource = small_there left so-far.passed h (rw all_with_it holdable.resources_small)

    one_more_passed : (p : ℕ) → PlaceOf numbers h.holder p → Passed holds numbers left (set holder-at h.resource p)
    one_more_passed p is = record {
      passed = h ∷ so-far.passed;
      all = all_with_it;
      long = length-set holder-at h.resource p ∙ so-far.long;
      holders = λ js long rising column.
          one_line_more js h so-far.passed holder-at p so-far.long its_resource (is.place js long rising column h refl)
          (is.place_or_nobody js long) (so-far.holders js long rising column);
    }

  all_passed : (left : List Hold) (holder-at : List ℕ) → length left ≡ 0 → Passed holds numbers left holder-at
      → Holders holds numbers holder-at
  all_passed [] holder-at e so-far = record { holders = rw so-far.all at so-far.holders }
  all_passed (h ∷ left) holder-at e so-far = absurd (omega arith)

pub loop-hold-init : goal.loop-hold-init
loop-hold-init c =
    let rest : c.into_iter-hold-iterator.result.iter.rest.now ≡ c.args.holds.now = cc in
    rw (rest, c.requires.0) (none_passed c.args.holds.now c.args.numbers.now c.requires.1)

pub loop-hold-preserved : goal.loop-hold-preserved
loop-hold-preserved c =
    one_more_passed c.args.holds.now c.args.numbers.now c.requires.1 c.next.new.self.iter.rest.now c.in-Some.hold.now
    c.loop-hold.holder_at (rw c.in-Some.ensures.steps at c.loop-hold.invariant) c.place_of-place.result c.place_of-place.ensures

pub returns : goal.returns
returns c =
    all_passed c.args.holds.now c.args.numbers.now c.requires.1 c.loop-hold.hold-iterator.iter.rest.now c.loop-hold.holder_at
    c.in-None.ensures.steps.0 c.loop-hold.invariant
