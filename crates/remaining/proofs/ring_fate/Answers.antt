-- `remaining::ring_fate` meets its contract: a job that was taken out keeps its fate, and of the others one that leaves its
-- ring has fate 3 and one that does not has 0, as has one for which nobody waits or whose walk ends. Assumes nothing.
use mathlib.Core.Bool.{Bool, true, false, cond}
use mathlib.Core.Path.{◌≡◌, refl, sym, ◌∙◌}
use Prim.Native.Nat.{ℕ}
use native.Mathlib.Omega.{arith}
use Rattle.std.proofs.Common.{rules}
use borrow.Author.Tests.{eq-eqb, ne_eqb}
use denote.Enum.Bare.{same_true}
use lib.Dec.{eqb}
use lib.ListN.{get_or}
use Rattle.remaining.proofs.Ending as Ending
use Rattle.remaining.proofs.Unawaited as Unawaited
use Rattle.remaining.specs.contracts.Mark.{the_type}
use Rattle.rules.specs.Plan.{awaited, fate_deadlock, leaves_ring}
use Rattle.rules.specs.TableText.{no_job}
use Rattle.remaining.proofs.ring_fate.Goals as goal

-- the fate after step 2 of a job with this fate before it, which leaves its ring or not
abbrev fateAfter : ℕ → Bool → ℕ
fateAfter late leaves = cond (eqb late 0) (cond leaves fate_deadlock 0) late

taken-out-keeps-its-fate : (late : ℕ) (leaves : Bool) → (late ≡ 0 → ⊥) → late ≡ fateAfter late leaves
taken-out-keeps-its-fate late leaves h = rw (ne_eqb late 0 h)

leaving-has-fate-3 : (late : ℕ) (leaves answer : Bool) → late ≡ 0 → answer ≡ leaves → answer ≡ true
    → fate_deadlock ≡ fateAfter late leaves
leaving-has-fate-3 late leaves answer h e l = rw (eq-eqb late 0 h) (rw (sym e ∙ l))

remaining-has-fate-0 : (late : ℕ) (leaves answer : Bool) → late ≡ 0 → answer ≡ leaves → answer ≡ false
    → 0 ≡ fateAfter late leaves
remaining-has-fate-0 late leaves answer h e l = rw (eq-eqb late 0 h) (rw (sym e ∙ l))

pub returns-then-late-ne-NO_FATE : goal.returns-then-late-ne-NO_FATE
returns-then-late-ne-NO_FATE c = record {
  fate = λ t js next unawaited ends rising waits l number_of_lem worth_of cycles-of.
      let j = get_or js c.args.place no_job in
      taken-out-keeps-its-fate c.args.late (leaves_ring t (awaited next j) j) (λ e. omega (arith, c.if-late-ne-NO_FATE.true));
}

-- nobody waits for the job
pub returns-then-eq : goal.returns-then-eq
returns-then-eq c = record {
  fate = λ t js next unawaited ends rising waits l number_of_lem worth_of cycles-of.
      remaining-has-fate-0 c.args.late _ false (omega (arith, c.if-late-ne-NO_FATE.false))
      (sym (Unawaited.leaves_no_ring js next c.args.waits.now rising waits c.args.place l (unawaited (same_true the_type (search rules) _ _ (sym c.if-eq.ensures))) t)) refl;
}

-- its walk ends
pub returns-then-eq-2 : goal.returns-then-eq-2
returns-then-eq-2 c = record {
  fate = λ t js next unawaited ends rising waits l number_of_lem worth_of cycles-of.
      remaining-has-fate-0 c.args.late _ false (omega (arith, c.if-late-ne-NO_FATE.false))
      (sym (Ending.leaves_no_ring js next c.args.waits.now rising waits c.args.place l (ends (same_true the_type (search rules) _ _ (sym c.if-eq-2.ensures))) t)) refl;
}

pub returns-then-leaves_ring : goal.returns-then-leaves_ring
returns-then-leaves_ring c = record {
  fate = λ t js next unawaited ends rising waits l number_of_lem worth_of cycles-of.
      rw c.from.ensures
      (leaving-has-fate-3 c.args.late _ _ (omega (arith, c.if-late-ne-NO_FATE.false))
      (c.leaves_ring.ensures.leaves t js next rising waits l number_of_lem worth_of cycles-of) c.if-leaves_ring.true);
}

pub returns : goal.returns
returns c = record {
  fate = λ t js next unawaited ends rising waits l number_of_lem worth_of cycles-of.
      remaining-has-fate-0 c.args.late _ _ (omega (arith, c.if-late-ne-NO_FATE.false))
      (c.leaves_ring.ensures.leaves t js next rising waits l number_of_lem worth_of cycles-of) c.if-leaves_ring.false;
}
