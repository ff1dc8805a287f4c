-- The verdict on a table says all that the check of it says: where it is done, what is taken are the table's own records.
-- Assumes nothing.
use mathlib.Core.Logic.{◌↔◌}
use mathlib.Core.Path.{◌≡◌, refl, sym, ap}
use Prim.Native.Nat.{ℕ}
use Rattle.grammar.proofs.Trips.{check_exactly}
use Rattle.laws.proofs.Unique.{refusal_not_0, refusal_unique}
use Rattle.rules.specs.Answers.{Answer, refuses, verdict_says}
use Rattle.rules.specs.Refusals.{Taken, check, refused_at, taken}
use Rattle.rules.specs.TableText.{records_of}
use Rattle.rules.specs.declared.Refusal.{Refusal}
use Rattle.rules.specs.declared.Table.{Table}
use Rattle.std.specs.Prelude.{Ok}
use Rattle.checks.specs.Verdict.{check_says}

pub done_exactly : (t : Table) → (verdict_says (Ok tt) ≡ check_says (check t)) ↔ (check t ≡ taken (records_of t))
done_exactly t = (λ e. go (check t) refl e, λ e. rw e)
  where
    go : (k : Taken) → check t ≡ k → verdict_says (Ok tt) ≡ check_says k → k ≡ taken (records_of t)
    go (taken r) c e = rw ((check_exactly t r).0 c).1
    go (refused_at why line) c e = absurd (refusal_not_0 why (sym (ap (λ (a : Answer). a.number) e)))

pub refused_exactly : (t : Table) (why : Refusal) (line : ℕ)
    → (verdict_says (refuses why line) ≡ check_says (check t)) ↔ (check t ≡ refused_at why line)
refused_exactly t why line = (λ e. go (check t) e, λ e. rw e)
  where
    go : (k : Taken) → verdict_says (refuses why line) ≡ check_says k → k ≡ refused_at why line
    go (taken r) e = absurd (refusal_not_0 why (ap (λ (a : Answer). a.number) e))
    go (refused_at w l) e =
        cc (refusal_unique why w (ap (λ (a : Answer). a.number) e), ap (λ (a : Answer). a.line) e)
