-- What a reading tells: where it is done, the table is that of the records that the rules take; a refusal is the rules', and its
-- line is 1 at least. Assumes nothing.
use mathlib.Core.List.{List, [], ◌∷◌}
use mathlib.Core.Path.{◌≡◌, refl, sym, ap}
use Prim.Native.Nat.{ℕ, ◌+◌, ◌≤◌}
use native.Mathlib.Omega.{arith}
use Rattle.std.specs.Prelude.{Ok, Err}
use Rattle.laws.proofs.Choices.{split}
use Rattle.laws.proofs.Unique.{refusal_not_0, refusal_unique}
use Rattle.rules.specs.Answers.{ReadAnswer, reading_says}
use Rattle.rules.specs.Lists.{empty}
use Rattle.rules.specs.Refusals.{Before, Item, Judged, Taken, accept, accepted, and_then, at_end, items_in, nothing, read, read_up_to, reading, reading_up_to, refused_at, refused_for, table_answer, table_answer_up_to, take_from, take_from_up_to, taken}
use Rattle.rules.specs.TableText.{Records, lines_of, table_of}
use Rattle.rules.specs.declared.Refusal.{Refusal}
use Rattle.rules.specs.declared.Refused.{Refused}
use Rattle.rules.specs.declared.Table.{Table}

done_by : (text : List ℕ) (table : Table) (k : Taken) → read text ≡ k → reading_says (Ok table) ≡ table_answer k
    → (t : Records) × (read text ≡ taken t) × (table ≡ table_of t)
unfolding table_answer_up_to
done_by text table (taken t) e q = (t, e, ap (λ (a : ReadAnswer). a.table) q)
done_by text table (refused_at why line) e q =
    absurd (refusal_not_0 why (sym (ap (λ (a : ReadAnswer). a.answer.number) q)))

pub reading_done : (text : List ℕ) (table : Table) → reading_says (Ok table) ≡ reading text
    → (t : Records) × (read text ≡ taken t) × (table ≡ table_of t)
unfolding reading_up_to
reading_done text table says = done_by text table (read text) refl says

refused_by : (text : List ℕ) (r : Refused) (k : Taken) → read text ≡ k → reading_says (Err r) ≡ table_answer k
    → read text ≡ refused_at r.why r.line
unfolding table_answer_up_to
refused_by text r (taken rs) e q = absurd (refusal_not_0 r.why (ap (λ (a : ReadAnswer). a.answer.number) q))
refused_by text r (refused_at why' line') e q =
    let same : why' ≡ r.why = refusal_unique why' r.why (sym (ap (λ (a : ReadAnswer). a.answer.number) q)) in
    let same_line : line' ≡ r.line = sym (ap (λ (a : ReadAnswer). a.answer.line) q) in
    rw e (rw (same, same_line))

pub reading_refused : (text : List ℕ) (r : Refused) → reading_says (Err r) ≡ reading text
    → read text ≡ refused_at r.why r.line
unfolding reading_up_to
reading_refused text r says = refused_by text r (read text) refl says

-- no line is named that stands before the first
refused_from : (line : ℕ) (b : Before) (is : List Item) (why : Refusal) (l : ℕ) → take_from line b is ≡ refused_at why l → line ≤ l
unfolding take_from_up_to at_end and_then
refused_from line b [] why l e =
    split (empty b.records.speeds)
    (λ h. let same : refused_at Refusal.Order line ≡ refused_at why l = rw h at e in let at : line ≡ l = cc in omega (arith, at))
    (λ h. let same : taken b.records ≡ refused_at why l = rw h at e in let z : ◌≡◌ {A = ℕ} 0 1 = cc in absurd (omega arith))
refused_from line b (i ∷ is) why l e = go (λ next q. refused_from (line + 1) next is why l q) (accept b i) e
  where
    go : ((next : Before) → take_from (line + 1) next is ≡ refused_at why l → line + 1 ≤ l) → (j : Judged)
        → and_then j (λ next. take_from (line + 1) next is) line ≡ refused_at why l → line ≤ l
    go behind (accepted next) q = omega (arith, behind next q)
    go behind (refused_for w) q = let at : line ≡ l = cc in omega (arith, at)

pub refused_from_line_1 : (text : List ℕ) (why : Refusal) (line : ℕ) → read text ≡ refused_at why line → 1 ≤ line
unfolding read_up_to
refused_from_line_1 text why line e = refused_from 1 nothing (items_in (lines_of text)) why line e
