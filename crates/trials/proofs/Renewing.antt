-- What is kept of the entries, renewed one by one: an end is that of the entry before it and its own cycles, from the front; a latest
-- beginning is told by the one behind it, from the back. No place stands twice, so that a store changes one entry's alone. Assumes
-- nothing.
use mathlib.Core.List.{List, [], ◌∷◌}
use mathlib.Core.Path.{◌≡◌, sym, ◌∙◌}
use Prim.Native.Nat.{ℕ, zero, suc, min, ◌+◌, ◌-◌, ◌*◌, ◌≤◌, ◌<◌}
use native.Mathlib.Numerals.{add-one}
use native.Mathlib.Omega.{arith}
use borrow.Author.Tests.{eq-eqb, eqb-false, eqb-true, ltb-false, ltb-true}
use lib.Dec.{eqb, ltb}
use lib.ListN.{drop, get_or, length, length-take, set, take}
use lib.Seq.{drop-cons, get_or-drop, get_or-set_other, get_or-set_same, get_or-take, length-take-le}
use Rattle.columns.specs.Columns.{AllBelow, AtMost}
use Rattle.entries.proofs.Sums.{cycles_at_most}
use Rattle.entries.specs.Promises.{cycles_at}
use Rattle.judgements.specs.Promises.{EndsTrue, LatestsTrue, latest_of_places}
use Rattle.laws.proofs.Choices.{clash, split}
use Rattle.laws.proofs.Pairs.{pairs_at_places}
use Rattle.laws.specs.Pairs.{Distinct}
use Rattle.rules.specs.TableText.{most_cycles, most_jobs}
use Rattle.steps.specs.Deadlines.{latest_of}

-- two indices of places, none twice, hold two places
other_place : {ps : List ℕ} → Distinct ps → (i j : ℕ) → i < length ps → j < length ps → (i ≡ j → ⊥)
    → get_or ps i 0 ≡ get_or ps j 0 → ⊥
other_place {ps} once i j h l differ same =
    split (ltb i j)
    (λ m. clash (eq-eqb (get_or ps i 0) (get_or ps j 0) same) (pairs_at_places 0 once i j (ltb-true i j m) l))
    (λ m. let less : j < i = omega (arith, ltb-false i j m, split (eqb i j) (λ e. absurd (differ (eqb-true i j e))) (λ e. eqb-false i j e)) in
    clash (eq-eqb (get_or ps j 0) (get_or ps i 0) (sym same)) (pairs_at_places 0 once j i less h))

one_more_taken : (cycles : List ℕ) (i : ℕ) (ps : List ℕ) → i < length ps
    → cycles_at cycles (take (suc i) ps) ≡ cycles_at cycles (take i ps) + get_or cycles (get_or ps i 0) 0
one_more_taken cycles i [] h = absurd (omega arith)
one_more_taken cycles zero (p ∷ ps) h = omega arith
one_more_taken cycles (suc i) (p ∷ ps) h = omega (arith, one_more_taken cycles i ps (omega arith))

-- the item at an index of the part from another on
pub item_behind : (ps : List ℕ) (first i : ℕ) → i < length (take (length ps - first) (drop first ps))
    → (get_or (take (length ps - first) (drop first ps)) i 0 ≡ get_or ps (first + i) 0) × (first + i < length ps)
item_behind ps first i h =
    let inside : i < length ps - first = omega (arith, length-take (length ps - first) (drop first ps)) in (
      get_or-take (length ps - first) (drop first ps) i 0 inside ∙ get_or-drop first ps i 0,
      omega arith,
    )

-- the cycles run by an entry's end
pub one_more_run : (cycles : List ℕ) (i : ℕ) (ps : List ℕ) → i < length ps
    → cycles_at cycles (take (i + 1) ps) ≡ cycles_at cycles (take i ps) + get_or cycles (get_or ps i 0) 0
one_more_run cycles i ps h = rw (add-one i) (one_more_taken cycles i ps h)

module _ (ps : List ℕ) (once : Distinct ps) (below : AllBelow most_jobs ps) (kept : List ℕ) (kept_length : length kept ≡ most_jobs)
    (i : ℕ) (here : i < length ps) (value : ℕ) where
  abbrev place : ℕ
  place = get_or ps i 0

  own : get_or (set kept place value) place 0 ≡ value
  own = get_or-set_same kept place value 0 (omega (arith, kept_length, below i here))

  others : (j : ℕ) → j < length ps → (j ≡ i → ⊥) → get_or (set kept place value) (get_or ps j 0) 0 ≡ get_or kept (get_or ps j 0) 0
  others j h differ = get_or-set_other kept place (get_or ps j 0) value 0 (λ e. other_place once j i h here differ e)

  -- one end more
  pub one_more_end : (cycles : List ℕ) → value ≡ cycles_at cycles (take i ps) + get_or cycles place 0 → EndsTrue i cycles ps kept
      → EndsTrue (i + 1) cycles ps (set kept place value)
  one_more_end cycles e was j h =
      split (eqb j i)
      (λ q. let same = eqb-true j i q in rw same (own ∙ e ∙ sym (one_more_run cycles i ps here)))
      (λ q. let other = eqb-false j i q in others j (omega arith) other ∙ was j (omega arith))

  -- one latest beginning more
  pub one_more_latest : (cycles deadline : List ℕ) → value ≡ latest_of_places cycles deadline (drop i ps)
      → LatestsTrue (i + 1) cycles deadline ps kept → LatestsTrue i cycles deadline ps (set kept place value)
  one_more_latest cycles deadline e was j l h =
      split (eqb j i)
      (λ q. let same = eqb-true j i q in rw same (own ∙ e))
      (λ q. let other = eqb-false j i q in others j h other ∙ was j (omega arith) h)

-- a latest beginning, by the one behind it
pub latest_by_next : (cycles deadline ps : List ℕ) (i : ℕ) → i < length ps
    → latest_of_places cycles deadline (drop i ps)
    ≡ min (get_or deadline (get_or ps i 0) 0) (latest_of_places cycles deadline (drop (i + 1) ps)) - get_or cycles (get_or ps i 0) 0
unfolding latest_of
latest_by_next cycles deadline ps i h = rw (drop-cons ps i 0 h, add-one i)

-- the cycles run before an index stay in their range
pub run_small : (cycles : List ℕ) → AtMost most_cycles cycles → (ps : List ℕ) (i : ℕ) → i ≤ length ps
    → cycles_at cycles (take i ps) ≤ most_cycles * i
run_small cycles small ps i h = omega (arith, cycles_at_most cycles small (take i ps), length-take-le i ps h)
