-- A plan's lines are its P line, its O lines and its X lines, so that written one behind the other they are put at the front.
-- Assumes nothing.
use mathlib.Core.List.{List, [], ◌∷◌, ◌++◌, append_assoc}
use mathlib.Core.Path.{◌≡◌, ◌∙◌}
use Prim.Native.Nat.{ℕ, ◌+◌}
use native.Mathlib.Nat.{zero-add}
use native.Mathlib.Omega.{arith}
use lib.ListN.{length, length-append}
use Rattle.grammar.proofs.Put.{put_behind}
use Rattle.grammar.specs.Put.{put}
use Rattle.listing.specs.Texts.{rows_lines, plan_text}
use Rattle.listing.specs.declared.PlanLines.{PlanLines}
use Rattle.rules.specs.Listing.{letter_o, letter_p, letter_x}
use Rattle.rules.specs.TableText.{line_text}

three_at_front : (out a b c : List ℕ) → put (put (put out 0 a) (length a) b) (length a + length b) c ≡ put out 0 (a ++ (b ++ c))
three_at_front out a b c =
    let two : put (put out 0 a) (length a) b ≡ put out 0 (a ++ b) =
    rw (zero-add (length a)) at (put_behind out 0 a b (omega arith)) in
    let three : put (put out 0 (a ++ b)) (length (a ++ b)) c ≡ put out 0 ((a ++ b) ++ c) =
    rw (zero-add (length (a ++ b))) at (put_behind out 0 (a ++ b) c (omega arith)) in
    rw (two, ← length-append a b, three, append_assoc)

module _ (l : PlanLines) where
  abbrev pub plan_first : List ℕ
  plan_first = line_text letter_p (l.speed ∷ l.energy ∷ l.count ∷ [])

  abbrev pub order_lines : List ℕ
  order_lines = rows_lines letter_o l.orders.now

  abbrev pub other_lines : List ℕ
  other_lines = rows_lines letter_x l.others.now

  pub length_parts : length (plan_text l) ≡ length plan_first + (length order_lines + length other_lines)
  unfolding plan_text
  length_parts = rw (length-append plan_first (order_lines ++ other_lines), length-append order_lines other_lines)

  -- the three parts put one behind the other
  pub parts_at_front : (out first second third : List ℕ) (behind_plan behind_orders : ℕ)
      → behind_plan ≡ 0 + length plan_first → first ≡ put out 0 plan_first
      → behind_orders ≡ behind_plan + length order_lines → second ≡ put first behind_plan order_lines
      → third ≡ put second behind_orders other_lines
      → third ≡ put out 0 (plan_text l)
  unfolding plan_text
  parts_at_front out first second third behind_plan behind_orders p q r s e =
      e ∙ rw (s, r, q, p, zero-add (length plan_first)) (three_at_front out plan_first order_lines other_lines)
