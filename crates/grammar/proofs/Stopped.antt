-- Where the fold over the items stops, and why, and what it takes where it does not stop: it goes item by item, and each
-- item is accepted or is the one that stops it. Within an item the tests go by their numbers. Assumes nothing.
use mathlib.Core.Bool.{Bool, true, false, cond}
use mathlib.Core.List.{List, [], ◌∷◌, ◌++◌, append-nil}
use mathlib.Core.Logic.{◌↔◌}
use mathlib.Core.Option.{Option, none, some}
use mathlib.Core.Path.{◌≡◌, refl, sym, ap, ◌∙◌}
use Prim.Native.Nat.{ℕ, suc, ◌+◌}
use native.Mathlib.Nat.{add-zero}
use native.Mathlib.Omega.{arith}
use borrow.Author.Tests.{not-false}
use lib.ListN.{length}
use Rattle.laws.proofs.Tests.{both_true}
use Rattle.rules.specs.Lists.{empty}
use Rattle.rules.specs.Refusals.{Before, Item, Judged, Taken, accept, accept_up_to, accepted, and_then, at_end, critical_after, fault_of, fault_of_up_to, judged, may_stand, one, out_of_order, out_of_range, own_request, refused_at, refused_for, rises, take_from, take_from_up_to, taken, too_many, unknown_job, with_more}
use Rattle.rules.specs.TableText.{Record, Records, in_range}
use Rattle.rules.specs.declared.Refusal.{Refusal}
use Rattle.rules.specs.declared.Speed.{Speed}

-- "within a line, the lowest number": the condition of a refusal holds, and none of a lower one; or no condition holds
pub data Lowest (b : Before) (r : Record) : Option Refusal → Type 0 where
  range : out_of_range r ≡ true → Lowest b r (some Refusal.Range)
  order : out_of_range r ≡ false → out_of_order b r ≡ true → Lowest b r (some Refusal.Order)
  too-many : out_of_range r ≡ false → out_of_order b r ≡ false → too_many b.records r ≡ true
      → Lowest b r (some Refusal.TooMany)
  critical-after : out_of_range r ≡ false → out_of_order b r ≡ false → too_many b.records r ≡ false
      → critical_after r ≡ true → Lowest b r (some Refusal.CriticalAfterTermination)
  unknown-job : out_of_range r ≡ false → out_of_order b r ≡ false → too_many b.records r ≡ false
      → critical_after r ≡ false → unknown_job b.records r ≡ true → Lowest b r (some Refusal.UnknownJob)
  own-request : out_of_range r ≡ false → out_of_order b r ≡ false → too_many b.records r ≡ false
      → critical_after r ≡ false → unknown_job b.records r ≡ false → own_request b.records r ≡ true
      → Lowest b r (some Refusal.OwnRequest)
  faultless : out_of_range r ≡ false → out_of_order b r ≡ false → too_many b.records r ≡ false
      → critical_after r ≡ false → unknown_job b.records r ≡ false → own_request b.records r ≡ false
      → Lowest b r none

fault_lowest : (b : Before) (r : Record) → Lowest b r (fault_of b r)
unfolding fault_of_up_to
fault_lowest b r =
    go (out_of_range r) (out_of_order b r) (too_many b.records r) (critical_after r) (unknown_job b.records r) (own_request b.records r)
    refl refl refl refl refl refl
  where
    go : (t u v w x y : Bool) → out_of_range r ≡ t → out_of_order b r ≡ u → too_many b.records r ≡ v
        → critical_after r ≡ w → unknown_job b.records r ≡ x → own_request b.records r ≡ y
        → Lowest b r
        (cond t (some Refusal.Range)
        (cond u (some Refusal.Order)
        (cond v (some Refusal.TooMany)
        (cond w (some Refusal.CriticalAfterTermination)
        (cond x (some Refusal.UnknownJob) (cond y (some Refusal.OwnRequest) none))))))
    go true u v w x y h₂ h₃ h₄ h₅ h₆ h₇ = range h₂
    go false true v w x y h₂ h₃ h₄ h₅ h₆ h₇ = order h₂ h₃
    go false false true w x y h₂ h₃ h₄ h₅ h₆ h₇ = too-many h₂ h₃ h₄
    go false false false true x y h₂ h₃ h₄ h₅ h₆ h₇ = critical-after h₂ h₃ h₄ h₅
    go false false false false true y h₂ h₃ h₄ h₅ h₆ h₇ = unknown-job h₂ h₃ h₄ h₅ h₆
    go false false false false false true h₂ h₃ h₄ h₅ h₆ h₇ = own-request h₂ h₃ h₄ h₅ h₆ h₇
    go false false false false false false h₂ h₃ h₄ h₅ h₆ h₇ = faultless h₂ h₃ h₄ h₅ h₆ h₇

lowest_fault : {b : Before} {r : Record} {o : Option Refusal} → Lowest b r o → fault_of b r ≡ o
unfolding fault_of_up_to
lowest_fault (range h₂) = rw h₂
lowest_fault (order h₂ h₃) = rw (h₂, h₃)
lowest_fault (too-many h₂ h₃ h₄) = rw (h₂, h₃, h₄)
lowest_fault (critical-after h₂ h₃ h₄ h₅) = rw (h₂, h₃, h₄, h₅)
lowest_fault (unknown-job h₂ h₃ h₄ h₅ h₆) = rw (h₂, h₃, h₄, h₅, h₆)
lowest_fault (own-request h₂ h₃ h₄ h₅ h₆ h₇) = rw (h₂, h₃, h₄, h₅, h₆, h₇)
lowest_fault (faultless h₂ h₃ h₄ h₅ h₆ h₇) = rw (h₂, h₃, h₄, h₅, h₆, h₇)

-- A record's refusal is the lowest whose condition holds, and there is none where no condition holds.
pub fault_is_lowest : (b : Before) (r : Record) (o : Option Refusal) → (fault_of b r ≡ o) ↔ Lowest b r o
fault_is_lowest b r o = (λ e. rw e at (fault_lowest b r), lowest_fault)

-- The state after items that are accepted one after the other.
pub data Reached : Before → List Item → Before → Type 0 where
  at_once : {b : Before} → Reached b [] b
  after : {b next last : Before} {i : Item} {is : List Item} → accept b i ≡ accepted next → Reached next is last
      → Reached b (i ∷ is) last

-- "The first bad line decides": where the fold stops, and why. The items before the place are accepted; there stands an
-- item that is refused, or the items end and no F has been read.
pub data Stopped (line : ℕ) (b : Before) (items : List Item) (why : Refusal) (place : ℕ) : Type 0 where
  at_item : (front rest : List Item) (i : Item) (last : Before) → items ≡ front ++ i ∷ rest → Reached b front last
      → accept last i ≡ refused_for why → place ≡ line + length front → Stopped line b items why place
  at_items_end : (last : Before) → Reached b items last → last.records.speeds ≡ [] → why ≡ Refusal.Order
      → place ≡ line + length items → Stopped line b items why place

-- what the fold comes to
data Outcome (line : ℕ) (b : Before) (items : List Item) : Taken → Type 0 where
  took : {r : Records} (last : Before) → Reached b items last → empty last.records.speeds ≡ false → last.records ≡ r
      → Outcome line b items (taken r)
  halted : {why : Refusal} {place : ℕ} → Stopped line b items why place → Outcome line b items (refused_at why place)

end_outcome : (line : ℕ) (b : Before) → Outcome line b [] (at_end line b)
unfolding at_end
end_outcome line b = go b.records.speeds refl
  where
    go : (fs : List Speed) → b.records.speeds ≡ fs
        → Outcome line b [] (cond (empty fs) (refused_at Refusal.Order line) (taken b.records))
    go [] e = halted (at_items_end b at_once e refl (sym (add-zero line)))
    go (f ∷ fs) e = took b at_once (rw e) refl

stopped_later : {line : ℕ} {b next : Before} {i : Item} {is : List Item} {why : Refusal} {place : ℕ} → accept b i ≡ accepted next
    → Stopped (line + 1) next is why place → Stopped line b (i ∷ is) why place
stopped_later {i} e (at_item front rest j last split reached refusal stands) =
    at_item (i ∷ front) rest j last (ap (λ is. i ∷ is) split) (after e reached) refusal (omega arith)
stopped_later e (at_items_end last reached no-speed is_order stands) =
    at_items_end last (after e reached) no-speed is_order (omega arith)

later : {line : ℕ} {b next : Before} {i : Item} {is : List Item} {t : Taken} → accept b i ≡ accepted next
    → Outcome (line + 1) next is t → Outcome line b (i ∷ is) t
later e (took last reached some_speed same) = took last (after e reached) some_speed same
later e (halted s) = halted (stopped_later e s)

fold_outcome : (line : ℕ) (b : Before) (items : List Item) → Outcome line b items (take_from line b items)
unfolding take_from_up_to and_then
fold_outcome line b [] = end_outcome line b
fold_outcome line b (i ∷ is) = go (accept b i) refl (λ next. fold_outcome (line + 1) next is)
  where
    go : (j : Judged) → accept b i ≡ j → ((next : Before) → Outcome (line + 1) next is (take_from (line + 1) next is))
        → Outcome line b (i ∷ is) (and_then j (λ next. take_from (line + 1) next is) line)
    go (accepted next) e more = later e (more next)
    go (refused_for why) e more = halted (at_item [] is i b refl at_once e (sym (add-zero line)))

reached_fold : {b last : Before} {items : List Item} (line : ℕ) (rest : List Item) → Reached b items last
    → take_from line b (items ++ rest) ≡ take_from (line + length items) last rest
unfolding take_from_up_to and_then
reached_fold {b} line rest at_once = rw (add-zero line)
reached_fold line rest (after {is} e reached) =
    let places : line + 1 + length is ≡ line + suc (length is) = omega arith in
    rw e (reached_fold (line + 1) rest reached ∙ rw places)

reached_end : {b last : Before} (line : ℕ) (items : List Item) → Reached b items last
    → take_from line b items ≡ at_end (line + length items) last
unfolding take_from_up_to
reached_end line items reached = rw (append-nil items) at (reached_fold line [] reached)

stopped_fold : {line : ℕ} {b : Before} {items : List Item} {why : Refusal} {place : ℕ} → Stopped line b items why place
    → take_from line b items ≡ refused_at why place
unfolding take_from_up_to at_end and_then
stopped_fold {line} {b} (at_item front rest i last split reached refusal stands) =
    rw (split, stands) (reached_fold line (i ∷ rest) reached ∙ rw refusal)
stopped_fold {line} {b} {items} (at_items_end last reached no-speed is_order stands) =
    rw (is_order, stands) (reached_end line items reached ∙ rw no-speed)

took_tells : {line : ℕ} {b : Before} {items : List Item} {r : Records} → Outcome line b items (taken r)
    → (last : Before) × Reached b items last × (empty last.records.speeds ≡ false) × (last.records ≡ r)
took_tells (took last reached some_speed same) = (last, reached, some_speed, same)

stopped_tells : {line : ℕ} {b : Before} {items : List Item} {why : Refusal} {place : ℕ}
    → Outcome line b items (refused_at why place) → Stopped line b items why place
stopped_tells (halted s) = s

-- Refused is exactly where the fold stops, with the refusal that stops it.
pub refused_where_stopped : (line : ℕ) (b : Before) (items : List Item) (why : Refusal) (place : ℕ)
    → (take_from line b items ≡ refused_at why place) ↔ Stopped line b items why place
refused_where_stopped line b items why place =
    (λ e. stopped_tells (rw e at (fold_outcome line b items)), stopped_fold)

-- Taken are exactly the records reached by items that are all accepted, where an F has been read.
pub taken_where_reached : (line : ℕ) (b : Before) (items : List Item) (r : Records)
    → (take_from line b items ≡ taken r)
    ↔ ((last : Before) × Reached b items last × (empty last.records.speeds ≡ false) × (last.records ≡ r))
unfolding at_end
taken_where_reached line b items r = (
  λ e. took_tells (rw e at (fold_outcome line b items)),
  λ s. reached_end line items s.1 ∙ rw (s.2, s.3),
)

-- A record is accepted exactly when no condition holds, and then it is added.
pub record Faultless (b : Before) (r : Record) : Type 0 where
  pub in-range : in_range r ≡ true
  pub may-stand : may_stand b r ≡ true
  pub rising : rises b.records r ≡ true
  pub few : too_many b.records r ≡ false
  pub critical_first : critical_after r ≡ false
  pub holder_known : unknown_job b.records r ≡ false
  pub no_own_request : own_request b.records r ≡ false

none_lowest : {b : Before} {r : Record} → Lowest b r none → Faultless b r
unfolding out_of_range out_of_order
none_lowest {b} {r} (faultless h₂ h₃ h₄ h₅ h₆ h₇) =
    let stands = both_true (may_stand b r) (rises b.records r) (not-false _ h₃) in
    record {
      in-range = not-false _ h₂;
      may-stand = stands.0;
      rising = stands.1;
      few = h₄;
      critical_first = h₅;
      holder_known = h₆;
      no_own_request = h₇;
    }

lowest_none : {b : Before} {r : Record} → Faultless b r → Lowest b r none
unfolding out_of_range out_of_order
lowest_none f =
    faultless (rw f.in-range) (rw (f.may-stand, f.rising)) f.few f.critical_first f.holder_known f.no_own_request

pub accepted_exactly : (b : Before) (r : Record) (next : Before)
    → (accept b (one r) ≡ accepted next) ↔ (Faultless b r × (next ≡ with_more b r))
unfolding accept_up_to judged
accepted_exactly b r next = (
  λ e. go (fault_of b r) (fault_lowest b r) e,
  λ f. rw (lowest_fault (lowest_none f.0), f.1),
)
  where
    go : (o : Option Refusal) → Lowest b r o → judged b r o ≡ accepted next → Faultless b r × (next ≡ with_more b r)
    go none l e = (none_lowest l, cc)
    go (some why) l e = let z : ◌≡◌ {A = ℕ} 0 1 = cc in absurd (omega arith)
