-- What the first line alone tells of the whole text. A text that is read as a table has that table's clock and budget in
-- line 1; and line 1 is refused exactly where reading the whole text is refused at line 1, with the same number. Reading
-- goes line by line, and the first bad line decides. Assumes nothing.
use mathlib.Core.List.{List, [], ◌∷◌, map}
use mathlib.Core.Logic.{◌↔◌}
use mathlib.Core.Path.{◌≡◌, sym, ap, ◌∙◌}
use Prim.Native.Nat.{ℕ, ◌+◌}
use native.Mathlib.Omega.{arith}
use lib.ListN.{get_or}
use Rattle.grammar.proofs.Accepted.{taken_exactly, valid_reached}
use Rattle.grammar.proofs.Stopped.{Reached, Stopped, accepted_exactly, after, at_item, at_items_end, at_once, refused_where_stopped}
use Rattle.laws.proofs.Unique.{refusal_not_0, refusal_unique}
use Rattle.std.specs.Prelude.{Result, Ok, Err}
use Rattle.rules.specs.Answers.{Answer, good, refused, refuses}
use Rattle.rules.specs.Refusals.{Before, Item, Judged, Taken, accept, accepted, added, and_then, at_end, items_in, nothing, one, read, read_up_to, refused_at, refused_for, take_from, take_from_up_to, taken}
use Rattle.rules.specs.TableText.{Record, Records, lined, lines_of}
use Rattle.rules.specs.Valid.{Valid}
use Rattle.rules.specs.declared.Refusal.{Refusal}
use Rattle.front.specs.ClockLine.{clock_line_says, first_line, first_of, line_one_says}
use Rattle.rules.specs.declared.Refused.{Refused}
use Rattle.front.specs.declared.Clock.{Clock}

-- an answer is known by what it says
pub clock_line_unique : (a b : Result Clock Refused) → clock_line_says a ≡ clock_line_says b → a ≡ b
clock_line_unique (Ok c) (Ok d) h =
    ap (λ (a : Answer). Ok (record { clock = get_or a.values 0 0; budget = get_or a.values 1 0 })) h
clock_line_unique (Ok c) (Err r) h = absurd (refusal_not_0 r.why (ap (λ (a : Answer). a.number) (sym h)))
clock_line_unique (Err r) (Ok c) h = absurd (refusal_not_0 r.why (ap (λ (a : Answer). a.number) h))
clock_line_unique (Err r) (Err other) h =
    ap (λ w. refuses w r.line) (refusal_unique r.why other.why (ap (λ (a : Answer). a.number) h))
    ∙ ap (refuses other.why) (ap (λ (a : Answer). a.line) h)

-- the first of items that are all accepted
first_accepted : {b last : Before} {i : Item} {is : List Item} → Reached b (i ∷ is) last
    → (next : Before) × (accept b i ≡ accepted next)
first_accepted (after {next} e reached) = (next, e)

line_one_of_table : (r : Records) → Valid r → first_of (map one (lined r)) ≡ good (r.clock ∷ r.budget ∷ [])
unfolding first_of lined line_one_says added nothing
line_one_of_table r v =
    let (next, e) = first_accepted (valid_reached r v) in
    rw (e, ((accepted_exactly nothing (Record.T r.clock r.budget) next).0 e).1)

-- A text that is read as a table: line 1 tells its clock and its budget.
pub clock_of_table : (text : List ℕ) (r : Records) → read text ≡ taken r → first_line text ≡ good (r.clock ∷ r.budget ∷ [])
unfolding read_up_to first_line
clock_of_table text r e =
    let (v, lines) = (taken_exactly 1 (items_in (lines_of text)) r).0 e in
    ap first_of lines ∙ line_one_of_table r v

-- what a refused line 1 says, from its judgement
refused_judged : (j : Judged) (why : Refusal) (line : ℕ) (more : Before → Taken) → line_one_says j ≡ refused why line []
    → (line ≡ 1) × (and_then j more 1 ≡ refused_at why 1)
unfolding line_one_says and_then
refused_judged (accepted b) why line more e = absurd (refusal_not_0 why (ap (λ (a : Answer). a.number) (sym e)))
refused_judged (refused_for other) why line more e =
    let same = refusal_unique other why (ap (λ (a : Answer). a.number) e) in
    (sym (ap (λ (a : Answer). a.line) e), ap (λ w. refused_at w 1) same)

refused_items : (is : List Item) (why : Refusal) (line : ℕ) → first_of is ≡ refused why line []
    → (line ≡ 1) × (take_from 1 nothing is ≡ refused_at why 1)
unfolding first_of take_from_up_to at_end nothing
refused_items [] why line e =
    let same = refusal_unique Refusal.Order why (ap (λ (a : Answer). a.number) e) in
    (sym (ap (λ (a : Answer). a.line) e), ap (λ w. refused_at w 1) same)
refused_items (i ∷ is) why line e = refused_judged (accept nothing i) why line (λ next. take_from (1 + 1) next is) e

stopped_items : (is : List Item) (why : Refusal) → Stopped 1 nothing is why 1 → first_of is ≡ refused why 1 []
unfolding first_of line_one_says
stopped_items is why (at_item [] rest i last split at_once refusal stands) = rw (split, refusal)
stopped_items is why (at_item (j ∷ front) rest i last split reached refusal stands) = absurd (omega arith)
stopped_items [] why (at_items_end last reached no-speed is_order stands) = rw is_order
stopped_items (i ∷ is) why (at_items_end last reached no-speed is_order stands) = absurd (omega arith)

-- Line 1 is refused exactly where the whole text is refused at line 1, with the same number.
pub refused_at_line_one : (text : List ℕ) (why : Refusal)
    → (first_line text ≡ refused why 1 []) ↔ (read text ≡ refused_at why 1)
unfolding read_up_to first_line
refused_at_line_one text why = (
  λ e. (refused_items (items_in (lines_of text)) why 1 e).1,
  λ e. stopped_items (items_in (lines_of text)) why ((refused_where_stopped 1 nothing (items_in (lines_of text)) why 1).0 e),
)

-- the answer of a table: its clock and its budget
abbrev pub clock_of : Records → Result Clock Refused
clock_of r = Ok (record { clock = r.clock; budget = r.budget })

-- The same of any answer that the promise of `clock_and_budget` allows.
module _ (text : List ℕ) where
  pub answer_of_table : (r : Records) (a : Result Clock Refused) → clock_line_says a ≡ first_line text → read text ≡ taken r
      → a ≡ clock_of r
  answer_of_table r a promised e =
      clock_line_unique a (clock_of r) (promised ∙ clock_of_table text r e)

  pub answer_refused : (why : Refusal) (line : ℕ) → clock_line_says (refuses why line) ≡ first_line text
      → (line ≡ 1) × (read text ≡ refused_at why 1)
  unfolding read_up_to first_line
  answer_refused why line promised = refused_items (items_in (lines_of text)) why line (sym promised)

  pub answer_of_refused : (why : Refusal) (a : Result Clock Refused) → clock_line_says a ≡ first_line text → read text ≡ refused_at why 1
      → a ≡ refuses why 1
  answer_of_refused why a promised e =
      clock_line_unique a (refuses why 1) (promised ∙ (refused_at_line_one text why).1 e)
