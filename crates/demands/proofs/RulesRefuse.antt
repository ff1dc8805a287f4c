-- What the rules refuse, said of each of their definitions once: where they refuse, nothing is handed back and all is left as it
-- was, and nowhere else is a number other than 0 answered. Assumes nothing.
use mathlib.Core.Bool.{true, false, false≢true}
use mathlib.Core.List.{List, [], ◌∷◌}
use mathlib.Core.Path.{◌≡◌, refl, sym, ap, ◌∙◌}
use Prim.Native.Nat.{ℕ, zero, suc, ◌+◌, ◌-◌, ◌≤◌, ◌<◌}
use native.Mathlib.Omega.{arith}
use borrow.Author.Tests.{leb-false, lt-leb, ltb-false, ltb-true}
use lib.Dec.{leb}
use lib.ListN.{length}
use Rattle.demands.specs.Plans.{HasRoom}
use Rattle.demands.specs.Refused.{AllocationRefused, CostsRefused, FirstLineRefused, IsRefusal, ListRefused, NothingLent, PlanRefused, ReadRefused, Refuses, WriteRefused}
use Rattle.demands.specs.Refused.{bad_budget, bad_first_line, bad_record, bad_table, bad_text, first_too_small, listing_too_long, none_enough, other_model, out-of-range, second_too_small, text_too_long}
use Rattle.front.proofs.WholeText.{refused_at_line_one}
use Rattle.front.specs.ClockLine.{first_line, first_of, line_one_says}
use Rattle.laws.proofs.Allocation.{refused_outside, refused_where_none_enough}
use Rattle.laws.proofs.Choices.{split, split_option}
use Rattle.laws.proofs.Tests.{within_above}
use Rattle.grammar.proofs.BudgetBeside.{budget-refused, table_refused, taken-with}
use Rattle.grammar.proofs.Trips.{check_exactly}
use Rattle.planner.proofs.Decisions.{either_true, room, room_first, too-small}
use Rattle.rules.specs.Answers.{Answer, ReadAnswer, refused}
use Rattle.rules.specs.Costs.{supplied_costs}
use Rattle.rules.specs.Cycles.{allocated, allocation, asked_in_range, enough, least_from}
use Rattle.rules.specs.Lists.{within}
use Rattle.rules.specs.Listing.{listed_with, listing, listing_of, listing_with}
use Rattle.rules.specs.Plan.{AfterPlanning, leaves_all, leaves_of, leaves_plan, part_of, planning_of_up_to, planning_with, taken_with, too_small, too_small_up_to}
use Rattle.rules.specs.Refusals.{AfterWriting, Item, Judged, Taken, accept, accepted, check, items_in, nothing, read, reading, reading_up_to, refused_at, refused_for, refused_out, table_answer, table_answer_up_to, taken, writing, written, written_of}
use Rattle.rules.specs.Rooms.{AfterRooms, leaves_rooms, leaves_rooms_of, leaves_untold, panel_of_up_to, panel_with}
use Rattle.rules.specs.TableText.{Records, is_budget, lines_of, most_cycles, most_jobs, no_records, records_of, table_of, text_of, with_budget}
use Rattle.rules.specs.declared.Refusal.{Refusal}
use Rattle.rules.specs.declared.Table.{Table}

-- some refusal is given
abbrev SomeRefusal : (Refusal → ℕ → Type 0) → Type 0
SomeRefusal Given = (why : Refusal) × (line : ℕ) × Given why line

module _ {Given : Refusal → ℕ → Type 0} {values : List ℕ} where
  -- what is left where the rules refuse is nothing but their refusal
  refuses_by : {A : Type 0} {Held : Type 0} (answer : A → Answer) (all : A) (refusal : Refusal → ℕ → A)
      → ((why : Refusal) (line : ℕ) → answer (refusal why line) ≡ refused why line values)
      → ((why : Refusal) (line : ℕ) → Given why line → all ≡ refusal why line)
      → (IsRefusal (answer all) → SomeRefusal Given) → ((why : Refusal) (line : ℕ) → all ≡ refusal why line → Held)
      → Refuses Given (answer all) values Held
  refuses_by answer all refusal says left only held = record {
    told = λ why line given. ap answer (left why line given) ∙ says why line;
    nowhere_else = only;
    held = λ r. let (why, line, given) = only r in held why line (left why line given);
  }

  -- a call that answers what the rules do refuses as they do
  pub carried : {a says : Answer} {Held Held' : Type 0} → Refuses Given a values Held → says ≡ a → (Held → Held')
      → Refuses Given says values Held'
  carried by e held =
      record {
        told = λ why line given. e ∙ by.told why line given;
        nowhere_else = λ r. by.nowhere_else (λ zero. r (ap (λ (a : Answer). a.number) e ∙ zero));
        held = λ r. held (by.held (λ zero. r (ap (λ (a : Answer). a.number) e ∙ zero)));
      }

-- the plan

small_buffer : (buffer : List ℕ) → too_small buffer ≡ true → length buffer < most_jobs
unfolding too_small_up_to
small_buffer buffer h = ltb-true (length buffer) most_jobs h

large_buffer : (buffer : List ℕ) → too_small buffer ≡ false → most_jobs ≤ length buffer
unfolding too_small_up_to
large_buffer buffer h = ltb-false (length buffer) most_jobs h

-- a call that plans a table, whatever it tells of the plan: room first, then what was taken
module _ {A : Type 0} (answers : Taken → A) (refusing : Refusal → ℕ → A)
    (refused_so : (why : Refusal) (line : ℕ) → answers (refused_at why line) ≡ refusing why line) (answer : A → Answer)
    (good_so : (t : Records) → (answer (answers (taken t))).number ≡ 0) (table : Table) (budget : ℕ) (first second : List ℕ) where
  abbrev all : A
  all = room_first answers refusing refused_so table budget first second

  with_room : HasRoom first second → all ≡ answers (taken_with table budget)
  with_room large = rw (room first large.first_room) (rw (room second large.second_room))

  refused_with_room : (why : Refusal) (line : ℕ) → HasRoom first second → taken_with table budget ≡ refused_at why line
      → all ≡ refusing why line
  refused_with_room why line large e = with_room large ∙ ap answers e ∙ refused_so why line

  left_refused : (why : Refusal) (line : ℕ) → PlanRefused table budget first second why line → all ≡ refusing why line
  left_refused why line (first_too_small h) = rw (too-small first h)
  left_refused why line (second_too_small h) = rw (too-small second h) (rw (either_true (too_small first)))
  left_refused why line (bad_budget large h) = refused_with_room why line large (budget-refused table budget h)
  left_refused why line (bad_table large h e) = refused_with_room why line large (table_refused table budget why line h e)

  -- with room, only the budget or the table is refused
  table_only : HasRoom first second → is_budget budget ≡ true → (k : Taken) → check table ≡ k
      → IsRefusal (answer (answers (taken_with table budget))) → SomeRefusal (PlanRefused table budget first second)
  table_only large h (taken t) e r = absurd (rw (taken-with table budget t h e) at r (good_so (with_budget t budget)))
  table_only large h (refused_at why line) e r = (why, line, bad_table large h e)

  taken_only : HasRoom first second → IsRefusal (answer (answers (taken_with table budget)))
      → SomeRefusal (PlanRefused table budget first second)
  taken_only large r =
      split (is_budget budget) (λ h. table_only large h (check table) refl r) (λ h. (Refusal.Range, 1, bad_budget large h))

  refused_only : IsRefusal (answer all) → SomeRefusal (PlanRefused table budget first second)
  refused_only r =
      split (too_small first)
      (λ h. (Refusal.Room, 0, first_too_small (small_buffer first h)))
      (λ h. split (too_small second)
      (λ g. (Refusal.Room, 0, second_too_small (small_buffer second g)))
      (λ g. taken_only (record { first_room = large_buffer first h; second_room = large_buffer second g })
      (rw g at (rw h at r))))

  planned_refuses : {values : List ℕ} {Held : Type 0}
      → ((why : Refusal) (line : ℕ) → answer (refusing why line) ≡ refused why line values)
      → ((why : Refusal) (line : ℕ) → all ≡ refusing why line → Held)
      → Refuses (PlanRefused table budget first second) (answer all) values Held
  planned_refuses says held = refuses_by answer all refusing says left_refused refused_only held

pub planning_refuses : (table : Table) (budget : ℕ) (order fates : List ℕ)
    → let all = planning_with table budget order fates in
    Refuses (PlanRefused table budget order fates) all.answer (0 ∷ 0 ∷ 0 ∷ [])
    ((all.order ≡ order) × (all.fates ≡ fates) × (part_of all ≡ []))
unfolding planning_of_up_to leaves_of leaves_plan leaves_all part_of
planning_refuses table budget order fates =
    planned_refuses (λ k. leaves_of k order fates) (λ why line. leaves_all why line order fates) (λ why line. refl)
    (λ (a : AfterPlanning). a.answer) (λ t. refl) table budget order fates (λ why line. refl)
    (λ why line e. (ap (λ (a : AfterPlanning). a.order) e, ap (λ (a : AfterPlanning). a.fates) e, ap part_of e))

-- the rooms

pub panel_refuses : (table : Table) (budget : ℕ) (turns rooms : List ℕ)
    → let all = panel_with table budget turns rooms in
    Refuses (PlanRefused table budget turns rooms) all.answer (0 ∷ 0 ∷ []) ((all.turns ≡ turns) × (all.rooms ≡ rooms))
unfolding panel_of_up_to leaves_rooms_of leaves_rooms leaves_untold
panel_refuses table budget turns rooms =
    planned_refuses (λ k. leaves_rooms_of k turns rooms) (λ why line. leaves_untold why line turns rooms) (λ why line. refl)
    (λ (a : AfterRooms). a.answer) (λ t. refl) table budget turns rooms (λ why line. refl)
    (λ why line e. (ap (λ (a : AfterRooms). a.turns) e, ap (λ (a : AfterRooms). a.rooms) e))

-- texts that are written

module _ (text out : List ℕ) where
  no_room_left : length out < length text → written text out ≡ refused_out Refusal.Room 0 out
  unfolding written
  no_room_left h = rw (lt-leb (length text) (length out) h)

  no_room_only : IsRefusal (written text out).answer → length out < length text
  unfolding written
  no_room_only r =
      split (leb (length text) (length out)) (λ h. absurd (rw h at r refl)) (λ h. leb-false (length text) (length out) h)

abbrev left_out : List ℕ → Refusal → ℕ → AfterWriting
left_out out why line = refused_out why line out

-- a listing, of a text alone or with a budget beside it
lines_refuse : (lines out : List ℕ)
    → Refuses (ListRefused lines out) (written lines out).answer (0 ∷ []) ((written lines out).out ≡ out)
unfolding refused_out
lines_refuse lines out =
    refuses_by (λ (a : AfterWriting). a.answer) (written lines out) (left_out out) (λ why line. refl) left
    (λ r. (Refusal.Room, 0, listing_too_long (no_room_only lines out r)))
    (λ why line e. ap (λ (a : AfterWriting). a.out) e)
  where
    left : (why : Refusal) (line : ℕ) → ListRefused lines out why line → written lines out ≡ refused_out why line out
    left why line (listing_too_long h) = no_room_left lines out h

pub listing_refuses : (text out : List ℕ)
    → Refuses (ListRefused (listing_of text) out) (listing text out).answer (0 ∷ []) ((listing text out).out ≡ out)
unfolding listing
listing_refuses text out = lines_refuse (listing_of text) out

pub listing_with_refuses : (text : List ℕ) (budget : ℕ) (out : List ℕ)
    → Refuses (ListRefused (listed_with text budget) out) (listing_with text budget out).answer (0 ∷ [])
    ((listing_with text budget out).out ≡ out)
unfolding listing_with
listing_with_refuses text budget out = lines_refuse (listed_with text budget) out

module _ (t : Table) (out : List ℕ) where
  write_left : (why : Refusal) (line : ℕ) → WriteRefused t out why line → writing t out ≡ refused_out why line out
  unfolding writing written_of
  write_left why line (bad_record e) = rw e
  write_left why line (text_too_long fits valid h) =
      rw ((check_exactly t (records_of t)).1 (valid, refl, fits)) (no_room_left (text_of (records_of t)) out h)

  write_only : (k : Taken) → check t ≡ k → IsRefusal (written_of k out).answer → SomeRefusal (WriteRefused t out)
  unfolding written_of
  write_only (taken r) e n =
      let (valid, same, fits) = (check_exactly t r).0 e in
      (Refusal.Room, 0, text_too_long fits (rw same valid) (rw same (no_room_only (text_of r) out n)))
  write_only (refused_at why line) e n = (why, line, bad_record e)

  pub writing_refuses : Refuses (WriteRefused t out) (writing t out).answer (0 ∷ []) ((writing t out).out ≡ out)
  unfolding writing refused_out
  writing_refuses =
      refuses_by (λ (a : AfterWriting). a.answer) (writing t out) (left_out out) (λ why line. refl) write_left
      (write_only (check t) refl) (λ why line e. ap (λ (a : AfterWriting). a.out) e)

-- the table that is read

module _ (text : List ℕ) where
  read_left : (why : Refusal) (line : ℕ) → ReadRefused text why line → reading text ≡ table_answer (refused_at why line)
  unfolding reading_up_to
  read_left why line (bad_text e) = rw e

  read_only : (k : Taken) → read text ≡ k → IsRefusal (table_answer k).answer → SomeRefusal (ReadRefused text)
  unfolding table_answer_up_to
  read_only (taken r) e n = absurd (n refl)
  read_only (refused_at why line) e n = (why, line, bad_text e)

  pub reading_refuses : Refuses (ReadRefused text) (reading text).answer [] ((reading text).table ≡ table_of no_records)
  unfolding reading_up_to table_answer_up_to
  reading_refuses =
      refuses_by (λ (a : ReadAnswer). a.answer) (reading text) (λ why line. table_answer (refused_at why line))
      (λ why line. refl) read_left (read_only (read text) refl) (λ why line e. ap (λ (a : ReadAnswer). a.table) e)

  -- its first line

  line_left : (why : Refusal) (line : ℕ) → FirstLineRefused text why line → first_line text ≡ refused why line []
  line_left why line (bad_first_line e) = (refused_at_line_one text why).1 e

  line_only : (is : List Item) → IsRefusal (first_of is) → (why : Refusal) × (first_of is ≡ refused why 1 [])
  unfolding first_of line_one_says
  line_only [] n = (Refusal.Order, refl)
  line_only (i ∷ is) n = judged (accept nothing i) n
    where
      judged : (j : Judged) → IsRefusal (line_one_says j) → (why : Refusal) × (line_one_says j ≡ refused why 1 [])
      judged (accepted b) n = absurd (n refl)
      judged (refused_for why) n = (why, refl)

  pub first_line_refuses : Refuses (FirstLineRefused text) (first_line text) [] NothingLent
  unfolding first_line
  first_line_refuses =
      refuses_by (λ (a : Answer). a) (first_line text) (λ why line. refused why line []) (λ why line. refl) line_left
      (λ n. let (why, e) = line_only (items_in (lines_of text)) n in (why, 1, bad_first_line ((refused_at_line_one text why).0 e)))
      (λ why line e. tt)

-- the allocation

module _ (mean variance assurance : ℕ) where
  allocation_left : (why : Refusal) (line : ℕ) → AllocationRefused mean variance assurance why line
      → allocation mean variance assurance ≡ refused why line (0 ∷ [])
  allocation_left why line (out-of-range h) = (refused_outside mean variance assurance).1 h
  allocation_left why line (none_enough h nowhere) = (refused_where_none_enough mean variance assurance).1 (h, nowhere)

  allocation_only : IsRefusal (allocation mean variance assurance) → SomeRefusal (AllocationRefused mean variance assurance)
  unfolding allocation allocated
  allocation_only n =
      split (asked_in_range mean variance assurance)
      (λ h. split_option (least_from (enough mean variance assurance) mean (most_cycles + 1 - mean))
      (λ e. (Refusal.Allocation, 0, none_enough h ((refused_where_none_enough mean variance assurance).0 (rw h (rw e))).1))
      (λ c e. absurd (rw e at (rw h at n) refl)))
      (λ h. (Refusal.Range, 0, out-of-range h))

  pub allocation_refuses :
      Refuses (AllocationRefused mean variance assurance) (allocation mean variance assurance) (0 ∷ []) NothingLent
  allocation_refuses =
      refuses_by (λ (a : Answer). a) (allocation mean variance assurance) (λ why line. refused why line (0 ∷ []))
      (λ why line. refl) allocation_left allocation_only (λ why line e. tt)

-- the supplied costs

other_models : (model : ℕ) → ¬ (model ≡ 1) → ¬ (model ≡ 2) → ¬ (model ≡ 3) → within 1 3 model ≡ false
other_models zero one two three = refl
other_models (suc zero) one two three = absurd (one refl)
other_models (suc (suc zero)) one two three = absurd (two refl)
other_models (suc (suc (suc zero))) one two three = absurd (three refl)
other_models (suc (suc (suc (suc n)))) one two three = within_above 1 3 (suc (suc (suc (suc n)))) (omega arith)

module _ (model : ℕ) where
  costs_left : (why : Refusal) (line : ℕ) → CostsRefused model why line
      → supplied_costs model ≡ refused why line (0 ∷ 0 ∷ 0 ∷ 0 ∷ 0 ∷ 0 ∷ 0 ∷ [])
  unfolding supplied_costs
  costs_left why line (other_model one two three) = rw (other_models model one two three)

  costs_only : IsRefusal (supplied_costs model) → SomeRefusal (CostsRefused model)
  unfolding supplied_costs
  costs_only n =
      split (within 1 3 model) (λ h. absurd (rw h at n refl))
      (λ h. (Refusal.Model, 0, other_model (other 1 refl h) (other 2 refl h) (other 3 refl h)))
    where
      other : (m : ℕ) → within 1 3 m ≡ true → within 1 3 model ≡ false → ¬ (model ≡ m)
      other m known unknown e = false≢true (sym unknown ∙ ap (within 1 3) e ∙ known)

  pub costs_refuses : Refuses (CostsRefused model) (supplied_costs model) (0 ∷ 0 ∷ 0 ∷ 0 ∷ 0 ∷ 0 ∷ 0 ∷ []) NothingLent
  costs_refuses =
      refuses_by (λ (a : Answer). a) (supplied_costs model) (λ why line. refused why line (0 ∷ 0 ∷ 0 ∷ 0 ∷ 0 ∷ 0 ∷ 0 ∷ []))
      (λ why line. refl) costs_left costs_only (λ why line e. tt)
