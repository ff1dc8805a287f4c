-- The three demands, over the offered calls. Each line speaks of any answer that a call's promise allows, and so of the answer
-- that the call gives: that it gives one, for every text, table and buffer, is part of its proof. An answer is told as document
-- 01 tells it, by number, line and values (rules/specs/Answers, boundary/specs/Told); two answers that say the same are the same
-- (laws/proofs/Unique). The words of the statements are in specs/; `Promised` is a call's contract as a caller learns it, and where
-- a line names a promise's record, that the contract is that record is said in the crate's proofs/Unique. The reasons are in
-- Refused, Planned, Trips, ReadOnce, Unplanned and Rooms. Assumes nothing.
use mathlib.Core.Bool.{Bool, true}
use mathlib.Core.List.{List, [], ◌∷◌}
use mathlib.Core.Logic.{◌⊎◌}
use mathlib.Core.Option.{some}
use mathlib.Core.Path.{◌≡◌}
use Prim.Native.Nat.{ℕ, suc, ◌≤◌, ◌<◌}
use contract.Lifetimes.{Lfts}
use denote.Ref.{Bor, MutBor}
use lib.ListN.{length, take}
use Rattle.std.specs.Prelude.{Result, Ok, is_err}
use Rattle.boundary.proofs.Unique.{allocate_unique, costs_unique, list_unique, list_with_unique, plan_unique, read_unique, rooms_unique, write_unique}
use Rattle.boundary.specs.Told as boundary
use Rattle.boundary.specs.declared.CostsAnswer.{CostsAnswer}
use Rattle.boundary.specs.declared.CyclesAnswer.{CyclesAnswer}
use Rattle.boundary.specs.declared.PlanAnswer.{PlanAnswer}
use Rattle.boundary.specs.declared.RoomsAnswer.{RoomsAnswer}
use Rattle.boundary.specs.declared.TableAnswer.{TableAnswer}
use Rattle.boundary.specs.declared.TextAnswer.{TextAnswer}
use Rattle.costs.proofs.Unique as costs
use Rattle.cycles.proofs.Unique as cycles
use Rattle.demands.proofs.Planned.{clock_and_budget_gives, list_gives, list_with_gives, plan_gives, plan_into_gives, read_gives, write_gives}
use Rattle.demands.proofs.Planned.{cuddlelamb_list_gives, cuddlelamb_list_with_gives, cuddlelamb_plan_gives, cuddlelamb_read_gives, cuddlelamb_write_gives}
use Rattle.demands.proofs.Refused.{allocate_refuses, clock_and_budget_refuses, empty_text_refused, list_refuses, list_with_refuses, plan_into_refuses, plan_refuses, read_refuses, supplied_refuses, write_refuses}
use Rattle.demands.proofs.Refused.{cuddlelamb_allocate_refuses, cuddlelamb_costs_refuses, cuddlelamb_list_refuses, cuddlelamb_list_with_refuses, cuddlelamb_plan_refuses, cuddlelamb_read_refuses, cuddlelamb_write_refuses}
use Rattle.demands.proofs.Trips.{table_again, text_again}
use Rattle.demands.proofs.ReadOnce.{cuddlelamb_list_at_own_budget, cuddlelamb_list_refused_at_any_budget, cuddlelamb_plan_as_the_one, cuddlelamb_refused_as_the_one}
use Rattle.demands.proofs.ReadOnce.{list_at_own_budget, list_refused_at_any_budget, list_with_as_its_own, one_said_room, part_as_its_own}
use Rattle.demands.proofs.ReadOnce.{plan_as_the_one, plan_into_as_the_one, refused_as_the_one, refused_not_as_the_one, same_as_its_own, told_as_its_own}
use Rattle.demands.proofs.Rooms.{cuddlelamb_rooms_as_its_own, cuddlelamb_rooms_gives, cuddlelamb_rooms_refuses, rooms_as_its_own, rooms_gives, rooms_refuses}
use Rattle.demands.proofs.Rooms.{unplanned_do_not_matter_to_cuddlelamb_rooms, unplanned_do_not_matter_to_rooms}
use Rattle.demands.proofs.Unplanned.{unplanned_do_not_matter_to_cuddlelamb_list, unplanned_do_not_matter_to_cuddlelamb_list_with, unplanned_do_not_matter_to_cuddlelamb_plan}
use Rattle.demands.proofs.Unplanned.{unplanned_do_not_matter_to_list, unplanned_do_not_matter_to_list_with, unplanned_do_not_matter_to_plan, unplanned_do_not_matter_to_plan_into}
use Rattle.demands.specs.Plans.{AtFront, HasRoom, PartBy, PlannedBy, RoomsBy}
use Rattle.demands.specs.ReadOnce.{AsTheOne, LeavesAsTheOne, NotPlanned, OneSaidRoom, OtherThanTheOne}
use Rattle.demands.specs.Refused.{AllocationRefused, CostsRefused, FirstLineRefused, IsRefusal, ListRefused, NothingLent, PlanRefused, ReadRefused, Refuses, WriteRefused}
use Rattle.demands.specs.Trips.{SameTable, SameText}
use Rattle.demands.specs.Unplanned.{BothAgree, NoneInFront, SameListing, SameOutside, SamePart, SameRooms, front_of}
use Rattle.front.proofs.FieldsHeld.{moved_behind_the_letter, moved_refused, moved_to_the_next_field, next_answers_the_field, next_answers_the_letter, next_refused}
use Rattle.front.proofs.FieldsHeld.{next_refuses_another_kind, next_refuses_without_a_line_feed, take_answers_the_field, take_answers_the_letter, take_refused}
use Rattle.front.proofs.LinesCounted.{take_counted, walked_lines_counted}
use Rattle.front.proofs.Unique as front
use Rattle.front.proofs.WholeText.{clock_of}
use Rattle.front.specs.ClockLine.{clock_line_says}
use Rattle.front.specs.Reading.{Moved, Next, Placed, Started, Took, first_place}
use Rattle.front.specs.Walked.{LineCounted, ReaderTakes, kind_at, other_kind_at}
use Rattle.front.specs.declared.Clock.{Clock}
use Rattle.front.specs.declared.Kind.{Kind}
use Rattle.front.specs.declared.Reader.{Reader}
use Rattle.handing.proofs.Unique.{hand_back_unique}
use Rattle.handing.specs.Promises.{HandedBack}
use Rattle.theorems.specs.Demand3.{NonePlanned, out_of}
use Rattle.listing.proofs.Unique as listing
use Rattle.planner.proofs.Together.{plan_into_then_hand_back, refused_hands_back_nothing}
use Rattle.planner.proofs.Unique as planner
use Rattle.planner.specs.Promises.{PlannedAs, Together}
use Rattle.planner.specs.declared.Planned.{Planned}
use Rattle.reader.proofs.Unique as reader
use Rattle.rules.specs.Answers.{allocated_says, decision_says, field_says, good, number_of, panel_says, reading_says, refused, refuses, supplied_says, written_says}
use Rattle.rules.specs.Costs.{supplied_costs}
use Rattle.rules.specs.Cycles.{allocation}
use Rattle.rules.specs.Listing.{listed_with, listing_of}
use Rattle.rules.specs.Lists.{Each}
use Rattle.rules.specs.Plan.{taken_with}
use Rattle.rules.specs.Refusals.{check, read, refused_at, taken}
use Rattle.rules.specs.TableText.{Records, is_budget, is_number, lines_of, most_jobs, no_records, number_in, records_of, table_of, table_with_budget, text_of, with_budget}
use Rattle.rules.specs.Valid.{Valid, WithinPlaces}
use Rattle.rules.specs.declared.Decision.{Decision}
use Rattle.rules.specs.declared.Panel.{Panel}
use Rattle.rules.specs.declared.Refusal.{Refusal}
use Rattle.rules.specs.declared.Refused.{Refused}
use Rattle.rules.specs.declared.Table.{Table}
use Rattle.text.specs.FieldPlaces.{field_answer, field_at, fields_at, line_letter, place_at, place_behind}
use Rattle.text.specs.Fields.{FieldsTold, most_line, taken_says}
use Rattle.text.specs.declared.Cursor.{Cursor}
use Rattle.text.specs.declared.FieldTaken.{FieldTaken}
use Rattle.writer.proofs.Unique as writer

-- DEMAND 1. "A refusal gives its number and line, hands back an empty plan, and every lent buffer still holds what it held."
-- Each line with `Refuses`: WHEN the rules refuse, and with which number and line (`..Refused`, in specs/Refused); what the call
-- answers, there and nowhere else; the values that it then hands back; and what the lent buffers, or the table handed back, then
-- hold.

pub refused_by_plan_into : (l : Lfts 2) (table : Table) (budget : ℕ) (order fates order' fates' : MutBor (List ℕ)) (d : Result Decision Refused)
    → planner.Promised l table budget order fates d order' fates'
    → Refuses (PlanRefused table budget order.now fates.now) (decision_says d) (0 ∷ 0 ∷ 0 ∷ [])
    ((order'.now ≡ order.now) × (fates'.now ≡ fates.now))
refused_by_plan_into = plan_into_refuses

pub refused_by_plan : (table : Table) (budget : ℕ) (order fates : List ℕ) (begin : ℕ × ℕ) (r : Planned) (fates' : List ℕ)
    → PlannedAs (taken_with table budget) order fates begin r fates'
    → Refuses (PlanRefused table budget order fates) (decision_says r.decision) (0 ∷ 0 ∷ 0 ∷ [])
    ((r.plan.now ≡ []) × (fates' ≡ fates))
refused_by_plan = plan_refuses

pub refused_by_hand_back : (order : List ℕ) (begin : ℕ × ℕ) (why : Refusal) (line : ℕ) (part : List ℕ) (at : ℕ × ℕ)
    → HandedBack order begin (refuses why line) part at → part ≡ []
refused_by_hand_back = refused_hands_back_nothing

pub refused_by_rooms : (l : Lfts 2) (table : Table) (budget : ℕ) (turns rooms turns' rooms' : MutBor (List ℕ)) (r : Result Panel Refused)
    → planner.PromisedRooms l table budget turns rooms r turns' rooms'
    → Refuses (PlanRefused table budget turns.now rooms.now) (panel_says r) (0 ∷ 0 ∷ [])
    ((turns'.now ≡ turns.now) × (rooms'.now ≡ rooms.now))
refused_by_rooms = rooms_refuses

pub refused_by_list : (l : Lfts 2) (text : Bor (List ℕ)) (out after : MutBor (List ℕ)) (w : Result ℕ Refused) → listing.Promised l text out w after
    → Refuses (ListRefused (listing_of text.now) out.now) (written_says w) (0 ∷ []) (after.now ≡ out.now)
refused_by_list = list_refuses

pub refused_by_list_with_budget : (l : Lfts 2) (text : Bor (List ℕ)) (budget : ℕ) (out after : MutBor (List ℕ)) (w : Result ℕ Refused)
    → listing.PromisedWith l text budget out w after
    → Refuses (ListRefused (listed_with text.now budget) out.now) (written_says w) (0 ∷ []) (after.now ≡ out.now)
refused_by_list_with_budget = list_with_refuses

pub refused_by_write : (l : Lfts 1) (t : Table) (out after : MutBor (List ℕ)) (w : Result ℕ Refused) → writer.Promised l t out w after
    → Refuses (WriteRefused t out.now) (written_says w) (0 ∷ []) (after.now ≡ out.now)
refused_by_write = write_refuses

pub refused_by_read : (l : Lfts 1) (text : Bor (List ℕ)) (r : Result Table Refused) → reader.Promised l text r
    → Refuses (ReadRefused text.now) (reading_says r).answer [] ((is_err r ≡ true) × ((reading_says r).table ≡ table_of no_records))
refused_by_read = read_refuses

pub refused_by_clock_and_budget : (l : Lfts 1) (text : Bor (List ℕ)) (r : Result Clock Refused) → front.Promised l text r
    → Refuses (FirstLineRefused text.now) (clock_line_says r) [] NothingLent
refused_by_clock_and_budget = clock_and_budget_refuses

pub empty_text_by_clock_and_budget : (l : Lfts 1) (text : Bor (List ℕ)) (r : Result Clock Refused) → front.Promised l text r
    → text.now ≡ [] → r ≡ refuses Refusal.Order 1
empty_text_by_clock_and_budget = empty_text_refused

-- a field is refused 1, with the line that the reader stands in, and the reader stays there; when it is refused: below,
-- `next_by_the_rules` and the lines behind it
pub refused_by_next : (reader : Reader) (kind : Kind) (r : Result ℕ Refused) → Next reader kind r → IsRefusal (field_says r)
    → field_says r ≡ refused Refusal.Shape reader.place.line []
refused_by_next = next_refused

pub refused_by_moved : (reader : Reader) (kind : Kind) (r : Result ℕ Refused) → Next reader kind r → IsRefusal (field_says r) → (s : Reader)
    → Moved reader kind s → s ≡ reader
refused_by_moved = moved_refused

pub refused_by_take : (text : List ℕ) (at : Cursor) (kind : Kind) (r : FieldTaken) → Took text at kind r
    → IsRefusal (field_says r.field) → taken_says r ≡ record { says = refused Refusal.Shape at.line []; next = at }
refused_by_take = take_refused

pub refused_by_allocate : (mean variance assurance : ℕ) (r : Result ℕ Refused) → cycles.Promised mean variance assurance r
    → Refuses (AllocationRefused mean variance assurance) (allocated_says r) (0 ∷ []) NothingLent
refused_by_allocate = allocate_refuses

pub refused_by_supplied : (model : ℕ) (r : Result (List ℕ) Refused) → costs.Promised model r
    → Refuses (CostsRefused model) (supplied_says r) (0 ∷ 0 ∷ 0 ∷ 0 ∷ 0 ∷ 0 ∷ 0 ∷ []) NothingLent
refused_by_supplied = supplied_refuses

-- the eight calls for C and Rust

pub refused_by_cuddlelamb_plan : (table : Table) (budget : ℕ) (order fates order' fates' : List ℕ) (r : PlanAnswer)
    → boundary.PlanTold (taken_with table budget) order fates r order' fates'
    → Refuses (PlanRefused table budget order fates) (boundary.plan_says r) (0 ∷ 0 ∷ 0 ∷ []) ((order' ≡ order) × (fates' ≡ fates))
refused_by_cuddlelamb_plan = cuddlelamb_plan_refuses

pub refused_by_cuddlelamb_rooms : (table : Table) (budget : ℕ) (turns rooms turns' rooms' : List ℕ) (r : RoomsAnswer)
    → boundary.RoomsTold (taken_with table budget) turns rooms r turns' rooms'
    → Refuses (PlanRefused table budget turns rooms) (boundary.rooms_says r) (0 ∷ 0 ∷ []) ((turns' ≡ turns) × (rooms' ≡ rooms))
refused_by_cuddlelamb_rooms = cuddlelamb_rooms_refuses

pub refused_by_cuddlelamb_list : (text out after : List ℕ) (r : TextAnswer) → boundary.ListTold text out r after
    → Refuses (ListRefused (listing_of text) out) (boundary.text_says r) (0 ∷ []) (after ≡ out)
refused_by_cuddlelamb_list = cuddlelamb_list_refuses

pub refused_by_cuddlelamb_list_with_budget : (text : List ℕ) (budget : ℕ) (out after : List ℕ) (r : TextAnswer)
    → boundary.ListWithTold text budget out r after
    → Refuses (ListRefused (listed_with text budget) out) (boundary.text_says r) (0 ∷ []) (after ≡ out)
refused_by_cuddlelamb_list_with_budget = cuddlelamb_list_with_refuses

pub refused_by_cuddlelamb_write : (t : Table) (out after : List ℕ) (r : TextAnswer) → boundary.WriteTold t out r after
    → Refuses (WriteRefused t out) (boundary.text_says r) (0 ∷ []) (after ≡ out)
refused_by_cuddlelamb_write = cuddlelamb_write_refuses

pub refused_by_cuddlelamb_read : (text : List ℕ) (r : TableAnswer) → boundary.ReadTold text r
    → Refuses (ReadRefused text) (boundary.table_says r) [] (r.table ≡ table_of no_records)
refused_by_cuddlelamb_read = cuddlelamb_read_refuses

pub refused_by_cuddlelamb_allocate : (mean variance assurance : ℕ) (r : CyclesAnswer)
    → boundary.AllocateTold mean variance assurance r
    → Refuses (AllocationRefused mean variance assurance) (boundary.cycles_says r) (0 ∷ []) NothingLent
refused_by_cuddlelamb_allocate = cuddlelamb_allocate_refuses

pub refused_by_cuddlelamb_costs : (model : ℕ) (r : CostsAnswer) → boundary.CostsTold model r
    → Refuses (CostsRefused model) (boundary.costs_says r) (0 ∷ 0 ∷ 0 ∷ 0 ∷ 0 ∷ 0 ∷ 0 ∷ []) NothingLent
refused_by_cuddlelamb_costs = cuddlelamb_costs_refuses

-- DEMAND 2. "Plan, fates, speed and energy are those that the rules of document 01 give, no others." A table that the check takes
-- is planned with the budget beside it.

pub plan_into_by_the_rules : (l : Lfts 2) (table : Table) (budget : ℕ) (order fates order' fates' : MutBor (List ℕ)) (d : Result Decision Refused)
    (t : Records) → planner.Promised l table budget order fates d order' fates' → check table ≡ taken t → is_budget budget ≡ true
    → HasRoom order.now fates.now
    → PlannedBy (with_budget t budget) order.now fates.now (decision_says d) order'.now fates'.now
plan_into_by_the_rules = plan_into_gives

pub plan_by_the_rules : (table : Table) (budget : ℕ) (order fates : List ℕ) (begin : ℕ × ℕ) (r : Planned) (fates' : List ℕ)
    (t : Records) → PlannedAs (taken_with table budget) order fates begin r fates' → check table ≡ taken t → is_budget budget ≡ true
    → HasRoom order fates → PartBy (with_budget t budget) fates (decision_says r.decision) r.plan.now fates'
plan_by_the_rules = plan_gives

-- `plan_into` and then `hand_back` of the buffer that it left: the part, and behind it every place as `plan_into` left it
pub every_place_by_the_rules : (l : Lfts 2) (table : Table) (budget : ℕ) (order fates order' fates' : MutBor (List ℕ)) (d : Result Decision Refused)
    (begin at : ℕ × ℕ) (part : List ℕ) → planner.Promised l table budget order fates d order' fates'
    → HandedBack order'.now begin d part at
    → Together (taken_with table budget) order.now fates.now begin order'.now part at
every_place_by_the_rules = plan_into_then_hand_back

-- the panel's call (document 02, A2): "It must equal the answer from all the entries", after each turn and at the end
pub rooms_by_the_rules : (l : Lfts 2) (table : Table) (budget : ℕ) (turns rooms turns' rooms' : MutBor (List ℕ)) (r : Result Panel Refused)
    (t : Records) → planner.PromisedRooms l table budget turns rooms r turns' rooms' → check table ≡ taken t
    → is_budget budget ≡ true → HasRoom turns.now rooms.now
    → RoomsBy (with_budget t budget) turns.now rooms.now (panel_says r) turns'.now rooms'.now
rooms_by_the_rules = rooms_gives

pub list_by_the_rules : (l : Lfts 2) (text : Bor (List ℕ)) (out after : MutBor (List ℕ)) (w : Result ℕ Refused) → listing.Promised l text out w after
    → length (listing_of text.now) ≤ length out.now
    → AtFront (listing_of text.now) out.now (written_says w) after.now
list_by_the_rules = list_gives

pub list_with_budget_by_the_rules : (l : Lfts 2) (text : Bor (List ℕ)) (budget : ℕ) (out after : MutBor (List ℕ)) (w : Result ℕ Refused)
    → listing.PromisedWith l text budget out w after → length (listed_with text.now budget) ≤ length out.now
    → AtFront (listed_with text.now budget) out.now (written_says w) after.now
list_with_budget_by_the_rules = list_with_gives

pub valid_table_is_written : (l : Lfts 1) (t : Table) (out after : MutBor (List ℕ)) (w : Result ℕ Refused) → writer.Promised l t out w after
    → WithinPlaces t → Valid (records_of t) → length (text_of (records_of t)) ≤ length out.now
    → AtFront (text_of (records_of t)) out.now (written_says w) after.now
valid_table_is_written = write_gives

pub read_by_the_rules : (l : Lfts 1) (text : Bor (List ℕ)) (r : Result Table Refused) (t : Records) → reader.Promised l text r
    → read text.now ≡ taken t → r ≡ Ok (table_of t)
read_by_the_rules = read_gives

pub clock_and_budget_by_the_rules : (l : Lfts 1) (text : Bor (List ℕ)) (r : Result Clock Refused) (t : Records) → front.Promised l text r
    → read text.now ≡ taken t → r ≡ clock_of t
clock_and_budget_by_the_rules = clock_and_budget_gives

-- "a field is either a number or the refusal of its line", by any reader that stands at its place: field k of line l, asked for as
-- what it is, a number with a tab behind it or the last of its line, or as what it is not; the line's letter; and the last field
-- of a text without a line feed at the end
pub next_by_the_rules : {text : Bor (List ℕ)} {reader : Reader} (l : ℕ) → 1 ≤ l → l < length (lines_of text.now) → (k : ℕ)
    → k < length (fields_at text.now l) → Started text (place_at text.now l k) reader → {r : Result ℕ Refused}
    → Next reader (kind_at text.now l k) r → field_says r ≡ field_answer l (number_in (field_at text.now l k))
next_by_the_rules = next_answers_the_field

pub another_kind_refused_by_next : {text : Bor (List ℕ)} {reader : Reader} (l : ℕ) → 1 ≤ l → l < length (lines_of text.now)
    → (k : ℕ) → k < length (fields_at text.now l) → Started text (place_at text.now l k) reader → {r : Result ℕ Refused}
    → Next reader (other_kind_at text.now l k) r → field_says r ≡ refused Refusal.Shape l []
another_kind_refused_by_next = next_refuses_another_kind

pub letter_by_the_rules : {text : Bor (List ℕ)} {reader : Reader} (l : ℕ) → 1 ≤ l → l < length (lines_of text.now)
    → Started text (place_at text.now l 0) reader → {r : Result ℕ Refused} → Next reader Kind.Letter r
    → field_says r ≡ field_answer l (line_letter text.now l)
letter_by_the_rules = next_answers_the_letter

pub no_line_feed_refused_by_next : {text : Bor (List ℕ)} {reader : Reader} (l : ℕ) → 1 ≤ l → l ≡ length (lines_of text.now)
    → (k : ℕ) → suc k ≡ length (fields_at text.now l) → Started text (place_at text.now l k) reader → {r : Result ℕ Refused}
    → Next reader Kind.Last r → field_says r ≡ refused Refusal.Shape l []
no_line_feed_refused_by_next = next_refuses_without_a_line_feed

-- "the reading place moves on with each field taken": to the next field, or to the first of the next line
pub moved_by_the_rules : {text : Bor (List ℕ)} {reader : Reader} (l : ℕ) → 1 ≤ l → l < length (lines_of text.now) → (k : ℕ)
    → k < length (fields_at text.now l) → Started text (place_at text.now l k) reader → {r : Reader}
    → Moved reader (kind_at text.now l k) r → is_number (field_at text.now l k) ≡ true → l < most_line
    → Started text (place_behind text.now l k) r
moved_by_the_rules = moved_to_the_next_field

pub moved_by_a_letter : {text : Bor (List ℕ)} {reader : Reader} (l : ℕ) → 1 ≤ l → l < length (lines_of text.now)
    → Started text (place_at text.now l 0) reader → {r : Reader} (b : ℕ) → Moved reader Kind.Letter r
    → line_letter text.now l ≡ some b → Started text (place_at text.now l 1) r
moved_by_a_letter = moved_behind_the_letter

pub take_by_the_rules : (text : List ℕ) (l : ℕ) → 1 ≤ l → l < length (lines_of text) → (k : ℕ) → k < length (fields_at text l)
    → {r : FieldTaken} → Took text (place_at text l k) (kind_at text l k) r
    → field_says r.field ≡ field_answer l (number_in (field_at text l k))
take_by_the_rules = take_answers_the_field

pub letter_taken_by_the_rules : (text : List ℕ) (l : ℕ) → 1 ≤ l → l < length (lines_of text) → {r : FieldTaken}
    → Took text (place_at text l 0) Kind.Letter r → field_says r.field ≡ field_answer l (line_letter text l)
letter_taken_by_the_rules = take_answers_the_letter

-- walked from the start, field by field, the reader's line is one more than the line feeds before it; every text that a machine
-- holds has at most so many bytes
pub lines_by_the_rules : {text : Bor (List ℕ)} {reader : Reader} {kinds : List Kind} {ts : List FieldsTold}
    → length text.now ≤ most_line → Started text first_place reader → ReaderTakes reader kinds ts
    → Each (λ (told : FieldsTold). LineCounted text.now told.next) ts
lines_by_the_rules = walked_lines_counted

pub lines_taken_by_the_rules : (text : List ℕ) → length text ≤ most_line → (at : Cursor) → LineCounted text at → (kind : Kind)
    {r : FieldTaken} → Took text at kind r → LineCounted text r.next
lines_taken_by_the_rules = take_counted

pub allocate_by_the_rules : (mean variance assurance : ℕ) (r : Result ℕ Refused) → cycles.Promised mean variance assurance r
    → allocated_says r ≡ allocation mean variance assurance
allocate_by_the_rules mean variance assurance r promise = promise

pub supplied_by_the_rules : (model : ℕ) (r : Result (List ℕ) Refused) → costs.Promised model r → supplied_says r ≡ supplied_costs model
supplied_by_the_rules model r promise = promise

-- the eight calls for C and Rust

pub cuddlelamb_plan_by_the_rules : (table : Table) (budget : ℕ) (order fates order' fates' : List ℕ) (r : PlanAnswer) (t : Records)
    → boundary.PlanTold (taken_with table budget) order fates r order' fates' → check table ≡ taken t → is_budget budget ≡ true
    → HasRoom order fates → PlannedBy (with_budget t budget) order fates (boundary.plan_says r) order' fates'
cuddlelamb_plan_by_the_rules = cuddlelamb_plan_gives

pub cuddlelamb_rooms_by_the_rules : (table : Table) (budget : ℕ) (turns rooms turns' rooms' : List ℕ) (r : RoomsAnswer)
    (t : Records) → boundary.RoomsTold (taken_with table budget) turns rooms r turns' rooms' → check table ≡ taken t
    → is_budget budget ≡ true → HasRoom turns rooms
    → RoomsBy (with_budget t budget) turns rooms (boundary.rooms_says r) turns' rooms'
cuddlelamb_rooms_by_the_rules = cuddlelamb_rooms_gives

pub cuddlelamb_list_by_the_rules : (text out after : List ℕ) (r : TextAnswer) → boundary.ListTold text out r after
    → length (listing_of text) ≤ length out → AtFront (listing_of text) out (boundary.text_says r) after
cuddlelamb_list_by_the_rules = cuddlelamb_list_gives

pub cuddlelamb_list_with_budget_by_the_rules : (text : List ℕ) (budget : ℕ) (out after : List ℕ) (r : TextAnswer)
    → boundary.ListWithTold text budget out r after → length (listed_with text budget) ≤ length out
    → AtFront (listed_with text budget) out (boundary.text_says r) after
cuddlelamb_list_with_budget_by_the_rules = cuddlelamb_list_with_gives

pub valid_table_is_written_by_cuddlelamb_write : (t : Table) (out after : List ℕ) (r : TextAnswer)
    → boundary.WriteTold t out r after → WithinPlaces t → Valid (records_of t) → length (text_of (records_of t)) ≤ length out
    → AtFront (text_of (records_of t)) out (boundary.text_says r) after
valid_table_is_written_by_cuddlelamb_write = cuddlelamb_write_gives

pub cuddlelamb_read_by_the_rules : (text : List ℕ) (r : TableAnswer) (t : Records) → boundary.ReadTold text r → read text ≡ taken t
    → (boundary.table_says r ≡ good []) × (r.table ≡ table_of t)
cuddlelamb_read_by_the_rules = cuddlelamb_read_gives

pub cuddlelamb_allocate_by_the_rules : (mean variance assurance : ℕ) (r : CyclesAnswer)
    → boundary.AllocateTold mean variance assurance r → boundary.cycles_says r ≡ allocation mean variance assurance
cuddlelamb_allocate_by_the_rules mean variance assurance r promise = promise.answer

pub cuddlelamb_costs_by_the_rules : (model : ℕ) (r : CostsAnswer) → boundary.CostsTold model r
    → boundary.costs_says r ≡ supplied_costs model
cuddlelamb_costs_by_the_rules model r promise = promise.answer

-- "With room to write, a valid text read and written again is the same text, and a valid table written and read again the same
-- table."

pub read_and_written_again : (l l' : Lfts 1) (text : Bor (List ℕ)) (table : Table) → reader.Promised l text (Ok table)
    → (out after : MutBor (List ℕ)) (w : Result ℕ Refused) → writer.Promised l' table out w after
    → length text.now ≤ length out.now → SameText text.now out.now after.now w
read_and_written_again = text_again

pub written_and_read_again : (l l' : Lfts 1) (t : Table) (out after : MutBor (List ℕ)) (n : ℕ)
    → writer.Promised l' t out (Ok n) after → (text : Bor (List ℕ)) → text.now ≡ take n after.now
    → (r : Result Table Refused) → reader.Promised l text r → SameTable t r
written_and_read_again = table_again

-- Document 02, A5: "With the text's own budget and buffers large enough, the two answer as the one did, refusals included; the
-- buffer check moves with planning, after reading." A text that is read, planned as its table with its own budget, whatever buffers
-- are lent; one that is refused, with room; and where a buffer is short: there the one call said 8, line 0, of every text, and so of
-- a refused one, of which the two tell the refusal that reading gives.

pub read_then_plan_into_as_the_one : (l : Lfts 1) (text : Bor (List ℕ)) (table : Table) → reader.Promised l text (Ok table)
    → (l' : Lfts 2) (order fates order' fates' : MutBor (List ℕ)) (d : Result Decision Refused)
    → planner.Promised l' table table.budget order fates d order' fates'
    → LeavesAsTheOne text.now order.now fates.now (decision_says d) order'.now fates'.now
read_then_plan_into_as_the_one = plan_into_as_the_one

pub read_then_plan_as_the_one : (l : Lfts 1) (text : Bor (List ℕ)) (table : Table) → reader.Promised l text (Ok table)
    → (order fates : List ℕ) (begin : ℕ × ℕ) (p : Planned) (fates' : List ℕ)
    → PlannedAs (taken_with table table.budget) order fates begin p fates'
    → AsTheOne text.now order fates (decision_says p.decision) p.plan.now fates'
read_then_plan_as_the_one = plan_as_the_one

pub refused_reading_as_the_one : (l : Lfts 1) (text : Bor (List ℕ)) (why : Refusal) (line : ℕ)
    → reader.Promised l text (refuses why line) → (order fates : List ℕ) → HasRoom order fates
    → NotPlanned text.now order fates (number_of why) line
refused_reading_as_the_one = refused_as_the_one

pub where_a_buffer_is_short : (text order fates : List ℕ) → (length order < most_jobs) ⊎ (length fates < most_jobs)
    → OneSaidRoom text order fates
where_a_buffer_is_short = one_said_room

pub refused_reading_not_as_the_one : (l : Lfts 1) (text : Bor (List ℕ)) (why : Refusal) (line : ℕ)
    → reader.Promised l text (refuses why line) → (order fates : List ℕ)
    → (length order < most_jobs) ⊎ (length fates < most_jobs) → OtherThanTheOne text.now order fates (number_of why) line
refused_reading_not_as_the_one = refused_not_as_the_one

pub cuddlelamb_read_then_plan_as_the_one : (text : List ℕ) (r : TableAnswer) → boundary.ReadTold text r → r.number ≡ 0
    → (order fates order' fates' : List ℕ) (s : PlanAnswer)
    → boundary.PlanTold (taken_with r.table r.table.budget) order fates s order' fates'
    → LeavesAsTheOne text order fates (boundary.plan_says s) order' fates'
cuddlelamb_read_then_plan_as_the_one = cuddlelamb_plan_as_the_one

pub cuddlelamb_refused_reading_as_the_one : (text : List ℕ) (r : TableAnswer) → boundary.ReadTold text r → ¬ (r.number ≡ 0)
    → (order fates : List ℕ) → HasRoom order fates → NotPlanned text order fates r.number r.line
cuddlelamb_refused_reading_as_the_one = cuddlelamb_refused_as_the_one

-- The budget beside the table is the one that counts: with both budgets in range, planning is that of the same table whose T has
-- the budget beside. The listing is that with the text's own budget beside it, and of a refused text that with any.

pub budget_beside_is_planned_with : (table : Table) (budget : ℕ) → is_budget table.budget ≡ true → is_budget budget ≡ true
    → (l l* : Lfts 2) (order fates a b a' b' : MutBor (List ℕ)) (d e : Result Decision Refused) → planner.Promised l table budget order fates d a b
    → planner.Promised l* (table_with_budget table budget) budget order fates e a' b'
    → (d ≡ e) × (a.now ≡ a'.now) × (b.now ≡ b'.now)
budget_beside_is_planned_with = same_as_its_own

pub budget_beside_is_planned_with_by_plan : (table : Table) (budget : ℕ) → is_budget table.budget ≡ true → is_budget budget ≡ true
    → (order fates : List ℕ) (begin begin* : ℕ × ℕ) (r s : Planned) (b b' : List ℕ)
    → PlannedAs (taken_with table budget) order fates begin r b
    → PlannedAs (taken_with (table_with_budget table budget) budget) order fates begin* s b'
    → (r.plan.now ≡ s.plan.now) × (r.decision ≡ s.decision) × (b ≡ b')
budget_beside_is_planned_with_by_plan = part_as_its_own

pub budget_beside_is_planned_with_by_cuddlelamb_plan : (table : Table) (budget : ℕ) → is_budget table.budget ≡ true
    → is_budget budget ≡ true → (order fates a b a' b' : List ℕ) (r s : PlanAnswer)
    → boundary.PlanTold (taken_with table budget) order fates r a b
    → boundary.PlanTold (taken_with (table_with_budget table budget) budget) order fates s a' b' → (r ≡ s) × (a ≡ a') × (b ≡ b')
budget_beside_is_planned_with_by_cuddlelamb_plan = told_as_its_own

pub budget_beside_is_told_with : (table : Table) (budget : ℕ) → is_budget table.budget ≡ true → is_budget budget ≡ true
    → (l l* : Lfts 2) (turns rooms a b a' b' : MutBor (List ℕ)) (r s : Result Panel Refused) → planner.PromisedRooms l table budget turns rooms r a b
    → planner.PromisedRooms l* (table_with_budget table budget) budget turns rooms s a' b'
    → (r ≡ s) × (a.now ≡ a'.now) × (b.now ≡ b'.now)
budget_beside_is_told_with = rooms_as_its_own

pub budget_beside_is_told_with_by_cuddlelamb_rooms : (table : Table) (budget : ℕ) → is_budget table.budget ≡ true
    → is_budget budget ≡ true → (turns rooms a b a' b' : List ℕ) (r s : RoomsAnswer)
    → boundary.RoomsTold (taken_with table budget) turns rooms r a b
    → boundary.RoomsTold (taken_with (table_with_budget table budget) budget) turns rooms s a' b' → (r ≡ s) × (a ≡ a') × (b ≡ b')
budget_beside_is_told_with_by_cuddlelamb_rooms = cuddlelamb_rooms_as_its_own

pub budget_beside_is_listed_with : (l l* : Lfts 2) (text text* : Bor (List ℕ)) (out a b : MutBor (List ℕ)) (w v : Result ℕ Refused) (t : Records) (budget : ℕ)
    → read text.now ≡ taken t → is_budget budget ≡ true → text*.now ≡ text_of (with_budget t budget)
    → listing.Promised l text* out w a → listing.PromisedWith l* text budget out v b → (w ≡ v) × (a.now ≡ b.now)
budget_beside_is_listed_with = list_with_as_its_own

pub list_is_at_the_own_budget : (l l* : Lfts 2) (text : Bor (List ℕ)) (out a b : MutBor (List ℕ)) (w v : Result ℕ Refused) → listing.Promised l text out w a
    → (t : Records) → read text.now ≡ taken t → listing.PromisedWith l* text t.budget out v b → (w ≡ v) × (a.now ≡ b.now)
list_is_at_the_own_budget = list_at_own_budget

pub refused_text_is_listed_alike : (l l* : Lfts 2) (text : Bor (List ℕ)) (out a b : MutBor (List ℕ)) (w v : Result ℕ Refused)
    → listing.Promised l text out w a → (why : Refusal) (line : ℕ) → read text.now ≡ refused_at why line → (budget : ℕ)
    → listing.PromisedWith l* text budget out v b → (w ≡ v) × (a.now ≡ b.now)
refused_text_is_listed_alike = list_refused_at_any_budget

pub cuddlelamb_list_is_at_the_own_budget : (text out a b : List ℕ) (r s : TextAnswer) → boundary.ListTold text out r a
    → (t : Records) → read text ≡ taken t → boundary.ListWithTold text t.budget out s b → (r ≡ s) × (a ≡ b)
cuddlelamb_list_is_at_the_own_budget = cuddlelamb_list_at_own_budget

pub refused_text_is_listed_alike_by_cuddlelamb_list : (text out a b : List ℕ) (r s : TextAnswer)
    → boundary.ListTold text out r a → (why : Refusal) (line : ℕ) → read text ≡ refused_at why line → (budget : ℕ)
    → boundary.ListWithTold text budget out s b → (r ≡ s) × (a ≡ b)
refused_text_is_listed_alike_by_cuddlelamb_list = cuddlelamb_list_refused_at_any_budget

-- "no others": any two answers that a promise allows are one, and so is what the lent buffers hold

pub one_answer_of_read : (l : Lfts 1) (text : Bor (List ℕ)) (r s : Result Table Refused) → reader.Promised l text r
    → reader.Promised l text s → r ≡ s
one_answer_of_read = reader.unique

pub one_answer_of_write : (l : Lfts 1) (t : Table) (out a b : MutBor (List ℕ)) (r s : Result ℕ Refused) → writer.Promised l t out r a
    → writer.Promised l t out s b → (r ≡ s) × (a.now ≡ b.now)
one_answer_of_write = writer.unique

pub one_answer_of_plan_into : (l : Lfts 2) (table : Table) (budget : ℕ) (order fates a b a' b' : MutBor (List ℕ)) (r s : Result Decision Refused)
    → planner.Promised l table budget order fates r a b → planner.Promised l table budget order fates s a' b'
    → (r ≡ s) × (a.now ≡ a'.now) × (b.now ≡ b'.now)
one_answer_of_plan_into = planner.unique_into

pub one_answer_of_plan : (table : Table) (budget : ℕ) (order fates : List ℕ) (begin : ℕ × ℕ) (r s : Planned) (b b' : List ℕ)
    → PlannedAs (taken_with table budget) order fates begin r b → PlannedAs (taken_with table budget) order fates begin s b'
    → (r.plan.now ≡ s.plan.now) × (r.plan.ref_ptr ≡ s.plan.ref_ptr) × (r.decision ≡ s.decision) × (b ≡ b')
one_answer_of_plan = planner.unique_plan

pub one_answer_of_hand_back : (order : List ℕ) (begin : ℕ × ℕ) (d : Result Decision Refused) (part part' : List ℕ) (at at' : ℕ × ℕ)
    → HandedBack order begin d part at → HandedBack order begin d part' at' → (part ≡ part') × (at ≡ at')
one_answer_of_hand_back = hand_back_unique

pub one_answer_of_rooms : (l : Lfts 2) (table : Table) (budget : ℕ) (turns rooms a b a' b' : MutBor (List ℕ)) (r s : Result Panel Refused)
    → planner.PromisedRooms l table budget turns rooms r a b → planner.PromisedRooms l table budget turns rooms s a' b'
    → (r ≡ s) × (a.now ≡ a'.now) × (b.now ≡ b'.now)
one_answer_of_rooms = planner.unique_rooms

pub one_answer_of_list : (l : Lfts 2) (text : Bor (List ℕ)) (out a b : MutBor (List ℕ)) (r s : Result ℕ Refused) → listing.Promised l text out r a
    → listing.Promised l text out s b → (r ≡ s) × (a.now ≡ b.now)
one_answer_of_list = listing.unique

pub one_answer_of_list_with_budget : (l : Lfts 2) (text : Bor (List ℕ)) (budget : ℕ) (out a b : MutBor (List ℕ)) (r s : Result ℕ Refused)
    → listing.PromisedWith l text budget out r a → listing.PromisedWith l text budget out s b → (r ≡ s) × (a.now ≡ b.now)
one_answer_of_list_with_budget = listing.unique_with_budget

pub one_answer_of_allocate : (mean variance assurance : ℕ) (r s : Result ℕ Refused) → cycles.Promised mean variance assurance r
    → cycles.Promised mean variance assurance s → r ≡ s
one_answer_of_allocate = cycles.unique

pub one_answer_of_supplied : (model : ℕ) (r s : Result (List ℕ) Refused) → costs.Promised model r → costs.Promised model s → r ≡ s
one_answer_of_supplied = costs.unique

pub one_answer_of_start : (text : Bor (List ℕ)) (at : Cursor) (r s : Reader) → Started text at r → Started text at s → r ≡ s
one_answer_of_start = front.start_unique

pub one_answer_of_next : (reader : Reader) (kind : Kind) (r s : Result ℕ Refused) → Next reader kind r → Next reader kind s → r ≡ s
one_answer_of_next = front.next_unique

pub one_answer_of_moved : (reader : Reader) (kind : Kind) (r s : Reader) → Moved reader kind r → Moved reader kind s → r ≡ s
one_answer_of_moved = front.moved_unique

pub one_answer_of_place : (reader : Reader) (r s : Cursor) → Placed reader r → Placed reader s → r ≡ s
one_answer_of_place = front.place_unique

pub one_answer_of_take : (text : List ℕ) (at : Cursor) (kind : Kind) (r s : FieldTaken) → Took text at kind r
    → Took text at kind s → r ≡ s
one_answer_of_take = front.take_unique

pub one_answer_of_clock_and_budget : (l : Lfts 1) (text : Bor (List ℕ)) (r s : Result Clock Refused) → front.Promised l text r
    → front.Promised l text s → r ≡ s
one_answer_of_clock_and_budget = front.clock_and_budget_unique

-- the eight calls for C and Rust

pub one_answer_of_cuddlelamb_plan : (table : Table) (budget : ℕ) (order fates : List ℕ) (r s : PlanAnswer) (a b a' b' : List ℕ)
    → boundary.PlanTold (taken_with table budget) order fates r a b → boundary.PlanTold (taken_with table budget) order fates s a' b'
    → (r ≡ s) × (a ≡ a') × (b ≡ b')
one_answer_of_cuddlelamb_plan = plan_unique

pub one_answer_of_cuddlelamb_rooms : (table : Table) (budget : ℕ) (turns rooms : List ℕ) (r s : RoomsAnswer) (a b a' b' : List ℕ)
    → boundary.RoomsTold (taken_with table budget) turns rooms r a b → boundary.RoomsTold (taken_with table budget) turns rooms s a' b'
    → (r ≡ s) × (a ≡ a') × (b ≡ b')
one_answer_of_cuddlelamb_rooms = rooms_unique

pub one_answer_of_cuddlelamb_list : (text out : List ℕ) (r s : TextAnswer) (a b : List ℕ) → boundary.ListTold text out r a
    → boundary.ListTold text out s b → (r ≡ s) × (a ≡ b)
one_answer_of_cuddlelamb_list = list_unique

pub one_answer_of_cuddlelamb_list_with_budget : (text : List ℕ) (budget : ℕ) (out : List ℕ) (r s : TextAnswer) (a b : List ℕ)
    → boundary.ListWithTold text budget out r a → boundary.ListWithTold text budget out s b → (r ≡ s) × (a ≡ b)
one_answer_of_cuddlelamb_list_with_budget = list_with_unique

pub one_answer_of_cuddlelamb_write : (t : Table) (out : List ℕ) (r s : TextAnswer) (a b : List ℕ) → boundary.WriteTold t out r a
    → boundary.WriteTold t out s b → (r ≡ s) × (a ≡ b)
one_answer_of_cuddlelamb_write = write_unique

pub one_answer_of_cuddlelamb_read : (text : List ℕ) (r s : TableAnswer) → boundary.ReadTold text r → boundary.ReadTold text s → r ≡ s
one_answer_of_cuddlelamb_read = read_unique

pub one_answer_of_cuddlelamb_allocate : (mean variance assurance : ℕ) (r s : CyclesAnswer)
    → boundary.AllocateTold mean variance assurance r → boundary.AllocateTold mean variance assurance s → r ≡ s
one_answer_of_cuddlelamb_allocate = allocate_unique

pub one_answer_of_cuddlelamb_costs : (model : ℕ) (r s : CostsAnswer) → boundary.CostsTold model r → boundary.CostsTold model s → r ≡ s
one_answer_of_cuddlelamb_costs = costs_unique

-- DEMAND 3. "Jobs that are not planned don't matter." Two tables agree in every job outside a set of numbers, in the resources
-- those jobs hold, and in clock, speeds and costs; in neither a job outside asks for what a job inside holds (`BothAgree`). "In
-- demand 3 the budget is the one given beside the table": one budget is beside both, and their own may differ. Both calls have
-- room, and neither plan holds a number of the set. Then the answers are one, the plans handed back at the fronts of the order
-- buffers are, and each job outside has one fate.

pub unplanned_jobs_do_not_matter : (set : ℕ → Bool) (table table* : Table) (budget : ℕ) (a b : Records)
    → BothAgree set (check table) (check table*) a b → is_budget budget ≡ true → (l l* : Lfts 2)
    (order order* fates fates* order' order*' fates' fates*' : MutBor (List ℕ)) (d e : Result Decision Refused)
    → planner.Promised l table budget order fates d order' fates' → planner.Promised l* table* budget order* fates* e order*' fates*'
    → HasRoom order.now fates.now → HasRoom order*.now fates*.now
    → NoneInFront set (front_of (decision_says d) order'.now) → NoneInFront set (front_of (decision_says e) order*'.now)
    → SameOutside (out_of set) a b (decision_says d) (decision_says e) order'.now order*'.now fates'.now fates*'.now
unplanned_jobs_do_not_matter = unplanned_do_not_matter_to_plan_into

pub unplanned_jobs_do_not_matter_to_plan : (set : ℕ → Bool) (table table* : Table) (budget : ℕ) (a b : Records)
    → BothAgree set (check table) (check table*) a b → is_budget budget ≡ true → (order order* fates fates* : List ℕ)
    (begin begin* : ℕ × ℕ) (r s : Planned) (fates' fates*' : List ℕ)
    → PlannedAs (taken_with table budget) order fates begin r fates' → PlannedAs (taken_with table* budget) order* fates* begin* s fates*'
    → HasRoom order fates → HasRoom order* fates* → NoneInFront set r.plan.now → NoneInFront set s.plan.now
    → SamePart (out_of set) a b (decision_says r.decision) (decision_says s.decision)
    r.plan.now s.plan.now fates' fates*'
unplanned_jobs_do_not_matter_to_plan = unplanned_do_not_matter_to_plan

pub unplanned_jobs_do_not_matter_to_cuddlelamb_plan : (set : ℕ → Bool) (table table* : Table) (budget : ℕ) (a b : Records)
    → BothAgree set (check table) (check table*) a b → is_budget budget ≡ true
    → (order order* fates fates* order' order*' fates' fates*' : List ℕ) (r s : PlanAnswer)
    → boundary.PlanTold (taken_with table budget) order fates r order' fates'
    → boundary.PlanTold (taken_with table* budget) order* fates* s order*' fates*' → HasRoom order fates → HasRoom order* fates*
    → NoneInFront set (front_of (boundary.plan_says r) order') → NoneInFront set (front_of (boundary.plan_says s) order*')
    → SameOutside (out_of set) a b (boundary.plan_says r) (boundary.plan_says s) order' order*' fates' fates*'
unplanned_jobs_do_not_matter_to_cuddlelamb_plan = unplanned_do_not_matter_to_cuddlelamb_plan

-- The panel's calls tell each table's own rows: those of the jobs outside are the same in both, and so is the room at the end.

pub unplanned_jobs_do_not_matter_to_rooms : (set : ℕ → Bool) (table table* : Table) (budget : ℕ) (a b : Records)
    → BothAgree set (check table) (check table*) a b → is_budget budget ≡ true
    → NonePlanned set (with_budget a budget) → NonePlanned set (with_budget b budget) → (l l* : Lfts 2)
    (turns rooms turns* rooms* turns' rooms' turns*' rooms*' : MutBor (List ℕ)) (r s : Result Panel Refused)
    → planner.PromisedRooms l table budget turns rooms r turns' rooms'
    → planner.PromisedRooms l* table* budget turns* rooms* s turns*' rooms*'
    → HasRoom turns.now rooms.now → HasRoom turns*.now rooms*.now
    → SameRooms (out_of set) (with_budget a budget) (with_budget b budget) turns.now rooms.now turns*.now rooms*.now
    (panel_says r) (panel_says s) turns'.now rooms'.now turns*'.now rooms*'.now
unplanned_jobs_do_not_matter_to_rooms = unplanned_do_not_matter_to_rooms

pub unplanned_jobs_do_not_matter_to_cuddlelamb_rooms : (set : ℕ → Bool) (table table* : Table) (budget : ℕ) (a b : Records)
    → BothAgree set (check table) (check table*) a b → is_budget budget ≡ true
    → NonePlanned set (with_budget a budget) → NonePlanned set (with_budget b budget)
    → (turns rooms turns* rooms* turns' rooms' turns*' rooms*' : List ℕ) (r s : RoomsAnswer)
    → boundary.RoomsTold (taken_with table budget) turns rooms r turns' rooms'
    → boundary.RoomsTold (taken_with table* budget) turns* rooms* s turns*' rooms*' → HasRoom turns rooms → HasRoom turns* rooms*
    → SameRooms (out_of set) (with_budget a budget) (with_budget b budget) turns rooms turns* rooms*
    (boundary.rooms_says r) (boundary.rooms_says s) turns' rooms' turns*' rooms*'
unplanned_jobs_do_not_matter_to_cuddlelamb_rooms = unplanned_do_not_matter_to_cuddlelamb_rooms

-- The listings, at the fronts of their buffers: the P line and the O lines are the same bytes, and so are the X lines of the jobs
-- outside. Without a budget beside them the texts agree in their own.

pub unplanned_jobs_do_not_matter_to_list : (set : ℕ → Bool) (l l* : Lfts 2) (text text* : Bor (List ℕ)) (out out* after after* : MutBor (List ℕ))
    (w v : Result ℕ Refused) (a b : Records) → BothAgree set (read text.now) (read text*.now) a b → a.budget ≡ b.budget
    → listing.Promised l text out w after → listing.Promised l* text* out* v after* → NonePlanned set a → NonePlanned set b
    → length (listing_of text.now) ≤ length out.now → length (listing_of text*.now) ≤ length out*.now
    → SameListing (out_of set) a b (front_of (written_says w) after.now) (front_of (written_says v) after*.now)
unplanned_jobs_do_not_matter_to_list = unplanned_do_not_matter_to_list

pub unplanned_jobs_do_not_matter_to_list_with_budget : (set : ℕ → Bool) (l l* : Lfts 2)
    (text text* : Bor (List ℕ)) (out out* after after* : MutBor (List ℕ)) (w v : Result ℕ Refused) (a b : Records)
    → BothAgree set (read text.now) (read text*.now) a b → (budget : ℕ) → is_budget budget ≡ true
    → listing.PromisedWith l text budget out w after → listing.PromisedWith l* text* budget out* v after*
    → NonePlanned set (with_budget a budget) → NonePlanned set (with_budget b budget)
    → length (listed_with text.now budget) ≤ length out.now → length (listed_with text*.now budget) ≤ length out*.now
    → SameListing (out_of set) (with_budget a budget) (with_budget b budget)
    (front_of (written_says w) after.now) (front_of (written_says v) after*.now)
unplanned_jobs_do_not_matter_to_list_with_budget = unplanned_do_not_matter_to_list_with

pub unplanned_jobs_do_not_matter_to_cuddlelamb_list : (set : ℕ → Bool) (text text* out out* after after* : List ℕ)
    (r s : TextAnswer) (a b : Records) → BothAgree set (read text) (read text*) a b → a.budget ≡ b.budget
    → boundary.ListTold text out r after → boundary.ListTold text* out* s after* → NonePlanned set a → NonePlanned set b
    → length (listing_of text) ≤ length out → length (listing_of text*) ≤ length out*
    → SameListing (out_of set) a b (front_of (boundary.text_says r) after) (front_of (boundary.text_says s) after*)
unplanned_jobs_do_not_matter_to_cuddlelamb_list = unplanned_do_not_matter_to_cuddlelamb_list

pub unplanned_jobs_do_not_matter_to_cuddlelamb_list_with_budget : (set : ℕ → Bool) (text text* out out* after after* : List ℕ)
    (r s : TextAnswer) (a b : Records) → BothAgree set (read text) (read text*) a b → (budget : ℕ) → is_budget budget ≡ true
    → boundary.ListWithTold text budget out r after → boundary.ListWithTold text* budget out* s after*
    → NonePlanned set (with_budget a budget) → NonePlanned set (with_budget b budget)
    → length (listed_with text budget) ≤ length out → length (listed_with text* budget) ≤ length out*
    → SameListing (out_of set) (with_budget a budget) (with_budget b budget)
    (front_of (boundary.text_says r) after) (front_of (boundary.text_says s) after*)
unplanned_jobs_do_not_matter_to_cuddlelamb_list_with_budget = unplanned_do_not_matter_to_cuddlelamb_list_with
