-- A case of the sheet, in the form of document 01, and what the rules give for it.
use Rattle.std.specs.Prelude.{Bool, true, false, cond, ◌&&◌, List, [], ◌∷◌, ◌++◌, map, ◌≡◌, ℕ, eqb}
use Rattle.std.proofs.Math.Option.{Option, none, some}
use Prim.Native.String.{String}
use Rattle.rules.specs.Answers.{Answer, number_of}
use Rattle.rules.specs.Bytes.{bytes, char_among, shown}
use Rattle.rules.specs.Costs.{rounded_up}
use Rattle.rules.specs.Cycles.{allocated, allocation, asked_in_range, enough, least_from}
use Rattle.rules.specs.Listing.{fate_line, finish, lines_for, listed_with, listing_of, order_line, plan_line, plan_lines, unplanned}
use Rattle.rules.specs.Lists.{all, joined}
use Rattle.rules.specs.Plan.{AfterPlanning, after, asks_for, at_budget, before, begin, awaited, chain_of, course, course_of, cycles_of, ends_by, ends_in_time, ends_late, energy_at, equal, fate_in, fates_of, follow, gives, goes_before, goes_rather, holder_in, in_plan, far_end_first, in_time, insert, is_of, jobs_of, judge, late_in, leaves_all, leaves_of, leaves_plan, left, less, least_energy, member, member_found, member_new, member_planned, members, numbers_of, on_ring, own_fate, part_of, plan_from, plan_of, planning_of_up_to, planning_with, qualifies, ratio_of, remove, run_order, runs_from, runs_of, same, speed_for, speed_or, no_turn_yet, stays_below, taken_with_up_to, leaves_its_ring, leaves_ring, timely, fate_told, too_dear, too_small_up_to, top_of, trial, turn, turn_of, turns, waits_for, waits_left, waits_timely, weight_in, ratio_zero}
use Rattle.rules.specs.Refusals.{AfterWriting, Before, Item, Judged, Taken, accept, accept_up_to, accepted, added, and_then, asks_own, at_end, beyond, check, check_up_to, critical_after, fault_of_up_to, hold_items, is_holder, items_in, item_shaped, items_of_up_to, job_items_up_to, judged, may_stand, nothing, out_of_order, out_of_range, own_request, read_up_to, reading, reading_up_to, refused_at, refused_for, refused_out, rises, speed_items, take_from_up_to, taken, table_answer_up_to, too_many_up_to, unknown_job, writing, written, written_of}
use Rattle.rules.specs.Rooms.{AfterRooms, last_room, leaves_rooms, leaves_rooms_of, leaves_untold, panel_of_up_to, panel_with, room_left, room_line, room_lines_for, room_lines_from, room_listing_with, rooms_from, rooms_of, tab_line}
use Rattle.rules.specs.TableText.{and_more, digits_of, digits_within, fields_of, fields_record, in_range, is_budget, is_cost, is_cycles, is_digit, is_job_number, is_mhz, is_number, is_request, is_resource, is_time, is_worth, leading_zero, line_text, lined, lines_of, number_in, numbers_in, onto_first, parted_by, record_of, record_text, records_of, shape_of, table_of_up_to, text_of, value_from, with_numbers, field_count, letter_record}
use Rattle.rules.specs.declared.Hold.{Hold}
use Rattle.rules.specs.declared.Job.{Job}
use Rattle.rules.specs.declared.Speed.{Speed}
use Rattle.rules.specs.declared.Table.{Table}

-- a line, and its number: 0, or that of its refusal after the lines accepted so far
pub record Judging : Type 0 where
  pub line : List ℕ
  pub number : ℕ

-- a table, and the number and the line of the writer's check
pub record Checking : Type 0 where
  pub table : Table
  pub number : ℕ
  pub line : ℕ

-- a text, the number and the line of the reader's answer, and all places of its table, one number behind the other
pub record Reads : Type 0 where
  pub text : String
  pub number : ℕ
  pub line : ℕ
  pub table : List ℕ

-- a table and a buffer, and the answer and the buffer afterwards
pub record Writing : Type 0 where
  pub table : Table
  pub out : String
  pub answer : Answer
  pub after : String

-- a table, a budget beside it, an order and a fate buffer, and the part that planning hands back and what it leaves
pub record Planning : Type 0 where
  pub table : Table
  pub budget : ℕ
  pub order : List ℕ
  pub fates : List ℕ
  pub part : List ℕ
  pub after : AfterPlanning

-- a table, a budget beside it, a buffer for the turns and one for the rooms, and what the panel's call leaves (document 02, A2)
pub record Telling : Type 0 where
  pub table : Table
  pub budget : ℕ
  pub turns : List ℕ
  pub rooms : List ℕ
  pub after : AfterRooms

pub data Case : Type 0 where
  -- a table text, and the listing that it gives
  lists : String → String → Case
  -- the same with a budget beside the text
  lists_with : String → ℕ → String → Case
  -- mean, variance and assurance, and the answer
  allocates : ℕ → ℕ → ℕ → Answer → Case
  -- the lines of one text
  judges : List Judging → Case
  checks : List Checking → Case
  reads : List Reads → Case
  writes : List Writing → Case
  plans : List Planning → Case
  -- a text, a budget beside it, and the lines of the rooms
  lists_rooms : String → ℕ → String → Case
  tells : List Telling → Case

-- what the rules give for a case
pub data Given : Type 0 where
  listed : String → Given
  answered : Answer → Given
  numbered : List ℕ → Given
  wrote : List AfterWriting → Given
  planned : List AfterPlanning → Given
  told : List AfterRooms → Given

-- the line's number, and what stands before the next line
unfoldable pub number_then : Judged → Before → (Before → List ℕ) → List ℕ
number_then (accepted next) b more = 0 ∷ more next
number_then (refused_for why) b more = number_of why ∷ more b

unfoldable pub answers_from : Before → List Item → List ℕ
answers_from b [] = []
answers_from b (i ∷ is) = number_then (accept b i) b (λ next. answers_from next is)

unfoldable pub judged_in : List Judging → List ℕ
judged_in js = answers_from nothing (items_in (lines_of (joined (λ (j : Judging). j.line) js)))

unfoldable pub number_and_line : Taken → List ℕ
number_and_line (taken r) = 0 ∷ 0 ∷ []
number_and_line (refused_at why line) = number_of why ∷ line ∷ []

unfoldable pub checked_in : Checking → List ℕ
checked_in c = number_and_line (check c.table)

-- all places of a table
unfoldable pub places_of : Table → List ℕ
places_of t =
    t.clock ∷ t.budget ∷ t.speed_count ∷ t.job_count ∷ t.hold_count
    ∷ (joined (λ (f : Speed). f.mhz ∷ f.cost ∷ []) t.speeds
    ++ (joined (λ (j : Job). j.number ∷ j.cycles ∷ j.worth ∷ j.critical ∷ j.termination ∷ j.request ∷ []) t.jobs
    ++ joined (λ (h : Hold). h.resource ∷ h.holder ∷ []) t.holds))

unfoldable pub read_in : Reads → List ℕ
read_in r = let a = reading (bytes r.text) in a.answer.number ∷ a.answer.line ∷ places_of a.table

abbrev pub alike : List ℕ → List ℕ → Bool
alike [] [] = true
alike [] (y ∷ ys) = false
alike (x ∷ xs) [] = false
alike (x ∷ xs) (y ∷ ys) = eqb x y && alike xs ys

abbrev pub same_answer : Answer → Answer → Bool
same_answer a b = eqb a.number b.number && eqb a.line b.line && alike a.values b.values

abbrev pub same_planning : AfterPlanning → AfterPlanning → Bool
same_planning a b = same_answer a.answer b.answer && alike a.order b.order && alike a.fates b.fates

abbrev pub same_telling : AfterRooms → AfterRooms → Bool
same_telling a b = same_answer a.answer b.answer && alike a.turns b.turns && alike a.rooms b.rooms

-- the rules give what the case wants; every rule opens here
unfoldable pub right : Case → Bool
unfolding bytes char_among shown number_then answers_from judged_in number_and_line checked_in places_of read_in onto_first parted_by lines_of fields_of is_digit leading_zero is_number value_from number_in and_more numbers_in field_count letter_record record_of with_numbers fields_record shape_of is_time is_budget is_mhz is_cost is_job_number is_cycles is_worth is_resource is_request in_range records_of table_of_up_to digits_within digits_of line_text record_text lined text_of nothing item_shaped items_in out_of_range may_stand rises out_of_order too_many_up_to critical_after is_holder unknown_job asks_own own_request fault_of_up_to added judged accept_up_to at_end and_then take_from_up_to read_up_to beyond speed_items job_items_up_to hold_items items_of_up_to check_up_to table_answer_up_to reading_up_to refused_out written written_of writing top_of ends_by cycles_of runs_from runs_of ends_in_time same less equal late_in timely asks_for holder_in waits_for follow awaited weight_in goes_rather on_ring leaves_ring waits_timely leaves_its_ring left waits_left chain_of far_end_first gives ratio_of turn_of before turns jobs_of is_of in_plan goes_before insert remove stays_below member_planned member_new member_found member members begin trial run_order in_time ends_late too_dear judge ratio_zero turn after course no_turn_yet course_of fate_told own_fate fate_in energy_at qualifies speed_or least_energy speed_for plan_from plan_of numbers_of fates_of leaves_plan part_of leaves_all leaves_of too_small_up_to planning_of_up_to at_budget taken_with_up_to asked_in_range enough least_from allocated allocation rounded_up finish plan_line order_line unplanned fate_line plan_lines lines_for listing_of listed_with room_left rooms_from rooms_of last_room leaves_rooms leaves_untold leaves_rooms_of panel_of_up_to tab_line room_line room_lines_from room_lines_for room_listing_with
right (lists text want) = alike (listing_of (bytes text)) (bytes want)
right (lists_with text budget want) = alike (listed_with (bytes text) budget) (bytes want)
right (allocates mean variance assurance want) = same_answer (allocation mean variance assurance) want
right (judges js) = alike (judged_in js) (map (λ (j : Judging). j.number) js)
right (checks cs) = all (λ (c : Checking). alike (checked_in c) (c.number ∷ c.line ∷ [])) cs
right (reads rs) = all (λ (r : Reads). alike (read_in r) (r.number ∷ r.line ∷ r.table)) rs
right (writes ws) =
    all (λ (w : Writing). let o = writing w.table (bytes w.out) in same_answer o.answer w.answer && alike o.out (bytes w.after)) ws
right (plans ps) =
    all
    (λ (p : Planning).
    let a = planning_with p.table p.budget p.order p.fates in same_planning a p.after && alike (part_of a) p.part)
    ps
right (lists_rooms text budget want) = alike (room_listing_with (bytes text) budget) (bytes want)
right (tells ts) = all (λ (t : Telling). same_telling (panel_with t.table t.budget t.turns t.rooms) t.after) ts

unfoldable pub given : Case → Given
given (lists text want) = listed (shown (listing_of (bytes text)))
given (lists_with text budget want) = listed (shown (listed_with (bytes text) budget))
given (allocates mean variance assurance want) = answered (allocation mean variance assurance)
given (judges js) = numbered (judged_in js)
given (checks cs) = numbered (joined checked_in cs)
given (reads rs) = numbered (joined read_in rs)
given (writes ws) = wrote (map (λ (w : Writing). writing w.table (bytes w.out)) ws)
given (plans ps) = planned (map (λ (p : Planning). planning_with p.table p.budget p.order p.fates) ps)
given (lists_rooms text budget want) = listed (shown (room_listing_with (bytes text) budget))
given (tells ts) = told (map (λ (t : Telling). panel_with t.table t.budget t.turns t.rooms) ts)

-- what the rules give where it is not what the case wants
unfoldable pub wrong : Case → Option Given
unfolding right given
wrong c = let g = given c in cond (right c) none (some g)

-- each case of a table is right
abbrev pub AllRight : List Case → Type 0
AllRight [] = Unit {0}
AllRight (c ∷ cs) = (wrong c ≡ none) × AllRight cs
