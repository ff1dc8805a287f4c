-- How long the lines of the rooms are at most. There is a line for each turn, and a turn for each job that steps 1 and 2 leave.
-- A line has the number of its turn, which is not above that of all jobs, its job, a room that is not above the budget, and a
-- fate of one digit. A refusal's line is that of the listing, and no listing is so long. One table has the most of all. Assumes
-- nothing.
use mathlib.Core.Bool.{true, not}
use mathlib.Core.List.{List, [], ◌∷◌, ◌++◌, map}
use mathlib.Core.Path.{◌≡◌, refl, ap, ◌∙◌}
use Prim.Native.Nat.{ℕ, suc, ◌+◌, ◌*◌, ◌≤◌}
use native.Mathlib.Nat.{mul-suc}
use native.Mathlib.Omega.{arith}
use borrow.Author.Tests.{leb-false, leb-true}
use lib.Dec.{leb}
use lib.ListN.{length, length-append}
use Rattle.grammar.proofs.Accepted.{taken_exactly}
use Rattle.grammar.proofs.BudgetBeside.{at-budget, at_no_budget, at_refused, valid_at}
use Rattle.grammar.proofs.Longest.{line-length, so_many_digits, with_digits}
use Rattle.grammar.proofs.Ranges.{clock_ranges, job_ranges}
use Rattle.grammar.proofs.Tables.{job, speed, table}
use Rattle.grammar.proofs.Trips.{read_exactly, text_read}
use Rattle.laws.proofs.Choices.{split}
use Rattle.laws.proofs.Lookups.{each_both, length_keep, length-map}
use Rattle.laws.proofs.Sorting.{Shuffled, no_element, put-in}
use Rattle.listing.proofs.LongestListing.{longest_listing, longest_with_budget, row}
use Rattle.roomlines.proofs.Listed.{as_listed, as_listed_with, rooms-of, rooms_with}
use Rattle.roomlines.proofs.OwnTurns.{rows_of_left}
use Rattle.rules.specs.Case.{right}
use Rattle.rules.specs.Lists.{Each, joined, none_left, ◌and◌}
use Rattle.rules.specs.Plan.{Entry, Turn, at_budget, late_in, left, leaves_its_ring, no_turn_yet, timely, turn, turn_of, turns}
use Rattle.rules.specs.Refusals.{Taken, nothing, one, read, refused_at, take_from, taken}
use Rattle.rules.specs.Rooms.{TurnRoom, room_left, room_line, room_lines_for, room_lines_from, room_listing, room_listing_with, rooms_from, rooms_of, tab_line}
use Rattle.rules.specs.TableText.{Record, Records, digits_of, in_range, is_budget, line_feed, line_text, lined, most_budget, most_jobs, most_time, tab, text_of, with_budget}
use Rattle.rules.specs.Valid.{Valid}
use Rattle.rules.specs.declared.Refusal.{Refusal}
use Rattle.steps.proofs.Course.{Way, ends-late, over_budget, passed_over, ratio_is_zero, taken_in, way_of}
use Rattle.steps.proofs.Jobs.{each_left, listed_has}
use Rattle.steps.proofs.Rooms.{one_row_each_turn}
use Rattle.steps.proofs.Turns.{turns_are_those_left}

-- 2 digits of the turn, 4 of its job, 16 of the room, 1 of the fate, three tabs and the line feed; a turn before the tenth has a
-- digit less.
abbrev most_room_line : ℕ
most_room_line = 27

-- The bytes of the longest lines.
abbrev pub most_room_bytes : ℕ
most_room_bytes = 1719

most-room-bytes : most_room_line * most_jobs ≡ most_room_bytes + 9
most-room-bytes = refl

-- A tab line is a line of its other numbers, with the digits of the first in the place of the letter.
tab_line_length : (n : ℕ) (ns : List ℕ) → length (tab_line (n ∷ ns)) + 1 ≡ length (digits_of n) + with_digits ns
unfolding tab_line line_text
tab_line_length n ns =
    omega (arith, length-append (digits_of n) (joined (λ m. tab ∷ digits_of m) ns ++ line_feed ∷ []), line-length 0 ns)

-- what a row is known to be within
record RowRanges (r : TurnRoom) : Type 0 where
  pub job_range : in_range (Record.J r.job) ≡ true
  pub room_to : r.room ≤ most_budget
  pub fate_to : r.fate ≤ 6

-- a line is as long as the digits of its turn let it be
room_line_length : (n : ℕ) (r : TurnRoom) → RowRanges r → length (room_line n r) + 2 ≤ most_room_line + length (digits_of n)
unfolding room_line
room_line_length n r ranges =
    let number_to = (job_ranges r.job ranges.job_range).number_to in
    omega (
      arith,
      tab_line_length n (r.job.number ∷ r.room ∷ r.fate ∷ []),
      so_many_digits 3 r.job.number (omega arith) (omega arith),
      so_many_digits 15 r.room (omega arith) (omega (arith, ranges.room_to)),
      so_many_digits 0 r.fate (omega arith) (omega (arith, ranges.fate_to)),
    )

room_lines_length : (n : ℕ) {rs : List TurnRoom} → Each RowRanges rs → n + length rs ≤ suc most_jobs
    → length (room_lines_from n rs) ≤ most_room_line * length rs
unfolding room_lines_from
room_lines_length n none_left h = omega arith
room_lines_length n (◌and◌ {x} {xs} r rs) h =
    rw (length-append (room_line n x) (room_lines_from (suc n) xs))
    (omega (
      arith,
      room_line_length n x r,
      so_many_digits 1 n (omega arith) (omega arith),
      room_lines_length (suc n) rs (omega arith),
      mul-suc most_room_line (length xs),
    ))

-- Lines that go on to the tenth turn, or beyond it, are shorter by a byte for each turn before that.
lines_from_few : (n : ℕ) {rs : List TurnRoom} → Each RowRanges rs → n + length rs ≤ suc most_jobs → 10 ≤ n + length rs
    → length (room_lines_from n rs) + 10 ≤ most_room_line * length rs + n
unfolding room_lines_from
lines_from_few n none_left h l = omega arith
lines_from_few n (◌and◌ {x} {xs} r rs) h l =
    rw (length-append (room_line n x) (room_lines_from (suc n) xs))
    (split (leb n 9)
    (λ few.
    omega (
      arith,
      room_line_length n x r,
      so_many_digits 0 n (omega arith) (omega (arith, leb-true n 9 few)),
      lines_from_few (suc n) rs (omega arith) (omega arith),
      mul-suc most_room_line (length xs),
    ))
    (λ many.
    omega (
      arith,
      room_line_length n x r,
      so_many_digits 1 n (omega arith) (omega arith),
      room_lines_length (suc n) rs (omega arith),
      leb-false n 9 many,
      mul-suc most_room_line (length xs),
    )))

-- Each turn gives a fate of the six, and no room is above the budget.
fate_small : (t : Records) (i : Turn) (p : List Entry) → (turn t i p).fate ≤ 6
fate_small t i p = from (way_of t i p)
  where
    from : Way t i p → (turn t i p).fate ≤ 6
    from (passed_over n e) = rw e (omega arith)
    from (ratio_is_zero n z e) = rw e (omega arith)
    from (ends-late n l e) = rw e (omega arith)
    from (over_budget n d e) = rw e (omega arith)
    from (taken_in n l d e) = rw e (omega arith)

room_small : (t : Records) (p : List Entry) → room_left t p ≤ t.budget
unfolding room_left
room_small t p = omega arith

rows_small : (t : Records) (is : List Turn) (p : List Entry)
    → Each (λ (r : TurnRoom). (r.room ≤ t.budget) × (r.fate ≤ 6)) (rooms_from t is p)
unfolding rooms_from
rows_small t [] p = none_left
rows_small t (i ∷ is) p =
    (room_small t (turn t i p).plan, fate_small t i p) and rows_small t is (turn t i p).plan

shuffled_length : {A : Type 0} {xs ys : List A} → Shuffled xs ys → length xs ≡ length ys
shuffled_length no_element = refl
shuffled_length (put-in {x} {xs} front rest s) =
    omega (arith, shuffled_length s, length-append front rest, length-append front (x ∷ rest))

module _ (t : Records) (v : Valid t) where
  few_left : length (left t) ≤ most_jobs
  unfolding left timely
  few_left =
      omega (
        arith,
        length_keep (λ j. not (leaves_its_ring t j)) (timely t),
        length_keep (λ j. not (late_in t j)) t.jobs,
        v.few_jobs,
      )

  few_rows : length (rooms_of t) ≤ most_jobs
  few_rows =
      let turned = shuffled_length (turns_are_those_left t) in
      let rows = ap length (one_row_each_turn t) in
      omega (
        arith,
        few_left,
        turned,
        rows,
        length-map (turn_of t) (left t),
        length-map (λ (r : TurnRoom). r.job) (rooms_of t),
        length-map (λ (i : Turn). i.job) (turns t),
      )

  rows_in_range : Each RowRanges (rooms_of t)
  unfolding rooms_of
  rows_in_range =
      each_both
      (λ r l small. record {
        job_range = listed_has (each_left t v.job_ranges) l;
        room_to = omega (arith, small.0, (clock_ranges t.clock t.budget v.clock_range).1);
        fate_to = small.1;
      })
      (rows_of_left t v) (rows_small t (turns t) no_turn_yet.plan)

  -- The lines of a table.
  longest_room_lines : length (room_lines_for (taken t)) ≤ most_room_bytes
  unfolding room_lines_for
  longest_room_lines =
      let rows = rows_in_range in
      split (leb 9 (length (rooms_of t)))
      (λ l. omega (arith, lines_from_few 1 rows (omega (arith, few_rows)) (omega (arith, leb-true 9 (length (rooms_of t)) l)), few_rows))
      (λ l. omega (arith, room_lines_length 1 rows (omega (arith, few_rows)), leb-false 9 (length (rooms_of t)) l))

-- Whatever the text, and whatever the budget beside it, there are no more bytes.
pub longest_rooms : (text : List ℕ) → length (room_listing text) ≤ most_room_bytes
longest_rooms text = go (read text) refl
  where
    go : (answer : Taken) → read text ≡ answer → length (room_listing text) ≤ most_room_bytes
    go (taken t) e = rw (rooms-of text (taken t) e) (longest_room_lines t ((read_exactly text t).0 e).0)
    go (refused_at why line) e = rw (as_listed text why line e) (omega (arith, longest_listing text))

pub longest_rooms_with_budget : (text : List ℕ) (budget : ℕ) → length (room_listing_with text budget) ≤ most_room_bytes
longest_rooms_with_budget text budget = go (read text) refl
  where
    refused : (why : Refusal) (line : ℕ) → at_budget budget (read text) ≡ refused_at why line
        → length (room_listing_with text budget) ≤ most_room_bytes
    refused why line e = rw (as_listed_with text budget why line e) (omega (arith, longest_with_budget text budget))

    go : (answer : Taken) → read text ≡ answer → length (room_listing_with text budget) ≤ most_room_bytes
    go (taken t) e =
        split (is_budget budget)
        (λ h. rw (rooms_with text budget (taken (with_budget t budget)) (ap (at_budget budget) e ∙ at-budget t budget h))
        (longest_room_lines (with_budget t budget) (valid_at ((read_exactly text t).0 e).0 budget h)))
        (λ h. refused Refusal.Range 1 (ap (at_budget budget) e ∙ at_no_budget t budget h))
    go (refused_at why line) e = refused why line (ap (at_budget budget) e ∙ at_refused why line budget)

-- A table whose lines have as many: no chain gives anything, so that each turn leaves the whole budget.
abbrev longest_told : Records
longest_told = table 0 most_budget (speed 1 1 ∷ []) (row (λ n. job n 1 0 most_time most_time 0) 1000 most_jobs) []

longest_taken : take_from 1 nothing (map one (lined longest_told)) ≡ taken longest_told
unfolding right
longest_taken = refl

longest_lines : length (room_lines_for (taken longest_told)) ≡ most_room_bytes
unfolding right
longest_lines = refl

pub longest_rooms_length : length (room_listing (text_of longest_told)) ≡ most_room_bytes
unfolding room_listing
longest_rooms_length =
    let v = ((taken_exactly 1 (map one (lined longest_told)) longest_told).0 longest_taken).0 in
    ap (λ k. length (room_lines_for k)) (text_read v) ∙ longest_lines
