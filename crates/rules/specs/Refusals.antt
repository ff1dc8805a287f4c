-- Document 01, "Numbers a refusal carries": the conditions 1 to 7 of a line, the first bad line, the reader's and the
-- writer's answers. 8 stands with each buffer, 9 with the supplied costs, 10 with the allocation.
use Rattle.std.specs.Prelude.{Bool, true, false, cond, not, ◌&&◌, List, [], ◌∷◌, ◌++◌, map, ℕ, ◌+◌, leb, ltb, eqb, length, drop}
use Rattle.std.proofs.Math.Option.{Option, none, some}
use Rattle.rules.specs.Answers.{Answer, ReadAnswer, good, refused}
use Rattle.rules.specs.Lists.{any, empty, last_or}
use Rattle.rules.specs.TableText.{Record, Records, in_range, lines_of, most_holds, most_jobs, most_speeds, no_hold, no_job, no_records, no_speed, records_of, shape_of, table_of_up_to, text_of, with_clock, with_holds, with_jobs, with_speeds}
use Rattle.rules.specs.declared.Refusal.{Refusal}
use Rattle.rules.specs.declared.Job.{Job}
use Rattle.rules.specs.declared.Hold.{Hold}
use Rattle.rules.specs.declared.Table.{Table}

-- What stands before a line: whether the T has been read, and the records.
pub record Before : Type 0 where
  pub begun : Bool
  pub records : Records

unfoldable pub nothing : Before
nothing = record { begun = false; records = no_records }

-- What a line holds: a record, or the refusal of a line that holds none.
pub data Item : Type 0 where
  one : Record → Item
  bad : Refusal → Item

-- 1: "the line has none of the four shapes"
unfoldable pub item_shaped : Option Record → Item
item_shaped none = bad Refusal.Shape
item_shaped (some r) = one r

-- 1: "no line feed at the end": what stands behind the last line feed, if it is not empty
unfoldable pub items_in : List (List ℕ) → List Item
items_in [] = []
items_in (l ∷ []) = cond (empty l) [] (bad Refusal.Shape ∷ [])
items_in (l ∷ (m ∷ ls)) = item_shaped (shape_of l) ∷ items_in (m ∷ ls)

-- 2: "a number is outside its range"
unfoldable pub out_of_range : Record → Bool
out_of_range r = not (in_range r)

-- 3: "the line may not stand here": "One T, as line 1; then .. F ..; then .. J ..; then H .., only if there is a J."
unfoldable pub may_stand : Before → Record → Bool
may_stand b (Record.T clock budget) = not b.begun
may_stand b (Record.F f) = b.begun && empty b.records.jobs
may_stand b (Record.J j) = not (empty b.records.speeds) && empty b.records.holds
may_stand b (Record.H h) = not (empty b.records.jobs)

-- 3: "or its first number doesn't rise": every first number but T's is above 0, so that the first of a letter rises.
unfoldable pub rises : Records → Record → Bool
rises r (Record.T clock budget) = true
rises r (Record.F f) = ltb (last_or no_speed r.speeds).mhz f.mhz
rises r (Record.J j) = ltb (last_or no_job r.jobs).number j.number
rises r (Record.H h) = ltb (last_or no_hold r.holds).resource h.resource

unfoldable pub out_of_order : Before → Record → Bool
out_of_order b r = not (may_stand b r && rises b.records r)

-- 4: "a 17th F or a 65th J"
unfoldable pub too_many_up_to : ℕ → Records → Record → Bool
too_many_up_to most r (Record.T clock budget) = false
too_many_up_to most r (Record.F f) = leb most_speeds (length r.speeds)
too_many_up_to most r (Record.J j) = leb most (length r.jobs)
too_many_up_to most r (Record.H h) = false

abbrev pub too_many : Records → Record → Bool
too_many = too_many_up_to most_jobs

-- 5: "critical is after termination"
unfoldable pub critical_after : Record → Bool
critical_after (Record.T clock budget) = false
critical_after (Record.F f) = false
critical_after (Record.J j) = ltb j.termination j.critical
critical_after (Record.H h) = false

-- 6: "H names a job that isn't in the table"
unfoldable pub is_holder : Hold → Job → Bool
is_holder h j = eqb j.number h.holder

unfoldable pub unknown_job : Records → Record → Bool
unknown_job r (Record.T clock budget) = false
unknown_job r (Record.F f) = false
unknown_job r (Record.J j) = false
unknown_job r (Record.H h) = not (any (is_holder h) r.jobs)

-- 7: "the holder requests the resource it holds"
unfoldable pub asks_own : Hold → Job → Bool
asks_own h j = is_holder h j && eqb j.request h.resource

unfoldable pub own_request : Records → Record → Bool
own_request r (Record.T clock budget) = false
own_request r (Record.F f) = false
own_request r (Record.J j) = false
own_request r (Record.H h) = any (asks_own h) r.jobs

-- "within a line, the lowest number in the order 1 to 7"
unfoldable pub fault_of_up_to : ℕ → Before → Record → Option Refusal
fault_of_up_to most b r =
    cond (out_of_range r) (some Refusal.Range)
    (cond (out_of_order b r) (some Refusal.Order)
    (cond (too_many_up_to most b.records r) (some Refusal.TooMany)
    (cond (critical_after r) (some Refusal.CriticalAfterTermination)
    (cond (unknown_job b.records r) (some Refusal.UnknownJob)
    (cond (own_request b.records r) (some Refusal.OwnRequest) none)))))

abbrev pub fault_of : Before → Record → Option Refusal
fault_of = fault_of_up_to most_jobs

-- the records with one more at the end of its letter's
unfoldable pub added : Records → Record → Records
added r (Record.T clock budget) = with_clock r clock budget
added r (Record.F f) = with_speeds r (r.speeds ++ f ∷ [])
added r (Record.J j) = with_jobs r (r.jobs ++ j ∷ [])
added r (Record.H h) = with_holds r (r.holds ++ h ∷ [])

-- what stands before a line once the T has been read
abbrev pub begun_with : Records → Before
begun_with r = record { begun = true; records = r }

-- what stands before the next line, once this record is accepted
abbrev pub with_more : Before → Record → Before
with_more b r = begun_with (added b.records r)

-- One line: what stands before the next, or the refusal.
pub data Judged : Type 0 where
  accepted : Before → Judged
  refused_for : Refusal → Judged

unfoldable pub judged : Before → Record → Option Refusal → Judged
judged b r none = accepted (with_more b r)
judged b r (some why) = refused_for why

unfoldable pub accept_up_to : ℕ → Before → Item → Judged
accept_up_to most b (one r) = judged b r (fault_of_up_to most b r)
accept_up_to most b (bad why) = refused_for why

abbrev pub accept : Before → Item → Judged
accept = accept_up_to most_jobs

-- "The first bad line decides": all lines from one on, with what stands before it.
pub data Taken : Type 0 where
  taken : Records → Taken
  refused_at : Refusal → ℕ → Taken

-- "or the text ends before an F has been read (line: one after the last)"
unfoldable pub at_end : ℕ → Before → Taken
at_end line b = cond (empty b.records.speeds) (refused_at Refusal.Order line) (taken b.records)

unfoldable pub and_then : Judged → (Before → Taken) → ℕ → Taken
and_then (accepted b) more line = more b
and_then (refused_for why) more line = refused_at why line

unfoldable pub take_from_up_to : ℕ → ℕ → Before → List Item → Taken
take_from_up_to most line b [] = at_end line b
take_from_up_to most line b (i ∷ is) = and_then (accept_up_to most b i) (λ next. take_from_up_to most (line + 1) next is) line

abbrev pub take_from : ℕ → Before → List Item → Taken
take_from = take_from_up_to most_jobs

-- The reader: each line of the text, from line 1.
unfoldable pub read_up_to : ℕ → List ℕ → Taken
read_up_to most text = take_from_up_to most 1 nothing (items_in (lines_of text))

abbrev pub read : List ℕ → Taken
read = read_up_to most_jobs

-- The writer "checks the records first (2 to 7, with the line the record would have had)". "Where a count is beyond the
-- table's places, the first record beyond is refused 4 for F and J, 3 for any other letter."
unfoldable pub beyond : ℕ → ℕ → Refusal → List Item
beyond places count why = cond (ltb places count) (bad why ∷ []) []

-- "with no F it is refused 3, line 2"
unfoldable pub speed_items : Table → List Item
speed_items t =
    cond (eqb t.speed_count 0) (bad Refusal.Order ∷ [])
    (map (λ f. one (Record.F f)) (records_of t).speeds ++ beyond most_speeds t.speed_count Refusal.TooMany)

unfoldable pub job_items_up_to : ℕ → Table → List Item
job_items_up_to most t = map (λ j. one (Record.J j)) (records_of t).jobs ++ beyond most t.job_count Refusal.TooMany

abbrev pub job_items : Table → List Item
job_items = job_items_up_to most_jobs

unfoldable pub hold_items : Table → List Item
hold_items t = map (λ h. one (Record.H h)) (records_of t).holds ++ beyond most_holds t.hold_count Refusal.Order

-- "A table handed to it always has a T"
unfoldable pub items_of_up_to : ℕ → Table → List Item
items_of_up_to most t =
    one (Record.T (records_of t).clock (records_of t).budget) ∷ (speed_items t ++ (job_items_up_to most t ++ hold_items t))

abbrev pub items_of : Table → List Item
items_of = items_of_up_to most_jobs

-- A table's records, if they are valid.
unfoldable pub check_up_to : ℕ → Table → Taken
check_up_to most t = take_from_up_to most 1 nothing (items_of_up_to most t)

abbrev pub check : Table → Taken
check = check_up_to most_jobs

-- The reader's answer.
unfoldable pub table_answer_up_to : ℕ → Taken → ReadAnswer
table_answer_up_to most (taken r) = record { answer = good []; table = table_of_up_to most r }
table_answer_up_to most (refused_at why line) = record { answer = refused why line []; table = table_of_up_to most no_records }

abbrev pub table_answer : Taken → ReadAnswer
table_answer = table_answer_up_to most_jobs

unfoldable pub reading_up_to : ℕ → List ℕ → ReadAnswer
reading_up_to most text = table_answer_up_to most (read_up_to most text)

abbrev pub reading : List ℕ → ReadAnswer
reading = reading_up_to most_jobs

-- What a call that writes leaves: its answer, and the whole lent buffer.
pub record AfterWriting : Type 0 where
  pub answer : Answer
  pub out : List ℕ

unfoldable pub refused_out : Refusal → ℕ → List ℕ → AfterWriting
refused_out why line out = record { answer = refused why line (0 ∷ []); out = out }

-- "the text is the front of its lent buffer and the bytes after it stay as they were"; "then room (8, line 0)"
unfoldable pub written : List ℕ → List ℕ → AfterWriting
written text out =
    cond (leb (length text) (length out))
    (record { answer = good (length text ∷ []); out = text ++ drop (length text) out })
    (refused_out Refusal.Room 0 out)

unfoldable pub written_of : Taken → List ℕ → AfterWriting
written_of (taken r) out = written (text_of r) out
written_of (refused_at why line) out = refused_out why line out

-- The writer's answer.
unfoldable pub writing : Table → List ℕ → AfterWriting
writing t out = written_of (check t) out
