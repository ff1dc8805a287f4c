-- What the reader's step over one line promises: the rules' `accept`.
use Rattle.std.specs.Prelude.{Result, Ok, Err, ◌≡◌, List, ℕ, ◌≤◌, length, drop, map}
use Rattle.std.proofs.Math.Option.{Option, some}
use Rattle.grammar.specs.FirstLine.{first_item, rest_of}
use Rattle.records.specs.Standing.{after_clock, after_hold, after_job, after_speed, standing_of}
use Rattle.records.specs.declared.Standing.{Standing}
use Rattle.rules.specs.Lists.{Rising}
use Rattle.rules.specs.Refusals.{Before, Item, Judged, accept, accepted, bad, fault_of, one, refused_for, with_more}
use Rattle.rules.specs.TableText.{Record, line_feed}
use Rattle.rules.specs.declared.Job.{Job}
use Rattle.rules.specs.declared.Refusal.{Refusal}
use Rattle.rules.specs.declared.Refused.{Refused}
use Rattle.text.specs.Fields.{line_behind}
use Rattle.text.specs.declared.Cursor.{Cursor}
use Rattle.text.specs.declared.Line.{Line}
use Rattle.text.specs.declared.Parsed.{Parsed}

-- What the reader notes of the lines accepted so far: the small state, and jobs with the numbers and the requests of those accepted;
-- nothing else of them is asked. The numbers rise.
pub record Noted (b : Before) (before : Standing) (jobs : List Job) : Type 0 where
  pub state : before ≡ standing_of b
  pub rising : Rising (λ (j : Job). j.number) b.records.jobs
  pub numbers : map (λ (j : Job). j.number) jobs ≡ map (λ (j : Job). j.number) b.records.jobs
  pub requests : map (λ (j : Job). j.request) jobs ≡ map (λ (j : Job). j.request) b.records.jobs

-- the lowest refusal of an item
abbrev pub fault_in : Before → Item → Option Refusal
fault_in b (one r) = fault_of b r
fault_in b (bad why) = some why

-- the step's answer, as the rules judge
unfoldable pub judged_as : Before → Parsed → Judged
judged_as b (Parsed.Clock clock budget) = accepted (with_more b (Record.T clock budget))
judged_as b (Parsed.Speed f) = accepted (with_more b (Record.F f))
judged_as b (Parsed.Job j) = accepted (with_more b (Record.J j))
judged_as b (Parsed.Hold h) = accepted (with_more b (Record.H h))

-- A record that is accepted after what stands before it. The reading stands behind its line, in the next.
pub record RecordAccepted (text : List ℕ) (place : Cursor) (b : Before) (line : Line) : Type 0 where
  pub judged : judged_as b line.parsed ≡ accept b (first_item (drop place.at text))
  pub within : line.next.at ≤ length text
  pub rest : drop line.next.at text ≡ rest_of (drop place.at text)
  pub next_line : line.next.line ≡ line_behind line_feed place.line

-- A line that is refused after it, with the line's number.
pub record RecordRefused (text : List ℕ) (place : Cursor) (b : Before) (r : Refused) : Type 0 where
  pub judged : refused_for r.why ≡ accept b (first_item (drop place.at text))
  pub line : r.line ≡ place.line

-- The line at a place, after what stands before it.
abbrev pub LineAccepted : List ℕ → Cursor → Before → Result Line Refused → Type 0
LineAccepted text place b (Ok line) = RecordAccepted text place b line
LineAccepted text place b (Err r) = RecordRefused text place b r

-- how many records of its letter stand before what a line holds
abbrev pub count_of : Standing → Parsed → ℕ
count_of s (Parsed.Clock clock budget) = 0
count_of s (Parsed.Speed f) = s.speeds
count_of s (Parsed.Job j) = s.jobs
count_of s (Parsed.Hold h) = s.holds

-- the state after it
abbrev pub after_parsed : Standing → Parsed → Standing
after_parsed s (Parsed.Clock clock budget) = after_clock s
after_parsed s (Parsed.Speed f) = after_speed s f
after_parsed s (Parsed.Job j) = after_job s j
after_parsed s (Parsed.Hold h) = after_hold s h
