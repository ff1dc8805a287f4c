-- What holds whenever the reader is about to look at a line: the text is what its records so far and the rest of it come
-- to, and what it has stored and noted are those records. One line more keeps that true, whichever letter it has. Assumes
-- nothing.
use mathlib.Core.List.{List, [], ◌∷◌, ◌++◌}
use mathlib.Core.Path.{◌≡◌, refl, sym, ap, ◌∙◌}
use Prim.Native.Nat.{ℕ, suc, ◌+◌, ◌-◌, ◌≤◌, ◌<◌}
use native.Mathlib.Omega.{arith}
use borrow.Author.Tests.{lt-ltb}
use lib.ListN.{length, drop, set, replicate, take, length-drop}
use lib.Seq.{append_snoc, set_at, take-append_seam}
use Rattle.std.specs.Prelude.{map}
use Rattle.grammar.proofs.Accepted.{Reachable, clock_read, nothing_read, reached_standing, valid}
use Rattle.laws.proofs.Elements.{length_more}
use Rattle.grammar.proofs.Lines.{items, record_rest, rest_shorter}
use Rattle.grammar.proofs.Stopped.{after, at_once}
use Rattle.grammar.proofs.Trips.{valid_few_holds}
use Rattle.grammar.specs.FirstLine.{first_item, rest_of}
use Rattle.records.specs.Standing.{standing_of}
use Rattle.records.specs.declared.Standing.{Standing}
use Rattle.rules.specs.Lists.{Rising, no_element}
use Rattle.rules.specs.Refusals.{Before, Item, accept, accept_up_to, accepted, added, and_then, bad, items_in, nothing, one, read, take_from, take_from_up_to}
use Rattle.rules.specs.TableText.{Record, Records, lines_of, most_holds, most_jobs, most_speeds, no_hold, no_job, no_speed, padded}
use Rattle.rules.specs.declared.Job.{Job}
use Rattle.rules.specs.declared.Table.{Table}
use Rattle.text.specs.Fields.{line_behind, most_line}
use Rattle.text.specs.declared.Cursor.{Cursor}
use Rattle.text.specs.declared.Line.{Line}
use Rattle.lines.specs.Step.{RecordAccepted, Noted, judged_as}

-- the records in their places; the counts come last
abbrev pub stored : Records → Table
stored r = record {
  clock = r.clock;
  budget = r.budget;
  speed_count = 0;
  job_count = 0;
  hold_count = 0;
  speeds = padded most_speeds no_speed r.speeds;
  jobs = padded most_jobs no_job r.jobs;
  holds = padded most_holds no_hold r.holds;
}

abbrev pub stands_with : Standing → Records → Before
stands_with s r = record { begun = s.begun; records = r }

pub record SoFar (text : List ℕ) (table : Table) (before : Standing) (place : Cursor) : Type 0 where
  pub records : Records
  pub lines : List Record
  pub in_places : table ≡ stored records
  pub reached : Reachable (stands_with before records) lines
  pub state : before ≡ standing_of (stands_with before records)
  pub to_read : read text ≡ take_from place.line (stands_with before records) (items_in (lines_of (drop place.at text)))
  pub few_lines : place.line + place.line ≤ place.at + 2
  pub within : place.at ≤ length text
  pub counted : length text ≤ most_line

-- the records of any state that is reached fit their places, and their numbers rise
pub record RecordsFit (b : Before) : Type 0 where
  pub speeds : length b.records.speeds ≤ most_speeds
  pub jobs : length b.records.jobs ≤ most_jobs
  pub holds : length b.records.holds ≤ most_holds
  pub rising : Rising (λ (j : Job). j.number) b.records.jobs

pub fits : {b : Before} {rs : List Record} → Reachable b rs → RecordsFit b
unfolding nothing added
fits nothing_read = record { speeds = omega arith; jobs = omega arith; holds = omega arith; rising = no_element }
fits (clock_read e) = record { speeds = omega arith; jobs = omega arith; holds = omega arith; rising = no_element }
fits (valid {r} v) = record { speeds = v.few_speeds; jobs = v.few_jobs; holds = valid_few_holds v; rising = v.jobs_rise }

-- one more in the first free place
pub one_more_padded : {A : Type 0} (places : ℕ) (d x : A) (xs : List A) → length xs < places
    → set (padded places d xs) (length xs) x ≡ padded places d (xs ++ x ∷ [])
one_more_padded places d x xs h =
    let more : places - length xs ≡ suc (places - (length xs + 1)) = omega arith in
    rw more
    (set_at xs d (replicate (places - (length xs + 1)) d) x (length xs) refl
    ∙ rw (length_more xs x, append_snoc xs x (replicate (places - (length xs + 1)) d)))

-- the jobs in the table's first places are those of the records
pub same_jobs : (text : List ℕ) (table : Table) (before : Standing) (place : Cursor) (so_far : SoFar text table before place)
    → take before.jobs table.jobs ≡ so_far.records.jobs
same_jobs text table before place so_far =
    rw (ap (λ (s : Standing). s.jobs) so_far.state, so_far.in_places)
    (take-append_seam so_far.records.jobs (replicate (most_jobs - length so_far.records.jobs) no_job))

-- what is noted of them: their numbers and requests, and the state
pub noted : (text : List ℕ) (table : Table) (before : Standing) (place : Cursor) (so_far : SoFar text table before place)
    → Noted (stands_with before so_far.records) before (take before.jobs table.jobs)
noted text table before place so_far =
    let same = same_jobs text table before place so_far in
    record {
      state = so_far.state;
      rising = (fits so_far.reached).rising;
      numbers = ap (map (λ (j : Job). j.number)) same;
      requests = ap (map (λ (j : Job). j.request)) same;
    }

module _ (text : List ℕ) (table : Table) (before : Standing) (place : Cursor)
    (so_far : SoFar text table before place) (inside : place.at < length text) (l : Line)
    (line : RecordAccepted text place (stands_with before so_far.records) l) where
  abbrev here : Before
  here = stands_with before so_far.records

  remains : 0 < length (drop place.at text)
  remains = rw (length-drop place.at text) (omega arith)

  -- the reading place moves on with a line that is accepted
  pub goes_on : place.at < l.next.at
  goes_on =
      omega (arith, rest_shorter (drop place.at text) remains, ap length line.rest, length-drop place.at text, length-drop l.next.at text)

  -- the reading after the line, where it is accepted
  pub record LineMoved (next : Before) : Type 0 where
    pub lines : List Record
    pub reached : Reachable next lines
    pub to_read : read text ≡ take_from l.next.line next (items_in (lines_of (drop l.next.at text)))
    pub few_lines : l.next.line + l.next.line ≤ l.next.at + 2
    pub within : l.next.at ≤ length text

  -- a line that is accepted is a letter, a tab and more, so that no text has more lines than can be counted
  two_bytes : (i : Item) (next : Before) → first_item (drop place.at text) ≡ i → accept here i ≡ accepted next
      → length (rest_of (drop place.at text)) + 2 ≤ length (drop place.at text)
  unfolding accept_up_to
  two_bytes (one r) next e h = record_rest (drop place.at text) r e
  two_bytes (bad why) next e h = let z : ◌≡◌ {A = ℕ} 0 1 = cc in absurd (omega arith)

  next_counted : l.next.line ≡ place.line + 1
  unfolding line_behind
  next_counted =
      line.next_line
      ∙ rw (lt-ltb place.line most_line (omega (arith, so_far.few_lines, so_far.within, so_far.counted)))

  pub moved : (next : Before) → judged_as here l.parsed ≡ accepted next → LineMoved next
  unfolding take_from_up_to and_then
  moved next e =
      let step : accept here (first_item (drop place.at text)) ≡ accepted next = sym line.judged ∙ e in
      let (rs, same, stands) = reached_standing so_far.reached (after step at_once) in
      let shorter = two_bytes (first_item (drop place.at text)) next refl step in
      record {
        lines = so_far.lines ++ rs;
        reached = stands;
        to_read =
            so_far.to_read
            ∙ rw (items (drop place.at text) remains) (rw step (rw (← line.rest) (rw next_counted)));
        few_lines =
            omega (arith, next_counted, so_far.few_lines, shorter, ap length line.rest, length-drop place.at text, length-drop l.next.at text, line.within);
        within = line.within;
      }
