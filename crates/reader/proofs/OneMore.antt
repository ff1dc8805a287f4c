-- One accepted line more, letter by letter: the record goes into the first free place of its letter, and what is noted is
-- what the rules say of the records with it. Assumes nothing.
use mathlib.Core.List.{List}
use mathlib.Core.Path.{◌≡◌, refl, sym, ap, ◌∙◌}
use Prim.Native.Nat.{ℕ, ◌<◌}
use native.Mathlib.Omega.{arith}
use lib.ListN.{length, set}
use Rattle.laws.proofs.Elements.{length_more}
use Rattle.records.proofs.After.{clock_after, hold_after, job_after, speed_after}
use Rattle.records.specs.Standing.{after_clock, after_hold, after_job, after_speed, standing_of}
use Rattle.records.specs.declared.Standing.{Standing}
use Rattle.rules.specs.Refusals.{Before, accepted, added, with_more}
use Rattle.rules.specs.TableText.{Record, most_holds, most_jobs, most_speeds, no_hold, no_job, no_speed}
use Rattle.rules.specs.declared.Hold.{Hold}
use Rattle.rules.specs.declared.Job.{Job}
use Rattle.rules.specs.declared.Speed.{Speed}
use Rattle.rules.specs.declared.Table.{Table}
use Rattle.text.specs.Lines.{parsed_of}
use Rattle.text.specs.declared.Cursor.{Cursor}
use Rattle.text.specs.declared.Line.{Line}
use Rattle.text.specs.declared.Parsed.{Parsed}
use Rattle.lines.specs.Step.{RecordAccepted, judged_as}
use Rattle.reader.proofs.SoFar.{LineMoved, SoFar, stands_with, fits, moved, one_more_padded, stored}

-- the table with a T, an F, a J or an H line stored
abbrev pub clock_stored : Table → ℕ → ℕ → Table
clock_stored t clock budget = record { clock = clock; budget = budget; speed_count = t.speed_count; job_count = t.job_count; hold_count = t.hold_count; speeds = t.speeds; jobs = t.jobs; holds = t.holds }

abbrev pub speed_stored : Table → ℕ → Speed → Table
speed_stored t n f = record { clock = t.clock; budget = t.budget; speed_count = t.speed_count; job_count = t.job_count; hold_count = t.hold_count; speeds = set t.speeds n f; jobs = t.jobs; holds = t.holds }

abbrev pub job_stored : Table → ℕ → Job → Table
job_stored t n j = record { clock = t.clock; budget = t.budget; speed_count = t.speed_count; job_count = t.job_count; hold_count = t.hold_count; speeds = t.speeds; jobs = set t.jobs n j; holds = t.holds }

abbrev pub hold_stored : Table → ℕ → Hold → Table
hold_stored t n h = record { clock = t.clock; budget = t.budget; speed_count = t.speed_count; job_count = t.job_count; hold_count = t.hold_count; speeds = t.speeds; jobs = t.jobs; holds = set t.holds n h }

judged_accepted : (b : Before) (r : Record) → judged_as b (parsed_of r) ≡ accepted (with_more b r)
unfolding judged_as
judged_accepted b (Record.T clock budget) = refl
judged_accepted b (Record.F f) = refl
judged_accepted b (Record.J j) = refl
judged_accepted b (Record.H h) = refl

module _ (text : List ℕ) (table : Table) (before : Standing) (place : Cursor)
    (so_far : SoFar text table before place) (inside : place.at < length text) (l : Line)
    (line : RecordAccepted text place (stands_with before so_far.records) l) where
  abbrev at_line : Before
  at_line = stands_with before so_far.records

  speeds_noted : before.speeds ≡ length so_far.records.speeds
  speeds_noted = ap (λ (s : Standing). s.speeds) so_far.state

  jobs_noted : before.jobs ≡ length so_far.records.jobs
  jobs_noted = ap (λ (s : Standing). s.jobs) so_far.state

  holds_noted : before.holds ≡ length so_far.records.holds
  holds_noted = ap (λ (s : Standing). s.holds) so_far.state

  abbrev MovedTo : Record → Type 0
  MovedTo r = LineMoved text table before place so_far inside l line (with_more at_line r)

  moved_by : (r : Record) → l.parsed ≡ parsed_of r → MovedTo r
  moved_by r e =
      moved text table before place so_far inside l line (with_more at_line r) (ap (judged_as at_line) e ∙ judged_accepted at_line r)

  -- what is stored and noted then, with the rules' own state
  more : (r : Record) → l.parsed ≡ parsed_of r → {t : Table} → t ≡ stored (added so_far.records r)
      → SoFar text t (standing_of (with_more at_line r)) l.next
  more r e in_places =
      let m = moved_by r e in
      record {
        records = added so_far.records r;
        lines = m.lines;
        in_places = in_places;
        reached = m.reached;
        state = refl;
        to_read = m.to_read;
        few_lines = m.few_lines;
        within = m.within;
        counted = so_far.counted;
      }

  pub clock_more : (clock budget : ℕ) → l.parsed ≡ Parsed.Clock clock budget
      → SoFar text (clock_stored table clock budget) (after_clock before) l.next
  unfolding added
  clock_more clock budget e =
      rw (ap after_clock so_far.state ∙ sym (clock_after at_line clock budget))
      (more (Record.T clock budget) e (ap (λ t. clock_stored t clock budget) so_far.in_places))

  pub speed_room : (f : Speed) → l.parsed ≡ Parsed.Speed f → before.speeds < most_speeds
  unfolding added
  speed_room f e =
      omega (arith, (fits (moved_by (Record.F f) e).reached).speeds, length_more so_far.records.speeds f, speeds_noted)

  pub speed_more : (f : Speed) → l.parsed ≡ Parsed.Speed f
      → SoFar text (speed_stored table before.speeds f) (after_speed before f) l.next
  unfolding added
  speed_more f e =
      let fs = so_far.records.speeds in
      let full = one_more_padded most_speeds no_speed f fs (omega (arith, speed_room f e, speeds_noted)) in
      rw (ap (λ s. after_speed s f) so_far.state ∙ sym (speed_after at_line f))
      (more (Record.F f) e (rw so_far.in_places (rw speeds_noted (rw full))))

  pub job_room : (j : Job) → l.parsed ≡ Parsed.Job j → before.jobs < most_jobs
  unfolding added
  job_room j e =
      omega (arith, (fits (moved_by (Record.J j) e).reached).jobs, length_more so_far.records.jobs j, jobs_noted)

  pub job_more : (j : Job) → l.parsed ≡ Parsed.Job j
      → SoFar text (job_stored table before.jobs j) (after_job before j) l.next
  unfolding added
  job_more j e =
      let js = so_far.records.jobs in
      let room : length js < most_jobs = omega (arith, job_room j e, jobs_noted) in
      rw (ap (λ s. after_job s j) so_far.state ∙ sym (job_after at_line j))
      (more (Record.J j) e (rw so_far.in_places (rw jobs_noted (rw (one_more_padded most_jobs no_job j js room)))))

  pub hold_room : (h : Hold) → l.parsed ≡ Parsed.Hold h → before.holds < most_holds
  unfolding added
  hold_room h e =
      omega (arith, (fits (moved_by (Record.H h) e).reached).holds, length_more so_far.records.holds h, holds_noted)

  pub hold_more : (h : Hold) → l.parsed ≡ Parsed.Hold h
      → SoFar text (hold_stored table before.holds h) (after_hold before h) l.next
  unfolding added
  hold_more h e =
      let hs = so_far.records.holds in
      let full = one_more_padded most_holds no_hold h hs (omega (arith, hold_room h e, holds_noted)) in
      rw (ap (λ s. after_hold s h) so_far.state ∙ sym (hold_after at_line h))
      (more (Record.H h) e (rw so_far.in_places (rw holds_noted (rw full))))
