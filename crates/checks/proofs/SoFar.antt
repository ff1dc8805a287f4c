-- What holds whenever the check is about to look at what comes next: the check of the whole table comes to the same as going
-- on with what is left, and what is noted are the records accepted so far. One record more keeps that true, whichever letter it
-- has. Assumes nothing.
use mathlib.Core.Bool.{true, false, false≢true}
use mathlib.Core.List.{List, [], ◌∷◌, ◌++◌}
use mathlib.Core.Option.{none, some}
use mathlib.Core.Path.{◌≡◌, refl, sym, ap, ◌∙◌}
use Prim.Native.Nat.{ℕ, ◌+◌, ◌≤◌, ◌<◌}
use native.Mathlib.Omega.{arith}
use borrow.Author.Tests.{ltb-true}
use lib.ListN.{length, replicate, set, take}
use Rattle.std.proofs.lemmas.List.{take_more}
use Rattle.std.specs.Prelude.{map}
use lib.Seq.{get_or-append_seam, take-append-add, take-append_seam}
use Rattle.columns.proofs.Stored.{Filled, nothing_filled, one_more_filled}
use Rattle.grammar.proofs.Stopped.{Faultless, accepted_exactly}
use Rattle.laws.proofs.Elements.{not_empty, rising_more}
use Rattle.lines.specs.Step.{Noted, after_parsed}
use Rattle.records.proofs.After.{clock_after, hold_after, job_after, speed_after}
use Rattle.records.specs.Standing.{none_standing, standing_of}
use Rattle.records.specs.declared.Standing.{Standing}
use Rattle.rules.specs.Lists.{Rising, no_element}
use Rattle.rules.specs.Refusals.{Before, Item, accept_up_to, added, and_then, at_end, bad, check, check_up_to, fault_of, hold_items, items_of_up_to, job_items_up_to, judged, nothing, one, refused_at, rises, speed_items, take_from, take_from_up_to, taken, with_more}
use Rattle.rules.specs.TableText.{Record, most_jobs, no_job, records_of}
use Rattle.rules.specs.declared.Job.{Job}
use Rattle.rules.specs.declared.Refusal.{Refusal}
use Rattle.rules.specs.declared.Table.{Table}
use Rattle.text.specs.Lines.{item_of, parsed_of}
use Rattle.text.specs.declared.Parsed.{Parsed}
use Rattle.checks.specs.Left.{Comes, Few, InPlace, Room, behind_clock, left, letter_left}

-- no count is beyond its places, and the line is no further than the records go
pub record Counted (s : Standing) (line : ℕ) : Type 0 where
  pub few : Few s
  pub at_clock : s.begun ≡ false → line ≤ 1
  pub behind_records : line ≤ 2 + s.speeds + s.jobs + s.holds

pub record SoFar (t : Table) (before : Standing) (line : ℕ) : Type 0 where
  pub stands : Before
  pub state : before ≡ standing_of stands
  pub rising : Rising (λ (j : Job). j.number) stands.records.jobs
  pub jobs : take before.jobs t.jobs ≡ stands.records.jobs
  pub counted : Counted before line
  pub to_check : check t ≡ take_from line stands (left t before)

-- Before the first record: nothing stands, and each column holds zeros.
pub start_state : none_standing ≡ standing_of nothing
unfolding nothing
start_state = refl

pub start_rising : Rising (λ (j : Job). j.number) nothing.records.jobs
unfolding nothing
start_rising = no_element

pub start_column : (f : Job → ℕ) → f no_job ≡ 0 → Filled f nothing.records.jobs (replicate most_jobs 0)
unfolding nothing
start_column f e = nothing_filled f e

pub start_jobs : (t : Table) → take 0 t.jobs ≡ nothing.records.jobs
unfolding nothing
start_jobs t = refl

pub start_check : (t : Table) → check t ≡ take_from 1 nothing (left t none_standing)
unfolding nothing check_up_to items_of_up_to speed_items job_items_up_to hold_items records_of left behind_clock letter_left
start_check t = refl

pub start_counted : Counted none_standing 1
start_counted = record { few = omega arith; at_clock = λ e. omega arith; behind_records = omega arith }

abbrev pub at_start : (t : Table) → SoFar t none_standing 1
at_start t = record {
  stands = nothing;
  state = start_state;
  rising = start_rising;
  jobs = start_jobs t;
  counted = start_counted;
  to_check = start_check t;
}

pub item_of_record : (r : Record) → item_of (parsed_of r) ≡ one r
unfolding item_of
item_of_record (Record.T clock budget) = refl
item_of_record (Record.F f) = refl
item_of_record (Record.J j) = refl
item_of_record (Record.H h) = refl

-- One record more: the state, the counts, the numbers of the jobs, and the columns.
state_after : (b : Before) (r : Record) → after_parsed (standing_of b) (parsed_of r) ≡ standing_of (with_more b r)
state_after b (Record.T clock budget) = sym (clock_after b clock budget)
state_after b (Record.F f) = sym (speed_after b f)
state_after b (Record.J j) = sym (job_after b j)
state_after b (Record.H h) = sym (hold_after b h)

counted_behind : {s : Standing} {line : ℕ} → Few s → line ≤ 2 + s.speeds + s.jobs + s.holds → s.begun ≡ true → Counted s line
counted_behind few h begun = record { few = few; at_clock = λ e. absurd (false≢true (sym e ∙ begun)); behind_records = h }

pub counted_after : (s : Standing) (r : Record) (line : ℕ) → Room s r → Counted s line → Counted (after_parsed s (parsed_of r)) (line + 1)
counted_after s (Record.T clock budget) line room c = counted_behind c.few (omega (arith, c.at_clock room)) refl
counted_after s (Record.F f) line room c =
    let few = c.few in counted_behind (omega arith, few.1, few.2) (omega (arith, c.behind_records)) refl
counted_after s (Record.J j) line room c =
    let few = c.few in counted_behind (few.0, omega arith, few.2) (omega (arith, c.behind_records)) refl
counted_after s (Record.H h) line room c =
    let few = c.few in counted_behind (few.0, few.1, omega arith) (omega (arith, c.behind_records)) refl

rising_after : (b : Before) (r : Record) → Faultless b r → Rising (λ (j : Job). j.number) b.records.jobs
    → Rising (λ (j : Job). j.number) (added b.records r).jobs
unfolding added rises
rising_after b (Record.T clock budget) ok rising = rising
rising_after b (Record.F f) ok rising = rising
rising_after b (Record.J j) ok rising = rising_more no_job rising (ltb-true _ _ ok.rising)
rising_after b (Record.H h) ok rising = rising

-- the jobs are those in the first places
jobs_after : (t : Table) (b : Before) (r : Record) → Room (standing_of b) r → InPlace t (standing_of b) r
    → length t.jobs ≡ most_jobs → take (length b.records.jobs) t.jobs ≡ b.records.jobs
    → take (after_parsed (standing_of b) (parsed_of r)).jobs t.jobs ≡ (added b.records r).jobs
unfolding added
jobs_after t b (Record.T clock budget) room place whole e = e
jobs_after t b (Record.F f) room place whole e = e
jobs_after t b (Record.J j) room place whole e =
    take_more t.jobs (length b.records.jobs) no_job (omega arith) ∙ rw (e, ← place)
jobs_after t b (Record.H h) room place whole e = e

-- a J's field is stored in the first free place of its column
abbrev pub stored_in : (Job → ℕ) → Standing → Parsed → List ℕ → List ℕ
stored_in f s (Parsed.Clock clock budget) c = c
stored_in f s (Parsed.Speed g) c = c
stored_in f s (Parsed.Job j) c = set c s.jobs (f j)
stored_in f s (Parsed.Hold h) c = c

pub not_stored : (f : Job → ℕ) (s : Standing) (p : Parsed) (c : List ℕ) → ((j : Job) → p ≡ Parsed.Job j → ⊥) → stored_in f s p c ≡ c
not_stored f s (Parsed.Clock clock budget) c no-job = refl
not_stored f s (Parsed.Speed g) c no-job = refl
not_stored f s (Parsed.Job j) c no-job = absurd (no-job j refl)
not_stored f s (Parsed.Hold h) c no-job = refl

one_more_column : (f : Job → ℕ) (js : List Job) (j : Job) (c : List ℕ) → length js < most_jobs → Filled f js c
    → Filled f (js ++ j ∷ []) (set c (length js) (f j))
one_more_column f js j c h filled =
    rw (take-append-add js (j ∷ []) 1, get_or-append_seam js j [] no_job) at
    (one_more_filled f (js ++ j ∷ []) c (length js) h (rw (take-append_seam js (j ∷ [])) filled))

column_after : (f : Job → ℕ) (b : Before) (r : Record) (c : List ℕ) → Room (standing_of b) r → Filled f b.records.jobs c
    → Filled f (added b.records r).jobs (stored_in f (standing_of b) (parsed_of r) c)
unfolding added
column_after f b (Record.T clock budget) c room filled = filled
column_after f b (Record.F g) c room filled = filled
column_after f b (Record.J j) c room filled = one_more_column f b.records.jobs j c room filled
column_after f b (Record.H h) c room filled = filled

module _ {t : Table} {before : Standing} {line : ℕ} (so_far : SoFar t before line) where
  pub noted : Noted so_far.stands before (take before.jobs t.jobs)
  noted = record {
    state = so_far.state;
    rising = so_far.rising;
    numbers = ap (map (λ (j : Job). j.number)) so_far.jobs;
    requests = ap (map (λ (j : Job). j.request)) so_far.jobs;
  }

  -- what comes next is refused, or nothing comes
  pub bad_next : (why : Refusal) (rest : List Item) → left t before ≡ bad why ∷ rest → check t ≡ refused_at why line
  unfolding take_from_up_to and_then accept_up_to
  bad_next why rest e = so_far.to_check ∙ rw e

  pub refused_next : (r : Record) (why : Refusal) → Comes t before r → fault_of so_far.stands r ≡ some why → check t ≡ refused_at why line
  unfolding take_from_up_to and_then accept_up_to judged
  refused_next r why comes fault = so_far.to_check ∙ rw comes.first (rw fault)

  pub all_checked : left t before ≡ [] → 1 ≤ before.speeds → check t ≡ taken so_far.stands.records
  unfolding take_from_up_to at_end
  all_checked e h =
      let some_speed = not_empty so_far.stands.records.speeds (omega (arith, ap (λ (s : Standing). s.speeds) so_far.state)) in
      so_far.to_check ∙ rw (e, some_speed)

  -- a record that is accepted, and a column with its field
  module _ (r : Record) (comes : Comes t before r) where
    pub stored : (f : Job → ℕ) (c : List ℕ) → Filled f so_far.stands.records.jobs c
        → Filled f (added so_far.stands.records r).jobs (stored_in f before (parsed_of r) c)
    stored f c filled =
        rw so_far.state (column_after f so_far.stands r c (rw so_far.state at comes.room) filled)

    module _ (fault : fault_of so_far.stands r ≡ none) where
      pub rising_with_it : Rising (λ (j : Job). j.number) (added so_far.stands.records r).jobs
      unfolding take_from_up_to and_then accept_up_to judged
      rising_with_it =
          let b = so_far.stands in
          rising_after b r ((accepted_exactly b r (with_more b r)).0 (rw fault)).0 so_far.rising

      pub checked_with_it : check t ≡ take_from (line + 1) (with_more so_far.stands r) (left t (after_parsed before (parsed_of r)))
      unfolding take_from_up_to and_then accept_up_to judged
      checked_with_it = so_far.to_check ∙ rw comes.first (rw fault)

      pub state_with_it : after_parsed before (parsed_of r) ≡ standing_of (with_more so_far.stands r)
      state_with_it = rw so_far.state (state_after so_far.stands r)

      pub jobs_with_it : length t.jobs ≡ most_jobs
          → take (after_parsed before (parsed_of r)).jobs t.jobs ≡ (added so_far.stands.records r).jobs
      jobs_with_it whole =
          rw so_far.state
          (jobs_after t so_far.stands r (rw so_far.state at comes.room) (rw so_far.state at comes.in_place) whole
          (rw so_far.state at so_far.jobs))

      abbrev pub with_it : length t.jobs ≡ most_jobs → SoFar t (after_parsed before (parsed_of r)) (line + 1)
      with_it whole = record {
        stands = with_more so_far.stands r;
        state = state_with_it;
        rising = rising_with_it;
        jobs = jobs_with_it whole;
        counted = counted_after before r line comes.room so_far.counted;
        to_check = checked_with_it;
      }
