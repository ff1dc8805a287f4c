-- What is left of a table's items behind the records that a state stands for, and what comes first of it.
use Rattle.std.specs.Prelude.{Option, Some, None, Result, Ok, Err, false, cond, List, [], ◌∷◌, ◌++◌, map, ◌≡◌, ℕ, ◌≤◌, ◌<◌, eqb, length, drop, get_or, take}
use Rattle.lines.specs.Step.{after_parsed}
use Rattle.records.specs.declared.Standing.{Standing}
use Rattle.rules.specs.Refusals.{Item, bad, beyond, one}
use Rattle.rules.specs.TableText.{Record, most_holds, most_jobs, most_speeds, no_hold, no_job, no_speed}
use Rattle.rules.specs.declared.Hold.{Hold}
use Rattle.rules.specs.declared.Job.{Job}
use Rattle.rules.specs.declared.Refusal.{Refusal}
use Rattle.rules.specs.declared.Speed.{Speed}
use Rattle.rules.specs.declared.Table.{Table}
use Rattle.text.specs.Lines.{parsed_of}
use Rattle.checks.specs.declared.Spot.{Spot}

-- One letter's part of a table: its record, the one of zeros, what the places hold and how many they are, the count, and the
-- refusal of the first record beyond the places.
pub record Letter (A : Type 0) : Type 0 where
  pub letter : A → Record
  pub zeros : A
  pub all : List A
  pub places : ℕ
  pub count : ℕ
  pub why : Refusal

abbrev pub speeds_in : Table → Letter Speed
speeds_in t = record { letter = Record.F; zeros = no_speed; all = t.speeds; places = most_speeds; count = t.speed_count; why = Refusal.TooMany }

abbrev pub jobs_in : Table → Letter Job
jobs_in t = record { letter = Record.J; zeros = no_job; all = t.jobs; places = most_jobs; count = t.job_count; why = Refusal.TooMany }

abbrev pub holds_in : Table → Letter Hold
holds_in t = record { letter = Record.H; zeros = no_hold; all = t.holds; places = most_holds; count = t.hold_count; why = Refusal.Order }

-- the record at a place
abbrev pub record_at : {A : Type 0} → Letter A → ℕ → Record
record_at l n = l.letter (get_or l.all n l.zeros)

-- the records behind the first n, and the first beyond the places
unfoldable pub letter_left : {A : Type 0} → Letter A → ℕ → List Item
letter_left l n = map (λ x. one (l.letter x)) (drop n (take l.count l.all)) ++ beyond l.places l.count l.why

-- All that is left behind the T: "with no F it is refused 3, line 2".
unfoldable pub behind_clock : Table → Standing → List Item
behind_clock t s =
    cond (eqb t.speed_count 0) (bad Refusal.Order ∷ []) (letter_left (speeds_in t) s.speeds)
    ++ (letter_left (jobs_in t) s.jobs ++ letter_left (holds_in t) s.holds)

-- All that is left: from the T on, where it does not stand yet.
unfoldable pub left : Table → Standing → List Item
left t s = cond s.begun (behind_clock t s) (one (Record.T t.clock t.budget) ∷ behind_clock t s)

-- no more of each letter than there are places for
abbrev pub Few : Standing → Type 0
Few s = (s.speeds ≤ most_speeds) × (s.jobs ≤ most_jobs) × (s.holds ≤ most_holds)

-- there is a place for one record more
abbrev pub Room : Standing → Record → Type 0
Room s (Record.T clock budget) = s.begun ≡ false
Room s (Record.F f) = s.speeds < most_speeds
Room s (Record.J j) = s.jobs < most_jobs
Room s (Record.H h) = s.holds < most_holds

-- a J is the one in the next place
abbrev pub InPlace : Table → Standing → Record → Type 0
InPlace t s (Record.T clock budget) = Unit {0}
InPlace t s (Record.F f) = Unit {0}
InPlace t s (Record.J j) = j ≡ get_or t.jobs s.jobs no_job
InPlace t s (Record.H h) = Unit {0}

-- a record comes first of what is left, and then what is left behind it
pub record Comes (t : Table) (s : Standing) (r : Record) : Type 0 where
  pub room : Room s r
  pub in_place : InPlace t s r
  pub first : left t s ≡ one r ∷ left t (after_parsed s (parsed_of r))

-- What comes next of a table.
abbrev pub ComesNext : Table → Standing → Result (Option Spot) Refusal → Type 0
ComesNext t s (Ok (Some Spot.Clock)) = Comes t s (Record.T t.clock t.budget)
ComesNext t s (Ok (Some (Spot.Speed n))) = (n < most_speeds) × Comes t s (record_at (speeds_in t) n)
ComesNext t s (Ok (Some (Spot.Job n))) = (n < most_jobs) × Comes t s (record_at (jobs_in t) n)
ComesNext t s (Ok (Some (Spot.Hold n))) = (n < most_holds) × Comes t s (record_at (holds_in t) n)
ComesNext t s (Ok None) = (left t s ≡ []) × (1 ≤ s.speeds)
ComesNext t s (Err why) = (rest : List Item) × (left t s ≡ bad why ∷ rest)

-- a table with all its places
pub record Whole (t : Table) : Type 0 where
  pub speeds : length t.speeds ≡ most_speeds
  pub jobs : length t.jobs ≡ most_jobs
  pub holds : length t.holds ≡ most_holds
