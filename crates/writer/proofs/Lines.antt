-- A table's lines one after the other. The T stands on line 0; a record behind it stands where its letter's records begin, as many
-- lines further as its place says, since the lines are the lists of the letters one behind the other. The text from a line on is
-- that line's and the text behind it. Assumes nothing.
use mathlib.Core.List.{List, [], ◌∷◌, ◌++◌, map}
use mathlib.Core.Path.{◌≡◌, refl, ◌∙◌}
use Prim.Native.Nat.{ℕ, zero, suc, ◌+◌, ◌≤◌, ◌<◌}
use native.Mathlib.Numerals.{add-one}
use native.Mathlib.Omega.{arith}
use lib.ListN.{length, drop, drop_of_length-le, get_or, length-append, length-map, take}
use lib.Seq.{drop-append-add, drop-append-le, length-take-le}
use Rattle.checks.proofs.Places.{record-at}
use Rattle.rules.specs.Lists.{joined}
use Rattle.rules.specs.TableText.{Record, Records, lined, no_hold, no_job, no_speed, record_text, records_of, text_of}
use Rattle.rules.specs.declared.Table.{Table}
use Rattle.writer.specs.Lines.{At, RecordsPlaced, RowAt, SpotAt, row_text}
use Rattle.checks.specs.declared.Spot.{Spot}
use Rattle.writer.specs.declared.Row.{Row}

-- What stands at a place of two lists, one behind the other, and of a list that is mapped.
module _ {A : Type 0} where
  at_front : (xs ys : List A) (i : ℕ) (x : A) → i < length xs → At xs i x → At (xs ++ ys) i x
  at_front xs ys i x h e = rw (drop-append-le i xs ys (omega arith), drop-append-le (suc i) xs ys h, e)

  at_back : (xs ys : List A) (i k : ℕ) (x : A) → k ≡ length xs + i → At ys i x → At (xs ++ ys) k x
  at_back xs ys i k x e here =
      let next : suc (length xs + i) ≡ length xs + suc i = omega arith in
      rw (e, next, drop-append-add xs ys i, drop-append-add xs ys (suc i), here)

drop_map : {A B : Type 0} (f : A → B) (i : ℕ) (xs : List A) → drop i (map f xs) ≡ map f (drop i xs)
drop_map f zero xs = refl
drop_map f (suc i) [] = refl
drop_map f (suc i) (x ∷ xs) = drop_map f i xs

at_mapped : {A : Type 0} (letter : A → Record) (count : ℕ) (all : List A) (zeros : A) (n : ℕ) → n < count → count ≤ length all
    → At (map letter (take count all)) n (letter (get_or all n zeros))
at_mapped letter count all zeros n h k =
    rw (drop_map letter n (take count all), drop_map letter (suc n) (take count all), record-at count all zeros n h (omega arith))

-- the records of one letter
letter_length : {A : Type 0} (letter : A → Record) (count : ℕ) (all : List A) → count ≤ length all
    → length (map letter (take count all)) ≡ count
letter_length letter count all k = length-map (take count all) letter ∙ length-take-le count all k

module _ (t : Table) (placed : RecordsPlaced t) where
  abbrev speeds : List Record
  speeds = map Record.F (take t.speed_count t.speeds)

  abbrev jobs : List Record
  jobs = map Record.J (take t.job_count t.jobs)

  abbrev holds : List Record
  holds = map Record.H (take t.hold_count t.holds)

  speeds_length : length speeds ≡ t.speed_count
  speeds_length = letter_length Record.F t.speed_count t.speeds placed.speeds

  jobs_length : length jobs ≡ t.job_count
  jobs_length = letter_length Record.J t.job_count t.jobs placed.jobs

  holds_length : length holds ≡ t.hold_count
  holds_length = letter_length Record.H t.hold_count t.holds placed.holds

  lines_in_order : lined (records_of t) ≡ Record.T t.clock t.budget ∷ (speeds ++ (jobs ++ holds))
  unfolding lined records_of
  lines_in_order = refl

  pub lines_counted : length (lined (records_of t)) ≡ 1 + (t.speed_count + (t.job_count + t.hold_count))
  lines_counted =
      rw lines_in_order
      (omega (arith, length-append speeds (jobs ++ holds), length-append jobs holds, speeds_length, jobs_length, holds_length))

  pub clock_stands : (i : ℕ) → i ≡ 0 → SpotAt t i Spot.Clock
  clock_stands i e = record { within = omega arith; there = rw (e, lines_in_order) }

  pub speed_stands : (i n : ℕ) → i ≡ suc n → n < t.speed_count → SpotAt t i (Spot.Speed n)
  speed_stands i n e h =
      let here = at_mapped Record.F t.speed_count t.speeds no_speed n h placed.speeds in
      let line = at_front speeds (jobs ++ holds) n _ (omega (arith, speeds_length)) here in
      record { within = h; there = rw (e, lines_in_order) line }

  pub job_stands : (i n : ℕ) → i ≡ suc (t.speed_count + n) → n < t.job_count → SpotAt t i (Spot.Job n)
  job_stands i n e h =
      let here = at_mapped Record.J t.job_count t.jobs no_job n h placed.jobs in
      let behind = at_front jobs holds n _ (omega (arith, jobs_length)) here in
      let line = at_back speeds (jobs ++ holds) n (t.speed_count + n) _ (omega (arith, speeds_length)) behind in
      record { within = h; there = rw (e, lines_in_order) line }

  pub hold_stands : (i n : ℕ) → i ≡ suc (t.speed_count + (t.job_count + n)) → n < t.hold_count
      → SpotAt t i (Spot.Hold n)
  hold_stands i n e h =
      let place = t.job_count + n in
      let here = at_mapped Record.H t.hold_count t.holds no_hold n h placed.holds in
      let behind = at_back jobs holds n place _ (omega (arith, jobs_length)) here in
      let line = at_back speeds (jobs ++ holds) place (t.speed_count + place) _ (omega (arith, speeds_length)) behind in
      record { within = h; there = rw (e, lines_in_order) line }

-- The text from a line on.
module _ (r : Records) where
  abbrev pub text_from : ℕ → List ℕ
  text_from i = joined record_text (drop i (lined r))

  pub text_from_first : text_from 0 ≡ text_of r
  unfolding text_of
  text_from_first = refl

  text_next : (i : ℕ) (x : Record) → At (lined r) i x → text_from i ≡ record_text x ++ text_from (i + 1)
  text_next i x here = rw (here, add-one i)

  pub no_text_left : (i : ℕ) → length (lined r) ≤ i → text_from i ≡ []
  no_text_left i h = rw (drop_of_length-le (lined r) h)

-- the text from a line on, by the row of that line
pub row_next : (t : Table) (i : ℕ) (row : Row) → RowAt t i row
    → text_from (records_of t) i ≡ row_text row ++ text_from (records_of t) (i + 1)
row_next t i row at = text_next (records_of t) i at.stands at.there ∙ rw at.text
