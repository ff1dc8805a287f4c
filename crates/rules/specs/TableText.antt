-- Document 01, "The table text": what a number, a line and a record are, their ranges, and a table's text.
use Rattle.std.specs.Prelude.{Bool, false, cond, not, ◌&&◌, List, [], ◌∷◌, ◌++◌, map, ℕ, zero, suc, ◌+◌, ◌-◌, ◌*◌, ◌/◌, ◌%◌, ◌^◌, leb, ltb, eqb, length, get_or, take, replicate}
use Rattle.std.proofs.Math.Option.{Option, none, some}
use Rattle.rules.specs.Lists.{all, empty, joined, only_if, within}
use Rattle.rules.specs.declared.Speed.{Speed}
use Rattle.rules.specs.declared.Job.{Job}
use Rattle.rules.specs.declared.Hold.{Hold}
use Rattle.rules.specs.declared.Table.{Table}

-- The bytes of the text that have a name.
abbrev pub tab : ℕ
tab = 9

abbrev pub line_feed : ℕ
line_feed = 10

abbrev pub digit_zero : ℕ
digit_zero = 48

abbrev pub letter_t : ℕ
letter_t = 84

abbrev pub letter_f : ℕ
letter_f = 70

abbrev pub letter_j : ℕ
letter_j = 74

abbrev pub letter_h : ℕ
letter_h = 72

-- The letter table, "Fields after the letter": how many numbers stand behind each letter, and 0 for any other byte.
unfoldable pub field_count : ℕ → ℕ
field_count b =
    cond (eqb b letter_t) 2
    (cond (eqb b letter_f) 2
    (cond (eqb b letter_j) 6
    (cond (eqb b letter_h) 2 0)))

-- The most numbers behind a letter.
abbrev pub most_fields : ℕ
most_fields = 6

-- a letter of one of the four records
unfoldable pub is_letter : ℕ → Bool
is_letter b = not (eqb (field_count b) 0)

-- a byte put at the front of the first part
unfoldable pub onto_first : ℕ → List (List ℕ) → List (List ℕ)
onto_first x [] = (x ∷ []) ∷ []
onto_first x (p ∷ ps) = (x ∷ p) ∷ ps

-- what stands between the bytes b of a text: one part more than there are such bytes
unfoldable pub parted_by : ℕ → List ℕ → List (List ℕ)
parted_by b [] = [] ∷ []
parted_by b (x ∷ s) = cond (eqb x b) ([] ∷ parted_by b s) (onto_first x (parted_by b s))

-- "Lines of text, .. each line ended by one line feed.": the lines, and last what stands behind the last line feed.
unfoldable pub lines_of : List ℕ → List (List ℕ)
lines_of text = parted_by line_feed text

-- "fields parted by one tab"
unfoldable pub fields_of : List ℕ → List (List ℕ)
fields_of line = parted_by tab line

-- "A number is decimal digits with no leading zero (0 is "0"), at most 16 digits."
unfoldable pub is_digit : ℕ → Bool
is_digit b = within digit_zero (digit_zero + 9) b

unfoldable pub leading_zero : List ℕ → Bool
leading_zero [] = false
leading_zero (b ∷ bs) = eqb b digit_zero && not (empty bs)

abbrev pub most_digits : ℕ
most_digits = 16

unfoldable pub is_number : List ℕ → Bool
is_number f = not (empty f) && all is_digit f && not (leading_zero f) && leb (length f) most_digits

unfoldable pub value_from : ℕ → List ℕ → ℕ
value_from v [] = v
value_from v (b ∷ bs) = value_from (v * 10 + (b - digit_zero)) bs

-- "a field is either a number or the refusal of its line": the number, if it is one
unfoldable pub number_in : List ℕ → Option ℕ
number_in f = only_if (is_number f) (value_from 0 f)

-- the numbers of all fields, if each is one
unfoldable pub and_more : Option ℕ → Option (List ℕ) → Option (List ℕ)
and_more none r = none
and_more (some n) none = none
and_more (some n) (some ns) = some (n ∷ ns)

unfoldable pub numbers_in : List (List ℕ) → Option (List ℕ)
numbers_in [] = some []
numbers_in (f ∷ fs) = and_more (number_in f) (numbers_in fs)

-- "one record a line": T now budget, F speed cost, J number cycles worth critical termination request, H resource job.
pub data Record : Type 0 where
  T : ℕ → ℕ → Record
  F : Speed → Record
  J : Job → Record
  H : Hold → Record

abbrev pub nth : List ℕ → ℕ → ℕ
nth ns i = get_or ns i 0

-- the record that a letter makes of its numbers
unfoldable pub letter_record : ℕ → List ℕ → Option Record
letter_record letter ns =
    cond (eqb letter letter_t) (some (T (nth ns 0) (nth ns 1)))
    (cond (eqb letter letter_f) (some (F (record { mhz = nth ns 0; cost = nth ns 1 })))
    (cond (eqb letter letter_j)
    (some
    (J
    (record {
      number = nth ns 0;
      cycles = nth ns 1;
      worth = nth ns 2;
      critical = nth ns 3;
      termination = nth ns 4;
      request = nth ns 5;
    })))
    (cond (eqb letter letter_h) (some (H (record { resource = nth ns 0; holder = nth ns 1 }))) none)))

-- the letter and the field count decide
unfoldable pub record_of : ℕ → List ℕ → Option Record
record_of letter ns = cond (eqb (length ns) (field_count letter)) (letter_record letter ns) none

unfoldable pub with_numbers : ℕ → Option (List ℕ) → Option Record
with_numbers letter none = none
with_numbers letter (some ns) = record_of letter ns

-- the letter stands alone in the first field
unfoldable pub fields_record : List (List ℕ) → Option Record
fields_record [] = none
fields_record ([] ∷ fs) = none
fields_record ((letter ∷ []) ∷ fs) = with_numbers letter (numbers_in fs)
fields_record ((a ∷ (b ∷ bs)) ∷ fs) = none

-- the record of a line, if the line has one of the four shapes
unfoldable pub shape_of : List ℕ → Option Record
shape_of line = fields_record (fields_of line)

-- The ends of the ranges: "0..1,000,000,000 ms; 0..10^15 units", "1..4,000 MHz; 1..4,000,000 units per million cycles",
-- "1..9,999; 1..1,000,000 million cycles; 0..1,000,000; two times 0..1,000,000,000 ms; 0..32", "1..32; 1..9,999".
abbrev pub most_time : ℕ
most_time = 1000000000

abbrev pub most_budget : ℕ
most_budget = 10 ^ 15

abbrev pub most_mhz : ℕ
most_mhz = 4000

abbrev pub most_cost : ℕ
most_cost = 4000000

abbrev pub most_job_number : ℕ
most_job_number = 9999

abbrev pub most_cycles : ℕ
most_cycles = 1000000

abbrev pub most_worth : ℕ
most_worth = 1000000

abbrev pub most_resource : ℕ
most_resource = 32

-- The ranges.
unfoldable pub is_time : ℕ → Bool
is_time n = within 0 most_time n

unfoldable pub is_budget : ℕ → Bool
is_budget n = within 0 most_budget n

unfoldable pub is_mhz : ℕ → Bool
is_mhz n = within 1 most_mhz n

unfoldable pub is_cost : ℕ → Bool
is_cost n = within 1 most_cost n

unfoldable pub is_job_number : ℕ → Bool
is_job_number n = within 1 most_job_number n

unfoldable pub is_cycles : ℕ → Bool
is_cycles n = within 1 most_cycles n

unfoldable pub is_worth : ℕ → Bool
is_worth n = within 0 most_worth n

unfoldable pub is_resource : ℕ → Bool
is_resource n = within 1 most_resource n

unfoldable pub is_request : ℕ → Bool
is_request n = within 0 most_resource n

unfoldable pub in_range : Record → Bool
in_range (T clock budget) = is_time clock && is_budget budget
in_range (F f) = is_mhz f.mhz && is_cost f.cost
in_range (J j) =
    is_job_number j.number
    && is_cycles j.cycles
    && is_worth j.worth
    && is_time j.critical
    && is_time j.termination
    && is_request j.request
in_range (H h) = is_resource h.resource && is_job_number h.holder

-- "One T, as line 1; then 1 to 16 F ..; then 0 to 64 J ..; then H": resources rise, so that there is at most one H for each.
-- Where the most J that a table may have is an argument of a definition, the name ends in UpTo; the name without it is the rule
-- at `most_jobs`.
abbrev pub most_speeds : ℕ
most_speeds = 16

abbrev pub most_jobs : ℕ
most_jobs = 64

abbrev pub most_holds : ℕ
most_holds = most_resource

-- A table's records.
pub record Records : Type 0 where
  pub clock : ℕ
  pub budget : ℕ
  pub speeds : List Speed
  pub jobs : List Job
  pub holds : List Hold

-- The table without records: "0 and 0 in the table without records".
abbrev pub no_records : Records
no_records = record { clock = 0; budget = 0; speeds = []; jobs = []; holds = [] }

-- The records with another T, or with others of one letter: all else stays.
abbrev pub with_clock : Records → ℕ → ℕ → Records
with_clock r clock budget = record { clock = clock; budget = budget; speeds = r.speeds; jobs = r.jobs; holds = r.holds }

abbrev pub with_budget : Records → ℕ → Records
with_budget r budget = with_clock r r.clock budget

abbrev pub with_speeds : Records → List Speed → Records
with_speeds r fs = record { clock = r.clock; budget = r.budget; speeds = fs; jobs = r.jobs; holds = r.holds }

abbrev pub with_jobs : Records → List Job → Records
with_jobs r js = record { clock = r.clock; budget = r.budget; speeds = r.speeds; jobs = js; holds = r.holds }

abbrev pub with_holds : Records → List Hold → Records
with_holds r hs = record { clock = r.clock; budget = r.budget; speeds = r.speeds; jobs = r.jobs; holds = hs }

-- "Two tables are the same when they have the same records": those in the first so many places, for counts that are not
-- beyond the places.
unfoldable pub records_of : Table → Records
records_of t = record {
  clock = t.clock;
  budget = t.budget;
  speeds = take t.speed_count t.speeds;
  jobs = take t.job_count t.jobs;
  holds = take t.hold_count t.holds;
}

-- "a table made by the reader holds 0 in every unused place."
abbrev pub no_speed : Speed
no_speed = record { mhz = 0; cost = 0 }

abbrev pub no_job : Job
no_job = record { number = 0; cycles = 0; worth = 0; critical = 0; termination = 0; request = 0 }

abbrev pub no_hold : Hold
no_hold = record { resource = 0; holder = 0 }

abbrev pub padded : {A : Type 0} → ℕ → A → List A → List A
padded places a xs = xs ++ replicate (places - length xs) a

unfoldable pub table_of_up_to : ℕ → Records → Table
table_of_up_to most r = record {
  clock = r.clock;
  budget = r.budget;
  speed_count = length r.speeds;
  job_count = length r.jobs;
  hold_count = length r.holds;
  speeds = padded most_speeds no_speed r.speeds;
  jobs = padded most no_job r.jobs;
  holds = padded most_holds no_hold r.holds;
}

abbrev pub table_of : Records → Table
table_of = table_of_up_to most_jobs

-- a table whose T has another budget
abbrev pub table_with_budget : Table → ℕ → Table
table_with_budget t budget = record {
  clock = t.clock;
  budget = budget;
  speed_count = t.speed_count;
  job_count = t.job_count;
  hold_count = t.hold_count;
  speeds = t.speeds;
  jobs = t.jobs;
  holds = t.holds;
}

-- a table with other counts
abbrev pub with_counts : Table → ℕ → ℕ → ℕ → Table
with_counts t speeds jobs holds = record {
  clock = t.clock;
  budget = t.budget;
  speed_count = speeds;
  job_count = jobs;
  hold_count = holds;
  speeds = t.speeds;
  jobs = t.jobs;
  holds = t.holds;
}

-- The decimal digits of n, at most f + 1 of them.
unfoldable pub digits_within : ℕ → ℕ → List ℕ
digits_within zero n = (digit_zero + n % 10) ∷ []
digits_within (suc f) n =
    let more = digits_within f (n / 10) in
    cond (ltb n 10) ((digit_zero + n) ∷ []) (more ++ (digit_zero + n % 10) ∷ [])

-- No number of the machine has more than 20.
unfoldable pub digits_of : ℕ → List ℕ
digits_of n = digits_within 19 n

-- a line: its letter, each number behind a tab, the line feed
unfoldable pub line_text : ℕ → List ℕ → List ℕ
line_text letter ns = letter ∷ (joined (λ n. tab ∷ digits_of n) ns ++ line_feed ∷ [])

unfoldable pub record_text : Record → List ℕ
record_text (T clock budget) = line_text letter_t (clock ∷ budget ∷ [])
record_text (F f) = line_text letter_f (f.mhz ∷ f.cost ∷ [])
record_text (J j) =
    line_text letter_j (j.number ∷ j.cycles ∷ j.worth ∷ j.critical ∷ j.termination ∷ j.request ∷ [])
record_text (H h) = line_text letter_h (h.resource ∷ h.holder ∷ [])

-- The records in the order of their lines.
unfoldable pub lined : Records → List Record
lined r = T r.clock r.budget ∷ (map F r.speeds ++ (map J r.jobs ++ map H r.holds))

-- A table's text.
unfoldable pub text_of : Records → List ℕ
text_of r = joined record_text (lined r)
