-- What is read is what was written, and what is written is read again: reader and writer take exactly valid records, and
-- the text and the lines, or the table and the records, determine each other. Assumes nothing.
use mathlib.Core.Bool.{Bool, true, false, cond, false≢true}
use mathlib.Core.List.{List, [], ◌∷◌, ◌++◌, map, append-nil, map-map}
use mathlib.Core.Logic.{◌↔◌}
use mathlib.Core.Path.{◌≡◌, refl, sym, ap, ◌∙◌}
use Prim.Native.Nat.{ℕ, zero, suc, ◌≤◌}
use native.Mathlib.Omega.{arith}
use borrow.Author.Tests.{eqb-false, le-leb, le-ltb, leb-true, ltb-false, ne_eqb}
use lib.Dec.{eqb, leb, ltb}
use lib.ListN.{length, drop, get_or, take, length-append, length-drop}
use lib.Seq.{append_snoc, drop-append_seam, take-append_seam}
use Rattle.grammar.proofs.Accepted.{taken_exactly}
use Rattle.grammar.specs.SoFar.{holds_so_far, jobs_so_far, speeds_so_far}
use Rattle.laws.proofs.Elements.{each_too, map_append, rising_length}
use Rattle.grammar.proofs.Ranges.{hold_ranges}
use Rattle.grammar.proofs.Stopped.{Stopped, refused_where_stopped}
use Rattle.laws.proofs.Tests.{both_true}
use Rattle.laws.proofs.Unique.{known_by, refusal_not_0}
use Rattle.grammar.proofs.Written.{items_exactly, valid_items}
use Rattle.rules.specs.Answers.{Answer, good}
use Rattle.rules.specs.Lists.{Each, Rising, all, ◌and◌}
use Rattle.rules.specs.Refusals.{AfterWriting, Item, Taken, added, bad, beyond, check, check_up_to, hold_items, items_in, items_of, items_of_up_to, job_items, job_items_up_to, nothing, one, read, read_up_to, refused_at, refused_out, speed_items, taken, writing, written, written_of}
use Rattle.rules.specs.TableText.{Record, Records, in_range, lined, lines_of, most_holds, most_jobs, most_speeds, no_records, records_of, table_of, table_of_up_to, text_of}
use Rattle.rules.specs.Valid.{Valid, WithinPlaces}
use Rattle.rules.specs.declared.Refusal.{Refusal}
use Rattle.rules.specs.declared.Hold.{Hold}
use Rattle.rules.specs.declared.Table.{Table}

-- The reader takes exactly the texts of valid records.
pub read_exactly : (text : List ℕ) (r : Records) → (read text ≡ taken r) ↔ (Valid r × (text ≡ text_of r))
unfolding read_up_to text_of
read_exactly text r = (
  λ e.
      let (v, lines) = (taken_exactly 1 (items_in (lines_of text)) r).0 e in
      (v, ((items_exactly text (lined r)).0 lines).0),
  λ e. (taken_exactly 1 (items_in (lines_of text)) r).1 (e.0, rw e.1 (valid_items e.0)),
)

-- It refuses exactly where the fold over the lines stops.
pub read_refused : (text : List ℕ) (why : Refusal) (line : ℕ)
    → (read text ≡ refused_at why line) ↔ Stopped 1 nothing (items_in (lines_of text)) why line
unfolding read_up_to
read_refused text why line = refused_where_stopped 1 nothing (items_in (lines_of text)) why line

-- Written and read, read and written.
pub text_read : {r : Records} → Valid r → read (text_of r) ≡ taken r
text_read {r} v = (read_exactly (text_of r) r).1 (v, refl)

pub read_text : (text : List ℕ) (r : Records) → read text ≡ taken r → text_of r ≡ text
read_text text r e = sym ((read_exactly text r).0 e).1

-- Records are known by their lines: added one after the other, they are made again.
abbrev gathered : Records → List Item → Records
gathered r [] = r
gathered r (one x ∷ is) = gathered (added r x) is
gathered r (bad why ∷ is) = gathered r is

gathered_letter : {A : Type 0} (letter : A → Record) (so_far : List A → Records)
    → ((front : List A) (x : A) → added (so_far front) (letter x) ≡ so_far (front ++ x ∷ []))
    → (front rest : List A) (more : List Record)
    → gathered (so_far front) (map one (map letter rest ++ more)) ≡ gathered (so_far (front ++ rest)) (map one more)
gathered_letter letter so_far adds front [] more = rw append-nil
gathered_letter letter so_far adds front (x ∷ rest) more =
    ap (λ r. gathered r (map one (map letter rest ++ more))) (adds front x)
    ∙ gathered_letter letter so_far adds (front ++ x ∷ []) rest more
    ∙ rw (append_snoc front x rest)

gathered_lined : (r : Records) → gathered no_records (map one (lined r)) ≡ r
unfolding lined added
gathered_lined r =
    gathered_letter Record.F (speeds_so_far r) (λ front f. refl) [] r.speeds (map Record.J r.jobs ++ map Record.H r.holds)
    ∙ gathered_letter Record.J (jobs_so_far r) (λ front j. refl) [] r.jobs (map Record.H r.holds)
    ∙ rw (append-nil (map Record.H r.holds)) at
    (gathered_letter Record.H (holds_so_far r) (λ front h. refl) [] r.holds [])

lined_unique : (r s : Records) → map one (lined r) ≡ map one (lined s) → r ≡ s
lined_unique = known_by (λ r. map one (lined r)) (gathered no_records) gathered_lined

-- the lines of records as items, letter by letter
lined_items : (r : Records) → map one (lined r)
    ≡ one (Record.T r.clock r.budget) ∷ (map (λ f. one (Record.F f)) r.speeds
    ++ (map (λ j. one (Record.J j)) r.jobs ++ map (λ h. one (Record.H h)) r.holds))
unfolding lined
lined_items r =
    ap (λ is. one (Record.T r.clock r.budget) ∷ is)
    (map_append one (map Record.F r.speeds) (map Record.J r.jobs ++ map Record.H r.holds)
    ∙ rw (map_append one (map Record.J r.jobs) (map Record.H r.holds), map-map one Record.F r.speeds, map-map one Record.J r.jobs, map-map one Record.H r.holds))

-- a table's items are its records' lines where no count is beyond its places and there is an F
none_beyond : (front : List Item) (places count : ℕ) (why : Refusal) → count ≤ places → front ++ beyond places count why ≡ front
unfolding beyond
none_beyond front places count why h = rw (le-ltb places count h) (append-nil front)

speed-items : (t : Table) → WithinPlaces t → 1 ≤ t.speed_count → speed_items t ≡ map (λ f. one (Record.F f)) (records_of t).speeds
unfolding speed_items
speed-items t fits h =
    rw (ne_eqb t.speed_count 0 (λ z. omega arith)) (none_beyond _ most_speeds t.speed_count Refusal.TooMany fits.speeds_fit)

job-items : (t : Table) → WithinPlaces t → job_items t ≡ map (λ j. one (Record.J j)) (records_of t).jobs
unfolding job_items_up_to
job-items t fits = none_beyond _ most_jobs t.job_count Refusal.TooMany fits.jobs_fit

hold-items : (t : Table) → WithinPlaces t → hold_items t ≡ map (λ h. one (Record.H h)) (records_of t).holds
unfolding hold_items
hold-items t fits = none_beyond _ most_holds t.hold_count Refusal.Order fits.holds_fit

items_lined : (t : Table) → WithinPlaces t → 1 ≤ t.speed_count → items_of t ≡ map one (lined (records_of t))
unfolding items_of_up_to
items_lined t fits h = rw (lined_items (records_of t), speed-items t fits h, job-items t fits, hold-items t fits)

-- and only there: elsewhere one of the items is bad
abbrev is_one : Item → Bool
is_one (one r) = true
is_one (bad why) = false

all_one : (rs : List Record) → all is_one (map one rs) ≡ true
all_one [] = refl
all_one (r ∷ rs) = all_one rs

all_parts : (is js : List Item) → all is_one (is ++ js) ≡ true → (all is_one is ≡ true) × (all is_one js ≡ true)
all_parts [] js e = (refl, e)
all_parts (i ∷ is) js e =
    let b = both_true (is_one i) (all is_one (is ++ js)) e in
    let c = all_parts is js b.1 in
    (rw (b.0, c.0), c.1)

fits_places : (front : List Item) (places count : ℕ) (why : Refusal) → all is_one (front ++ beyond places count why) ≡ true
    → count ≤ places
unfolding beyond
fits_places front places count why e = go (ltb places count) refl (all_parts front (beyond places count why) e).1
  where
    go : (t : Bool) → ltb places count ≡ t → all is_one (cond t (bad why ∷ []) []) ≡ true → count ≤ places
    go true l q = absurd (false≢true q)
    go false l q = ltb-false places count l

some_speeds : (t : Table) → all is_one (speed_items t) ≡ true → (1 ≤ t.speed_count) × (t.speed_count ≤ most_speeds)
unfolding speed_items
some_speeds t e = go (eqb t.speed_count 0) refl e
  where
    go : (z : Bool) → eqb t.speed_count 0 ≡ z
        → all is_one
        (cond z (bad Refusal.Order ∷ [])
        (map (λ f. one (Record.F f)) (records_of t).speeds ++ beyond most_speeds t.speed_count Refusal.TooMany)) ≡ true
        → (1 ≤ t.speed_count) × (t.speed_count ≤ most_speeds)
    go true z q = absurd (false≢true q)
    go false z q =
        let n = eqb-false t.speed_count 0 z in
        (omega (arith, n), fits_places (map (λ f. one (Record.F f)) (records_of t).speeds) most_speeds t.speed_count Refusal.TooMany q)

items_within : (t : Table) (rs : List Record) → items_of t ≡ map one rs → WithinPlaces t × (1 ≤ t.speed_count)
unfolding items_of_up_to job_items_up_to hold_items
items_within t rs e =
    let (first, others) = all_parts (speed_items t) (job_items t ++ hold_items t) (ap (all is_one) e ∙ all_one rs) in
    let speeds = some_speeds t first in
    let (second, third) = all_parts (job_items t) (hold_items t) others in (
      record {
        speeds_fit = speeds.1;
        jobs_fit = fits_places (map (λ j. one (Record.J j)) (records_of t).jobs) most_jobs t.job_count Refusal.TooMany second;
        holds_fit = fits_places (map (λ h. one (Record.H h)) (records_of t).holds) most_holds t.hold_count Refusal.Order third;
      },
      speeds.0,
    )

take_some : {A : Type 0} (n : ℕ) (xs : List A) → 1 ≤ length (take n xs) → 1 ≤ n
take_some zero xs h = absurd (omega arith)
take_some (suc n) xs h = omega arith

speeds_counted : (t : Table) (r : Records) → records_of t ≡ r → 1 ≤ length r.speeds → 1 ≤ t.speed_count
unfolding records_of
speeds_counted t r e h = take_some t.speed_count t.speeds (rw (← e) at h)

-- The writer takes exactly the tables whose records are valid and whose counts are not beyond their places.
pub check_exactly : (t : Table) (r : Records) → (check t ≡ taken r) ↔ (Valid r × (records_of t ≡ r) × WithinPlaces t)
unfolding check_up_to
check_exactly t r = (
  λ e.
      let (v, lines) = (taken_exactly 1 (items_of t) r).0 e in
      let (fits, some_speed) = items_within t (lined r) lines in
      (v, lined_unique (records_of t) r (sym (items_lined t fits some_speed) ∙ lines), fits),
  λ e.
      let some_speed : 1 ≤ t.speed_count = speeds_counted t r e.1 e.0.some_speed in
      (taken_exactly 1 (items_of t) r).1 (e.0, items_lined t e.2 some_speed ∙ rw e.1),
)

pub check_refused : (t : Table) (why : Refusal) (line : ℕ) → (check t ≡ refused_at why line) ↔ Stopped 1 nothing (items_of t) why line
unfolding check_up_to
check_refused t why line = refused_where_stopped 1 nothing (items_of t) why line

-- The table of records holds these records, and where they are valid it has the places for them: resources that rise from
-- 1 to at most 32 are at most 32.
pub table_records : (r : Records) → records_of (table_of r) ≡ r
unfolding records_of table_of_up_to
table_records r = rw (take-append_seam r.speeds, take-append_seam r.jobs, take-append_seam r.holds)

pub valid_few_holds : {r : Records} → Valid r → length r.holds ≤ most_holds
valid_few_holds {r} v = go r.holds v.holds_rise v.hold_ranges
  where
    go : (hs : List Hold) → Rising (λ (h : Hold). h.resource) hs → Each (λ h. in_range (Record.H h) ≡ true) hs → length hs ≤ most_holds
    go [] rise ranges = omega arith
    go (h ∷ hs) rise (e and es) =
        omega
        (arith, hold_ranges h e, rising_length 32 rise (each_too (λ (h : Hold) e. (hold_ranges h e).resource_to) (e and es)))

pub table_fits : {r : Records} → Valid r → WithinPlaces (table_of r)
unfolding table_of_up_to
table_fits v = record { speeds_fit = v.few_speeds; jobs_fit = v.few_jobs; holds_fit = valid_few_holds v }

pub table_checked : {r : Records} → Valid r → check (table_of r) ≡ taken r
table_checked {r} v = (check_exactly (table_of r) r).1 (v, table_records r, table_fits v)

-- What is written of a valid table, where there is room: the text at the front of the buffer, all else as it was; the text
-- is read as the table's records again.
pub record WrittenBack (r : Records) (out : List ℕ) (after : AfterWriting) : Type 0 where
  pub answer_length : after.answer ≡ good (length (text_of r) ∷ [])
  pub front : take (length (text_of r)) after.out ≡ text_of r
  pub behind : drop (length (text_of r)) after.out ≡ drop (length (text_of r)) out
  pub same_length : length after.out ≡ length out
  pub read_again : read (take (length (text_of r)) after.out) ≡ taken r

text_written : (text out : List ℕ) → length text ≤ length out
    → written text out ≡ record { answer = good (length text ∷ []); out = text ++ drop (length text) out }
unfolding written
text_written text out room = rw (le-leb (length text) (length out) room)

pub written_back : (t : Table) (r : Records) (out : List ℕ) → check t ≡ taken r → length (text_of r) ≤ length out
    → WrittenBack r out (writing t out)
unfolding writing written_of
written_back t r out e room =
    let v = ((check_exactly t r).0 e).0 in
    let text = text_of r in
    rw (e, text_written text out room)
    (record {
      answer_length = refl;
      front = take-append_seam text (drop (length text) out);
      behind = drop-append_seam text (drop (length text) out);
      same_length = length-append text (drop (length text) out) ∙ rw (length-drop (length text) out) (omega arith);
      read_again = rw (take-append_seam text (drop (length text) out)) (text_read v);
    })

-- The answer to any table and buffer is a length exactly when the records are valid and there is room for their text.
pub written_exactly : (t : Table) (out : List ℕ) (n : ℕ) → ((writing t out).answer ≡ good (n ∷ []))
    ↔ ((r : Records) × (check t ≡ taken r) × (length (text_of r) ≡ n) × (n ≤ length out))
unfolding writing written_of written refused_out
written_exactly t out n = (
  λ e. from (check t) refl e,
  λ s. let (r, checked, long, room) = s in rw ((written_back t r out checked (rw long room)).answer_length, long),
)
  where
    text-of : (r : Records) → check t ≡ taken r → (room : Bool) → leb (length (text_of r)) (length out) ≡ room
        → (cond room (record { answer = good (length (text_of r) ∷ []); out = text_of r ++ drop (length (text_of r)) out }) (refused_out Refusal.Room 0 out)).answer ≡ good (n ∷ [])
        → (r : Records) × (check t ≡ taken r) × (length (text_of r) ≡ n) × (n ≤ length out)
    text-of r checked true room q =
        let long : length (text_of r) ≡ n = ap (λ (a : Answer). get_or a.values 0 0) q in
        (r, checked, long, rw long at (leb-true (length (text_of r)) (length out) room))
    text-of r checked false room q = absurd (omega (arith, ap (λ (a : Answer). a.number) q))

    from : (k : Taken) → check t ≡ k → (written_of k out).answer ≡ good (n ∷ [])
        → (r : Records) × (check t ≡ taken r) × (length (text_of r) ≡ n) × (n ≤ length out)
    from (taken r) checked q = text-of r checked (leb (length (text_of r)) (length out)) refl q
    from (refused_at why line) checked q = absurd (refusal_not_0 why (ap (λ (a : Answer). a.number) q))

-- So whatever was written, for any table and buffer, is read again as the table's records.
pub written_read_again : (t : Table) (out : List ℕ) (n : ℕ) → (writing t out).answer ≡ good (n ∷ [])
    → read (take n (writing t out).out) ≡ taken (records_of t)
written_read_again t out n e =
    let (r, checked, long, room) = (written_exactly t out n).0 e in go r checked long room
  where
    go : (r : Records) → check t ≡ taken r → length (text_of r) ≡ n → n ≤ length out
        → read (take n (writing t out).out) ≡ taken (records_of t)
    go r checked long room =
        rw (((check_exactly t r).0 checked).1, ← long) (written_back t r out checked (rw long room)).read_again
