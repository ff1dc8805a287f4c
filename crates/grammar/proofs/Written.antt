-- The text of records is read as these records, and a text read as records is their text: lines and fields come apart as
-- they were put together, and a line that has a shape is the line of its record. Assumes nothing.
use mathlib.Core.Bool.{Bool, true, false, cond}
use mathlib.Core.List.{List, [], ◌∷◌, ◌++◌, map, append-nil}
use mathlib.Core.Logic.{◌↔◌}
use mathlib.Core.Option.{Option, none, some, none-ne-some}
use mathlib.Core.Path.{◌≡◌, refl, sym, ap, ap₂, ◌∙◌}
use Prim.Native.Nat.{ℕ, ◌^◌, ◌≤◌, ◌<◌}
use native.Mathlib.Omega.{arith}
use borrow.Author.Tests.{eqb-true}
use lib.Dec.{eqb}
use lib.ListN.{length}
use lib.Seq.{append_snoc}
use Rattle.laws.proofs.Choices.{nothing_there, one_there}
use Rattle.grammar.proofs.Decimal.{digits_of_no_line_feed, digits_of_no_tab, number_in_digits_of}
use Rattle.grammar.proofs.DecimalBack.{number_in_tells}
use Rattle.laws.proofs.Elements.{each_append, each_map, each_too}
use Rattle.grammar.proofs.Letters.{Letter, firsts, firsts_all, is_F, is_H, is_J, is_T, is_none, which_letter}
use Rattle.grammar.proofs.Parted.{Without, parted_rejoined, parted_some, rejoined, rejoined_first, rejoined_parted, without_append}
use Rattle.grammar.proofs.Ranges.{clock_ranges, hold_ranges, job_ranges, speed_ranges}
use Rattle.rules.specs.Lists.{Each, joined, none_left, ◌and◌}
use Rattle.rules.specs.Refusals.{item_shaped, items_in, one}
use Rattle.rules.specs.TableText.{Record, Records, and_more, digits_of, field_count, fields_of, fields_record, in_range, letter_f, letter_h, letter_j, letter_record, letter_t, line_feed, line_text, lined, lines_of, most_digits, nth, number_in, numbers_in, parted_by, record_of, record_text, shape_of, tab, text_of, with_numbers}
use Rattle.rules.specs.Valid.{Valid}

-- a record's letter and numbers, and its line without the line feed
unfoldable pub record_letter : Record → ℕ
record_letter (Record.T clock budget) = letter_t
record_letter (Record.F f) = letter_f
record_letter (Record.J j) = letter_j
record_letter (Record.H h) = letter_h

unfoldable pub field_numbers : Record → List ℕ
field_numbers (Record.T clock budget) = clock ∷ budget ∷ []
field_numbers (Record.F f) = f.mhz ∷ f.cost ∷ []
field_numbers (Record.J j) = j.number ∷ j.cycles ∷ j.worth ∷ j.critical ∷ j.termination ∷ j.request ∷ []
field_numbers (Record.H h) = h.resource ∷ h.holder ∷ []

unfoldable pub bare_line : Record → List ℕ
bare_line r = rejoined tab ((record_letter r ∷ []) ∷ map digits_of (field_numbers r))

-- each number behind a tab is the numbers' digits with tabs between
tabs_between : (p : List ℕ) (ns : List ℕ) → rejoined tab (p ∷ map digits_of ns) ≡ p ++ joined (λ n. tab ∷ digits_of n) ns
unfolding rejoined
tabs_between p [] = sym (append-nil p)
tabs_between p (n ∷ ns) = rw (tabs_between (digits_of n) ns)

bare-line : (r : Record) → bare_line r ≡ record_letter r ∷ joined (λ n. tab ∷ digits_of n) (field_numbers r)
unfolding bare_line
bare-line r = tabs_between (record_letter r ∷ []) (field_numbers r)

letter_line : (r : Record) → record_text r ≡ line_text (record_letter r) (field_numbers r)
unfolding record_text record_letter field_numbers
letter_line (Record.T clock budget) = refl
letter_line (Record.F f) = refl
letter_line (Record.J j) = refl
letter_line (Record.H h) = refl

pub record_line : (r : Record) → record_text r ≡ bare_line r ++ line_feed ∷ []
unfolding line_text
record_line r = letter_line r ∙ rw (bare-line r)

-- The text of records is their lines, each with a line feed behind it: nothing stands behind the last.
abbrev pub lines_and : List Record → List (List ℕ)
lines_and rs = map bare_line rs ++ [] ∷ []

lines_some : (rs : List Record) → 1 ≤ length (lines_and rs)
lines_some [] = omega arith
lines_some (r ∷ rs) = omega arith

records_lines : (rs : List Record) → joined record_text rs ≡ rejoined line_feed (lines_and rs)
unfolding rejoined
records_lines [] = refl
records_lines (r ∷ rs) =
    rw (rejoined_first line_feed (bare_line r) (lines_and rs) (lines_some rs), ← records_lines rs, record_line r)
    (append_snoc (bare_line r) line_feed (joined record_text rs))

-- Neither a letter nor a number's digits hold a tab or a line feed.
letter_without : (r : Record) → Without tab (record_letter r ∷ []) × (eqb (record_letter r) line_feed ≡ false)
unfolding record_letter
letter_without (Record.T clock budget) = (refl, refl)
letter_without (Record.F f) = (refl, refl)
letter_without (Record.J j) = (refl, refl)
letter_without (Record.H h) = (refl, refl)

fields_without : (ns : List ℕ) → Each (Without tab) (map digits_of ns)
fields_without [] = none_left
fields_without (n ∷ ns) = digits_of_no_tab n and fields_without ns

numbers_without : (ns : List ℕ) → Without line_feed (joined (λ n. tab ∷ digits_of n) ns)
numbers_without [] = refl
numbers_without (n ∷ ns) = without_append line_feed (digits_of n) _ (digits_of_no_line_feed n) (numbers_without ns)

line_without : (r : Record) → Without line_feed (bare_line r)
line_without r = rw (bare-line r, (letter_without r).1) (numbers_without (field_numbers r))

lines_without : (rs : List Record) → Each (Without line_feed) (lines_and rs)
lines_without [] = refl and none_left
lines_without (r ∷ rs) = line_without r and lines_without rs

pub records_parted : (rs : List Record) → lines_of (joined record_text rs) ≡ lines_and rs
unfolding lines_of
records_parted rs =
    rw (records_lines rs) (rejoined_parted line_feed (lines_and rs) (lines_some rs) (lines_without rs))

pub line_parted : (r : Record) → fields_of (bare_line r) ≡ (record_letter r ∷ []) ∷ map digits_of (field_numbers r)
unfolding fields_of bare_line
line_parted r = rejoined_parted tab _ (omega arith) ((letter_without r).0 and fields_without (field_numbers r))

-- each number of the record has at most 16 digits
abbrev pub Short : Record → Type 0
Short r = Each (λ n. n < 10 ^ most_digits) (field_numbers r)

-- Fields are read as numbers exactly where they are the digits of these, at most 16 each.
numbers_again : (ns : List ℕ) → Each (λ n. n < 10 ^ most_digits) ns → numbers_in (map digits_of ns) ≡ some ns
unfolding numbers_in and_more
numbers_again [] none_left = refl
numbers_again (n ∷ ns) (h and hs) = rw (number_in_digits_of n h, numbers_again ns hs)

numbers_tell : (fs : List (List ℕ)) (ns : List ℕ) → numbers_in fs ≡ some ns → (fs ≡ map digits_of ns) × Each (λ n. n < 10 ^ most_digits) ns
unfolding numbers_in and_more
numbers_tell [] ns e = let none_read : [] ≡ ns = cc in rw (← none_read) (refl, none_left)
numbers_tell (f ∷ fs) ns e = go (number_in f) refl (numbers_in fs) refl e (λ ms. numbers_tell fs ms)
  where
    go : (o : Option ℕ) → number_in f ≡ o → (os : Option (List ℕ)) → numbers_in fs ≡ os → and_more o os ≡ some ns
        → ((ms : List ℕ) → numbers_in fs ≡ some ms → (fs ≡ map digits_of ms) × Each (λ n. n < 10 ^ most_digits) ms)
        → (f ∷ fs ≡ map digits_of ns) × Each (λ n. n < 10 ^ most_digits) ns
    go none p os q e more = absurd (none-ne-some ns e)
    go (some n) p none q e more = absurd (none-ne-some ns e)
    go (some n) p (some ms) q e more =
        let all_read : n ∷ ms ≡ ns = cc in
        let first = number_in_tells f n p in
        let others = more ms q in
        rw (← all_read) (ap₂ ◌∷◌ (sym first.1) others.0, first.0 and others.1)

-- the numbers of which a letter makes a record are the record's
letter_tells : (b : ℕ) (ns : List ℕ) (r : Record) → Letter b → length ns ≡ field_count b → letter_record b ns ≡ some r
    → (b ≡ record_letter r) × (ns ≡ field_numbers r)
unfolding field_count letter_record record_letter field_numbers
letter_tells b ns r l long made = go l
  where
    is_made : (s : Record) → letter_record b ns ≡ some s → (b ≡ record_letter s) × (ns ≡ field_numbers s)
        → (b ≡ record_letter r) × (ns ≡ field_numbers r)
    is_made s q h = let same : s ≡ r = one_there q made in rw same at h

    so_many : {count : ℕ} → field_count b ≡ count → ns ≡ firsts count (nth ns)
    so_many e = rw (long ∙ e) at (firsts_all ns)

    go : Letter b → (b ≡ record_letter r) × (ns ≡ field_numbers r)
    go (is_T l) = is_made _ (ap (λ c. letter_record c ns) l) (l, so_many (ap field_count l))
    go (is_F l) = is_made _ (ap (λ c. letter_record c ns) l) (l, so_many (ap field_count l))
    go (is_J l) = is_made _ (ap (λ c. letter_record c ns) l) (l, so_many (ap field_count l))
    go (is_H l) = is_made _ (ap (λ c. letter_record c ns) l) (l, so_many (ap field_count l))
    go (is_none _ none_made) = nothing_there made (none_made ns)

record_tells : (letter : ℕ) (ns : List ℕ) (r : Record) → record_of letter ns ≡ some r → (letter ≡ record_letter r) × (ns ≡ field_numbers r)
unfolding record_of
record_tells b ns r e = go (eqb (length ns) (field_count b)) refl e
  where
    go : (t : Bool) → eqb (length ns) (field_count b) ≡ t → cond t (letter_record b ns) none ≡ some r
        → (b ≡ record_letter r) × (ns ≡ field_numbers r)
    go true long made = letter_tells b ns r (which_letter b) (eqb-true (length ns) (field_count b) long) made
    go false long made = absurd (none-ne-some r made)

record_again : (r : Record) → record_of (record_letter r) (field_numbers r) ≡ some r
unfolding field_count letter_record record_of record_letter field_numbers
record_again (Record.T clock budget) = refl
record_again (Record.F f) = refl
record_again (Record.J j) = refl
record_again (Record.H h) = refl

fields_tell : (fs : List (List ℕ)) (r : Record) → fields_record fs ≡ some r
    → (fs ≡ (record_letter r ∷ []) ∷ map digits_of (field_numbers r)) × Short r
unfolding fields_record with_numbers
fields_tell [] r e = absurd (none-ne-some r e)
fields_tell ([] ∷ fs) r e = absurd (none-ne-some r e)
fields_tell ((letter ∷ []) ∷ fs) r e = go (numbers_in fs) refl e
  where
    go : (o : Option (List ℕ)) → numbers_in fs ≡ o → with_numbers letter o ≡ some r
        → ((letter ∷ []) ∷ fs ≡ (record_letter r ∷ []) ∷ map digits_of (field_numbers r)) × Short r
    go none p q = absurd (none-ne-some r q)
    go (some ns) p q =
        let told = record_tells letter ns r q in
        let numbers = numbers_tell fs ns p in
        rw (← told.0, ← told.1) (ap (λ gs. (letter ∷ []) ∷ gs) numbers.0, numbers.1)
fields_tell ((a ∷ (b ∷ bs)) ∷ fs) r e = absurd (none-ne-some r e)

shape_tells : (l : List ℕ) (r : Record) → shape_of l ≡ some r → (l ≡ bare_line r) × Short r
unfolding shape_of fields_of bare_line
shape_tells l r e =
    let told = fields_tell (parted_by tab l) r e in
    (sym (parted_rejoined tab l) ∙ ap (rejoined tab) told.0, told.1)

-- A line has the shape of a record exactly when it is the record's line, with at most 16 digits a number.
pub shape_exactly : (l : List ℕ) (r : Record) → (shape_of l ≡ some r) ↔ ((l ≡ bare_line r) × Short r)
unfolding shape_of fields_record with_numbers
shape_exactly l r =
    (shape_tells l r, λ e. rw (e.0, line_parted r, numbers_again (field_numbers r) e.1) (record_again r))

items_first : (l : List ℕ) (ls : List (List ℕ)) → 1 ≤ length ls → items_in (l ∷ ls) ≡ item_shaped (shape_of l) ∷ items_in ls
unfolding items_in
items_first l [] h = absurd (omega arith)
items_first l (m ∷ ls) h = refl

lines_items : (rs : List Record) → Each Short rs → items_in (lines_and rs) ≡ map one rs
unfolding items_in item_shaped
lines_items [] none_left = refl
lines_items (r ∷ rs) (e and es) =
    rw (items_first (bare_line r) (lines_and rs) (lines_some rs), (shape_exactly (bare_line r) r).1 (refl, e), lines_items rs es)

shaped_tells : (o : Option Record) (r : Record) → item_shaped o ≡ one r → o ≡ some r
unfolding item_shaped
shaped_tells none r e = let z : ◌≡◌ {A = ℕ} 0 1 = cc in absurd (omega arith)
shaped_tells (some s) r e = cc

items_tell : (ls : List (List ℕ)) (rs : List Record) → 1 ≤ length ls → items_in ls ≡ map one rs → (ls ≡ lines_and rs) × Each Short rs
unfolding items_in
items_tell [] rs h e = absurd (omega arith)
items_tell ([] ∷ []) [] h e = (refl, none_left)
items_tell ([] ∷ []) (r ∷ rs) h e = let z : ◌≡◌ {A = ℕ} 0 1 = cc in absurd (omega arith)
items_tell ((x ∷ l) ∷ []) [] h e = let z : ◌≡◌ {A = ℕ} 0 1 = cc in absurd (omega arith)
items_tell ((x ∷ l) ∷ []) (r ∷ rs) h e = let z : ◌≡◌ {A = ℕ} 0 1 = cc in absurd (omega arith)
items_tell (l ∷ (m ∷ ls)) [] h e = let z : ◌≡◌ {A = ℕ} 0 1 = cc in absurd (omega arith)
items_tell (l ∷ (m ∷ ls)) (r ∷ rs) h e =
    let shaped : item_shaped (shape_of l) ≡ one r = cc in
    let first = (shape_exactly l r).0 (shaped_tells (shape_of l) r shaped) in
    let others = items_tell (m ∷ ls) rs (omega arith) (cc) in
    (ap₂ ◌∷◌ first.0 others.0, first.1 and others.1)

-- A text is read as records, a line each, exactly when it is the text of these records, with at most 16 digits a number.
pub items_exactly : (text : List ℕ) (rs : List Record)
    → (items_in (lines_of text) ≡ map one rs) ↔ ((text ≡ joined record_text rs) × Each Short rs)
unfolding lines_of
items_exactly text rs = (
  λ e.
      let told = items_tell (parted_by line_feed text) rs (parted_some line_feed text) e in
      (sym (parted_rejoined line_feed text) ∙ ap (rejoined line_feed) told.0 ∙ sym (records_lines rs), told.1),
  λ e. rw (e.0, records_parted rs) (lines_items rs e.1),
)

-- Numbers in their ranges have at most 16 digits.
short_more : (n : ℕ) {ns : List ℕ} → n < 10 ^ most_digits → Each (λ n. n < 10 ^ most_digits) ns → Each (λ n. n < 10 ^ most_digits) (n ∷ ns)
short_more n h hs = h and hs

pub in_range_short : (r : Record) → in_range r ≡ true → Short r
unfolding field_numbers
in_range_short (Record.T clock budget) e =
    let h = clock_ranges clock budget e in short_more clock (omega arith) (short_more budget (omega arith) none_left)
in_range_short (Record.F f) e =
    let h = speed_ranges f e in short_more f.mhz (omega arith) (short_more f.cost (omega arith) none_left)
in_range_short (Record.J j) e =
    let h = job_ranges j e in
    short_more j.number (omega arith)
    (short_more j.cycles (omega arith)
    (short_more j.worth (omega arith)
    (short_more j.critical (omega arith)
    (short_more j.termination (omega arith) (short_more j.request (omega arith) none_left)))))
in_range_short (Record.H s) e =
    let h = hold_ranges s e in short_more s.resource (omega arith) (short_more s.holder (omega arith) none_left)

pub valid_in_range : {r : Records} → Valid r → Each (λ x. in_range x ≡ true) (lined r)
unfolding lined
valid_in_range v =
    v.clock_range
    and each_append (each_map Record.F v.speed_ranges) (each_append (each_map Record.J v.job_ranges) (each_map Record.H v.hold_ranges))

-- So the text of valid records is read as these records.
pub valid_items : {r : Records} → Valid r → items_in (lines_of (text_of r)) ≡ map one (lined r)
unfolding text_of
valid_items {r} v = (items_exactly (text_of r) (lined r)).1 (refl, each_too in_range_short (valid_in_range v))
