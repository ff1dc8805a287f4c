-- The longest valid text has 3,653 bytes: a T of 30, 16 F of 15, 64 J of 48, and H of 10, but 9 where the resource is below
-- 10, and rising resources are those from 1 to 32 at most. One table has them all. Assumes nothing.
use mathlib.Core.Bool.{Bool, true, false, cond}
use mathlib.Core.List.{List, [], ◌∷◌, ◌++◌, map, append-nil}
use mathlib.Core.Path.{◌≡◌, refl}
use Prim.Native.Nat.{ℕ, zero, suc, ◌+◌, ◌*◌, ◌^◌, ◌≤◌, ◌<◌}
use native.Mathlib.Nat.{mul-suc}
use native.Mathlib.Omega.{arith}
use borrow.Author.Tests.{ltb-false, ltb-true}
use lib.Dec.{eqb, ltb}
use lib.ListN.{length, length-append}
use Rattle.grammar.specs.Longest.{most_bytes}
use Rattle.grammar.proofs.Accepted.{taken_exactly}
use Rattle.grammar.proofs.Decimal.{digits_of_length}
use Rattle.grammar.proofs.Ranges.{clock_ranges, hold_ranges, job_ranges, speed_ranges}
use Rattle.rules.specs.Lists.{Each, Rising, joined, none_left, one_element, ◌and◌, ◌below◌}
use Rattle.rules.specs.Refusals.{accept_up_to, added, and_then, asks_own, at_end, critical_after, fault_of_up_to, is_holder, judged, may_stand, nothing, one, out_of_order, out_of_range, own_request, rises, take_from, take_from_up_to, taken, too_many_up_to, unknown_job}
use Rattle.rules.specs.TableText.{Record, Records, digits_of, digits_within, in_range, is_budget, is_cost, is_cycles, is_job_number, is_mhz, is_request, is_resource, is_time, is_worth, letter_f, letter_h, letter_j, letter_t, line_feed, line_text, lined, most_cycles, most_holds, most_jobs, most_speeds, record_text, tab, text_of}
use Rattle.rules.specs.Valid.{Valid}
use Rattle.rules.specs.declared.Speed.{Speed}
use Rattle.rules.specs.declared.Job.{Job}
use Rattle.rules.specs.declared.Hold.{Hold}

-- A line: its letter and line feed, and for each number a tab and its digits.
abbrev pub with_digits : List ℕ → ℕ
with_digits [] = 2
with_digits (n ∷ ns) = 1 + length (digits_of n) + with_digits ns

pub line-length : (letter : ℕ) (ns : List ℕ) → length (line_text letter ns) ≡ with_digits ns
unfolding line_text
line-length letter ns = go ns
  where
    go : (ns : List ℕ) → suc (length (joined (λ n. tab ∷ digits_of n) ns ++ line_feed ∷ [])) ≡ with_digits ns
    go [] = refl
    go (n ∷ ns) =
        let more = joined (λ n. tab ∷ digits_of n) ns in
        omega
        (arith, go ns, length-append (digits_of n ++ more) (line_feed ∷ []), length-append (digits_of n) more, length-append more (line_feed ∷ []))

pub so_many_digits : (k n : ℕ) → k < 20 → n < 10 ^ suc k → length (digits_of n) ≤ suc k
so_many_digits k n a h = digits_of_length (suc k) n (omega arith) a h

clock_length : (clock budget : ℕ) → in_range (Record.T clock budget) ≡ true → length (record_text (Record.T clock budget)) ≤ 30
unfolding record_text
clock_length clock budget e =
    let h = clock_ranges clock budget e in
    rw (line-length letter_t (clock ∷ budget ∷ []))
    (omega (arith, so_many_digits 9 clock (omega arith) (omega arith), so_many_digits 15 budget (omega arith) (omega arith)))

speed_length : (f : Speed) → in_range (Record.F f) ≡ true → length (record_text (Record.F f)) ≤ 15
unfolding record_text
speed_length f e =
    let h = speed_ranges f e in
    rw (line-length letter_f (f.mhz ∷ f.cost ∷ []))
    (omega (arith, so_many_digits 3 f.mhz (omega arith) (omega arith), so_many_digits 6 f.cost (omega arith) (omega arith)))

job_length : (j : Job) → in_range (Record.J j) ≡ true → length (record_text (Record.J j)) ≤ 48
unfolding record_text
job_length j e =
    let h = job_ranges j e in
    let number = so_many_digits 3 j.number (omega arith) (omega arith) in
    let cycles = so_many_digits 6 j.cycles (omega arith) (omega arith) in
    let worth = so_many_digits 6 j.worth (omega arith) (omega arith) in
    let critical = so_many_digits 9 j.critical (omega arith) (omega arith) in
    let termination = so_many_digits 9 j.termination (omega arith) (omega arith) in
    let request = so_many_digits 1 j.request (omega arith) (omega arith) in
    rw (line-length letter_j (j.number ∷ j.cycles ∷ j.worth ∷ j.critical ∷ j.termination ∷ j.request ∷ []))
    (omega arith)

hold_length : (k : ℕ) (h : Hold) → in_range (Record.H h) ≡ true → k < 20 → h.resource < 10 ^ suc k
    → length (record_text (Record.H h)) ≤ 9 + k
unfolding record_text
hold_length k h e most l =
    let ranges = hold_ranges h e in
    rw (line-length letter_h (h.resource ∷ h.holder ∷ []))
    (omega (arith, so_many_digits k h.resource most l, so_many_digits 3 h.holder (omega arith) (omega arith)))

-- The lines of a letter.
lines_length : {A : Type 0} → (A → Record) → List A → ℕ
lines_length letter xs = length (joined record_text (map letter xs))

lines-length : {A : Type 0} (letter : A → Record) (most : ℕ) (xs : List A)
    → Each (λ x. in_range (letter x) ≡ true) xs
    → ((x : A) → in_range (letter x) ≡ true → length (record_text (letter x)) ≤ most)
    → lines_length letter xs ≤ most * length xs
unfolding lines_length
lines-length letter most [] none_left each = omega arith
lines-length letter most (x ∷ xs) (e and es) each =
    rw (length-append (record_text (letter x)) (joined record_text (map letter xs)))
    (omega (arith, each x e, lines-length letter most xs es each, mul-suc most (length xs)))

-- Holds from a resource on: each two-digit resource from there to 32 has at most 10 bytes, each below 10 at most 9.
abbrev HoldsFit : ℕ → ℕ → Type 0
HoldsFit resource bytes = (bytes + 10 * resource ≤ 330) × (bytes + 9 * resource ≤ 320)

one_hold_more : (h : Hold) (bytes : ℕ) → in_range (Record.H h) ≡ true → HoldsFit (h.resource + 1) bytes
    → HoldsFit h.resource (length (record_text (Record.H h)) + bytes)
one_hold_more h bytes e fits = go (ltb h.resource 10) refl
  where
    go : (t : Bool) → ltb h.resource 10 ≡ t → HoldsFit h.resource (length (record_text (Record.H h)) + bytes)
    go true short = omega (arith, hold_length 0 h e (omega arith) (ltb-true h.resource 10 short))
    go false long =
        let ranges = hold_ranges h e in
        omega (arith, hold_length 1 h e (omega arith) (omega arith), ltb-false h.resource 10 long)

holds_length_from : {h : Hold} {hs : List Hold} → Rising (λ (h : Hold). h.resource) (h ∷ hs)
    → Each (λ h. in_range (Record.H h) ≡ true) (h ∷ hs) → HoldsFit h.resource (lines_length Record.H (h ∷ hs))
unfolding lines_length
holds_length_from {h} one_element (e and none_left) =
    let ranges = hold_ranges h e in
    rw (append-nil (record_text (Record.H h))) (omega (arith, one_hold_more h 0 e (omega arith, omega arith)))
holds_length_from {h} (◌below◌ {y} {ys} l more) (e and es) =
    let others = holds_length_from more es in
    rw (length-append (record_text (Record.H h)) (joined record_text (map Record.H (y ∷ ys))))
    (one_hold_more h (lines_length Record.H (y ∷ ys)) e (omega arith, omega arith))

holds_length : (hs : List Hold) → Rising (λ (h : Hold). h.resource) hs → Each (λ h. in_range (Record.H h) ≡ true) hs
    → lines_length Record.H hs ≤ 311
unfolding lines_length
holds_length [] rise none_left = omega arith
holds_length (h ∷ hs) rise (e and es) = omega (arith, hold_ranges h e, holds_length_from rise (e and es))

joined_length : (rs ss : List Record)
    → length (joined record_text (rs ++ ss)) ≡ length (joined record_text rs) + length (joined record_text ss)
joined_length [] ss = omega arith
joined_length (r ∷ rs) ss =
    rw (length-append (record_text r) (joined record_text (rs ++ ss)), length-append (record_text r) (joined record_text rs), joined_length rs ss)
    (omega arith)

text-length : (r : Records) → length (text_of r)
    ≡ length (record_text (Record.T r.clock r.budget))
    + (lines_length Record.F r.speeds + (lines_length Record.J r.jobs + lines_length Record.H r.holds))
unfolding text_of lined lines_length
text-length r =
    let jobs = map Record.J r.jobs in
    let holds = map Record.H r.holds in
    let speeds = map Record.F r.speeds in
    rw (length-append (record_text (Record.T r.clock r.budget)) (joined record_text (speeds ++ (jobs ++ holds))), joined_length speeds (jobs ++ holds), joined_length jobs holds)

pub most-bytes : most_bytes ≡ 3653
most-bytes = refl

pub valid_text_length : {r : Records} → Valid r → length (text_of r) ≤ most_bytes
valid_text_length {r} v =
    let clock = clock_length r.clock r.budget v.clock_range in
    let speeds = lines-length Record.F 15 r.speeds v.speed_ranges speed_length in
    let jobs = lines-length Record.J 48 r.jobs v.job_ranges job_length in
    let holds = holds_length r.holds v.holds_rise v.hold_ranges in
    rw (text-length r) (omega arith)

-- A valid table with a text of that length: every line there can be, and each number as long as its range allows. All jobs
-- request resource 10, but for its holder.
abbrev row : {A : Type 0} → (ℕ → A) → ℕ → ℕ → List A
row f n zero = []
row f n (suc count) = f n ∷ row f (n + 1) count

abbrev pub longest : Records
longest = record {
  clock = 1000000000;
  budget = 10 ^ 15;
  speeds = row (λ n. record { mhz = n; cost = 4000000 }) 1000 most_speeds;
  jobs =
      row
      (λ n. record {
        number = n;
        cycles = most_cycles;
        worth = 1000000;
        critical = 1000000000;
        termination = 1000000000;
        request = cond (eqb n 1001) 11 10;
      })
      1000 most_jobs;
  holds = row (λ n. record { resource = n; holder = cond (eqb n 10) 1001 1000 }) 1 most_holds;
}

pub longest_valid : Valid longest
longest_valid = ((taken_exactly 1 (map one (lined longest)) longest).0 is-taken).0
  where
    is-taken : take_from 1 nothing (map one (lined longest)) ≡ taken longest
    is-taken =
        unfold take_from_up_to at_end and_then accept_up_to judged fault_of_up_to added nothing lined out_of_range out_of_order may_stand rises too_many_up_to critical_after unknown_job own_request is_holder asks_own in_range is_time is_budget is_mhz is_cost is_job_number is_cycles is_worth is_resource is_request in
        refl

pub longest_length : length (text_of longest) ≡ most_bytes
unfolding text_of lined record_text line_text digits_of digits_within
longest_length = refl
