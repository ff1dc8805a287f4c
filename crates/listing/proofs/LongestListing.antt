-- How long a listing is at most. A P is no longer than that of all jobs with the most cycles, at the highest speed and cost. For
-- each job of the table there is an X of at most 9 bytes, or an O of at most 17, but 18 where the finish is the last time there
-- is, which alone has 10 digits: no finish is after it. Such a finish have at most 4: rounded up, they all end in one
-- millisecond, which has no more than 4 cycles. A refusal stands at the latest behind the lines that a table has at most, and
-- its line has at most 9 bytes. One table has the most of all. Assumes nothing.
use mathlib.Core.Bool.{true}
use mathlib.Core.List.{List, [], ◌∷◌, ◌++◌, map}
use mathlib.Core.Path.{◌≡◌, refl, ap, ◌∙◌}
use Prim.Native.Nat.{ℕ, zero, suc, min, ◌+◌, ◌-◌, ◌*◌, ◌/◌, ◌^◌, ◌≤◌, ◌<◌}
use native.Mathlib.Nat.{mul_comm, mul-div-le, mul-le-mul, mul-le-mul_right, mul-suc}
use native.Mathlib.Omega.{arith}
use borrow.Author.Tests.{ltb-false, ltb-true}
use lib.Dec.{eqb, ltb}
use lib.ListN.{length, length-append}
use Rattle.grammar.proofs.BudgetBeside.{valid_at}
use Rattle.grammar.proofs.Accepted.{Reachable, clock_read, nothing_read, reached_standing, taken_exactly, valid}
use Rattle.laws.proofs.Choices.{split}
use Rattle.laws.proofs.Costs.{rounded_up_enough}
use Rattle.laws.proofs.Elements.{each_too}
use Rattle.grammar.proofs.Longest.{line-length, so_many_digits, with_digits}
use Rattle.laws.proofs.Lookups.{each_both, each_keep, length-map}
use Rattle.steps.proofs.Planned.{each_fated, each_planned, plan_counts_ones}
use Rattle.grammar.proofs.Ranges.{job_ranges}
use Rattle.steps.proofs.Speeds.{finish_in_time, plan_speed_in_range}
use lib.Seq.{take-length}
use Rattle.grammar.proofs.Decimal.{digits_of_at_most_20, digits_of_digits, digits_of_length, digits_of_some, value_digits_of}
use Rattle.grammar.proofs.DecimalBack.{value_below}
use Rattle.grammar.proofs.Stopped.{Reached, Stopped, at_item, at_items_end, refused_where_stopped}
use Rattle.grammar.proofs.Tables.{job, speed, table}
use Rattle.steps.proofs.Fates.{fates_1_to_6}
use Rattle.laws.proofs.Tests.{both_true, within_true}
use Rattle.grammar.proofs.Trips.{valid_few_holds, text_read}
use Rattle.rules.specs.Answers.{number_of}
use Rattle.rules.specs.Case.{right}
use Rattle.rules.specs.Costs.{rounded_up}
use Rattle.rules.specs.Listing.{fate_line, finish, letter_o, letter_p, letter_r, letter_x, lines_for, listed_with, listing_of, order_line, plan_line, plan_lines, unplanned}
use Rattle.rules.specs.Lists.{Each, joined, keep, none_left, ◌and◌}
use Rattle.rules.specs.Plan.{Fated, Run, at_budget, cycles_of, energy_at, fate_planned, fates_of, plan_from, plan_of, runs_from, runs_of}
use Rattle.rules.specs.Refusals.{Before, Item, Taken, nothing, one, read, read_up_to, refused_at, taken, items_in, take_from}
use Rattle.rules.specs.TableText.{Record, Records, in_range, is_budget, is_cycles, is_job_number, is_request, is_time, is_worth, line_text, lined, lines_of, most_cycles, most_jobs, text_of, digits_of, digits_within, most_holds, most_speeds, most_mhz, most_time, most_cost, with_budget}
use Rattle.rules.specs.Valid.{Valid}
use Rattle.rules.specs.declared.Job.{Job}
use Rattle.rules.specs.declared.Refusal.{Refusal}

lines-length : {A : Type 0} (line : A → List ℕ) (most : ℕ) {xs : List A} → Each (λ x. length (line x) ≤ most) xs
    → length (joined line xs) ≤ most * length xs
lines-length line most none_left = omega arith
lines-length line most (◌and◌ {x} {xs} h hs) =
    rw (length-append (line x) (joined line xs)) (omega (arith, lines-length line most hs, mul-suc most (length xs)))

-- a number has no more digits than one that it is not above
digits_at_most : (most n : ℕ) → most < 10 ^ 20 → n ≤ most → length (digits_of n) ≤ length (digits_of most)
digits_at_most most n small h =
    let ds = digits_of most in
    let below : most < 10 ^ length ds =
    rw (take-length ds, value_digits_of most small) at (value_below ds (digits_of_digits most) (length ds) (omega arith)) in
    digits_of_length (length ds) n (digits_of_some most) (digits_of_at_most_20 most) (omega arith)

-- All jobs with the most cycles, at the highest cost.
abbrev most_energy : ℕ
most_energy = most_cycles * most_jobs * most_cost

abbrev most_plan_line : ℕ
most_plan_line = with_digits (most_mhz ∷ most_energy ∷ most_jobs ∷ [])

-- The bytes of the longest listing: the one figure that a table of more jobs would change.
abbrev pub most_listed : ℕ
most_listed = 1118

most-listed : most_plan_line + (17 * most_jobs + 4) ≡ most_listed
unfolding digits_of digits_within
most-listed = refl

-- The three kinds of line, and the refusal's.
plan_line_length : (mhz energy count : ℕ) → mhz ≤ most_mhz → energy ≤ most_energy → count ≤ most_jobs
    → length (line_text letter_p (mhz ∷ energy ∷ count ∷ [])) ≤ most_plan_line
plan_line_length mhz energy count h k l =
    rw (line-length letter_p (mhz ∷ energy ∷ count ∷ []))
    (omega (
      arith,
      digits_at_most most_mhz mhz (omega arith) h,
      digits_at_most most_energy energy (omega arith) k,
      digits_at_most most_jobs count (omega arith) l,
    ))

order_line_length : (k clock mhz : ℕ) (r : Run) → in_range (Record.J r.job) ≡ true → k < 20
    → finish clock mhz r < 10 ^ suc k → length (order_line clock mhz r) ≤ 9 + k
unfolding order_line
order_line_length k clock mhz r e most h =
    let ranges = job_ranges r.job e in
    let four = so_many_digits 3 r.job.number (omega arith) (omega arith) in
    let finishing = so_many_digits k (finish clock mhz r) most h in
    rw (line-length letter_o (r.job.number ∷ finish clock mhz r ∷ [])) (omega arith)

fate_line_length : (i : Fated) → in_range (Record.J i.job) ≡ true → i.fate ≤ 6 → length (fate_line i) ≤ 9
unfolding fate_line
fate_line_length i e h =
    let ranges = job_ranges i.job e in
    let four = so_many_digits 3 i.job.number (omega arith) (omega arith) in
    let single = so_many_digits 0 i.fate (omega arith) (omega arith) in
    rw (line-length letter_x (i.job.number ∷ i.fate ∷ [])) (omega arith)

-- A T, and the F, J and H that a table has at most.
abbrev most_lines : ℕ
most_lines = 1 + (most_speeds + (most_jobs + most_holds))

refusal_line_length : (number line : ℕ) → number ≤ 10 → line ≤ suc most_lines → length (line_text letter_r (number ∷ line ∷ [])) ≤ 9
refusal_line_length number line h k =
    let two = so_many_digits 1 number (omega arith) (omega arith) in
    let three = so_many_digits 2 line (omega arith) (omega arith) in
    rw (line-length letter_r (number ∷ line ∷ [])) (omega arith)

-- Each job with its fate is planned or unplanned.
planned_and_unplanned : (is : List Fated)
    → length (keep (λ f. eqb f fate_planned) (fates_of is)) + length (keep unplanned is) ≡ length is
unfolding fates_of unplanned
planned_and_unplanned [] = refl
planned_and_unplanned (i ∷ is) =
    split (eqb i.fate fate_planned) (λ h. rw h (omega (arith, planned_and_unplanned is)))
    (λ h. rw h (omega (arith, planned_and_unplanned is)))

each_run : {P : Job → Type 0} (cycles : ℕ) {js : List Job} → Each P js → Each (λ (r : Run). P r.job) (runs_from cycles js)
unfolding runs_from
each_run cycles none_left = none_left
each_run cycles (◌and◌ {x} p ps) = p and each_run (cycles + x.cycles) ps

runs_length : (cycles : ℕ) (js : List Job) → length (runs_from cycles js) ≡ length js
unfolding runs_from
runs_length cycles [] = refl
runs_length cycles (j ∷ js) = omega (arith, runs_length (cycles + j.cycles) js)

some_cycle : (j : Job) → in_range (Record.J j) ≡ true → 1 ≤ j.cycles
unfolding in_range is_cycles
some_cycle j e =
    let six = both_true _ (is_request j.request) e in
    let five = both_true _ (is_time j.termination) six.0 in
    let four = both_true _ (is_time j.critical) five.0 in
    let three = both_true _ (is_worth j.worth) four.0 in
    (within_true 1 most_cycles j.cycles (both_true (is_job_number j.number) (is_cycles j.cycles) three.0).1).0

-- each job behind a run takes a cycle more
cycles_behind : (bound before : ℕ) {js : List Job} → Each (λ j. in_range (Record.J j) ≡ true) js
    → Each (λ (r : Run). r.cycles_by_end * 1000 ≤ bound) (runs_from before js) → before * 1000 ≤ bound
    → (before + length js) * 1000 ≤ bound
unfolding runs_from
cycles_behind bound before none_left none_left h = omega arith
cycles_behind bound before (◌and◌ {x} {xs} p ps) (e and es) h =
    omega (arith, some_cycle x p, cycles_behind bound (before + x.cycles) ps es e)

module _ (clock mhz : ℕ) (some_mhz : 1 ≤ mhz) (few_mhz : mhz ≤ most_mhz) where
  -- the cycles of a run that ends by the last time, where ms are as many as there are from the clock to it, or more
  within_last : (ms : ℕ) (r : Run) → finish clock mhz r ≤ most_time → most_time ≤ clock + ms → r.cycles_by_end * 1000 ≤ ms * mhz
  unfolding finish
  within_last ms r h l =
      let by_end = r.cycles_by_end * 1000 in
      let no_more : rounded_up by_end mhz ≤ ms = omega arith in
      omega (arith, rounded_up_enough by_end mhz some_mhz, mul-le-mul_right mhz no_more)

  rounded_up_close : (a : ℕ) → rounded_up a mhz * mhz < a + mhz
  unfolding rounded_up
  rounded_up_close a =
      omega (arith, mul-div-le (a + (mhz - 1)) mhz, mul_comm mhz ((a + (mhz - 1)) / mhz))

  -- behind a run that finishes at the last time there are at most 3
  few_behind : (r : Run) {js : List Job} → most_time ≤ finish clock mhz r → finish clock mhz r ≤ most_time
      → Each (λ j. in_range (Record.J j) ≡ true) js
      → Each (λ (later : Run). finish clock mhz later ≤ most_time) (runs_from r.cycles_by_end js) → length js ≤ 3
  unfolding finish
  few_behind r l h ps es =
      let by_end = r.cycles_by_end in
      let ms = rounded_up (by_end * 1000) mhz in
      let behind = cycles_behind (ms * mhz) by_end ps (each_too (λ later e. within_last ms later e l) es) (within_last ms r h l) in
      omega (arith, behind, rounded_up_close (by_end * 1000))

  order_lines_length : (before : ℕ) {js : List Job} → Each (λ j. in_range (Record.J j) ≡ true) js
      → Each (λ (r : Run). finish clock mhz r ≤ most_time) (runs_from before js)
      → length (joined (order_line clock mhz) (runs_from before js)) ≤ 17 * length js + 4
  unfolding runs_from
  order_lines_length before none_left none_left = omega arith
  order_lines_length before (◌and◌ {x} {xs} p ps) (e and es) =
      let r : Run = record { job = x; cycles_by_end = before + x.cycles } in
      let others = runs_from (before + x.cycles) xs in
      rw (length-append (order_line clock mhz r) (joined (order_line clock mhz) others))
      (split (ltb (finish clock mhz r) most_time)
      (λ early. omega (
        arith,
        order_line_length 8 clock mhz r p (omega arith) (ltb-true (finish clock mhz r) most_time early),
        order_lines_length (before + x.cycles) ps es,
        mul-suc 17 (length xs),
      ))
      (λ last. omega (
        arith,
        order_line_length 9 clock mhz r p (omega arith) (omega (arith, e)),
        lines-length (order_line clock mhz) 18
            (each_both (λ later q h. order_line_length 9 clock mhz later q (omega arith) (omega (arith, h))) (each_run (before + x.cycles) ps) es),
        runs_length (before + x.cycles) xs,
        few_behind r (ltb-false (finish clock mhz r) most_time last) e ps es,
      )))

-- The cycles of a plan.
cycles_length : {js : List Job} → Each (λ j. in_range (Record.J j) ≡ true) js → cycles_of js ≤ most_cycles * length js
unfolding cycles_of
cycles_length none_left = omega arith
cycles_length (◌and◌ {x} {xs} p ps) = omega (arith, (job_ranges x p).cycles_to, cycles_length ps, mul-suc most_cycles (length xs))

module _ (t : Records) (v : Valid t) where
  fates_length : length (plan_of t).fates ≡ length t.jobs
  unfolding plan_of plan_from
  fates_length = length-map _ t.jobs

  jobs_apart : length (plan_of t).jobs + length (keep unplanned (plan_of t).fates) ≡ length t.jobs
  jobs_apart = omega (arith, planned_and_unplanned (plan_of t).fates, plan_counts_ones t v, fates_length)

  few_planned : length (plan_of t).jobs ≤ most_jobs
  few_planned = omega (arith, jobs_apart, v.few_jobs)

  energy_small : (plan_of t).energy ≤ most_energy
  unfolding plan_of plan_from energy_at
  energy_small =
      let cycles : cycles_of (plan_of t).jobs ≤ most_cycles * most_jobs =
      omega (arith, cycles_length (each_planned t v v.job_ranges), few_planned) in
      omega (arith, mul-le-mul cycles (plan_speed_in_range t v).cost_to)

  plan-first : length (plan_line (plan_of t)) ≤ most_plan_line
  unfolding plan_line
  plan-first =
      plan_line_length (plan_of t).speed.mhz (plan_of t).energy (length (plan_of t).jobs) (plan_speed_in_range t v).mhz_to energy_small
      few_planned

  orders_length : length (joined (order_line t.clock (plan_of t).speed.mhz) (runs_of (plan_of t).jobs))
      ≤ 17 * length (plan_of t).jobs + 4
  unfolding runs_of
  orders_length =
      order_lines_length t.clock (plan_of t).speed.mhz (plan_speed_in_range t v).mhz_from (plan_speed_in_range t v).mhz_to 0
      (each_planned t v v.job_ranges)
      (each_both (λ r e h. omega (arith, (job_ranges r.job e).termination_to, h)) (each_run 0 (each_planned t v v.job_ranges))
      (finish_in_time t v))

  unplanned_length : length (joined fate_line (keep unplanned (plan_of t).fates))
      ≤ 9 * length (keep unplanned (plan_of t).fates)
  unplanned_length =
      lines-length fate_line 9
      (each_keep unplanned
      (each_both (λ i e h. fate_line_length i e h.1) (each_fated t v.job_ranges) (fates_1_to_6 t v)))

  -- The lines of a plan.
  pub longest_plan_lines : length (plan_lines t.clock (plan_of t)) ≤ most_listed
  unfolding plan_lines
  longest_plan_lines =
      let orders = joined (order_line t.clock (plan_of t).speed.mhz) (runs_of (plan_of t).jobs) in
      let others = joined fate_line (keep unplanned (plan_of t).fates) in
      rw (length-append (plan_line (plan_of t)) (orders ++ others), length-append orders others)
      (omega (arith, plan-first, orders_length, unplanned_length, jobs_apart, v.few_jobs, most-listed))

-- The lines accepted before a refusal.
lined_length : (r : Records)
    → length (lined r) ≡ 1 + (length r.speeds + (length r.jobs + length r.holds))
unfolding lined
lined_length r =
    let speeds = map Record.F r.speeds in
    let jobs = map Record.J r.jobs in
    let holds = map Record.H r.holds in
    omega
    (arith, length-append speeds (jobs ++ holds), length-append jobs holds, length-map Record.F r.speeds, length-map Record.J r.jobs, length-map Record.H r.holds)

standing_few : {b : Before} {rs : List Record} → Reachable b rs → length rs ≤ most_lines
standing_few nothing_read = omega arith
standing_few (clock_read e) = omega arith
standing_few (valid {r} v) = omega (arith, lined_length r, v.few_speeds, v.few_jobs, valid_few_holds v)

reached_few : {items : List Item} {last : Before} → Reached nothing items last → length items ≤ most_lines
reached_few reached =
    let (rs, same, stands) = reached_standing nothing_read reached in
    rw same (omega (arith, length-map one rs, standing_few stands))

pub refused_by_last_line : (text : List ℕ) (why : Refusal) (line : ℕ) → read text ≡ refused_at why line → line ≤ suc most_lines
unfolding read_up_to
refused_by_last_line text why line e = go ((refused_where_stopped 1 nothing (items_in (lines_of text)) why line).0 e)
  where
    go : Stopped 1 nothing (items_in (lines_of text)) why line → line ≤ suc most_lines
    go (at_item front rest i last split reached refusal stands) = omega (arith, reached_few reached)
    go (at_items_end last reached no-speed is_order stands) = omega (arith, reached_few reached)

refusal_number : (why : Refusal) → number_of why ≤ 10
refusal_number Refusal.Shape = omega arith
refusal_number Refusal.Range = omega arith
refusal_number Refusal.Order = omega arith
refusal_number Refusal.TooMany = omega arith
refusal_number Refusal.CriticalAfterTermination = omega arith
refusal_number Refusal.UnknownJob = omega arith
refusal_number Refusal.OwnRequest = omega arith
refusal_number Refusal.Room = omega arith
refusal_number Refusal.Model = omega arith
refusal_number Refusal.Allocation = omega arith

taken_valid : (text : List ℕ) (t : Records) → read text ≡ taken t → Valid t
unfolding read_up_to
taken_valid text t e = ((taken_exactly 1 (items_in (lines_of text)) t).0 e).0

longest_plan : (t : Records) → Valid t → length (lines_for (taken t)) ≤ most_listed
unfolding lines_for
longest_plan t v = longest_plan_lines t v

longest_refusal : (why : Refusal) (line : ℕ) → line ≤ suc most_lines → length (lines_for (refused_at why line)) ≤ most_listed
unfolding lines_for
longest_refusal why line h = omega (arith, refusal_line_length (number_of why) line (refusal_number why) h)

-- Whatever the text, and whatever the budget beside it, the listing has no more bytes.
pub longest_listing : (text : List ℕ) → length (listing_of text) ≤ most_listed
unfolding listing_of
longest_listing text = go (read text) refl
  where
    go : (answer : Taken) → read text ≡ answer → length (lines_for answer) ≤ most_listed
    go (taken t) e = longest_plan t (taken_valid text t e)
    go (refused_at why line) e = longest_refusal why line (refused_by_last_line text why line e)

pub longest_with_budget : (text : List ℕ) (budget : ℕ) → length (listed_with text budget) ≤ most_listed
unfolding listed_with at_budget
longest_with_budget text budget = go (read text) refl
  where
    go : (answer : Taken) → read text ≡ answer → length (lines_for (at_budget budget answer)) ≤ most_listed
    go (taken t) e =
        split (is_budget budget)
        (λ h. rw h (longest_plan (with_budget t budget) (valid_at (taken_valid text t e) budget h)))
        (λ h. rw h (longest_refusal Refusal.Range 1 (omega arith)))
    go (refused_at why line) e = longest_refusal why line (refused_by_last_line text why line e)

-- A table whose listing has as many: its last four jobs have one cycle each, which take up the last millisecond there is, and the
-- others share the cycles that they may have, or that the budget leaves them.
abbrev pub row : (ℕ → Job) → ℕ → ℕ → List Job
row f n zero = []
row f n (suc count) = f n ∷ row f (n + 1) count

abbrev others : ℕ
others = most_jobs - 4

abbrev cycles_of_others : ℕ
cycles_of_others = min (most_cycles * others) (10 ^ 15 / 4000000 - 4)

abbrev share : ℕ
share = cycles_of_others / others

abbrev long_jobs : List Job
long_jobs =
    job 1000 (cycles_of_others - share * (others - 1)) 1 999999999 most_time 0
    ∷ row (λ n. job n share 1 999999999 most_time 0) 1001 (others - 1)

abbrev pub longest_listed : Records
longest_listed =
    table (999999999 - cycles_of_others / 4) (10 ^ 15) (speed 4000 4000000 ∷ [])
    (long_jobs ++ row (λ n. job n 1 1 most_time most_time 0) (1000 + others) 4) []

longest_taken : take_from 1 nothing (map one (lined longest_listed)) ≡ taken longest_listed
unfolding right
longest_taken = refl

longest_lines : length (lines_for (taken longest_listed)) ≡ most_listed
unfolding right
longest_lines = refl

pub longest_listing_length : length (listing_of (text_of longest_listed)) ≡ most_listed
unfolding listing_of
longest_listing_length =
    let v = ((taken_exactly 1 (map one (lined longest_listed)) longest_listed).0 longest_taken).0 in
    ap (λ k. length (lines_for k)) (text_read v) ∙ longest_lines
