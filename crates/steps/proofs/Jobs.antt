-- In a valid table a job is known by its number, since numbers rise; so it is among the jobs that each step leaves. Whom a
-- job waits for is one of these jobs and the holder of a resource, and there are at most 32 resources. Assumes nothing.
use mathlib.Core.Bool.{Bool, true, false, not}
use mathlib.Core.List.{List, ◌∷◌, map}
use mathlib.Core.Option.{some}
use mathlib.Core.Path.{◌≡◌, refl, ap, ◌∙◌}
use Prim.Native.Nat.{ℕ, ◌≤◌, ◌<◌}
use native.Mathlib.Omega.{arith}
use borrow.Author.Tests.{eq-eqb, eqb-true, ne_eqb, not-true}
use lib.Dec.{eqb}
use lib.ListN.{length}
use Rattle.laws.proofs.Choices.{eqb_swap, nothing_there, one_there, split_option}
use Rattle.laws.proofs.Elements.{each_too}
use Rattle.laws.proofs.Lookups.{any_map, each_both, each_keep, find_agree, find_keep_some, found_any, found_each, found_passes, keep_passes, length-map}
use Rattle.laws.specs.Pairs.{Pairwise, among, no_pair, ◌then◌}
use Rattle.laws.proofs.Pairs.{pairs_keep, rising_pairs}
use Rattle.laws.proofs.Tests.{both_true, within_true}
use Rattle.grammar.proofs.Trips.{valid_few_holds}
use Rattle.rules.specs.Lists.{Each, find, keep, none_left, ◌and◌}
use Rattle.rules.specs.Plan.{asks_for, holder_in, late_in, leaves_its_ring, left, same, timely, waits_for, waits_left, waits_timely}
use Rattle.rules.specs.Refusals.{is_holder}
use Rattle.rules.specs.TableText.{Record, Records, in_range, is_cycles, is_job_number, is_request, is_time, is_worth, most_cycles, most_holds}
use Rattle.rules.specs.Valid.{Valid}
use Rattle.rules.specs.declared.Job.{Job}
use Rattle.rules.specs.declared.Hold.{Hold}

pub same_self : (k : Job) → same k k ≡ true
unfolding same
same_self k = eq-eqb k.number k.number refl

pub same_swap : (j k : Job) → same j k ≡ same k j
unfolding same
same_swap j k = eqb_swap j.number k.number

pub same_number : (j k : Job) → same j k ≡ true → j.number ≡ k.number
unfolding same
same_number j k h = eqb-true j.number k.number h

-- what is the same as k is to others as k is
pub same_as : (j k x : Job) → same j k ≡ true → same j x ≡ same k x
unfolding same
same_as j k x h = ap (λ n. eqb n x.number) (eqb-true j.number k.number h)

pub same_to : (x j k : Job) → same j k ≡ true → same x j ≡ same x k
unfolding same
same_to x j k h = ap (λ n. eqb x.number n) (eqb-true j.number k.number h)

-- whoever looks for j's number in the list finds j
abbrev pub Listed : List Job → Job → Type 0
Listed js j = find (same j) js ≡ some j

-- the jobs have rising numbers
abbrev pub InOrder : List Job → Type 0
InOrder js = Pairwise (λ (j k : Job). j.number < k.number) js

pub listed_all : {js : List Job} → InOrder js → Each (Listed js) js
unfolding same
listed_all no_pair = none_left
listed_all {js = j ∷ js} (r then rs) =
    let here : Listed (j ∷ js) j = rw (eq-eqb j.number j.number refl) in
    here and each_both (λ k l h. rw (ne_eqb k.number j.number (omega arith)) h) r (listed_all rs)

-- a list has one job of a number
pub one-job : (js : List Job) (j k : Job) → Listed js j → Listed js k → same j k ≡ true → j ≡ k
one-job js j k a b h = one_there a (find_agree (same j) (same k) js (λ x. same_as j k x h) ∙ b)

pub listed_keep : (p : Job → Bool) (js : List Job) (j : Job) → Listed js j → p j ≡ true → Listed (keep p js) j
listed_keep p js j l h = find_keep_some (same j) p js l h

pub listed_has : {P : Job → Type 0} {js : List Job} {j : Job} → Each P js → Listed js j → P j
listed_has {j = j} e l = found_each (same j) e l

-- who looks for a hold's holder finds the listed job of that number
found_holder : (js : List Job) (y : Job) (h : Hold) → Listed js y → y.number ≡ h.holder → find (is_holder h) js ≡ some y
unfolding is_holder same
found_holder js y h l e = find_agree (is_holder h) (same y) js (λ k. rw e (eqb_swap k.number h.holder)) ∙ l

pub is-holder : (h : Hold) (j : Job) → is_holder h j ≡ true → j.number ≡ h.holder
unfolding is_holder
is-holder h j e = eqb-true j.number h.holder e

-- the hold that makes u wait for y
module _ (hs : List Hold) (js : List Job) (u y : Job) (w : waits_for hs js u ≡ some y) where
  pub waits_by : (h : Hold) × (find (asks_for u) hs ≡ some h) × (find (is_holder h) js ≡ some y)
  unfolding waits_for holder_in
  waits_by =
      split_option (find (asks_for u) hs) (λ e. nothing_there (rw e at w) refl) (λ h e. (h, e, rw e at w))

  pub waits_each : {P : Job → Type 0} → Each P js → P y
  waits_each e = found_each (is_holder waits_by.0) e waits_by.2

  pub waits_number : y.number ≡ waits_by.0.holder
  waits_number = is-holder waits_by.0 y (found_passes (is_holder waits_by.0) js waits_by.2)

-- whom a job waits for among some of the jobs, it waits for among all
pub waits_more : (hs : List Hold) (js ks : List Job) (u y : Job) → Each (Listed ks) js → waits_for hs js u ≡ some y
    → waits_for hs ks u ≡ some y
unfolding waits_for holder_in
waits_more hs js ks u y e w =
    rw (waits_by hs js u y w).1
    (found_holder ks y (waits_by hs js u y w).0 (waits_each hs js u y w e) (waits_number hs js u y w))

abbrev pub holder_numbers : List Hold → List ℕ
holder_numbers hs = map (λ (h : Hold). h.holder) hs

pub waits_named : (hs : List Hold) (js : List Job) (u y : Job) → waits_for hs js u ≡ some y
    → among (holder_numbers hs) y.number ≡ true
waits_named hs js u y w =
    any_map (eqb y.number) (λ (h : Hold). h.holder) hs
    ∙ found_any (asks_for u) (λ (h : Hold). eqb y.number h.holder) hs (waits_by hs js u y w).1
    (eq-eqb y.number (waits_by hs js u y w).0.holder (waits_number hs js u y w))

cycles_positive : (j : Job) → in_range (Record.J j) ≡ true → 0 < j.cycles
unfolding in_range is_job_number is_cycles is_worth is_time is_request
cycles_positive j e =
    let five = both_true _ (is_request j.request) e in
    let four = both_true _ (is_time j.termination) five.0 in
    let three = both_true _ (is_time j.critical) four.0 in
    let two = both_true _ (is_worth j.worth) three.0 in
    let one = both_true (is_job_number j.number) (is_cycles j.cycles) two.0 in
    let l = (within_true 1 most_cycles j.cycles one.1).0 in
    omega arith

-- the tests by which steps 2 and 1 keep a job
abbrev stays : Records → Job → Bool
stays t j = not (leaves_its_ring t j)

abbrev in_good_time : Records → Job → Bool
in_good_time t j = not (late_in t j)

module _ (t : Records) (v : Valid t) where
  pub few_holders : length (holder_numbers t.holds) ≤ most_holds
  few_holders = omega (arith, length-map (λ (h : Hold). h.holder) t.holds, valid_few_holds v)

  pub jobs_cycles : Each (λ (j : Job). 0 < j.cycles) t.jobs
  jobs_cycles = each_too cycles_positive v.job_ranges

  pub jobs_in_order : InOrder t.jobs
  jobs_in_order = rising_pairs v.jobs_rise

  pub timely_in_order : InOrder (timely t)
  unfolding timely
  timely_in_order = pairs_keep (in_good_time t) jobs_in_order

  pub left_in_order : InOrder (left t)
  unfolding left
  left_in_order = pairs_keep (stays t) timely_in_order

  pub jobs_listed : Each (Listed t.jobs) t.jobs
  jobs_listed = listed_all jobs_in_order

  pub timely_listed : Each (Listed (timely t)) (timely t)
  timely_listed = listed_all timely_in_order

  pub left_listed : Each (Listed (left t)) (left t)
  left_listed = listed_all left_in_order

-- what each job of the table has, those that steps 1 and 2 leave have
module _ {P : Job → Type 0} (t : Records) where
  pub each_timely : Each P t.jobs → Each P (timely t)
  unfolding timely
  each_timely e = each_keep (in_good_time t) e

  pub each_of_timely : Each P (timely t) → Each P (left t)
  unfolding left
  each_of_timely e = each_keep (stays t) e

  pub each_left : Each P t.jobs → Each P (left t)
  each_left e = each_of_timely (each_timely e)

module _ (t : Records) where
  timely_on_time : Each (λ j. late_in t j ≡ false) (timely t)
  unfolding timely
  timely_on_time = each_too (λ j h. not-true (late_in t j) h) (keep_passes (in_good_time t) t.jobs)

  pub left_on_time : Each (λ j. late_in t j ≡ false) (left t)
  left_on_time = each_of_timely t timely_on_time

  pub left_stays : Each (λ j. leaves_its_ring t j ≡ false) (left t)
  unfolding left
  left_stays = each_too (λ j h. not-true (leaves_its_ring t j) h) (keep_passes (stays t) (timely t))

  -- a job of the table that neither step takes out is left
  pub listed_left : (j : Job) → Listed t.jobs j → late_in t j ≡ false → leaves_its_ring t j ≡ false → Listed (left t) j
  unfolding left timely
  listed_left j l a b = listed_keep (stays t) (timely t) j (listed_keep (in_good_time t) t.jobs j l (rw a)) (rw b)

  module _ (v : Valid t) where
    -- who waits among the jobs that step 2 leaves waited so among those that step 1 leaves
    pub waited_before : (u y : Job) → waits_left t u ≡ some y → waits_timely t u ≡ some y
    unfolding waits_left waits_timely
    waited_before u y w = waits_more t.holds (left t) (timely t) u y (each_of_timely t (timely_listed t v)) w

    pub waits_left_each : {P : Job → Type 0} (u y : Job) → waits_left t u ≡ some y → Each P (left t) → P y
    unfolding waits_left
    waits_left_each u y w e = waits_each t.holds (left t) u y w e

    pub waits_listed : (u y : Job) → waits_left t u ≡ some y → Listed (left t) y
    waits_listed u y w = waits_left_each u y w (left_listed t v)
