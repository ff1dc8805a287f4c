-- The deadline in cycles is the comparison in ms, for whoever has a cycle to run. What runs in order is in time by parts, and behind
-- so many cycles exactly if these are at most its latest beginning. Assumes nothing.
use mathlib.Core.Bool.{true, false, ◌&&◌, and_assoc}
use mathlib.Core.List.{List, [], ◌∷◌, ◌++◌, map}
use mathlib.Core.Path.{◌≡◌, refl, sym, ap, ◌∙◌}
use Prim.Native.Nat.{ℕ, ◌+◌, ◌*◌, ◌-◌, ◌/◌, ◌≤◌, ◌<◌, min}
use native.Mathlib.Nat.{add_assoc, add-mul, add-zero, mul-le-mul_right, zero-add, zero-mul}
use native.Mathlib.Omega.{arith}
use borrow.Author.Tests.{le-leb, leb-false, leb-true, lt-leb}
use lib.Dec.{leb}
use Rattle.laws.proofs.Choices.{both_ways, split}
use Rattle.laws.proofs.Tests.{both_true}
use Rattle.rules.specs.Lists.{Each, none_left, total, ◌and◌}
use Rattle.rules.specs.Plan.{cycles_of, ends_by, in_time}
use Rattle.rules.specs.declared.Job.{Job}
use Rattle.steps.proofs.Running.{first_and_others, in_time_behind_none, in_time_behind, no_job_late}
use Rattle.steps.specs.Deadlines.{cycles_by, deadline_of, latest_of, timely_behind}

module _ (clock mhz cycles end : ℕ) where
  whole_apart : clock ≤ end → end * mhz ≡ clock * mhz + (end - clock) * mhz
  whole_apart l = ap (λ n. n * mhz) {y = clock + (end - clock)} (omega arith) ∙ add-mul clock (end - clock) mhz

  none_between : end < clock → (end - clock) * mhz ≡ 0
  none_between l = ap (λ n. n * mhz) {y = 0} (omega arith) ∙ zero-mul mhz

  by_an_end_to_come : clock ≤ end → ends_by clock mhz cycles end ≡ leb cycles (cycles_by clock mhz end)
  unfolding ends_by cycles_by
  by_an_end_to_come l =
      let whole = whole_apart l in
      both_ways (leb (clock * mhz + cycles * 1000) (end * mhz)) (leb cycles ((end - clock) * mhz / 1000))
      (λ h. le-leb cycles ((end - clock) * mhz / 1000) (omega (arith, leb-true (clock * mhz + cycles * 1000) (end * mhz) h)))
      (λ h. le-leb (clock * mhz + cycles * 1000) (end * mhz) (omega (arith, leb-true cycles ((end - clock) * mhz / 1000) h)))

  by_an_end_gone : end < clock → 1 ≤ cycles → ends_by clock mhz cycles end ≡ false
  unfolding ends_by
  by_an_end_gone l h =
      lt-leb (clock * mhz + cycles * 1000) (end * mhz)
      (omega (arith, mul-le-mul_right {m = end} {n = clock} mhz (omega arith)))

  -- So many cycles, one at least, end in time exactly if they are at most the deadline, wherever the end lies.
  pub ends_by_deadline : 1 ≤ cycles → ends_by clock mhz cycles end ≡ leb cycles (cycles_by clock mhz end)
  unfolding cycles_by
  ends_by_deadline h =
      split (leb clock end)
      (λ l. by_an_end_to_come (leb-true clock end l))
      (λ l. let gone = leb-false clock end l in
      by_an_end_gone gone h ∙ sym (rw (none_between gone) (lt-leb cycles 0 (omega arith))))

-- Jobs that have cycles, run in order, end in time exactly if they end by their deadlines.
pub in_time_by_deadlines : (clock mhz run : ℕ) {js : List Job} → Each (λ j. 1 ≤ j.cycles) js
    → in_time_behind clock mhz run js ≡ timely_behind (λ (j : Job). j.cycles) (deadline_of clock mhz) run js
unfolding timely_behind
in_time_by_deadlines clock mhz run none_left = no_job_late clock mhz run
in_time_by_deadlines clock mhz run {js = j ∷ js} (h and hs) =
    rw (
      first_and_others clock mhz run j js,
      ends_by_deadline clock mhz (run + j.cycles) j.termination (omega arith),
      in_time_by_deadlines clock mhz (run + j.cycles) hs,
    )

-- who is told by others' cycles and deadlines
pub timely_map : {A B : Type 0} (cycles deadline : B → ℕ) (f : A → B) (run : ℕ) (xs : List A)
    → timely_behind cycles deadline run (map f xs) ≡ timely_behind (λ x. cycles (f x)) (λ x. deadline (f x)) run xs
unfolding timely_behind
timely_map cycles deadline f run [] = refl
timely_map cycles deadline f run (x ∷ xs) =
    ap (λ b. leb (run + cycles (f x)) (deadline (f x)) && b) (timely_map cycles deadline f (run + cycles (f x)) xs)

less_of_both : (d c a b : ℕ) → c ≤ min a b → leb (d + c) a && leb (d + c) b ≡ leb d (min a b - c)
less_of_both d c a b l =
    both_ways (leb (d + c) a && leb (d + c) b) (leb d (min a b - c))
    (λ h. let both = both_true (leb (d + c) a) (leb (d + c) b) h in
    le-leb d (min a b - c) (omega (arith, leb-true (d + c) a both.0, leb-true (d + c) b both.1)))
    (λ h. let m = leb-true d (min a b - c) h in rw (le-leb (d + c) a (omega arith), le-leb (d + c) b (omega arith)))

module _ {A : Type 0} (cycles deadline : A → ℕ) where
  pub none_timely : (run : ℕ) → timely_behind cycles deadline run [] ≡ true
  unfolding timely_behind
  none_timely run = refl

  pub timely_first : (run : ℕ) (x : A) (xs : List A) → timely_behind cycles deadline run (x ∷ xs)
      ≡ leb (run + cycles x) (deadline x) && timely_behind cycles deadline (run + cycles x) xs
  unfolding timely_behind
  timely_first run x xs = refl

  -- the first in time, and the others behind it
  pub both_timely : (run : ℕ) (x : A) (xs : List A) → timely_behind cycles deadline run (x ∷ xs) ≡ true
      → (run + cycles x ≤ deadline x) × (timely_behind cycles deadline (run + cycles x) xs ≡ true)
  both_timely run x xs h =
      let both = both_true (leb (run + cycles x) (deadline x)) (timely_behind cycles deadline (run + cycles x) xs)
      (sym (timely_first run x xs) ∙ h) in (
        leb-true (run + cycles x) (deadline x) both.0,
        both.1,
      )

  -- In time by parts: the front, and what is behind it from the front's cycles on.
  pub timely_parts : (run : ℕ) (xs ys : List A) → timely_behind cycles deadline run (xs ++ ys)
      ≡ timely_behind cycles deadline run xs && timely_behind cycles deadline (run + total cycles xs) ys
  timely_parts run [] ys = rw (none_timely run, add-zero run)
  timely_parts run (x ∷ xs) ys =
      rw (
        timely_first run x (xs ++ ys),
        timely_first run x xs,
        timely_parts (run + cycles x) xs ys,
        and_assoc,
        add_assoc,
      )

  -- What is in time behind some cycles is in time behind fewer.
  pub timely_earlier : (run fewer : ℕ) (xs : List A) → fewer ≤ run → timely_behind cycles deadline run xs ≡ true
      → timely_behind cycles deadline fewer xs ≡ true
  timely_earlier run fewer [] l h = none_timely fewer
  timely_earlier run fewer (x ∷ xs) l h =
      let both = both_timely run x xs h in
      let own = both.0 in
      rw (timely_first fewer x xs, le-leb (fewer + cycles x) (deadline x) (omega arith))
      (timely_earlier (run + cycles x) (fewer + cycles x) xs (omega arith) both.1)

  -- What is in time behind nothing is in time behind so many cycles exactly if these are at most its latest beginning.
  pub timely_by_latest : (most run : ℕ) (xs : List A) → run + total cycles xs ≤ most → timely_behind cycles deadline 0 xs ≡ true
      → timely_behind cycles deadline run xs ≡ leb run (latest_of cycles deadline most xs)
  unfolding latest_of
  timely_by_latest most run [] l h = rw (none_timely run) (sym (le-leb run most (omega arith)))
  timely_by_latest most run (x ∷ xs) l h =
      let both = both_timely 0 x xs h in
      let own = both.0 in
      let behind : timely_behind cycles deadline (cycles x) xs ≡ true = rw (zero-add (cycles x)) at both.1 in
      let early = timely_earlier (cycles x) 0 xs (omega arith) behind in
      let fits : cycles x ≤ latest_of cycles deadline most xs =
      leb-true (cycles x) (latest_of cycles deadline most xs)
      (sym (timely_by_latest most (cycles x) xs (omega arith) early) ∙ behind) in
      rw (timely_first run x xs, timely_by_latest most (run + cycles x) xs (omega arith) early)
      (less_of_both run (cycles x) (deadline x) (latest_of cycles deadline most xs) (omega arith))

-- Step 7 by what is kept of a plan. Where the entries before the first change are in time, as they were, and those behind the last
-- are in time by themselves, the whole order is in time exactly if what lies between ends by its deadlines behind the cycles run
-- before it, and what is behind begins no later than its latest beginning.
pub in_time_by_kept : (clock mhz most : ℕ) (front mid back : List Job) → Each (λ j. 1 ≤ j.cycles) (front ++ (mid ++ back))
    → in_time clock mhz front ≡ true → Each (λ j. 1 ≤ j.cycles) front
    → timely_behind (λ (j : Job). j.cycles) (deadline_of clock mhz) 0 back ≡ true
    → cycles_of front + cycles_of mid + cycles_of back ≤ most
    → in_time clock mhz (front ++ (mid ++ back))
    ≡ timely_behind (λ (j : Job). j.cycles) (deadline_of clock mhz) (cycles_of front) mid
    && leb (cycles_of front + cycles_of mid) (latest_of (λ (j : Job). j.cycles) (deadline_of clock mhz) most back)
unfolding cycles_of
in_time_by_kept clock mhz most front mid back runs early front_runs behind small =
    let cycles : Job → ℕ = λ j. j.cycles in
    let due : Job → ℕ = deadline_of clock mhz in
    let first : timely_behind cycles due 0 front ≡ true =
    sym (in_time_by_deadlines clock mhz 0 front_runs) ∙ sym (in_time_behind_none clock mhz front) ∙ early in
    in_time_behind_none clock mhz (front ++ (mid ++ back))
    ∙ in_time_by_deadlines clock mhz 0 runs
    ∙ timely_parts cycles due 0 front (mid ++ back)
    ∙ rw (first, zero-add (total cycles front))
    (timely_parts cycles due (total cycles front) mid back
    ∙ ap (λ b. timely_behind cycles due (total cycles front) mid && b)
    (timely_by_latest cycles due most (total cycles front + total cycles mid) back small behind))
