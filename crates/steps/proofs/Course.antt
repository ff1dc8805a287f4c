-- The course of turns. A turn goes one of five ways, and each leaves the plan sound: in order, in time at top speed and
-- within budget at top cost. So from any sound plan the course keeps it sound, and takes out no job. Assumes nothing.
use mathlib.Core.Bool.{true, false}
use mathlib.Core.List.{List, [], ◌∷◌}
use mathlib.Core.Option.{some}
use mathlib.Core.Path.{◌≡◌, refl, sym, ap, ◌∙◌}
use Prim.Native.Nat.{◌*◌, ◌≤◌}
use native.Mathlib.Omega.{arith}
use borrow.Author.Tests.{ltb-false, not-false}
use Rattle.laws.proofs.Choices.{clash, split, split_option}
use Rattle.laws.proofs.Elements.{each_too}
use Rattle.steps.proofs.Entries.{is-of, no_entry, trial_has_own, trial_keeps}
use Rattle.steps.proofs.Jobs.{Listed, one-job, waits_listed}
use Rattle.laws.proofs.Lookups.{each_first, each_rest, found_each, found_passes}
use Rattle.laws.specs.Pairs.{Pairwise, ◌then◌}
use Rattle.steps.proofs.Rings.{walk_has_ended}
use Rattle.steps.proofs.Trials.{Ordered, empty_ordered, nobody, trial_ordered}
use Rattle.steps.proofs.Turns.{OfLeft, Runs, each_runs, none_behind_before, turns_of_left}
use Rattle.steps.proofs.Walks.{walk_keeps}
use Rattle.rules.specs.Lists.{Each, find, none_left, ◌and◌}
use Rattle.rules.specs.Plan.{Course, Entry, Fated, Outcome, Turn, after, awaited, before, chain_of, course, course_of, cycles_of, ends_late, fate_budget, fate_planned, fate_ratio_zero, fate_time, in_plan, in_time, is_of, judge, left, ratio_zero, runs_from, runs_of, no_turn_yet, too_dear, top_of, trial, turn, turn_of, turns, waits_left, run_order}
use Rattle.rules.specs.TableText.{Records, most_holds}
use Rattle.rules.specs.Valid.{Valid}
use Rattle.rules.specs.declared.Job.{Job}
use Rattle.steps.proofs.RunOrder.{none_run}

-- how a turn can go, and what it leaves
pub data Way (t : Records) (i : Turn) (p : List Entry) : Type 0 where
  passed_over : in_plan i.job p ≡ true → turn t i p ≡ record { plan = p; fate = fate_planned } → Way t i p
  ratio_is_zero : in_plan i.job p ≡ false → ratio_zero i ≡ true
      → turn t i p ≡ record { plan = p; fate = fate_ratio_zero } → Way t i p
  ends-late : in_plan i.job p ≡ false → ends_late t (trial i p) ≡ true
      → turn t i p ≡ record { plan = p; fate = fate_time } → Way t i p
  over_budget : in_plan i.job p ≡ false → too_dear t (trial i p) ≡ true
      → turn t i p ≡ record { plan = p; fate = fate_budget } → Way t i p
  taken_in : in_plan i.job p ≡ false → ends_late t (trial i p) ≡ false → too_dear t (trial i p) ≡ false
      → turn t i p ≡ record { plan = trial i p; fate = fate_planned } → Way t i p

pub way_of : (t : Records) (i : Turn) (p : List Entry) → Way t i p
unfolding turn judge
way_of t i p =
    split (in_plan i.job p)
    (λ n. passed_over n (rw n))
    (λ n. split (ratio_zero i)
    (λ z. ratio_is_zero n z (rw n (rw z)))
    (λ z. split (ends_late t (trial i p))
    (λ l. ends-late n l (rw n (rw z (rw l))))
    (λ l. split (too_dear t (trial i p))
    (λ d. over_budget n d (rw n (rw z (rw l (rw d)))))
    (λ d. taken_in n l d (rw n (rw z (rw l (rw d))))))))

-- No turn takes a job out.
pub turn_keeps : (t : Records) (i : Turn) (p : List Entry) (k : Job) → in_plan k p ≡ true
    → in_plan k (turn t i p).plan ≡ true
turn_keeps t i p k h = from (way_of t i p)
  where
    from : Way t i p → in_plan k (turn t i p).plan ≡ true
    from (passed_over n e) = rw e h
    from (ratio_is_zero n z e) = rw e h
    from (ends-late n l e) = rw e h
    from (over_budget n d e) = rw e h
    from (taken_in n l d e) = rw e (trial_keeps k i p h)

pub course_keeps : (t : Records) (is : List Turn) (c : Course) (k : Job) → in_plan k c.plan ≡ true
    → in_plan k (course t is c).plan ≡ true
unfolding course after
course_keeps t [] c k h = h
course_keeps t (i ∷ is) c k h = course_keeps t is (after t i c) k (turn_keeps t i c.plan k h)

-- whom a turn leaves in the plan, the rest of the course keeps
pub to_the_end : (t : Records) (end : Course) (i : Turn) (is : List Turn) (c : Course) → course t is (after t i c) ≡ end
    → (k : Job) → in_plan k (turn t i c.plan).plan ≡ true → in_plan k end.plan ≡ true
unfolding after
to_the_end t end i is c e k h = rw (sym e) (course_keeps t is (after t i c) k h)

-- A turn leaves the plan as it stood, or puts its job in.
pub turn_own : (t : Records) (i : Turn) (p : List Entry) → in_plan i.job (turn t i p).plan ≡ false
    → (turn t i p).plan ≡ p
turn_own t i p h = from (way_of t i p)
  where
    from : Way t i p → (turn t i p).plan ≡ p
    from (passed_over n e) = ap (λ (o : Outcome). o.plan) e
    from (ratio_is_zero n z e) = ap (λ (o : Outcome). o.plan) e
    from (ends-late n l e) = ap (λ (o : Outcome). o.plan) e
    from (over_budget n d e) = ap (λ (o : Outcome). o.plan) e
    from (taken_in n l d e) = clash (trial_has_own i p) (ap (λ (o : Outcome). in_plan i.job o.plan) (sym e) ∙ h)

-- at each turn P holds of it and of the course before it
pub data AtEachTurn (t : Records) (P : Turn → Course → Type 0) : List Turn → Course → Type 0 where
  no-turn : {c : Course} → AtEachTurn t P [] c
  and_on : {i : Turn} {is : List Turn} {c : Course} → P i c → AtEachTurn t P is (after t i c) → AtEachTurn t P (i ∷ is) c

-- own fates are those that the turns gave
pub fates_from_turns : {Q : Fated → Type 0} (t : Records) {is : List Turn} {c : Course}
    → AtEachTurn t (λ i c. Q (record { job = i.job; fate = (turn t i c.plan).fate })) is c → Each Q c.own_fates
    → Each Q (course t is c).own_fates
unfolding course after
fates_from_turns t no-turn e = e
fates_from_turns t (and_on a more) e = fates_from_turns t more (a and e)

pub each_from_turns : {Q : Turn → Type 0} (t : Records) {is : List Turn} {c : Course} → AtEachTurn t (λ i c. Q i) is c → Each Q is
each_from_turns t no-turn = none_left
each_from_turns t (and_on a more) = a and each_from_turns t more

-- turns to come: of jobs left, with cycles, in order
pub record Coming (t : Records) (is : List Turn) : Type 0 where
  pub of_left : Each (OfLeft t) is
  pub run : Each Runs is
  pub in_order : Pairwise (λ i k. before k i ≡ false) is

pub coming_rest : {t : Records} {i : Turn} {is : List Turn} → Coming t (i ∷ is) → Coming t is
coming_rest {t} {i} {is} c =
    record { of_left = each_rest c.of_left; run = each_rest c.run; in_order = rest c.in_order }
  where
    rest : Pairwise (λ i k. before k i ≡ false) (i ∷ is) → Pairwise (λ i k. before k i ≡ false) is
    rest (r then rs) = rs

pub turns_coming : (t : Records) → Valid t → Coming t (turns t)
turns_coming t v = record { of_left = turns_of_left t v; run = each_runs t v; in_order = none_behind_before t v }

-- The invariant of the course.
pub record Sound (t : Records) (p : List Entry) : Type 0 where
  -- keys never fall along the plan, none is later than critical, no job stands twice, whom a planned job waits for is
  -- planned and not behind it
  pub ordered : Ordered (waits_left t) (left t) nobody p
  pub in-time : in_time t.clock (top_of t).mhz (run_order t p) ≡ true
  pub in_budget : cycles_of (run_order t p) * (top_of t).cost ≤ t.budget

pub empty_sound : (t : Records) → Sound t []
unfolding in_time runs_of runs_from cycles_of
empty_sound t =
    record { ordered = empty_ordered (waits_left t) (left t); in-time = rw (none_run t); in_budget = rw (none_run t) (omega arith) }

not_late : (t : Records) (p : List Entry) → ends_late t p ≡ false → in_time t.clock (top_of t).mhz (run_order t p) ≡ true
unfolding ends_late
not_late t p h = not-false (in_time t.clock (top_of t).mhz (run_order t p)) h

not_dear : (t : Records) (p : List Entry) → too_dear t p ≡ false → cycles_of (run_order t p) * (top_of t).cost ≤ t.budget
unfolding too_dear
not_dear t p h = ltb-false t.budget (cycles_of (run_order t p) * (top_of t).cost) h

-- a turn's chain is its job's
pub turn_chain : (t : Records) (i : Turn) → OfLeft t i → i.awaited ≡ awaited (waits_left t) i.job
unfolding turn_of
turn_chain t i o = ap (λ (i : Turn). i.awaited) o.is_turn

module _ (t : Records) (v : Valid t) where
  pub trial_sound : (i : Turn) (p : List Entry) → OfLeft t i → in_plan i.job p ≡ false → Sound t p
      → Ordered (waits_left t) (left t) nobody (trial i p)
  unfolding awaited
  trial_sound i p o n s =
      trial_ordered (waits_left t) (left t) (waits_listed t v) most_holds i p (turn_chain t i o) (walk_has_ended t v i.job)
      o.listed n s.ordered

  -- A turn keeps the plan sound, whether its trial is accepted or dropped,
  pub turn_sound : (i : Turn) (p : List Entry) → OfLeft t i → Sound t p → Sound t (turn t i p).plan
  turn_sound i p o s = from (way_of t i p)
    where
      from : Way t i p → Sound t (turn t i p).plan
      from (passed_over n e) = rw e s
      from (ratio_is_zero n z e) = rw e s
      from (ends-late n l e) = rw e s
      from (over_budget n d e) = rw e s
      from (taken_in n l d e) =
          rw e (record {
            ordered = trial_sound i p o n s;
            in-time = not_late t (trial i p) l;
            in_budget = not_dear t (trial i p) d;
          })

  -- and so does a course, from any sound plan.
  pub course_sound : {is : List Turn} (c : Course) → Each (OfLeft t) is → Sound t c.plan
      → Sound t (course t is c).plan
  unfolding course after
  course_sound c none_left s = s
  course_sound {is = i ∷ is} c (o and os) s = course_sound (after t i c) os (turn_sound i c.plan o s)

  -- what holds of a turn, the sound plan before it, and how the course ends, holds all along
  pub at_each_turn : {P : Turn → Course → Type 0} (end : Course)
      → ((i : Turn) (is : List Turn) (c : Course) → Coming t (i ∷ is) → Sound t c.plan → course t is (after t i c) ≡ end
      → P i c)
      → (is : List Turn) (c : Course) → Coming t is → Sound t c.plan → course t is c ≡ end → AtEachTurn t P is c
  unfolding course after
  at_each_turn end gives [] c r s e = no-turn
  at_each_turn end gives (i ∷ is) c r s e =
      and_on (gives i is c r s e)
      (at_each_turn end gives is (after t i c) (coming_rest r) (turn_sound i c.plan (each_first r.of_left) s) e)

  start_sound : Sound t no_turn_yet.plan
  unfolding no_turn_yet
  start_sound = empty_sound t

  -- all along the course of the table
  pub at_each_turn_of : {P : Turn → Course → Type 0}
      → ((i : Turn) (is : List Turn) (c : Course) → Coming t (i ∷ is) → Sound t c.plan
      → course t is (after t i c) ≡ course_of t → P i c)
      → AtEachTurn t P (turns t) no_turn_yet
  unfolding course_of
  at_each_turn_of gives = at_each_turn (course_of t) gives (turns t) no_turn_yet (turns_coming t v) start_sound refl

  -- of each own fate of the table's course
  pub fates_of_course : {Q : Fated → Type 0}
      → ((i : Turn) (is : List Turn) (c : Course) → Coming t (i ∷ is) → Sound t c.plan
      → course t is (after t i c) ≡ course_of t
      → Q (record { job = i.job; fate = (turn t i c.plan).fate }))
      → Each Q (course_of t).own_fates
  unfolding course_of no_turn_yet
  fates_of_course gives = fates_from_turns t (at_each_turn_of gives) none_left

  pub plan_sound : Sound t (course_of t).plan
  unfolding course_of
  plan_sound = course_sound no_turn_yet (turns_of_left t v) start_sound

-- In a sound plan, whom a planned job waits for is planned,
module _ (t : Records) (v : Valid t) (p : List Entry) (s : Sound t p) where
  pub planned_next : (j k : Job) → Listed (left t) j → in_plan j p ≡ true → waits_left t j ≡ some k → in_plan k p ≡ true
  planned_next j k l h w =
      split_option (find (is_of j) p)
      (λ e. clash h (no_entry j p e))
      (λ e f. found_each (is_of j) s.ordered.closed f refl k
      (ap (waits_left t)
      (sym (one-job (left t) j e.job l (found_each (is_of j) s.ordered.lined.listed f)
      (is-of j e (found_passes (is_of j) p f))))
      ∙ w))

  -- and whom that one waits for, to the chain's end.
  pub chain_planned : (j : Job) → Listed (left t) j → in_plan j p ≡ true → Each (λ k. in_plan k p ≡ true) (chain_of t j)
  unfolding chain_of awaited
  chain_planned j l h =
      h and each_too (λ k b. b.1)
      (walk_keeps {P = λ k. Listed (left t) k × (in_plan k p ≡ true)} (waits_left t)
      (λ x k b w. (waits_listed t v x k w, planned_next x k b.0 b.1 w)) most_holds j (l, h))
