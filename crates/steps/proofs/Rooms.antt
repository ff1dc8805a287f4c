-- The rows of the rooms, turn by turn: the jobs are those of the turns, the room is what the course so far leaves, and the fate is
-- the one that the course tells of the turn's job at its end, since no other turn is of that job. Assumes nothing.
use mathlib.Core.Bool.{false}
use mathlib.Core.List.{List, [], ◌∷◌, map}
use mathlib.Core.Path.{◌≡◌, refl, sym, ap, ◌∙◌}
use Prim.Native.Nat.{ℕ, zero, suc, ◌+◌, ◌<◌}
use native.Mathlib.Numerals.{add-one}
use native.Mathlib.Omega.{arith}
use borrow.Author.Tests.{ne_eqb}
use lib.ListN.{get_or, length, take}
use Rattle.laws.proofs.Elements.{each_too}
use Rattle.laws.specs.Pairs.{Pairwise, no_pair, ◌then◌}
use Rattle.rules.specs.Lists.{Each, none_left, ◌and◌}
use Rattle.rules.specs.Plan.{Course, Entry, Turn, after, course, course_of, fate_told, no_turn_yet, own_fate, same, turn, turns}
use Rattle.rules.specs.Rooms.{TurnRoom, room_left, rooms_from, rooms_of}
use Rattle.rules.specs.TableText.{Records}
use Rattle.rules.specs.Valid.{Valid}
use Rattle.rules.specs.declared.Job.{Job}
use Rattle.steps.proofs.Jobs.{same_self}
use Rattle.steps.proofs.Turns.{numbers_differ}

module _ (t : Records) where
  -- one row for each turn, in their order
  rows_of_turns : (is : List Turn) (p : List Entry)
      → map (λ (r : TurnRoom). r.job) (rooms_from t is p) ≡ map (λ (i : Turn). i.job) is
  unfolding rooms_from
  rows_of_turns [] p = refl
  rows_of_turns (i ∷ is) p = ap {B = List Job} (λ js. i.job ∷ js) (rows_of_turns is (turn t i p).plan)

  pub one_row_each_turn : map (λ (r : TurnRoom). r.job) (rooms_of t) ≡ map (λ (i : Turn). i.job) (turns t)
  unfolding rooms_of
  one_row_each_turn = rows_of_turns (turns t) no_turn_yet.plan

  -- the room after each turn is that of the course so far
  room_of_course : (is : List Turn) (c : Course) (k : ℕ) → k < length is
      → get_or (map (λ (r : TurnRoom). r.room) (rooms_from t is c.plan)) k 0 ≡ room_left t (course t (take (suc k) is) c).plan
  unfolding rooms_from course after
  room_of_course [] c k h = absurd (omega arith)
  room_of_course (i ∷ is) c zero h = refl
  room_of_course (i ∷ is) c (suc k) h = room_of_course is (after t i c) k (omega arith)

  pub room_after_turn : (k : ℕ) → k < length (turns t)
      → get_or (map (λ (r : TurnRoom). r.room) (rooms_of t)) k 0 ≡ room_left t (course t (take (k + 1) (turns t)) no_turn_yet).plan
  unfolding rooms_of
  room_after_turn k h = rw (add-one k) (room_of_course (turns t) no_turn_yet k h)

  other_told : (j : Job) (i : Turn) (c : Course) → same j i.job ≡ false → own_fate j (after t i c) ≡ own_fate j c
  unfolding after own_fate fate_told
  other_told j i c d = rw d

  -- a fate told stays told where no later turn is of the job
  own_fate_stays : (j : Job) {is : List Turn} (c : Course) → Each (λ (i : Turn). same j i.job ≡ false) is
      → own_fate j (course t is c) ≡ own_fate j c
  unfolding course
  own_fate_stays j c none_left = refl
  own_fate_stays j {is = i ∷ is} c (d and ds) = own_fate_stays j (after t i c) ds ∙ other_told j i c d

  own_fate_told : (i : Turn) (c : Course) → own_fate i.job (after t i c) ≡ (turn t i c.plan).fate
  unfolding after own_fate fate_told
  own_fate_told i c = rw (same_self i.job)

  differ : (j k : Job) → (j.number ≡ k.number → ⊥) → same j k ≡ false
  unfolding same
  differ j k d = ne_eqb j.number k.number d

  fates_told : {is : List Turn} → Pairwise (λ (i k : Turn). i.job.number ≡ k.job.number → ⊥) is → (c : Course)
      → Each (λ (r : TurnRoom). r.fate ≡ own_fate r.job (course t is c)) (rooms_from t is c.plan)
  unfolding rooms_from course after
  fates_told no_pair c = none_left
  fates_told {is = i ∷ is} (d then ds) c =
      (sym (own_fate_told i c) ∙ sym (own_fate_stays i.job (after t i c) (each_too (λ k e. differ i.job k.job e) d)))
      and fates_told ds (after t i c)

  pub fate_of_own_turn : Valid t → Each (λ (r : TurnRoom). r.fate ≡ own_fate r.job (course_of t)) (rooms_of t)
  unfolding rooms_of course_of
  fate_of_own_turn v = fates_told (numbers_differ t v) no_turn_yet
