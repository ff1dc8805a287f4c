-- Each job of a valid table gets a fate from 1 to 6: a job that steps 1 and 2 leave has a turn, each turn leaves an own
-- fate, and own fates stay. Assumes nothing.
use mathlib.Core.Bool.{Bool, true}
use mathlib.Core.List.{List, [], ◌∷◌, map}
use mathlib.Core.Logic.{⊎_elim}
use mathlib.Core.Option.{Option, none, some}
use mathlib.Core.Path.{◌≡◌, refl}
use Prim.Native.Nat.{◌≤◌}
use native.Mathlib.Omega.{arith}
use Rattle.laws.proofs.Choices.{clash, or_right, split}
use Rattle.laws.proofs.Elements.{each_too}
use Rattle.steps.proofs.Jobs.{jobs_listed, listed_has, listed_left, same_self}
use Rattle.laws.proofs.Lookups.{each_unmap, found_each, not_found, sorted_each}
use Rattle.steps.proofs.Overtaken.{four_fates}
use Rattle.steps.proofs.Planned.{each_fated}
use Rattle.rules.specs.Lists.{Each, any, find, none_left, ◌and◌}
use Rattle.rules.specs.Plan.{Course, Fated, Turn, after, before, course, course_of, fate_in, fate_told, in_plan, late_in, leaves_its_ring, left, own_fate, plan_of, same, no_turn_yet, turn_of, turns}
use Rattle.rules.specs.TableText.{Records}
use Rattle.rules.specs.Valid.{Valid}
use Rattle.rules.specs.declared.Job.{Job}

-- there is an own fate of a job of this number
abbrev told : Job → List Fated → Bool
told j is = any (λ (i : Fated). same j i.job) is

module _ (t : Records) where
  own_fates_stay : (j : Job) (is : List Turn) (c : Course) → told j c.own_fates ≡ true
      → told j (course t is c).own_fates ≡ true
  unfolding course after
  own_fates_stay j [] c h = h
  own_fates_stay j (i ∷ is) c h = own_fates_stay j is (after t i c) (or_right (same j i.job) (told j c.own_fates) h)

  each_turn_told : (is : List Turn) (c : Course) → Each (λ (i : Turn). told i.job (course t is c).own_fates ≡ true) is
  unfolding course after
  each_turn_told [] c = none_left
  each_turn_told (i ∷ is) c =
      let here : told i.job (after t i c).own_fates ≡ true = rw (same_self i.job) in
      own_fates_stay i.job is (after t i c) here and each_turn_told is (after t i c)

  -- Each job that step 2 leaves has an own fate.
  pub each_left_told : Each (λ j. told j (course_of t).own_fates ≡ true) (left t)
  unfolding course_of turns turn_of
  each_left_told =
      each_unmap (turn_of t) (left t) (sorted_each before (map (turn_of t) (left t)) (each_turn_told (turns t) no_turn_yet))

  module _ (v : Valid t) where
    -- Each fate is one of the six.
    pub fates_1_to_6 : Each (λ (i : Fated). (1 ≤ i.fate) × (i.fate ≤ 6)) (plan_of t).fates
    unfolding fate_in own_fate fate_told
    fates_1_to_6 =
        each_fated t
        (each_too
        (λ j l. split (late_in t j) (λ a. rw a (omega arith, omega arith))
        (λ a. rw a (split (leaves_its_ring t j) (λ b. rw b (omega arith, omega arith))
        (λ b. rw b (split (in_plan j (course_of t).plan) (λ p. rw p (omega arith, omega arith))
        (λ p. rw p (own j (listed_has each_left_told (listed_left t j l a b))
        (find (λ (i : Fated). same j i.job) (course_of t).own_fates) refl)))))))
        (jobs_listed t v))
      where
        own : (j : Job) → told j (course_of t).own_fates ≡ true → (o : Option Fated)
            → find (λ (i : Fated). same j i.job) (course_of t).own_fates ≡ o → (1 ≤ fate_told o) × (fate_told o ≤ 6)
        own j h none e = clash h (not_found (λ (i : Fated). same j i.job) (course_of t).own_fates e)
        own j h (some i) e =
            ⊎_elim
            (λ f. ⊎_elim (λ g. (omega arith, omega arith)) (λ g. (omega arith, omega arith)) f)
            (λ f. ⊎_elim (λ g. (omega arith, omega arith)) (λ g. (omega arith, omega arith)) f)
            (found_each (λ (i : Fated). same j i.job) (four_fates t v) e)
