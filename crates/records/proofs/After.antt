-- The small state after one record more stands for the records with that record added: a count grows by one, and the last
-- first number is the new one's. Assumes nothing.
use mathlib.Core.List.{List, [], ◌∷◌, ◌++◌}
use mathlib.Core.Path.{◌≡◌, refl}
use Prim.Native.Nat.{ℕ}
use Rattle.laws.proofs.Elements.{length_more}
use Rattle.rules.specs.Lists.{last_or}
use Rattle.rules.specs.Refusals.{Before, added, with_more}
use Rattle.rules.specs.TableText.{Record}
use Rattle.rules.specs.declared.Hold.{Hold}
use Rattle.rules.specs.declared.Job.{Job}
use Rattle.rules.specs.declared.Speed.{Speed}
use Rattle.records.specs.Standing.{standing_of, after_clock, after_speed, after_job, after_hold}

module _ {A : Type 0} where
  pub last_added : (d : A) (xs : List A) (x : A) → last_or d (xs ++ x ∷ []) ≡ x
  last_added d [] x = refl
  last_added d (y ∷ xs) x = last_added y xs x

pub clock_after : (b : Before) (clock budget : ℕ) → standing_of (with_more b (Record.T clock budget)) ≡ after_clock (standing_of b)
unfolding added
clock_after b clock budget = refl

pub speed_after : (b : Before) (f : Speed) → standing_of (with_more b (Record.F f)) ≡ after_speed (standing_of b) f
unfolding added
speed_after b f = simp (length_more, last_added)

pub job_after : (b : Before) (j : Job) → standing_of (with_more b (Record.J j)) ≡ after_job (standing_of b) j
unfolding added
job_after b j = simp (length_more, last_added)

pub hold_after : (b : Before) (h : Hold) → standing_of (with_more b (Record.H h)) ≡ after_hold (standing_of b) h
unfolding added
hold_after b h = simp (length_more, last_added)
