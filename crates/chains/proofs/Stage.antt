-- The jobs that a step leaves are those whose fate is 0 after it. Assumes nothing.
use mathlib.Core.Bool.{Bool, true, false, cond, not, ◌&&◌}
use mathlib.Core.List.{List, [], ◌∷◌}
use mathlib.Core.Path.{◌≡◌, refl, ◌∙◌}
use lib.Dec.{eqb}
use Rattle.chains.specs.Stage.{fate_if_late, fate_so_far}
use Rattle.rules.specs.Lists.{keep}
use Rattle.rules.specs.Plan.{fate_deadlock, fate_late, late_in, leaves_its_ring, left, timely}
use Rattle.rules.specs.TableText.{Records}
use Rattle.rules.specs.declared.Job.{Job}

module _ {A : Type 0} where
  kept_one_by : (a b : Bool) (p : A → Bool) (x : A) (xs ys : List A) → p x ≡ b → keep p xs ≡ ys
      → keep p (cond a (x ∷ xs) xs) ≡ cond (a && b) (x ∷ ys) ys
  kept_one_by true b p x xs ys e q = rw e (rw q)
  kept_one_by false b p x xs ys e q = q

  -- what passes one test and then another passes both
  pub keep_both : (p q : A → Bool) (xs : List A) → keep p (keep q xs) ≡ keep (λ x. q x && p x) xs
  keep_both p q [] = refl
  keep_both p q (x ∷ xs) =
      kept_one_by (q x) (p x) p x (keep q xs) (keep (λ x. q x && p x) xs) refl (keep_both p q xs)

  kept_as_by : (a b : Bool) (x : A) (xs ys : List A) → a ≡ b → xs ≡ ys → cond a (x ∷ xs) xs ≡ cond b (x ∷ ys) ys
  kept_as_by a b x xs ys e q = rw e (rw q)

  -- the same test keeps the same elements
  pub keep_as : (p q : A → Bool) → ((x : A) → p x ≡ q x) → (xs : List A) → keep p xs ≡ keep q xs
  keep_as p q e [] = refl
  keep_as p q e (x ∷ xs) = kept_as_by (p x) (q x) x (keep p xs) (keep q xs) (e x) (keep_as p q e xs)

-- a job remains after step 1
abbrev pub stays_timely : Records → Job → Bool
stays_timely t j = eqb (fate_if_late t j) 0

-- a job remains after step 2
abbrev pub stays_left : Records → Job → Bool
stays_left t j = eqb (fate_so_far t j) 0

stays_by : (late : Bool) → not late ≡ eqb (cond late fate_late 0) 0
stays_by true = refl
stays_by false = refl

pub timely_are : (t : Records) → timely t ≡ keep (stays_timely t) t.jobs
unfolding timely fate_if_late
timely_are t = keep_as (λ j. not (late_in t j)) (stays_timely t) (λ j. stays_by (late_in t j)) t.jobs

both_by : (late ring : Bool) → not late && not ring ≡ eqb (cond late fate_late (cond ring fate_deadlock 0)) 0
both_by true ring = refl
both_by false true = refl
both_by false false = refl

pub left_are : (t : Records) → left t ≡ keep (stays_left t) t.jobs
unfolding left timely fate_so_far
left_are t =
    keep_both (λ j. not (leaves_its_ring t j)) (λ j. not (late_in t j)) t.jobs
    ∙ keep_as (λ j. not (late_in t j) && not (leaves_its_ring t j)) (stays_left t)
    (λ j. both_by (late_in t j) (leaves_its_ring t j)) t.jobs
