-- Step 9's speed by its place: it qualifies, none that qualifies has less energy, and no lower one as little. Where some
-- speed qualifies there is such a place, found along the speeds; where none does, step 9 names none. This is the only file
-- that opens the rule itself: all others speak of the place. Assumes nothing.
use mathlib.Core.Bool.{Bool, true, false, ◌&&◌}
use mathlib.Core.List.{List, [], ◌∷◌}
use mathlib.Core.Logic.{⊎_elim}
use mathlib.Core.Option.{some}
use mathlib.Core.Path.{◌≡◌, refl, sym, ap}
use Prim.Native.Nat.{ℕ, zero, suc, ◌≤◌, ◌<◌}
use native.Mathlib.Nat.{zero-mul}
use native.Mathlib.Omega.{arith}
use borrow.Author.Tests.{le-leb, leb-false, leb-true}
use lib.Dec.{leb}
use lib.ListN.{get_or, length}
use Rattle.laws.proofs.Choices.{clash, or_split, split}
use Rattle.laws.proofs.Elements.{each_at_place, each_of_places, each_too}
use Rattle.laws.proofs.Lookups.{all_each, any_none, each_all, each_kept, kept_each}
use Rattle.laws.proofs.Tests.{both_true, not_true_false}
use Rattle.steps.proofs.Qualified.{both_qualify}
use Rattle.rules.specs.Lists.{Each, any, find, keep}
use Rattle.rules.specs.Plan.{cycles_of, energy_at, in_time, least_energy, qualifies, runs_from, runs_of, speed_for, speed_or}
use Rattle.rules.specs.TableText.{Records, no_speed}
use Rattle.rules.specs.declared.Job.{Job}
use Rattle.rules.specs.declared.Speed.{Speed}

module _ {A : Type 0} (q : A → Bool) (d : A) where
  -- of those that q keeps, the first that p passes, by its place among all
  find_kept_at : (p : A → Bool) (xs : List A) (k : ℕ) → k < length xs → q (get_or xs k d) ≡ true → p (get_or xs k d) ≡ true
      → ((i : ℕ) → i < k → q (get_or xs i d) ≡ true → p (get_or xs i d) ≡ false)
      → find p (keep q xs) ≡ some (get_or xs k d)
  find_kept_at p [] k h e f before = absurd (omega arith)
  find_kept_at p (x ∷ xs) zero h e f before = rw e (rw f)
  find_kept_at p (x ∷ xs) (suc k) h e f before =
      let others = find_kept_at p xs k (omega arith) e f (λ i l. before (suc i) (omega arith)) in
      split (q x) (λ g. rw g (rw (before 0 (omega arith) g) others)) (λ g. rw g others)

  none_kept : (xs : List A) → ((i : ℕ) → i < length xs → q (get_or xs i d) ≡ false) → keep q xs ≡ []
  none_kept [] h = refl
  none_kept (x ∷ xs) h = rw (h 0 (omega arith)) (none_kept xs (λ i l. h (suc i) (omega arith)))

  -- at place k, of those that pass q, stands the least and of equals the first
  pub record LeastAt (size : A → ℕ) (xs : List A) (k : ℕ) : Type 0 where
    pub inside : k < length xs
    pub passes : q (get_or xs k d) ≡ true
    pub none_less : (i : ℕ) → i < length xs → q (get_or xs i d) ≡ true → size (get_or xs k d) ≤ size (get_or xs i d)
    pub before_more : (i : ℕ) → i < k → q (get_or xs i d) ≡ true → size (get_or xs k d) < size (get_or xs i d)

  module _ (size : A → ℕ) where
    -- the first is as small as each of the others that passes
    first_least : (x : A) (xs : List A) → q x ≡ true
        → ((i : ℕ) → i < length xs → q (get_or xs i d) ≡ true → size x ≤ size (get_or xs i d)) → LeastAt size (x ∷ xs) 0
    first_least x xs g others = record { inside = omega arith; passes = g; none_less = least; before_more = λ i l. absurd (omega arith) }
      where
        least : (i : ℕ) → i < length (x ∷ xs) → q (get_or (x ∷ xs) i d) ≡ true → size x ≤ size (get_or (x ∷ xs) i d)
        least zero l e = omega arith
        least (suc i) l e = others i (omega arith) e

    -- the first does not pass, or is greater than the least of the others
    behind_first : (x : A) (xs : List A) (k : ℕ) → (q x ≡ true → size (get_or xs k d) < size x) → LeastAt size xs k
        → LeastAt size (x ∷ xs) (suc k)
    behind_first x xs k h at = record { inside = omega (arith, at.inside); passes = at.passes; none_less = least; before_more = more }
      where
        least : (i : ℕ) → i < length (x ∷ xs) → q (get_or (x ∷ xs) i d) ≡ true
            → size (get_or xs k d) ≤ size (get_or (x ∷ xs) i d)
        least zero l e = omega (arith, h e)
        least (suc i) l e = at.none_less i (omega arith) e

        more : (i : ℕ) → i < suc k → q (get_or (x ∷ xs) i d) ≡ true → size (get_or xs k d) < size (get_or (x ∷ xs) i d)
        more zero l e = h e
        more (suc i) l e = at.before_more i (omega arith) e

    -- where some passes, there is such a place
    least_there : (xs : List A) → any q xs ≡ true → (k : ℕ) × LeastAt size xs k
    least_there [] h = clash h refl
    least_there (x ∷ xs) h =
        split (any q xs)
        (λ more.
        let others = least_there xs more in
        let k = others.0 in
        let at = others.1 in
        let small = leb (size x) (size (get_or xs k d)) in
        split (q x && small)
        (λ b.
        let both = both_true (q x) small b in
        let least : size x ≤ size (get_or xs k d) = leb-true _ _ both.1 in
        (0, first_least x xs both.0 (λ i l e. omega (arith, at.none_less i l e))))
        (λ b. (suc k, behind_first x xs k (λ e. leb-false _ _ (rw e at b)) at)))
        (λ no_other. (
          0,
          first_least x xs (⊎_elim (λ (g : q x ≡ true). g) (λ (g : any q xs ≡ true). clash g no_other) (or_split (q x) (any q xs) h))
              (λ i l e. clash e (each_at_place d (any_none q xs no_other) i l)),
        ))

module _ (t : Records) (js : List Job) where
  abbrev at : ℕ → Speed
  at i = get_or t.speeds i no_speed

  -- at place k stands the speed that step 9 names
  abbrev pub CheapestAt : ℕ → Type 0
  CheapestAt = LeastAt (qualifies t js) no_speed (λ f. energy_at f js) t.speeds

  -- of the speeds that qualify, none has less energy than f
  abbrev NoneLess : Speed → Type 0
  NoneLess f = Each (λ g. qualifies t js g ≡ true → energy_at f js ≤ energy_at g js) t.speeds

  abbrev costs_least : Speed → Bool
  costs_least f = least_energy js (keep (qualifies t js) t.speeds) f

  least_told : (f : Speed) → NoneLess f → costs_least f ≡ true
  unfolding least_energy
  least_told f e =
      each_all (λ g. leb (energy_at f js) (energy_at g js)) (each_kept (qualifies t js) (each_too (λ g l q. le-leb _ _ (l q)) e))

  told_least : (f : Speed) → costs_least f ≡ true → NoneLess f
  unfolding least_energy
  told_least f h =
      kept_each (qualifies t js) t.speeds
      (each_too (λ g e. leb-true _ _ e)
      (all_each (λ g. leb (energy_at f js) (energy_at g js)) (keep (qualifies t js) t.speeds) h))

  -- one that has more energy than another that qualifies is not the least
  dearer_not_told : (i k : ℕ) → k < length t.speeds → qualifies t js (at k) ≡ true
      → energy_at (at k) js < energy_at (at i) js → costs_least (at i) ≡ false
  dearer_not_told i k h e l =
      not_true_false (costs_least (at i))
      (λ told. omega (arith, each_at_place no_speed (told_least (at i) told) k h e))

  pub cheapest_taken : (k : ℕ) → CheapestAt k → get_or t.speeds k no_speed ≡ speed_for t js
  unfolding speed_for speed_or
  cheapest_taken k c =
      sym
      (ap speed_or
      (find_kept_at (qualifies t js) no_speed costs_least t.speeds k c.inside c.passes
      (least_told (at k) (each_of_places no_speed t.speeds c.none_less))
      (λ i l e. dearer_not_told i k c.inside c.passes (c.before_more i l e))))

  pub none_taken : ((i : ℕ) → i < length t.speeds → qualifies t js (get_or t.speeds i no_speed) ≡ false)
      → no_speed ≡ speed_for t js
  unfolding speed_for speed_or
  none_taken h = rw (none_kept (qualifies t js) no_speed t.speeds h)

  pub cheapest_there : any (qualifies t js) t.speeds ≡ true → (k : ℕ) × CheapestAt k
  cheapest_there h = least_there (qualifies t js) no_speed (λ f. energy_at f js) t.speeds h

-- of two tables with one clock, one budget and the same speeds, the same jobs take the same speed
pub same_speed : (t u : Records) (js : List Job) → t.clock ≡ u.clock → t.budget ≡ u.budget → t.speeds ≡ u.speeds
    → speed_for t js ≡ speed_for u js
unfolding speed_for qualifies
same_speed t u js c b s = rw (c, b, s)

-- "An empty plan takes the first speed and energy 0."
pub empty_costs_nothing : (f : Speed) → energy_at f [] ≡ 0
unfolding energy_at cycles_of
empty_costs_nothing f = zero-mul f.cost

empty_qualifies : (t : Records) (f : Speed) → qualifies t [] f ≡ true
unfolding in_time runs_of runs_from
empty_qualifies t f = both_qualify t [] f refl (omega (arith, empty_costs_nothing f))

pub empty_takes_first : (t : Records) → 1 ≤ length t.speeds → get_or t.speeds 0 no_speed ≡ speed_for t []
empty_takes_first t h =
    cheapest_taken t [] 0
    (record {
      inside = omega arith;
      passes = empty_qualifies t (get_or t.speeds 0 no_speed);
      none_less = λ i l q. omega (arith, empty_costs_nothing (get_or t.speeds 0 no_speed));
      before_more = λ i l. absurd (omega arith);
    })
