-- Who leaves the plan: the places that are to go yet are those of the places to come that are among the changes, in their order.
-- So the next to go is the next place to come exactly if this is among the changes, and either way the same is true behind it.
-- Assumes nothing.
use mathlib.Core.Bool.{Bool, true, false, cond}
use mathlib.Core.List.{List, [], ◌∷◌}
use mathlib.Core.Path.{◌≡◌, refl, sym, ap, ◌∙◌}
use Prim.Native.Nat.{ℕ, zero, suc, ◌+◌, ◌-◌, ◌≤◌, ◌<◌}
use native.Mathlib.Nat.{zero-add}
use native.Mathlib.Numerals.{add-one}
use native.Mathlib.Omega.{arith}
use borrow.Author.Tests.{eq-eqb, eqb-true, lt-ltb, ltb-true}
use lib.Dec.{eqb, ltb}
use lib.ListN.{drop, get_or, length, length-drop, take}
use lib.Seq.{drop-cons, drop-nil, get_or-take, length-take-le}
use Rattle.entries.specs.Places.{not_planned}
use Rattle.judgements.specs.Changes.{Change, WellNoted, entries_of, far_first, is_next_to_go, places_of}
use Rattle.judgements.specs.declared.Noted.{Noted}
use Rattle.laws.proofs.Choices.{clash, or_left, or_right, split}
use Rattle.laws.proofs.Elements.{each_too}
use Rattle.laws.proofs.Lookups.{each_first, each_rest}
use Rattle.laws.proofs.Numbered.{same_place}
use Rattle.laws.specs.Pairs.{Pairwise, among, no_pair, ◌then◌}
use Rattle.rules.specs.Lists.{Each, Rising, keep, none_left, ◌and◌}
use Rattle.rules.specs.Plan.{in_plan, is_of}
use Rattle.rules.specs.TableText.{most_jobs, most_time, no_job}
use Rattle.rules.specs.declared.Job.{Job}

first_of : List ℕ → ℕ
first_of [] = 0
first_of (x ∷ xs) = x

rest_of : List ℕ → List ℕ
rest_of [] = []
rest_of (x ∷ xs) = xs

first_same : {x y : ℕ} {xs ys : List ℕ} → x ∷ xs ≡ y ∷ ys → x ≡ y
unfolding first_of
first_same e = ap first_of e

rest_same : {x y : ℕ} {xs ys : List ℕ} → x ∷ xs ≡ y ∷ ys → xs ≡ ys
unfolding rest_of
rest_same e = ap rest_of e

among_at : (ns : List ℕ) (i : ℕ) → i < length ns → among ns (get_or ns i 0) ≡ true
among_at [] i h = absurd (omega arith)
among_at (n ∷ ns) zero h = or_left (eqb n n) (among ns n) (eq-eqb n n refl)
among_at (n ∷ ns) (suc i) h = or_right (eqb (get_or ns i 0) n) (among ns (get_or ns i 0)) (among_at ns i (omega arith))

-- a list with a first element is not at its end
not_at_end : (i : ℕ) (xs : List ℕ) (y : ℕ) (ys : List ℕ) → drop i xs ≡ y ∷ ys → i < length xs
not_at_end i xs y ys e = omega (arith, length-drop i xs, ap length e)

-- the next of those to go, and those behind it
next_of : (i : ℕ) (xs : List ℕ) (y : ℕ) (ys : List ℕ) → drop i xs ≡ y ∷ ys → (get_or xs i 0 ≡ y) × (drop (i + 1) xs ≡ ys)
next_of i xs y ys e =
    let both = sym (drop-cons xs i 0 (not_at_end i xs y ys e)) ∙ e in (
      first_same both,
      rw (add-one i) (rest_same both),
    )

pub pairs_rest : {A : Type 0} {R : A → A → Type 0} {x : A} {xs : List A} → Pairwise R (x ∷ xs) → Pairwise R xs
pairs_rest (r then rs) = rs

pub pairs_first : {A : Type 0} {R : A → A → Type 0} {x : A} {xs : List A} → Pairwise R (x ∷ xs) → Each (R x) xs
pairs_first (r then rs) = r

module _ (changed fresh : List ℕ) where
  pub length_far : (n : ℕ) → length (places_of (far_first n changed fresh)) ≡ n
  length_far zero = refl
  length_far (suc n) = ap suc (length_far n)

  pub far_at : (n i : ℕ) → i < n → get_or (places_of (far_first n changed fresh)) i 0 ≡ get_or changed (n - 1 - i) 0
  far_at zero i h = absurd (omega arith)
  far_at (suc n) zero h = let here : n ≡ suc n - 1 - 0 = omega arith in ap (λ k. get_or changed k 0) here
  far_at (suc n) (suc i) h =
      let behind : n - 1 - i ≡ suc n - 1 - suc i = omega arith in
      far_at n i (omega arith) ∙ ap (λ k. get_or changed k 0) behind

  more_each : {P : Change → Type 0} (k n : ℕ) → Each P (far_first (k + n) changed fresh) → Each P (far_first n changed fresh)
  more_each zero n h = rw (zero-add n) at h
  more_each (suc k) n h = let one : suc k + n ≡ suc (k + n) = omega arith in more_each k n (each_rest (rw one at h))

  more_pairs : {R : Change → Change → Type 0} (k n : ℕ) → Pairwise R (far_first (k + n) changed fresh)
      → Pairwise R (far_first n changed fresh)
  more_pairs zero n r = rw (zero-add n) at r
  more_pairs (suc k) n r = let one : suc k + n ≡ suc (k + n) = omega arith in more_pairs k n (pairs_rest (rw one at r))

  -- what each change has, each that is left has
  pub each_left : {P : Change → Type 0} (all left : ℕ) → left ≤ all → Each P (far_first all changed fresh)
      → Each P (far_first left changed fresh)
  each_left {P} all left l h =
      let whole : all ≡ (all - left) + left = omega arith in
      more_each (all - left) left (rw whole at h)

  pub pairs_left : {R : Change → Change → Type 0} (all left : ℕ) → left ≤ all → Pairwise R (far_first all changed fresh)
      → Pairwise R (far_first left changed fresh)
  pairs_left all left l h =
      let whole : all ≡ (all - left) + left = omega arith in
      more_pairs (all - left) left (rw whole at h)

  pub each_far : {P : Change → Type 0} (n : ℕ)
      → ((i : ℕ) → i < n → P (record { place = get_or changed i 0; key = get_or fresh i 0 }))
      → Each P (far_first n changed fresh)
  each_far zero h = none_left
  each_far (suc n) h = h n (omega arith) and each_far n (λ i l. h i (omega arith))

module _ (changed fresh : List ℕ) (noted : Noted) (few : noted.moved ≤ noted.changes) (gone p : ℕ) (ps : List ℕ) where
  abbrev far : List ℕ
  far = places_of (far_first noted.changes changed fresh)

  abbrev to_go : List ℕ
  to_go = take noted.moved far

  length_to_go : length to_go ≡ noted.moved
  length_to_go =
      length-take-le noted.moved far (omega (arith, length_far changed fresh noted.changes))

  noted_at : gone < noted.moved → get_or to_go gone 0 ≡ get_or changed (noted.changes - 1 - gone) 0
  noted_at l = get_or-take noted.moved far gone 0 l ∙ far_at changed fresh noted.changes gone (omega arith)

  -- One that is among the changes is the next to go, and behind it come the others.
  pub next_goes : drop gone to_go ≡ keep (among far) (p ∷ ps) → among far p ≡ true
      → (is_next_to_go changed noted gone p ≡ true) × (drop (gone + 1) to_go ≡ keep (among far) ps)
  next_goes e h =
      let first : drop gone to_go ≡ p ∷ keep (among far) ps = rw h at e in
      let inside : gone < noted.moved = omega (arith, not_at_end gone to_go p (keep (among far) ps) first, length_to_go) in
      let next = next_of gone to_go p (keep (among far) ps) first in (
        rw (lt-ltb gone noted.moved inside)
            (eq-eqb p (get_or changed (noted.changes - 1 - gone) 0) (sym next.0 ∙ noted_at inside)),
        next.1,
      )

  -- One that is not among the changes is not the next to go, and does not go.
  pub next_stays : drop gone to_go ≡ keep (among far) (p ∷ ps) → among far p ≡ false
      → (is_next_to_go changed noted gone p ≡ false) × (drop gone to_go ≡ keep (among far) ps)
  next_stays e h = (
    split (ltb gone noted.moved)
        (λ l. rw l
        (split (eqb p (get_or changed (noted.changes - 1 - gone) 0)) (λ g. not_here (ltb-true gone noted.moved l) g) (λ g. g)))
        (λ l. rw l),
    rw h at e,
  )
    where
      not_here : gone < noted.moved → eqb p (get_or changed (noted.changes - 1 - gone) 0) ≡ true
          → eqb p (get_or changed (noted.changes - 1 - gone) 0) ≡ false
      not_here l g =
          let there = among_at far gone (omega (arith, length_far changed fresh noted.changes)) in
          let same = eqb-true p (get_or changed (noted.changes - 1 - gone) 0) g in
          clash (ap (among far) (same ∙ sym (far_at changed fresh noted.changes gone (omega arith))) ∙ there) h

-- A job is named by changes exactly if its place is among theirs.
pub named_among : (js : List Job) → Rising (λ j. j.number) js → (p : ℕ) → p < length js → {ds : List Change}
    → Each (λ d. d.place < length js) ds → in_plan (get_or js p no_job) (entries_of js ds) ≡ among (places_of ds) p
unfolding in_plan is_of
named_among js rising p l none_left = refl
named_among js rising p l {ds = d ∷ ds} (h and hs) =
    rw (same_place js rising p d.place l h, named_among js rising p l hs)

-- where none is to go yet, none of those to come is among the changes
pub none_to_go : (f : ℕ → Bool) (ps : List ℕ) → [] ≡ keep f ps → Each (λ p. f p ≡ false) ps
none_to_go f [] e = none_left
none_to_go f (p ∷ ps) e =
    split (f p)
    (λ h. absurd (let kept : [] ≡ p ∷ keep f ps = rw h at e in omega (arith, ap length kept)))
    (λ h. h and none_to_go f ps (rw h at e))

-- Where keys never fall, one no greater than that of the next to come is no greater than any behind it.
pub least_to_come : (key : ℕ) (keys : List ℕ) {ps : List ℕ} → Pairwise (λ p q. get_or keys p 0 ≤ get_or keys q 0) ps → (i : ℕ)
    → (i < length ps → key ≤ get_or keys (get_or ps i 0) 0) → Each (λ p. key ≤ get_or keys p 0) (drop i ps)
least_to_come key keys no_pair i h = rw (drop-nil i) none_left
least_to_come key keys (r then rs) zero h = let own = h (omega arith) in own and each_too (λ q l. omega arith) r
least_to_come key keys (r then rs) (suc i) h = least_to_come key keys rs i (λ l. h (omega arith))

-- what each has, each from some index on has
pub each_drop : {P : ℕ → Type 0} (i : ℕ) {xs : List ℕ} → Each P xs → Each P (drop i xs)
each_drop zero h = h
each_drop (suc i) none_left = none_left
each_drop (suc i) (p and ps) = each_drop i ps

-- An entry below the first change that is left is there, for the mark behind the last is above every time.
pub key_inside : (key i n here : ℕ) → key ≤ most_time → cond (ltb i n) here not_planned < key → (i < n) × (here < key)
key_inside key i n here l h =
    split (ltb i n)
    (λ g. (ltb-true i n g, rw g at h))
    (λ g. absurd (let above : not_planned < key = rw g at h in omega arith))

-- A change that is not above the key of the next to come, if any.
pub key_reached : (key i n here : ℕ) → key ≤ cond (ltb i n) here not_planned → i < n → key ≤ here
key_reached key i n here h l = rw (lt-ltb i n l) at h

-- The first change that is left is one of the table's jobs, at a time, and no greater than the others.
pub first_left : (changed fresh keys : List ℕ) (all left : ℕ) → WellNoted (far_first all changed fresh) keys → suc left ≤ all
    → (get_or changed left 0 < most_jobs)
    × (get_or fresh left 0 ≤ most_time)
    × ((key : ℕ) → key < get_or fresh left 0 → Each (λ c. key < c.key) (far_first (suc left) changed fresh))
first_left changed fresh keys all left well l =
    let falls = pairs_left changed fresh all (suc left) l well.no_fall in (
      each_first (each_left changed fresh all (suc left) l well.below),
      each_first (each_left changed fresh all (suc left) l well.times),
      λ key less. less and each_too (λ c m. omega arith) (pairs_first falls),
    )
