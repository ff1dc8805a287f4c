-- A plan of places in the order of their keys, none twice, with one put in that it does not have, or with one taken
-- out, has none twice either, stands in that order, and has its keys tell which are in it. Places below `most_jobs`, none twice,
-- are at most so many, so that there is room for one more that the plan does not have. Assumes nothing.
use mathlib.Core.Bool.{true, false, ◌||◌}
use mathlib.Core.List.{List, [], ◌∷◌}
use mathlib.Core.Path.{◌≡◌, refl, sym, ap, ◌∙◌}
use Prim.Native.Nat.{ℕ, zero, suc, ◌+◌, ◌≤◌, ◌<◌}
use native.Mathlib.Omega.{arith}
use borrow.Author.Tests.{eqb-false, eqb-true, le-ltb, lt-ltb}
use lib.Dec.{eqb}
use lib.ListN.{length, get_or, length-set, set, take, drop}
use lib.Seq.{get_or-set_other, get_or-set_same, length-take-le}
use Rattle.columns.specs.Columns.{AllBelow}
use Rattle.entries.proofs.Entries.{below_with, below_without}
use Rattle.entries.specs.Places.{Sorted, first_where, index_of, not_planned, with_at, without_at}
use Rattle.laws.proofs.Choices.{eqb_swap, or_swap, split}
use Rattle.laws.proofs.Elements.{each_too}
use Rattle.laws.proofs.Lookups.{any_none, each_both, none_any}
use Rattle.laws.specs.Pairs.{Distinct, Pairwise, among, no_pair, ◌then◌}
use Rattle.laws.proofs.Pairs.{no_longer, pairs_too}
use Rattle.rules.specs.Lists.{Each, none_left, ◌and◌}
use Rattle.rules.specs.TableText.{most_jobs}
use Rattle.trials.specs.Promises.{EntriesStand, is_planned}

-- one put in
among_with : (at n : ℕ) (ns : List ℕ) (m : ℕ) → among (with_at at n ns) m ≡ eqb m n || among ns m
among_with zero n ns m = refl
among_with (suc at) n [] m = refl
among_with (suc at) n (k ∷ ns) m = rw (among_with at n ns m) (or_swap (eqb m k) (eqb m n) (among ns m))

each_with : {P : ℕ → Type 0} (at n : ℕ) {ns : List ℕ} → P n → Each P ns → Each P (with_at at n ns)
each_with zero n p ps = p and ps
each_with (suc at) n p none_left = p and none_left
each_with (suc at) n p (q and qs) = q and each_with at n p qs

pub with_once : (at n : ℕ) {ns : List ℕ} → Each (λ m. eqb n m ≡ false) ns → Distinct ns → Distinct (with_at at n ns)
with_once zero n new once = new then once
with_once (suc at) n none_left no_pair = none_left then no_pair
with_once (suc at) n {ns = k ∷ ns} (d and new) (r then rs) =
    each_with at n (eqb_swap k n ∙ d) r then with_once at n new rs

-- one taken out
pub each_without : {P : ℕ → Type 0} (at : ℕ) {ns : List ℕ} → Each P ns → Each P (without_at at ns)
unfolding without_at
each_without at none_left = none_left
each_without zero (p and ps) = ps
each_without (suc at) (p and ps) = p and each_without at ps

pairs_without : {R : ℕ → ℕ → Type 0} (at : ℕ) {ns : List ℕ} → Pairwise R ns → Pairwise R (without_at at ns)
unfolding without_at
pairs_without at no_pair = no_pair
pairs_without zero (r then rs) = rs
pairs_without (suc at) (r then rs) = each_without at r then pairs_without at rs

-- what stands once and is taken out is there no more
pub taken_out_is_gone : (n : ℕ) {ns : List ℕ} → Distinct ns → among (without_at (index_of n ns) ns) n ≡ false
unfolding without_at first_where
taken_out_is_gone n no_pair = refl
taken_out_is_gone n {ns = m ∷ ns} (r then rs) =
    split (eqb n m)
    (λ g. rw g (none_any (eqb n) (each_too (λ k d. ap (λ a. eqb a k) (eqb-true n m g) ∙ d) r)))
    (λ g. rw g (rw g (taken_out_is_gone n rs)))

others_stay : (n : ℕ) (ns : List ℕ) (m : ℕ) → eqb m n ≡ false → among (without_at (index_of n ns) ns) m ≡ among ns m
unfolding without_at first_where
others_stay n [] m d = refl
others_stay n (k ∷ ns) m d =
    split (eqb n k)
    (λ g. rw g (rw (ap (eqb m) (sym (eqb-true n k g)) ∙ d)))
    (λ g. rw g (rw (others_stay n ns m d)))

-- so many places, from n on
all_from : ℕ → ℕ → List ℕ
all_from n zero = []
all_from n (suc m) = n ∷ all_from (suc n) m

length_places : (n m : ℕ) → length (all_from n m) ≡ m
unfolding all_from
length_places n zero = refl
length_places n (suc m) = ap suc (length_places (suc n) m)

among_places : (n m p : ℕ) → n ≤ p → p < n + m → among (all_from n m) p ≡ true
unfolding all_from
among_places n zero p h l = absurd (omega arith)
among_places n (suc m) p h l =
    split (eqb p n) (λ g. rw g)
    (λ g. rw g (among_places (suc n) m p (omega (arith, eqb-false p n g)) (omega arith)))

each_place : (ps : List ℕ) → AllBelow most_jobs ps → Each (λ p. among (all_from 0 most_jobs) p ≡ true) ps
each_place [] below = none_left
each_place (p ∷ ps) below =
    among_places 0 most_jobs p (omega arith) (omega (arith, below 0 (omega arith)))
    and each_place ps (λ i l. below (suc i) (omega arith))

-- places below `most_jobs`, none twice, are at most so many
at_most_all : (ps : List ℕ) → AllBelow most_jobs ps → Distinct ps → length ps ≤ most_jobs
at_most_all ps below once =
    omega (arith, no_longer (all_from 0 most_jobs) once (each_place ps below), length_places 0 most_jobs)

pub each_taken : {A : Type 0} {P : A → Type 0} (n : ℕ) {xs : List A} → Each P xs → Each P (take n xs)
each_taken zero ps = none_left
each_taken (suc n) none_left = none_left
each_taken (suc n) (p and ps) = p and each_taken n ps

pub each_dropped : {A : Type 0} {P : A → Type 0} (n : ℕ) {xs : List A} → Each P xs → Each P (drop n xs)
each_dropped zero ps = ps
each_dropped (suc n) none_left = none_left
each_dropped (suc n) (p and ps) = each_dropped n ps

pub pairs_dropped : {A : Type 0} {R : A → A → Type 0} (n : ℕ) {xs : List A} → Pairwise R xs → Pairwise R (drop n xs)
pairs_dropped zero rs = rs
pairs_dropped (suc n) no_pair = no_pair
pairs_dropped (suc n) (r then rs) = pairs_dropped n rs

-- a key stored for a place that is none of these
module _ (keys : List ℕ) (place key : ℕ) (h : place < length keys) where
  abbrev keys' : List ℕ
  keys' = set keys place key

  pub stored : get_or keys' place 0 ≡ key
  stored = get_or-set_same keys place key 0 h

  pub kept : (p : ℕ) → eqb place p ≡ false → get_or keys' p 0 ≡ get_or keys p 0
  kept p d = get_or-set_other keys place p key 0 (λ e. eqb-false place p d (sym e))

  pub all_kept : {ps : List ℕ} → Each (λ p. eqb place p ≡ false) ps → Sorted keys ps → Sorted keys' ps
  all_kept = pairs_too {P = λ p. eqb place p ≡ false} (λ p q d e l. rw (kept p d, kept q e) l)

-- one put in between those that may stand before it and those that may stand behind it
pairs_with : {R : ℕ → ℕ → Type 0} (at n : ℕ) {ns : List ℕ} → Pairwise R ns → Each (λ m. R m n) (take at ns)
    → Each (λ m. R n m) (drop at ns) → Pairwise R (with_at at n ns)
pairs_with zero n rs before behind = behind then rs
pairs_with (suc at) n no_pair before behind = none_left then no_pair
pairs_with (suc at) n (r then rs) (b and bs) behind = each_with at n b r then pairs_with at n rs bs behind

-- a plan's places without this one, whose keys tell of all others which are in the plan
pub record Apart (place : ℕ) (ps keys : List ℕ) : Type 0 where
  pub keys_length : length keys ≡ most_jobs
  pub below : AllBelow most_jobs ps
  pub once : Distinct ps
  pub sorted : Sorted keys ps
  pub place_below : place < most_jobs
  pub new : among ps place ≡ false
  pub others : (p : ℕ) → p < most_jobs → eqb p place ≡ false → is_planned keys p ≡ among ps p

module _ (place : ℕ) (ps keys : List ℕ) (apart : Apart place ps keys) where
  pub none_of : Each (λ p. eqb place p ≡ false) ps
  none_of = any_none (eqb place) ps apart.new

  pub key_there : place < length keys
  key_there = omega (arith, apart.keys_length, apart.place_below)

  pub room_for_one_more : length ps < most_jobs
  room_for_one_more =
      omega (
        arith,
        at_most_all (place ∷ ps) (below_with most_jobs 0 place ps apart.below apart.place_below)
            (with_once 0 place none_of apart.once),
      )

  -- with the key stored, the keys tell of all places
  keys_tell_with : (at key p : ℕ) → key < not_planned → p < most_jobs
      → is_planned (set keys place key) p ≡ among (with_at at place ps) p
  keys_tell_with at key p l h =
      rw (among_with at place ps p)
      (split (eqb p place)
      (λ g. rw (g, eqb-true p place g, stored keys place key key_there) (lt-ltb key not_planned l))
      (λ g. rw (g, kept keys place key key_there p (eqb_swap place p ∙ g)) (apart.others p h g)))

  -- put in between lower and higher keys: a plan again
  pub put_in_stands : (at key count' : ℕ) (places' keys' : List ℕ) → take count' places' ≡ with_at at place ps
      → keys' ≡ set keys place key → length places' ≡ most_jobs → count' ≤ most_jobs → key < not_planned
      → Each (λ p. get_or keys p 0 ≤ key) (take at ps) → Each (λ p. key ≤ get_or keys p 0) (drop at ps)
      → EntriesStand count' places' keys'
  put_in_stands at key count' places' keys' front key_stored whole few l lower higher =
      let new : Each (λ p. eqb place p ≡ false) ps = none_of in
      let own = stored keys place key key_there in
      record {
        places_length = whole;
        keys_length = rw key_stored (length-set keys place key ∙ apart.keys_length);
        few = few;
        below = rw front (below_with most_jobs at place ps apart.below apart.place_below);
        once = rw front (with_once at place new apart.once);
        sorted = rw (front, key_stored)
            (pairs_with at place (all_kept keys place key key_there new apart.sorted)
            (each_both (λ p d m. rw (kept keys place key key_there p d, own) m) (each_taken at new) lower)
            (each_both (λ p d m. rw (kept keys place key key_there p d, own) m) (each_dropped at new) higher));
        keys_tell = λ q h. rw (front, key_stored) (keys_tell_with at key q l h);
      }

module _ (count : ℕ) (places keys : List ℕ) (stand : EntriesStand count places keys) where
  pub length_planned : length (take count places) ≡ count
  length_planned = length-take-le count places (omega (arith, stand.few, stand.places_length))

  module _ (place : ℕ) (h : place < most_jobs) where
    pub not_among : not_planned ≤ get_or keys place 0 → among (take count places) place ≡ false
    not_among l = sym (stand.keys_tell place h) ∙ le-ltb (get_or keys place 0) not_planned l

    pub planned_among : get_or keys place 0 < not_planned → among (take count places) place ≡ true
    planned_among l = sym (stand.keys_tell place h) ∙ lt-ltb (get_or keys place 0) not_planned l

    -- the plan without the place, whether it has it or not
    pub apart_without : Apart place (without_at (index_of place (take count places)) (take count places)) keys
    apart_without = record {
      keys_length = stand.keys_length;
      below = below_without most_jobs (index_of place (take count places)) (take count places) stand.below;
      once = pairs_without (index_of place (take count places)) stand.once;
      sorted = pairs_without (index_of place (take count places)) stand.sorted;
      place_below = h;
      new = taken_out_is_gone place stand.once;
      others = λ q m d. stand.keys_tell q m ∙ sym (others_stay place (take count places) q d);
    }
