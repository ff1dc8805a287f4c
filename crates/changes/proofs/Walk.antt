-- The changes of a walk, which needs keys only: member by member, as a loop along the chain takes it. They are of members, no job
-- twice; their keys never rise along the walk, since the limit never does; and whom they move, they move forward. Assumes nothing.
use mathlib.Core.Bool.{true, false}
use mathlib.Core.List.{List, [], ◌∷◌, ◌++◌}
use mathlib.Core.Option.{Option, none, some}
use mathlib.Core.Path.{◌≡◌, refl, sym, ◌∙◌}
use Prim.Native.Nat.{ℕ, min, ◌≤◌, ◌<◌}
use native.Mathlib.Omega.{arith}
use borrow.Author.Tests.{le-ltb, lt-ltb, ltb-false, ltb-true}
use lib.Dec.{ltb}
use Rattle.laws.proofs.Choices.{clash, nothing_there, one_there, split}
use Rattle.laws.proofs.Elements.{each_append, each_too}
use Rattle.laws.proofs.Lookups.{each_both, each_first, each_rest}
use Rattle.laws.specs.Pairs.{Pairwise, no_pair, ◌then◌}
use Rattle.laws.proofs.Pairs.{pairs_both}
use Rattle.changes.specs.Changes.{change_of, changes_along, changes_of, key_in, key_of, limit_behind}
use Rattle.changes.proofs.Merging.{Apart, OnceEach}
use Rattle.rules.specs.Lists.{Each, none_left, ◌and◌}
use Rattle.rules.specs.Plan.{Entry, Turn, in_plan, is_of, same}
use Rattle.rules.specs.declared.Job.{Job}
use Rattle.steps.proofs.Entries.{entry, not-planned, out_of_plan}
use Rattle.steps.proofs.Jobs.{same_self, same_swap}

module _ (key : Job → Option ℕ) (limit : ℕ) where
  -- No member left: no change.
  pub nobody_left : changes_along key limit [] ≡ []
  unfolding changes_along
  nobody_left = refl

  module _ (k : Job) (ks : List Job) where
    -- A member that is not in the plan comes in at the limit, or at its critical time if that is less, and this is then the limit.
    pub comes_in : key k ≡ none
        → changes_along key limit (k ∷ ks)
        ≡ entry k (min limit k.critical) ∷ changes_along key (min limit k.critical) ks
    unfolding changes_along change_of limit_behind
    comes_in h = rw h

    -- A member with a key below the limit stays, and its key is then the limit.
    pub stays : (was : ℕ) → key k ≡ some was → was < limit → changes_along key limit (k ∷ ks) ≡ changes_along key was ks
    unfolding changes_along change_of limit_behind
    stays was h l = rw h (rw (lt-ltb was limit l))

    -- A member with a key at or above the limit moves to it.
    pub moves : (was : ℕ) → key k ≡ some was → limit ≤ was
        → changes_along key limit (k ∷ ks) ≡ entry k limit ∷ changes_along key limit ks
    unfolding changes_along change_of limit_behind
    moves was h l = rw h (rw (le-ltb was limit l))

-- d may come behind c in the walk
pub record Falls (c d : Entry) : Type 0 where
  pub apart : same c.job d.job ≡ false
  pub no_greater : d.key ≤ c.key

never_rises : (limit : ℕ) (k : Job) (o : Option ℕ) → limit_behind limit k o ≤ limit
unfolding limit_behind
never_rises limit k none = omega arith
never_rises limit k (some key) =
    split (ltb key limit) (λ g. rw g (omega (arith, ltb-true key limit g))) (λ g. rw g (omega arith))

-- a member's change, where it has one, has for its key the limit behind the member
each_with_change : {P : Entry → Type 0} (limit : ℕ) (k : Job) (o : Option ℕ) {cs : List Entry}
    → P (entry k (limit_behind limit k o))
    → Each P cs → Each P (change_of limit k o ++ cs)
unfolding change_of limit_behind
each_with_change limit k none h hs = h and hs
each_with_change {P} limit k (some key) h hs =
    split (ltb key limit) (λ g. rw g hs) (λ g. let here : P (entry k limit) = rw g at h in rw g (here and hs))

pairs_with_change : {R : Entry → Entry → Type 0} (limit : ℕ) (k : Job) (o : Option ℕ) {cs : List Entry}
    → Each (R (entry k (limit_behind limit k o))) cs
    → Pairwise R cs → Pairwise R (change_of limit k o ++ cs)
unfolding change_of limit_behind
pairs_with_change limit k none r rs = r then rs
pairs_with_change {R} limit k (some key) {cs} r rs =
    split (ltb key limit) (λ g. rw g rs) (λ g. let here : Each (R (entry k limit)) cs = rw g at r in rw g (here then rs))

module _ (key : Job → Option ℕ) where
  each_along : {P : Job → Type 0} (limit : ℕ) {ks : List Job} → Each P ks → Each (λ c. P c.job) (changes_along key limit ks)
  unfolding changes_along
  each_along limit none_left = none_left
  each_along limit {ks = k ∷ ks} (h and hs) =
      each_with_change limit k (key k) h (each_along (limit_behind limit k (key k)) hs)

  pairs_along : {R : Job → Job → Type 0} (limit : ℕ) {ks : List Job} → Pairwise R ks
      → Pairwise (λ c d. R c.job d.job) (changes_along key limit ks)
  unfolding changes_along
  pairs_along limit no_pair = no_pair
  pairs_along limit {ks = k ∷ ks} (r then rs) =
      let behind = limit_behind limit k (key k) in
      pairs_with_change limit k (key k) (each_along behind r) (pairs_along behind rs)

  to_limit : (limit : ℕ) (ks : List Job) → Each (λ c. c.key ≤ limit) (changes_along key limit ks)
  unfolding changes_along
  to_limit limit [] = none_left
  to_limit limit (k ∷ ks) =
      let l = never_rises limit k (key k) in
      each_with_change limit k (key k) l (each_too (λ c h. omega arith) (to_limit (limit_behind limit k (key k)) ks))

  keys_fall : (limit : ℕ) (ks : List Job) → Pairwise (λ c d. d.key ≤ c.key) (changes_along key limit ks)
  unfolding changes_along
  keys_fall limit [] = no_pair
  keys_fall limit (k ∷ ks) =
      let behind = limit_behind limit k (key k) in
      pairs_with_change limit k (key k) (to_limit behind ks) (keys_fall behind ks)

-- What any two members have, the changes' jobs have.
pub changes_in_pairs : {R : Job → Job → Type 0} (i : Turn) (p : List Entry) → Pairwise R (i.job ∷ i.awaited)
    → Pairwise (λ c d. R c.job d.job) (changes_of i p)
unfolding changes_of
changes_in_pairs i p (r then rs) =
    each_along (key_in p) i.job.critical r then pairs_along (key_in p) i.job.critical rs

-- What each member has, each change's job has.
pub each_change : {P : Job → Type 0} (i : Turn) (p : List Entry) → Each P (i.job ∷ i.awaited)
    → Each (λ c. P c.job) (changes_of i p)
unfolding changes_of
each_change i p (h and hs) = h and each_along (key_in p) i.job.critical hs

-- Along the walk the keys of the changes never rise.
pub changes_never_rise : (i : Turn) (p : List Entry) → Pairwise (λ c d. d.key ≤ c.key) (changes_of i p)
unfolding changes_of
changes_never_rise i p =
    to_limit (key_in p) i.job.critical i.awaited then keys_fall (key_in p) i.job.critical i.awaited

-- Where no job stands twice in the chain, none is changed twice, and the keys never rise.
pub changes_fall : (i : Turn) (p : List Entry) → Apart (i.job ∷ i.awaited) → Pairwise Falls (changes_of i p)
changes_fall i p a =
    pairs_both (λ c d n l. record { apart = n; no_greater = l }) (changes_in_pairs i p a) (changes_never_rise i p)

-- A job whose entry stands first has its key.
pub key_here : (x : Job) (e : Entry) (es : List Entry) → same x e.job ≡ true → key_in (e ∷ es) x ≡ some e.key
unfolding key_in key_of is_of
key_here x e es h = rw h

-- A job other than the first entry's has the key that the others give it.
pub key_not_here : (x : Job) (e : Entry) (es : List Entry) → same x e.job ≡ false → key_in (e ∷ es) x ≡ key_in es x
unfolding key_in is_of
key_not_here x e es h = rw h
