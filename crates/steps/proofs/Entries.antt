-- Step 6, one entry at a time: whom the plan holds after an insertion, a removal, a member, a trial, and what holds of its
-- entries, one by one and two by two. A trial has the plan's jobs and its chain's, and no others. Assumes nothing.
use mathlib.Core.Bool.{true, false, ◌||◌}
use mathlib.Core.List.{List, [], ◌∷◌}
use mathlib.Core.Option.{Option, none, some}
use mathlib.Core.Path.{◌≡◌, refl, sym, ◌∙◌}
use Prim.Native.Nat.{ℕ, min, ◌≤◌, ◌<◌}
use native.Mathlib.Omega.{arith}
use borrow.Author.Tests.{le-leb, leb-false, leb-true}
use Rattle.laws.proofs.Choices.{or_absorb, or_front, or_left, or_right, split}
use Rattle.laws.proofs.Elements.{each_too}
use Rattle.steps.proofs.Jobs.{same_as, same_self, same_to}
use Rattle.laws.proofs.Lookups.{any_agree, any_none, any_place, each_place, found_any_own, none_any, not_found}
use Rattle.laws.specs.Pairs.{Pairwise, no_pair, ◌then◌}
use Rattle.laws.proofs.Pairs.{pairs_place}
use Rattle.rules.specs.Lists.{Each, any, find, none_left, ◌and◌}
use Rattle.rules.specs.Plan.{Entry, Limited, Turn, begin, goes_before, in_plan, insert, is_of, member, member_found, member_new, member_planned, members, remove, same, stays_below, trial}
use Rattle.rules.specs.declared.Job.{Job}

-- the entry of job k at a key
abbrev pub entry : Job → ℕ → Entry
entry k key = record { job = k; key = key }

pub is-of : (k : Job) (e : Entry) → is_of k e ≡ true → same k e.job ≡ true
unfolding is_of
is-of k e h = h

-- the plan tells jobs apart by their numbers alone
pub planned_as : (j k : Job) (p : List Entry) → same j k ≡ true → in_plan j p ≡ in_plan k p
unfolding in_plan is_of
planned_as j k p h = any_agree (is_of j) (is_of k) p (λ e. same_as j k e.job h)

pub not-planned : (k : Job) (p : List Entry) → in_plan k p ≡ false → Each (λ e. same k e.job ≡ false) p
unfolding in_plan is_of
not-planned k p h = any_none (is_of k) p h

pub out_of_plan : (k : Job) {p : List Entry} → Each (λ e. same k e.job ≡ false) p → in_plan k p ≡ false
unfolding in_plan is_of
out_of_plan k e = none_any (is_of k) e

pub no_entry : (k : Job) (p : List Entry) → find (is_of k) p ≡ none → in_plan k p ≡ false
unfolding in_plan
no_entry k p h = not_found (is_of k) p h

pub has_entry : (k : Job) (p : List Entry) {e : Entry} → find (is_of k) p ≡ some e → in_plan k p ≡ true
unfolding in_plan
has_entry k p h = found_any_own (is_of k) p h

-- the job of each entry is planned
pub own_planned : (p : List Entry) → Each (λ e. in_plan e.job p ≡ true) p
unfolding in_plan is_of
own_planned [] = none_left
own_planned (e ∷ es) =
    let here : in_plan e.job (e ∷ es) ≡ true = rw (same_self e.job) in
    here and each_too (λ f h. or_right (same f.job e.job) (any (is_of f.job) es) h) (own_planned es)

pub planned_insert : (x k : Job) (key : ℕ) (p : List Entry) → in_plan x (insert k key p) ≡ same x k || in_plan x p
unfolding in_plan insert is_of
planned_insert x k key p = any_place (is_of x) goes_before (entry k key) p

planned_remove : (x k : Job) (p : List Entry) → same x k ≡ false → in_plan x (remove k p) ≡ in_plan x p
unfolding in_plan remove is_of
planned_remove x k [] n = refl
planned_remove x k (e ∷ es) n =
    split (same k e.job)
    (λ h. rw h (rw (sym (same_to x k e.job h)) (rw n)))
    (λ h. rw h (rw (planned_remove x k es n)))

pub planned_moved : (x k : Job) (key : ℕ) (p : List Entry) → in_plan x (insert k key (remove k p)) ≡ same x k || in_plan x p
planned_moved x k key p =
    split (same x k)
    (λ s. rw (planned_insert x k key (remove k p)) (rw s))
    (λ s. rw (planned_insert x k key (remove k p)) (rw s (planned_remove x k p s)))

planned_found : (x k : Job) (s : Limited) (o : Option Entry) → find (is_of k) s.plan ≡ o
    → in_plan x (member_found k s o).plan ≡ same x k || in_plan x s.plan
unfolding member_found member_new member_planned
planned_found x k s none f = planned_insert x k (min s.limit k.critical) s.plan
planned_found x k s (some e) f =
    split (stays_below s.limit e)
    (λ t. rw t (sym (or_absorb (same x k) (in_plan x s.plan) (λ h. planned_as x k s.plan h ∙ has_entry k s.plan f))))
    (λ t. rw t (planned_moved x k s.limit s.plan))

planned_members : (x : Job) (ks : List Job) (s : Limited)
    → in_plan x (members ks s).plan ≡ any (same x) ks || in_plan x s.plan
unfolding members member
planned_members x [] s = refl
planned_members x (k ∷ ks) s =
    planned_members x ks (member k s)
    ∙ rw (planned_found x k s (find (is_of k) s.plan) refl) (or_front (any (same x) ks) (same x k) (in_plan x s.plan))

-- After a trial exactly the chain and those who were planned before are planned.
pub planned_trial : (x : Job) (i : Turn) (p : List Entry)
    → in_plan x (trial i p) ≡ any (same x) (i.job ∷ i.awaited) || in_plan x p
unfolding trial begin
planned_trial x i p =
    planned_members x i.awaited (begin i.job p)
    ∙ rw (planned_insert x i.job i.job.critical p)
    (or_front (any (same x) i.awaited) (same x i.job) (in_plan x p))

pub trial_keeps : (x : Job) (i : Turn) (p : List Entry) → in_plan x p ≡ true → in_plan x (trial i p) ≡ true
trial_keeps x i p h = planned_trial x i p ∙ or_right (any (same x) (i.job ∷ i.awaited)) (in_plan x p) h

pub trial_has_own : (i : Turn) (p : List Entry) → in_plan i.job (trial i p) ≡ true
trial_has_own i p =
    planned_trial i.job i p
    ∙ or_left (any (same i.job) (i.job ∷ i.awaited)) (in_plan i.job p)
    (or_left (same i.job i.job) (any (same i.job) i.awaited) (same_self i.job))

-- entry by entry
pub each_insert : {P : Entry → Type 0} (k : Job) (key : ℕ) {p : List Entry} → P (entry k key) → Each P p
    → Each P (insert k key p)
unfolding insert
each_insert k key h e = each_place goes_before (entry k key) h e

pub each_remove : {P : Entry → Type 0} (k : Job) {p : List Entry} → Each P p → Each P (remove k p)
unfolding remove
each_remove k none_left = none_left
each_remove k {p = e ∷ es} (h and hs) = split (is_of k e) (λ g. rw g hs) (λ g. rw g (h and each_remove k hs))

-- two by two
pub pairs_remove : {R : Entry → Entry → Type 0} (k : Job) {p : List Entry} → Pairwise R p → Pairwise R (remove k p)
unfolding remove
pairs_remove k no_pair = no_pair
pairs_remove k {p = e ∷ es} (r then rs) = split (is_of k e) (λ g. rw g rs) (λ g. rw g (each_remove k r then pairs_remove k rs))

-- where keys never fall, an entry put in stands behind those of lesser keys and before the others
pub pairs_insert : {R : Entry → Entry → Type 0} → ((e f : Entry) → R e f → e.key ≤ f.key)
    → (k : Job) (key : ℕ) {p : List Entry}
    → Pairwise R p → Each (λ e. e.key < key → R e (entry k key)) p → Each (λ e. key ≤ e.key → R (entry k key) e) p
    → Pairwise R (insert k key p)
unfolding insert goes_before
pairs_insert keys k key r a b =
    pairs_place goes_before (entry k key)
    (λ e f s h. le-leb key f.key (let l = keys e f s in let m = leb-true key e.key h in omega arith)) r
    (each_too (λ e h g. h (leb-false key e.key g)) a)
    (each_too (λ e h g. h (leb-true key e.key g)) b)
