-- The plan of a trial is the merge. A member's step puts its change in and leaves all other keys, so that the walk is known by the
-- keys before it; and each change put in, with a key no greater than the last, stands in the merge before it. Assumes nothing.
use mathlib.Core.Bool.{true, false}
use mathlib.Core.List.{List, [], ◌∷◌, ◌++◌, reverse, reverse_aux}
use mathlib.Core.Option.{Option, none, some}
use mathlib.Core.Path.{◌≡◌, refl, sym, ap, ◌∙◌}
use Prim.Native.Nat.{ℕ, min, ◌≤◌}
use native.Mathlib.Omega.{arith}
use borrow.Author.Tests.{le-leb, leb-false, leb-true, lt-leb}
use lib.Dec.{leb, ltb}
use Rattle.laws.proofs.Choices.{split, split_option}
use Rattle.laws.proofs.Elements.{each_too}
use Rattle.laws.proofs.Lookups.{each_always, each_both, each_first, each_rest, find_agree}
use Rattle.laws.specs.Pairs.{Pairwise, no_pair, ◌then◌}
use Rattle.laws.proofs.Pairs.{pairs_place_apart}
use Rattle.changes.specs.Changes.{change_of, changes_along, changes_of, key_in, key_of, limit_behind, merged, staying}
use Rattle.changes.proofs.Merging.{Apart, NeverFall, OnceEach, merged_first, no_change_merged, staying_of_none, staying_one_more}
use Rattle.changes.proofs.Walk.{Falls, changes_fall, key_here, key_not_here}
use Rattle.rules.specs.Lists.{Each, find, none_left, ◌and◌}
use Rattle.rules.specs.Plan.{Entry, Limited, Turn, begin, goes_before, in_plan, insert, is_of, member, member_found, member_new, member_planned, members, remove, same, stays_below, trial}
use Rattle.rules.specs.declared.Job.{Job}
use Rattle.steps.proofs.Entries.{each_remove, entry, no_entry, not-planned, pairs_remove}
use Rattle.steps.proofs.Jobs.{same_as, same_self, same_swap, same_to}

-- A change made: its job's entry, if there is one, goes, and the change is put in where its key says.
unfoldable pub made : Entry → List Entry → List Entry
made c p = insert c.job c.key (remove c.job p)

-- Changes made one after the other.
unfoldable pub all_made : List Entry → List Entry → List Entry
all_made [] p = p
all_made (c ∷ cs) p = all_made cs (made c p)

-- another job is found where it was found before
insert_finds_others : (x k : Job) (key : ℕ) (p : List Entry) → same x k ≡ false
    → find (is_of x) (insert k key p) ≡ find (is_of x) p
unfolding insert is_of
insert_finds_others x k key [] n = rw n
insert_finds_others x k key (e ∷ es) n =
    split (goes_before (entry k key) e)
    (λ b. rw b (rw n))
    (λ b. rw b (split (same x e.job) (λ h. rw h) (λ h. rw h (insert_finds_others x k key es n))))

remove_finds_others : (x k : Job) (p : List Entry) → same x k ≡ false → find (is_of x) (remove k p) ≡ find (is_of x) p
unfolding remove is_of
remove_finds_others x k [] n = refl
remove_finds_others x k (e ∷ es) n =
    split (same k e.job)
    (λ h. rw h (rw (sym (same_to x k e.job h) ∙ n)))
    (λ h. rw h (split (same x e.job) (λ g. rw g) (λ g. rw g (remove_finds_others x k es n))))

-- From a plan without an entry of the job nothing is removed.
pub nothing_to_remove : (k : Job) {p : List Entry} → Each (λ e. same k e.job ≡ false) p → remove k p ≡ p
unfolding remove is_of
nothing_to_remove k none_left = refl
nothing_to_remove k {p = e ∷ es} (h and hs) = rw h (ap {B = List Entry} (λ l. e ∷ l) (nothing_to_remove k hs))

-- a change leaves the keys of all other jobs
others_keep_keys : (x : Job) (c : Entry) (p : List Entry) → same x c.job ≡ false → key_in (made c p) x ≡ key_in p x
unfolding key_in made
others_keep_keys x c p n =
    ap key_of (insert_finds_others x c.job c.key (remove c.job p) n ∙ remove_finds_others x c.job p n)

-- and so does the own job as it comes in
own_leaves_keys : (x j : Job) (key : ℕ) (p : List Entry) → same x j ≡ false → key_in (insert j key p) x ≡ key_in p x
unfolding key_in
own_leaves_keys x j key p n = ap key_of (insert_finds_others x j key p n)

-- a member's step makes its change, known by its key
member_by_key : (k : Job) (s : Limited)
    → member k s
    ≡ record {
      limit = limit_behind s.limit k (key_in s.plan k);
      plan = all_made (change_of s.limit k (key_in s.plan k)) s.plan;
    }
unfolding member member_found member_new member_planned stays_below key_in key_of limit_behind change_of all_made made
member_by_key k s =
    split_option (find (is_of k) s.plan)
    (λ h. rw h (rw (nothing_to_remove k (not-planned k s.plan (no_entry k s.plan h)))))
    (λ e h. rw h (split (ltb e.key s.limit) (λ g. rw g) (λ g. rw g)))

-- another member's key behind a member
keys_behind_member : (x k : Job) (limit : ℕ) (o : Option ℕ) (p : List Entry) → same x k ≡ false
    → key_in (all_made (change_of limit k o) p) x ≡ key_in p x
unfolding all_made change_of
keys_behind_member x k limit none p n = others_keep_keys x (entry k (min limit k.critical)) p n
keys_behind_member x k limit (some key) p n =
    split (ltb key limit) (λ g. rw g) (λ g. rw g (others_keep_keys x (entry k limit) p n))

made_in_parts : (cs ds p : List Entry) → all_made (cs ++ ds) p ≡ all_made ds (all_made cs p)
unfolding all_made
made_in_parts [] ds p = refl
made_in_parts (c ∷ cs) ds p = made_in_parts cs ds (made c p)

-- member after member makes the changes along the chain, where `key` gives the keys that the members have as the walk begins
members_by_keys : (key : Job → Option ℕ) (ks : List Job) (s : Limited) → Apart ks
    → Each (λ k. key k ≡ key_in s.plan k) ks
    → (members ks s).plan ≡ all_made (changes_along key s.limit ks) s.plan
unfolding members changes_along all_made
members_by_keys key [] s no_pair none_left = refl
members_by_keys key (k ∷ ks) s (r then rs) (h and hs) =
    let change = change_of s.limit k (key k) in
    let behind = limit_behind s.limit k (key k) in
    let step : member k s ≡ record { limit = behind; plan = all_made change s.plan } = rw h (member_by_key k s) in
    ap (λ (m : Limited). (members ks m).plan) step
    ∙ members_by_keys key ks (record { limit = behind; plan = all_made change s.plan }) rs
    (each_both (λ x d e. e ∙ sym (keys_behind_member x k s.limit (key k) s.plan (same_swap x k ∙ d))) r hs)
    ∙ sym (made_in_parts change (changes_along key behind ks) s.plan)

-- A trial makes the turn's changes, known by the keys before it.
pub trial_by_keys : (i : Turn) (p : List Entry) → in_plan i.job p ≡ false → Apart (i.job ∷ i.awaited)
    → trial i p ≡ all_made (changes_of i p) p
unfolding trial begin changes_of all_made made
trial_by_keys i p n (r then rs) =
    let j = i.job in
    members_by_keys (key_in p) i.awaited (begin j p) rs
    (each_too (λ k d. sym (own_leaves_keys k j j.critical p (same_swap k j ∙ d))) r)
    ∙ ap (λ q. all_made (changes_along (key_in p) j.critical i.awaited) (insert j j.critical q))
    (sym (nothing_to_remove j (not-planned j p n)))

-- put into a merge, a change with a key no greater than the changes' is one change more, before them
insert_in_merge : (c : Entry) {ds : List Entry} (q : List Entry) → Each (λ d. c.key ≤ d.key) ds
    → insert c.job c.key (merged ds q) ≡ merged (c ∷ ds) q
unfolding insert goes_before merged
insert_in_merge c [] none_left = refl
insert_in_merge c {ds = d ∷ ds} [] (h and hs) = rw (le-leb c.key d.key h)
insert_in_merge c (e ∷ es) none_left =
    split (leb c.key e.key)
    (λ g. rw g)
    (λ g. rw g (ap {B = List Entry} (λ l. e ∷ l) (insert_in_merge c es none_left)))
insert_in_merge c {ds = d ∷ ds} (e ∷ es) (h and hs) =
    split (leb c.key e.key)
    (λ g. rw g (split (leb d.key e.key) (λ b. rw b (rw (le-leb c.key d.key h))) (λ b. rw b (rw g))))
    (λ g. let l = leb-false c.key e.key g in
    rw g (rw (lt-leb d.key e.key (omega arith))
    (rw g (ap {B = List Entry} (λ l. e ∷ l) (insert_in_merge c es (h and hs))))))

pairs_first : {R : Entry → Entry → Type 0} {e : Entry} {es : List Entry} → Pairwise R (e ∷ es) → Each (R e) es
pairs_first (r then rs) = r

pairs_rest : {R : Entry → Entry → Type 0} {e : Entry} {es : List Entry} → Pairwise R (e ∷ es) → Pairwise R es
pairs_rest (r then rs) = rs

-- whom no change names is removed from a merge by being removed from what stays
remove_from_merge : (k : Job) (ds q : List Entry) → Each (λ d. same k d.job ≡ false) ds → NeverFall q
    → remove k (merged ds q) ≡ merged ds (remove k q)
unfolding merged remove is_of
remove_from_merge k [] q hs r = refl
remove_from_merge k (d ∷ ds) [] hs r = nothing_to_remove k hs
remove_from_merge k (d ∷ ds) (e ∷ es) hs r =
    split (leb d.key e.key)
    (λ g. let l = leb-true d.key e.key g in
    rw g (rw (each_first hs) (ap {B = List Entry} (λ l. d ∷ l) (remove_from_merge k ds (e ∷ es) (each_rest hs) r)
    ∙ sym (merged_first d ds (each_remove k (l and each_too (λ f m. omega arith) (pairs_first r)))))))
    (λ g. rw g (split (same k e.job)
    (λ b. rw b)
    (λ b. rw b (rw g (ap {B = List Entry} (λ l. e ∷ l) (remove_from_merge k (d ∷ ds) es hs (pairs_rest r)))))))

-- changes made in a merge of the changes before them are merged with these, the last one first
made_in_merge : {cs : List Entry} (ds : List Entry) {q : List Entry} → Pairwise Falls cs
    → Each (λ c. Each (λ d. Falls d c) ds) cs
    → NeverFall q
    → OnceEach q
    → all_made cs (merged ds q) ≡ merged (reverse_aux cs ds) (staying cs q)
unfolding all_made made
made_in_merge ds {q} no_pair none_left r o = ap (merged ds) (sym (staying_of_none q))
made_in_merge {cs = c ∷ cs} ds {q} (f then fs) (b and bs) r o =
    let step : made c (merged ds q) ≡ merged (c ∷ ds) (remove c.job q) =
    ap (insert c.job c.key)
    (remove_from_merge c.job ds q (each_too (λ d w. same_swap c.job d.job ∙ w.apart) b) r)
    ∙ insert_in_merge c (remove c.job q) (each_too (λ d w. w.no_greater) b) in
    ap (all_made cs) step
    ∙ made_in_merge (c ∷ ds) fs (each_both (λ x w ws. w and ws) f bs) (pairs_remove c.job r) (pairs_remove c.job o)
    ∙ ap (merged (reverse_aux cs (c ∷ ds))) (sym (staying_one_more c cs o))

-- The trial of a job that is not in the plan is the merge of its changes, the far end's first, with the entries that stay.
pub trial_merges : (i : Turn) (p : List Entry) → in_plan i.job p ≡ false → Apart (i.job ∷ i.awaited) → NeverFall p
    → OnceEach p
    → trial i p ≡ merged (reverse (changes_of i p)) (staying (changes_of i p) p)
trial_merges i p n a r o =
    let cs = changes_of i p in
    trial_by_keys i p n a
    ∙ ap (all_made cs) (sym (no_change_merged p))
    ∙ made_in_merge [] (changes_fall i p a) (each_always cs (λ c. none_left)) r o

-- removal leaves no entry of the job
removed_once : (k : Job) {p : List Entry} → OnceEach p → Each (λ e. same k e.job ≡ false) (remove k p)
unfolding remove is_of
removed_once k no_pair = none_left
removed_once k {p = f ∷ fs} (r then rs) =
    split (same k f.job)
    (λ g. rw g (each_too (λ x d. same_as k f.job x.job g ∙ d) r))
    (λ g. rw g (g and removed_once k rs))

once_made : (c : Entry) {p : List Entry} → OnceEach p → OnceEach (made c p)
unfolding made insert
once_made c r =
    pairs_place_apart (λ e f h. same_swap f.job e.job ∙ h) goes_before c (removed_once c.job r)
    (pairs_remove c.job r)

insert_finds_own : (k : Job) (key : ℕ) {q : List Entry} → Each (λ e. same k e.job ≡ false) q
    → find (is_of k) (insert k key q) ≡ some (entry k key)
unfolding insert is_of
insert_finds_own k key none_left = rw (same_self k)
insert_finds_own k key {q = e ∷ es} (h and hs) =
    split (goes_before (entry k key) e) (λ b. rw b (rw (same_self k))) (λ b. rw b (rw h (insert_finds_own k key hs)))

-- a change gives its job its key
own_key_made : (x : Job) (c : Entry) {p : List Entry} → same x c.job ≡ true → OnceEach p
    → key_in (made c p) x ≡ some c.key
unfolding key_in key_of made is_of
own_key_made x c {p} h r =
    ap key_of (find_agree (is_of x) (is_of c.job) (made c p) (λ e. same_as x c.job e.job h)
    ∙ insert_finds_own c.job c.key (removed_once c.job r))

key_behind_others : (x : Job) {cs : List Entry} (q : List Entry) → Each (λ c. same x c.job ≡ false) cs
    → key_in (cs ++ q) x ≡ key_in q x
key_behind_others x q none_left = refl
key_behind_others x {cs = c ∷ cs} q (h and hs) = key_not_here x c (cs ++ q) h ∙ key_behind_others x q hs

key_behind_same : (x : Job) (cs p q : List Entry) → key_in p x ≡ key_in q x → key_in (cs ++ p) x ≡ key_in (cs ++ q) x
key_behind_same x [] p q e = e
key_behind_same x (c ∷ cs) p q e =
    split (same x c.job)
    (λ h. key_here x c (cs ++ p) h ∙ sym (key_here x c (cs ++ q) h))
    (λ h. key_not_here x c (cs ++ p) h ∙ key_behind_same x cs p q e ∙ sym (key_not_here x c (cs ++ q) h))

keys_made : (x : Job) {cs p : List Entry} → Pairwise Falls cs → OnceEach p → key_in (all_made cs p) x ≡ key_in (cs ++ p) x
unfolding all_made
keys_made x no_pair r = refl
keys_made x {cs = c ∷ cs} {p} (f then fs) r =
    keys_made x fs (once_made c r)
    ∙ split (same x c.job)
    (λ h. key_behind_others x (made c p) (each_too (λ d w. same_as x c.job d.job h ∙ w.apart) f)
    ∙ own_key_made x c h r ∙ sym (key_here x c (cs ++ p) h))
    (λ h. key_behind_same x cs (made c p) p (others_keep_keys x c p h) ∙ sym (key_not_here x c (cs ++ p) h))

-- The keys after a trial are those of its changes, and of whom no change names, those of the plan.
pub trial_keys : (x : Job) (i : Turn) (p : List Entry) → in_plan i.job p ≡ false → Apart (i.job ∷ i.awaited)
    → OnceEach p
    → key_in (trial i p) x ≡ key_in (changes_of i p ++ p) x
trial_keys x i p n a r = ap (λ q. key_in q x) (trial_by_keys i p n a) ∙ keys_made x (changes_fall i p a) r
