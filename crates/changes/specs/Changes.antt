-- Step 6 told by what it changes: the entries that a trial puts in or moves, which follow from keys alone, and the plan that they
-- make, merged by key with the entries that stay.
use Rattle.std.specs.Prelude.{cond, not, List, [], ◌∷◌, ◌++◌, ℕ, suc, min, leb, ltb}
use Rattle.std.proofs.Math.Option.{Option, none, some}
use Rattle.rules.specs.Lists.{find, keep}
use Rattle.rules.specs.Plan.{Entry, Turn, in_plan, is_of}
use Rattle.rules.specs.declared.Job.{Job}

-- the key of an entry that is there
unfoldable pub key_of : Option Entry → Option ℕ
key_of none = none
key_of (some e) = some e.key

-- the key of a job in a plan
unfoldable pub key_in : List Entry → Job → Option ℕ
key_in p k = key_of (find (is_of k) p)

-- the limit behind a member, which has this key in the plan or none
unfoldable pub limit_behind : ℕ → Job → Option ℕ → ℕ
limit_behind limit k none = min limit k.critical
limit_behind limit k (some key) = cond (ltb key limit) key limit

-- A member's change: one not in the plan comes in, one with key at or above the limit moves to the limit. One with key below the
-- limit stays: no change.
unfoldable pub change_of : ℕ → Job → Option ℕ → List Entry
change_of limit k none = record { job = k; key = min limit k.critical } ∷ []
change_of limit k (some key) = cond (ltb key limit) [] (record { job = k; key = limit } ∷ [])

-- the changes of the members, in the order of the walk
unfoldable pub changes_along : (Job → Option ℕ) → ℕ → List Job → List Entry
changes_along key limit [] = []
changes_along key limit (k ∷ ks) =
    change_of limit k (key k) ++ changes_along key (limit_behind limit k (key k)) ks

-- the changes of a turn: its job comes in at its critical time, and then those of the members
unfoldable pub changes_of : Turn → List Entry → List Entry
changes_of i p =
    record { job = i.job; key = i.job.critical } ∷ changes_along (key_in p) i.job.critical i.awaited

-- the entries that no change names
unfoldable pub staying : List Entry → List Entry → List Entry
staying cs p = keep (λ (e : Entry). not (in_plan e.job cs)) p

-- Changes and entries that stay, merged by key: where both are left, the change goes first if its key is no greater.
unfoldable pub merged : List Entry → List Entry → List Entry
merged [] p = p
merged (c ∷ cs) [] = c ∷ cs
merged (c ∷ cs) (e ∷ es) = cond (leb c.key e.key) (c ∷ merged cs (e ∷ es)) (e ∷ merged (c ∷ cs) es)

-- how many entries stand before a job's: all where it has none
unfoldable pub stands_at : Job → List Entry → ℕ
stands_at k [] = 0
stands_at k (e ∷ es) = cond (is_of k e) 0 (suc (stands_at k es))
