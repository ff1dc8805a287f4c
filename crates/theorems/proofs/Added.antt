-- What a trial adds to the cycles of the plan. A member of the chain that is in the plan stays where it is or moves; one that is not
-- comes in, once, since no job stands twice in a chain: after step 2 no walk comes back to where it was. Assumes nothing.
use mathlib.Core.Bool.{false, not}
use mathlib.Core.List.{List, [], ◌∷◌}
use mathlib.Core.Option.{some}
use mathlib.Core.Path.{◌≡◌, refl, ap, ◌∙◌}
use Prim.Native.Nat.{ℕ, zero, suc, min, ◌+◌}
use native.Mathlib.Omega.{arith}
use Rattle.laws.proofs.Choices.{nothing_there, one_there, split, split_option}
use Rattle.laws.proofs.Elements.{each_too}
use Rattle.laws.proofs.Lookups.{any_none, found_each, found_passes}
use Rattle.laws.specs.Pairs.{Pairwise, no_pair, ◌then◌}
use Rattle.rules.specs.Lists.{Each, find, keep, none_left, ◌and◌}
use Rattle.rules.specs.Plan.{Entry, Limited, Turn, awaited, begin, cycles_of, follow, goes_before, in_plan, insert, is_of, jobs_of, left, member, member_found, member_new, member_planned, members, on_ring, remove, run_order, same, stays_below, trial, waits_left}
use Rattle.rules.specs.TableText.{Records, most_holds}
use Rattle.rules.specs.Valid.{Valid}
use Rattle.rules.specs.declared.Job.{Job}
use Rattle.steps.proofs.Course.{Sound, turn_chain}
use Rattle.steps.proofs.Entries.{each_insert, each_remove, entry, has_entry, is-of, no_entry, planned_insert, planned_moved}
use Rattle.steps.proofs.Jobs.{Listed, listed_has, one-job, same_swap, waits_listed}
use Rattle.steps.proofs.Rings.{walk_never_comes_back}
use Rattle.steps.proofs.RunOrder.{run-order}
use Rattle.steps.proofs.Turns.{OfLeft}
use Rattle.steps.proofs.Walks.{walk_keeps}
use Rattle.theorems.specs.Rooms.{added_by}

-- the cycles of a plan's jobs
abbrev plan_cycles : List Entry → ℕ
plan_cycles p = cycles_of (jobs_of p)

-- the jobs that are not in the plan
abbrev new_to : List Entry → List Job → List Job
new_to p js = keep (λ j. not (in_plan j p)) js

new_alike : (p q : List Entry) {js : List Job} → Each (λ j. in_plan j p ≡ in_plan j q) js → new_to p js ≡ new_to q js
new_alike p q none_left = refl
new_alike p q {js = j ∷ js} (e and es) =
    let others = new_alike p q es in
    split (in_plan j q) (λ h. rw e (rw h others)) (λ h. rw e (rw h (ap {B = List Job} (λ ks. j ∷ ks) others)))

first_and_others_new : (p : List Entry) (j : Job) (js : List Job)
    → cycles_of (new_to p (j ∷ js)) ≡ cycles_of (new_to p (j ∷ [])) + cycles_of (new_to p js)
unfolding cycles_of
first_and_others_new p j js = split (in_plan j p) (λ h. rw h (omega arith)) (λ h. rw h (omega arith))

insert_adds : (k : Job) (key : ℕ) (p : List Entry) → plan_cycles (insert k key p) ≡ plan_cycles p + k.cycles
unfolding cycles_of jobs_of insert
insert_adds k key [] = omega arith
insert_adds k key (e ∷ es) =
    split (goes_before (entry k key) e) (λ h. rw h (omega arith)) (λ h. rw h (omega (arith, insert_adds k key es)))

remove_takes : (k : Job) (p : List Entry) {e : Entry} → find (is_of k) p ≡ some e
    → plan_cycles (remove k p) + e.job.cycles ≡ plan_cycles p
unfolding cycles_of jobs_of remove
remove_takes k [] h = nothing_there h refl
remove_takes k (f ∷ fs) {e} h =
    split (is_of k f)
    (λ g. let q : f ≡ e = one_there {o = some f} refl (rw g at h) in rw g (rw q (omega arith)))
    (λ g. rw g (omega (arith, remove_takes k fs (rw g at h))))

insert_leaves_others : (x k : Job) (key : ℕ) (p : List Entry) → same x k ≡ false → in_plan x (insert k key p) ≡ in_plan x p
insert_leaves_others x k key p n = planned_insert x k key p ∙ rw n

-- a member of the chain, whatever becomes of it, brings in no other job
member_leaves_others : (x k : Job) (s : Limited) → same x k ≡ false → in_plan x (member k s).plan ≡ in_plan x s.plan
unfolding member member_found member_new member_planned
member_leaves_others x k s n =
    split_option (find (is_of k) s.plan)
    (λ h. rw h (insert_leaves_others x k (min s.limit k.critical) s.plan n))
    (λ e h. rw h
    (split (stays_below s.limit e)
    (λ g. rw g)
    (λ g. rw g (planned_moved x k s.limit s.plan ∙ rw n))))

module _ (js : List Job) where
  abbrev AllListed : List Entry → Type 0
  AllListed p = Each (λ e. Listed js e.job) p

  member_listed : (k : Job) (s : Limited) → Listed js k → AllListed s.plan → AllListed (member k s).plan
  unfolding member member_found member_new member_planned
  member_listed k s l a =
      split_option (find (is_of k) s.plan)
      (λ h. rw h (each_insert k (min s.limit k.critical) l a))
      (λ e h. rw h
      (split (stays_below s.limit e) (λ g. rw g a) (λ g. rw g (each_insert k s.limit l (each_remove k a)))))

  member_adds : (k : Job) (s : Limited) → Listed js k → AllListed s.plan
      → plan_cycles (member k s).plan ≡ plan_cycles s.plan + cycles_of (new_to s.plan (k ∷ []))
  unfolding member member_found member_new member_planned cycles_of
  member_adds k s l a =
      split_option (find (is_of k) s.plan)
      (λ h. rw (no_entry k s.plan h) (rw h (omega (arith, insert_adds k (min s.limit k.critical) s.plan))))
      (λ e h. let own : k ≡ e.job =
      one-job js k e.job l (found_each (is_of k) a h) (is-of k e (found_passes (is_of k) s.plan h)) in
      let cycles : k.cycles ≡ e.job.cycles = ap (λ (j : Job). j.cycles) own in
      rw (has_entry k s.plan h) (rw h
      (split (stays_below s.limit e)
      (λ g. rw g (omega arith))
      (λ g. rw g (omega (arith, insert_adds k s.limit (remove k s.plan), remove_takes k s.plan h))))))

  members_add : {ks : List Job} (s : Limited) → Pairwise (λ x y. same x y ≡ false) ks → Each (Listed js) ks → AllListed s.plan
      → plan_cycles (members ks s).plan ≡ plan_cycles s.plan + cycles_of (new_to s.plan ks)
  unfolding members cycles_of
  members_add s no_pair none_left a = omega arith
  members_add {ks = k ∷ ks} s (r then rs) (l and ls) a =
      let behind : new_to (member k s).plan ks ≡ new_to s.plan ks =
      new_alike (member k s).plan s.plan (each_too (λ x n. member_leaves_others x k s (same_swap x k ∙ n)) r) in
      omega (
        arith,
        members_add (member k s) rs ls (member_listed k s l a),
        member_adds k s l a,
        ap cycles_of behind,
        first_and_others_new s.plan k ks,
      )

  trial_adds : (i : Turn) (p : List Entry) → Pairwise (λ x y. same x y ≡ false) (i.job ∷ i.awaited)
      → Each (Listed js) (i.job ∷ i.awaited) → AllListed p → in_plan i.job p ≡ false
      → plan_cycles (trial i p) ≡ plan_cycles p + cycles_of (added_by i p)
  unfolding trial begin added_by cycles_of
  trial_adds i p (r then rs) (l and ls) a n =
      let j = i.job in
      let behind : new_to (begin j p).plan i.awaited ≡ new_to p i.awaited =
      new_alike (begin j p).plan p (each_too (λ x d. insert_leaves_others x j j.critical p (same_swap x j ∙ d)) r) in
      rw n (omega (
        arith,
        members_add (begin j p) rs ls (each_insert j j.critical l a),
        insert_adds j j.critical p,
        ap cycles_of behind,
      ))

module _ (t : Records) (v : Valid t) where
  -- no job stands twice on a walk among the jobs that step 2 leaves
  walk_apart : (n : ℕ) (j : Job) → Listed (left t) j
      → Pairwise (λ x y. same x y ≡ false) (j ∷ follow (waits_left t) n (waits_left t j))
  unfolding follow on_ring
  walk_apart zero j l = none_left then no_pair
  walk_apart (suc n) j l =
      any_none (same j) (follow (waits_left t) (suc n) (waits_left t j)) (listed_has (walk_never_comes_back t v (suc n)) l)
      then split_option (waits_left t j) (λ e. rw e no_pair) (λ k e. rw e (walk_apart n k (waits_listed t v j k e)))

  -- A trial's cycles are the plan's and those of whom it adds.
  pub trial_cycles : (i : Turn) (p : List Entry) → OfLeft t i → Sound t p → in_plan i.job p ≡ false
      → cycles_of (run_order t (trial i p)) ≡ cycles_of (run_order t p) + cycles_of (added_by i p)
  unfolding awaited
  trial_cycles i p o s n =
      let chain = turn_chain t i o in
      rw (run-order t (trial i p)) (rw (run-order t p)
      (trial_adds (left t) i p
      (rw chain (walk_apart most_holds i.job o.listed))
      (o.listed
      and rw chain (walk_keeps (waits_left t) (λ x k a w. waits_listed t v x k w) most_holds i.job o.listed))
      s.ordered.lined.listed n))
