-- What a trial adds to the cycles of the plan, told by its changes: a change of a job in the plan moves that job and adds nothing,
-- any other brings its job in. Assumes nothing.
use mathlib.Core.Bool.{false, cond}
use mathlib.Core.List.{List, [], ◌∷◌}
use mathlib.Core.Option.{some}
use mathlib.Core.Path.{◌≡◌, refl, ap, ◌∙◌}
use Prim.Native.Nat.{ℕ, ◌+◌}
use native.Mathlib.Omega.{arith}
use Rattle.laws.proofs.Choices.{nothing_there, one_there, split, split_option}
use Rattle.laws.proofs.Elements.{each_too}
use Rattle.laws.proofs.Lookups.{found_each, found_passes, total_agree}
use Rattle.laws.specs.Pairs.{Pairwise, no_pair, ◌then◌}
use Rattle.changes.specs.Changes.{changes_of}
use Rattle.changes.proofs.Merging.{Apart}
use Rattle.changes.proofs.Trials.{all_made, made, nothing_to_remove, trial_by_keys}
use Rattle.changes.proofs.Walk.{changes_in_pairs, each_change}
use Rattle.rules.specs.Lists.{Each, find, none_left, total, ◌and◌}
use Rattle.rules.specs.Plan.{Entry, Turn, cycles_of, goes_before, in_plan, insert, is_of, jobs_of, remove, same, trial}
use Rattle.rules.specs.declared.Job.{Job}
use Rattle.steps.proofs.Entries.{each_insert, each_remove, entry, has_entry, is-of, no_entry, not-planned, planned_moved}
use Rattle.steps.proofs.Jobs.{Listed, one-job, same_swap}

-- the cycles of a plan's jobs
abbrev cycles_in : List Entry → ℕ
cycles_in p = cycles_of (jobs_of p)

-- the cycles that a change brings in
abbrev brings : List Entry → Entry → ℕ
brings p c = cond (in_plan c.job p) 0 c.job.cycles

inserted_cycles : (k : Job) (key : ℕ) (p : List Entry) → cycles_in (insert k key p) ≡ k.cycles + cycles_in p
unfolding insert cycles_of jobs_of
inserted_cycles k key [] = refl
inserted_cycles k key (e ∷ es) =
    split (goes_before (entry k key) e) (λ b. rw b) (λ b. rw b (omega (arith, inserted_cycles k key es)))

removed_cycles : (k : Job) (p : List Entry) {e : Entry} → find (is_of k) p ≡ some e
    → e.job.cycles + cycles_in (remove k p) ≡ cycles_in p
unfolding remove cycles_of jobs_of
removed_cycles k [] h = nothing_there h refl
removed_cycles k (f ∷ fs) {e} h =
    split (is_of k f)
    (λ g. let q : e ≡ f = one_there {o = some f} (rw g at h) refl in rw g (rw q))
    (λ g. rw g (omega (arith, removed_cycles k fs (rw g at h))))

-- another job is planned or not, as before the change
planned_beside : (x : Job) (c : Entry) (p : List Entry) → same x c.job ≡ false → in_plan x (made c p) ≡ in_plan x p
unfolding made
planned_beside x c p n = planned_moved x c.job c.key p ∙ rw n

module _ (js : List Job) where
  abbrev AllListed : List Entry → Type 0
  AllListed p = Each (λ e. Listed js e.job) p

  made_listed : (c : Entry) {p : List Entry} → Listed js c.job → AllListed p → AllListed (made c p)
  unfolding made
  made_listed c l ls = each_insert c.job c.key l (each_remove c.job ls)

  made_cycles : (c : Entry) (p : List Entry) → Listed js c.job → AllListed p → cycles_in (made c p) ≡ brings p c + cycles_in p
  unfolding made
  made_cycles c p l ls =
      let k = c.job in
      split_option (find (is_of k) p)
      (λ h. let out = no_entry k p h in
      rw out (rw (nothing_to_remove k (not-planned k p out)) (inserted_cycles k c.key p)))
      (λ e h. let own : k ≡ e.job =
      one-job js k e.job l (found_each (is_of k) ls h) (is-of k e (found_passes (is_of k) p h)) in
      let cycles : k.cycles ≡ e.job.cycles = ap (λ (j : Job). j.cycles) own in
      rw (has_entry k p h) (omega (arith, inserted_cycles k c.key (remove k p), removed_cycles k p h)))

  all_made_cycles : {cs : List Entry} (p : List Entry) → Pairwise (λ c d. same c.job d.job ≡ false) cs → AllListed cs
      → AllListed p
      → cycles_in (all_made cs p) ≡ total (brings p) cs + cycles_in p
  unfolding all_made
  all_made_cycles p no_pair none_left ls = omega arith
  all_made_cycles {cs = c ∷ cs} p (r then rs) (lc and lcs) ls =
      let others : total (brings (made c p)) cs ≡ total (brings p) cs =
      total_agree (brings (made c p)) (brings p)
      (each_too
      (λ d n. ap (λ b. cond b 0 d.job.cycles) (planned_beside d.job c p (same_swap d.job c.job ∙ n))) r) in
      omega (arith, all_made_cycles (made c p) rs lcs (made_listed c lc ls), others, made_cycles c p lc ls)

  -- The cycles of a trial are the plan's and those of the changed jobs that are not in the plan.
  pub trial_cycles : (i : Turn) (p : List Entry) → in_plan i.job p ≡ false → Apart (i.job ∷ i.awaited)
      → Each (Listed js) (i.job ∷ i.awaited)
      → Each (λ e. Listed js e.job) p
      → cycles_of (jobs_of (trial i p))
      ≡ total (λ (c : Entry). cond (in_plan c.job p) 0 c.job.cycles) (changes_of i p) + cycles_of (jobs_of p)
  trial_cycles i p n a l ls =
      ap cycles_in (trial_by_keys i p n a) ∙ all_made_cycles p (changes_in_pairs i p a) (each_change i p l) ls
