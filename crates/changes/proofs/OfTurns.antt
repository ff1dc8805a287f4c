-- The turns of a valid table are such as the laws of changes ask: no job stands twice in a chain, a sound plan has keys that never
-- fall and each job once, and along a chain whoever is planned has all behind it planned, and before it. Assumes nothing.
use mathlib.Core.Bool.{true, false, cond}
use mathlib.Core.List.{List, ◌∷◌, ◌++◌, reverse}
use mathlib.Core.Option.{Option, some}
use mathlib.Core.Path.{◌≡◌, refl, sym, ap, ◌∙◌}
use Prim.Native.Nat.{ℕ, zero, suc, ◌+◌, ◌≤◌, ◌<◌}
use native.Mathlib.Omega.{arith}
use Rattle.laws.proofs.Choices.{clash, split, split_option}
use Rattle.laws.proofs.Elements.{each_map, each_too}
use Rattle.laws.proofs.Lookups.{any_none}
use Rattle.laws.specs.Pairs.{Pairwise, no_pair, ◌then◌}
use Rattle.laws.proofs.Pairs.{pairs_too}
use Rattle.changes.specs.Changes.{changes_of, key_in, merged, stands_at, staying}
use Rattle.changes.proofs.Cycles.{trial_cycles}
use Rattle.changes.proofs.Merging.{Apart, NeverFall, OnceEach}
use Rattle.changes.proofs.Trials.{trial_keys, trial_merges}
use Rattle.rules.specs.Lists.{Each, none_left, total, ◌and◌}
use Rattle.rules.specs.Plan.{Entry, Turn, awaited, cycles_of, follow, in_plan, is_of, jobs_of, left, on_ring, same, trial, waits_left}
use Rattle.rules.specs.TableText.{Records, most_holds}
use Rattle.rules.specs.Valid.{Valid}
use Rattle.rules.specs.declared.Job.{Job}
use Rattle.steps.proofs.Course.{Sound, planned_next, trial_sound, turn_chain}
use Rattle.steps.proofs.Entries.{out_of_plan}
use Rattle.steps.proofs.Jobs.{Listed, each_left, jobs_cycles, listed_has, one-job, same_to, waits_listed}
use Rattle.steps.proofs.Planned.{apart}
use Rattle.steps.proofs.Rings.{no_ring_left, walk_never_comes_back}
use Rattle.steps.proofs.Turns.{OfLeft}
use Rattle.steps.proofs.Walks.{walk_keeps}

-- A job whose entry stands first has none before it.
pub stands_here : (k : Job) (e : Entry) (es : List Entry) → same k e.job ≡ true → stands_at k (e ∷ es) ≡ 0
unfolding stands_at is_of
stands_here k e es h = rw h

-- Another job has the first entry before it, and those that stand before it among the others.
pub stands_behind : (k : Job) (e : Entry) (es : List Entry) → same k e.job ≡ false
    → stands_at k (e ∷ es) ≡ suc (stands_at k es)
unfolding stands_at is_of
stands_behind k e es h = rw h

planned_behind : (k : Job) (e : Entry) (es : List Entry) → same k e.job ≡ false → in_plan k (e ∷ es) ≡ in_plan k es
unfolding in_plan is_of
planned_behind k e es h = rw h

pairs_first : {R : Job → Job → Type 0} {x : Job} {xs : List Job} → Pairwise R (x ∷ xs) → Each (R x) xs
pairs_first (r then rs) = r

-- x, if planned, has y planned and before it
abbrev Before : List Entry → Job → Job → Type 0
Before p x y = in_plan x p ≡ true → (in_plan y p ≡ true) × (stands_at y p < stands_at x p)

before_via : (p : List Entry) (x y z : Job) → Before p x y → Before p y z → Before p x z
before_via p x y z a b h =
    let one = a h in
    let two = b one.0 in
    let l = one.1 in
    let m = two.1 in
    (two.0, omega arith)

-- where nobody stands before whom it waits for, who is waited for stands before
module _ (next : Job → Option Job) (js : List Job) where
  holder_before : (x y : Job) {p : List Entry}
      → Pairwise (λ e f. (k : Job) → next e.job ≡ some k → same k f.job ≡ false) p
      → Each (λ e. Listed js e.job) p
      → Listed js x → next x ≡ some y → same y x ≡ false → in_plan x p ≡ true → in_plan y p ≡ true → stands_at y p < stands_at x p
  holder_before x y no_pair none_left l w n hx hy = clash hx (out_of_plan x none_left)
  holder_before x y {p = e ∷ es} (r then rs) (k and ks) l w n hx hy =
      split (same x e.job)
      (λ g. let own : x ≡ e.job = one-job js x e.job l k g in
      let apart_here : same y e.job ≡ false = sym (same_to y x e.job g) ∙ n in
      clash (sym (planned_behind y e es apart_here) ∙ hy)
      (out_of_plan y (each_too (λ f q. q y (ap next (sym own) ∙ w)) r)))
      (λ g. split (same y e.job)
      (λ a. rw (stands_here y e es a) (rw (stands_behind x e es g) (omega arith)))
      (λ a. let less = holder_before x y rs ks l w n (sym (planned_behind x e es g) ∙ hx) (sym (planned_behind y e es a) ∙ hy) in
      rw (stands_behind y e es a) (rw (stands_behind x e es g) (omega arith))))

module _ (t : Records) (v : Valid t) where
  walk_apart : (n : ℕ) (x : Job) → Listed (left t) x → Apart (x ∷ follow (waits_left t) n (waits_left t x))
  unfolding follow on_ring
  walk_apart zero x l = none_left then no_pair
  walk_apart (suc n) x l =
      any_none (same x) (follow (waits_left t) (suc n) (waits_left t x)) (listed_has (walk_never_comes_back t v (suc n)) l)
      then split_option (waits_left t x) (λ e. rw e no_pair) (λ k e. rw e (walk_apart n k (waits_listed t v x k e)))

  -- No job stands twice in the chain of a turn.
  pub chain_apart : (i : Turn) → OfLeft t i → Apart (i.job ∷ i.awaited)
  unfolding awaited
  chain_apart i o = rw (turn_chain t i o) (walk_apart most_holds i.job o.listed)

  -- The jobs of a turn's chain are jobs that steps 1 and 2 leave.
  pub chain_listed : (i : Turn) → OfLeft t i → Each (Listed (left t)) (i.job ∷ i.awaited)
  unfolding awaited
  chain_listed i o =
      rw (turn_chain t i o)
      (o.listed and walk_keeps (waits_left t) (λ j k l w. waits_listed t v j k w) most_holds i.job o.listed)

  -- Keys never fall along a sound plan.
  pub sound_keys : {p : List Entry} → Sound t p → NeverFall p
  sound_keys s = let o = s.ordered in pairs_too (λ e f a b w. w.keys) o.lined.listed o.lined.pairs

  -- No job stands twice in a sound plan.
  pub sound_once : {p : List Entry} → Sound t p → OnceEach p
  sound_once s = apart t v s.ordered

  -- Each job of a sound plan has a cycle to run.
  pub each_runs_in : {p : List Entry} → Sound t p → Each (λ j. 1 ≤ j.cycles) (jobs_of p)
  unfolding jobs_of
  each_runs_in s =
      each_map (λ (e : Entry). e.job)
      (each_too (λ e l. let c = listed_has (each_left t (jobs_cycles t v)) l in omega arith) s.ordered.lined.listed)

  not_itself : (x y : Job) → Listed (left t) x → waits_left t x ≡ some y → same y x ≡ false
  not_itself x y l w =
      split (same y x)
      (λ h. absurd (no_ring_left t v x
      (zero, w ∙ ap {B = Option Job} some (one-job (left t) y x (waits_listed t v x y w) l h))))
      (λ h. h)

  module _ (p : List Entry) (s : Sound t p) where
    next_before : (x y : Job) → Listed (left t) x → waits_left t x ≡ some y → Before p x y
    next_before x y l w h =
        let o = s.ordered in
        let there = planned_next t v p s x y l h w in (
          there,
          holder_before (waits_left t) (left t) x y
              (pairs_too (λ e f a b r. r.waits_not refl) o.lined.listed o.lined.pairs) o.lined.listed l w
              (not_itself x y l w) h there,
        )

    walk_in_order : (n : ℕ) (x : Job) → Listed (left t) x → Pairwise (Before p) (x ∷ follow (waits_left t) n (waits_left t x))
    unfolding follow
    walk_in_order zero x l = none_left then no_pair
    walk_in_order (suc n) x l =
        split_option (waits_left t x)
        (λ e. rw e (none_left then no_pair))
        (λ k e. let step = next_before x k l e in
        let rest = walk_in_order n k (waits_listed t v x k e) in
        rw e ((step and each_too (λ y b. before_via p x k y step b) (pairs_first rest)) then rest))

  -- Of whom a turn's chain has planned, all behind in the chain are planned, and stand before it in the plan.
  pub chain_in_order : (i : Turn) (p : List Entry) → OfLeft t i → Sound t p
      → Pairwise (λ x y. in_plan x p ≡ true → (in_plan y p ≡ true) × (stands_at y p < stands_at x p)) (i.job ∷ i.awaited)
  unfolding awaited
  chain_in_order i p o s = rw (turn_chain t i o) (walk_in_order p s most_holds i.job o.listed)

  module _ (i : Turn) (p : List Entry) (o : OfLeft t i) (s : Sound t p) (n : in_plan i.job p ≡ false) where
    -- At each turn the trial is the merge of its changes, the far end's first, with the entries that stay.
    pub turn_merges : trial i p ≡ merged (reverse (changes_of i p)) (staying (changes_of i p) p)
    turn_merges = trial_merges i p n (chain_apart i o) (sound_keys s) (sound_once s)

    -- The keys after it are those of its changes, and of whom no change names, those of the plan.
    pub turn_keys : (x : Job) → key_in (trial i p) x ≡ key_in (changes_of i p ++ p) x
    turn_keys x = trial_keys x i p n (chain_apart i o) (sound_once s)

    -- The cycles of it are the plan's and those of the changed jobs that are not in the plan.
    pub turn_cycles : cycles_of (jobs_of (trial i p))
        ≡ total (λ (c : Entry). cond (in_plan c.job p) 0 c.job.cycles) (changes_of i p) + cycles_of (jobs_of p)
    turn_cycles = trial_cycles (left t) i p n (chain_apart i o) (chain_listed i o) s.ordered.lined.listed

    -- Each job of it has a cycle to run.
    pub trial_runs : Each (λ j. 1 ≤ j.cycles) (jobs_of (trial i p))
    unfolding jobs_of
    trial_runs =
        each_map (λ (e : Entry). e.job)
        (each_too (λ e l. let c = listed_has (each_left t (jobs_cycles t v)) l in omega arith) (trial_sound t v i p o n s).lined.listed)
