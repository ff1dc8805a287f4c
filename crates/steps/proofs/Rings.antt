-- Step 2. All that a job waits for hold resources, so 32 steps meet them all. On a ring one job goes rather than the others,
-- and no second one. A ring that were left would have been a ring before, and have lost a job: so none is left, and a chain
-- ends because its last member waits for nobody. Assumes nothing.
use mathlib.Core.Bool.{Bool, true, false}
use mathlib.Core.List.{List}
use mathlib.Core.Option.{Option, none, some}
use mathlib.Core.Path.{◌≡◌, refl, sym, ap, ◌∙◌}
use Prim.Native.Nat.{ℕ, zero, suc, ◌+◌, ◌≤◌, ◌<◌}
use native.Mathlib.Omega.{arith}
use lib.ListN.{length}
use Rattle.laws.proofs.Choices.{both_ways, clash, nothing_there, one_there, split, split_option}
use Rattle.laws.proofs.Elements.{each_too}
use Rattle.steps.proofs.Jobs.{each_of_timely, each_timely, few_holders, holder_numbers, jobs_cycles, left_listed, left_stays, one-job, same_self, timely_listed, waited_before, waits_each, waits_left_each, waits_listed, waits_named}
use Rattle.laws.proofs.Lookups.{all_each, each_all, each_rest}
use Rattle.laws.specs.Pairs.{among}
use Rattle.steps.proofs.Ranks.{Rank, one_goes_rather, rather, rather_both}
use Rattle.laws.proofs.Tests.{both_true}
use Rattle.steps.proofs.Walks.{after_both, last_goes_nowhere, last_step, must_end, nowhere_after, stands_after, stays_ended, walk_any, walk_each, walk_ended, walk_has, walk_length, walk_met, within_few}
use Rattle.rules.specs.Lists.{Each, all, any, last_or, ◌and◌}
use Rattle.rules.specs.Plan.{awaited, chain_of, follow, goes_rather, leaves_its_ring, leaves_ring, left, on_ring, same, timely, waits_left, waits_timely, weight_in}
use Rattle.rules.specs.TableText.{Records, most_holds, no_job}
use Rattle.rules.specs.Valid.{Valid}
use Rattle.rules.specs.declared.Job.{Job}
use Rattle.steps.proofs.Given.{weight_is}

-- y waits in the end for x: x is y's holder, or its holder's holder, and so on
abbrev pub Reaches : (Job → Option Job) → Job → Job → Type 0
Reaches next y x = (n : ℕ) × (stands_after next n (next y) ≡ some x)

-- a job on a ring waits in the end for itself
abbrev pub OnRing : (Job → Option Job) → Job → Type 0
OnRing next x = Reaches next x x

module _ (next : Job → Option Job) where
  -- what each waiting job hands on to its holder, all have that are reached
  reaches_each : {P : Job → Type 0} → ((y z : Job) → P y → next y ≡ some z → P z) → (n : ℕ) (x y : Job) → P x
      → stands_after next n (next x) ≡ some y → P y
  reaches_each step zero x y a h = step x y a h
  reaches_each step (suc n) x y a h =
      split_option (next x) (λ e. nothing_there (rw e at h) refl) (λ k e. reaches_each step n k y (step x k a e) (rw e at h))

  -- reaching goes on from whom it reaches
  reaches_via : (x y z : Job) → Reaches next x y → Reaches next y z → Reaches next x z
  reaches_via x y z a b =
      (a.0 + suc b.0, after_both next a.0 (suc b.0) (next x) ∙ ap (stands_after next (suc b.0)) a.1 ∙ b.1)

  -- the next job on a ring is on a ring of the same length
  next_on_ring : (n : ℕ) (y z : Job) → stands_after next n (next y) ≡ some y → next y ≡ some z → stands_after next n (next z) ≡ some z
  next_on_ring n y z r h =
      let round : suc n ≡ n + 1 = omega arith in
      ap (stands_after next (suc n)) (sym h) ∙ ap (λ m. stands_after next m (next y)) round ∙ after_both next n 1 (next y)
      ∙ ap (stands_after next 1) r ∙ h

  -- who is reached from a ring is on it, and reaches back
  back_on_ring : (x y : Job) → OnRing next x → Reaches next x y → Reaches next y x
  back_on_ring x y r m = reaches_each {P = λ u. Reaches next u x} step m.0 x y r m.1
    where
      step : (u z : Job) → Reaches next u x → next u ≡ some z → Reaches next z x
      step u z (zero, h) e = rw (one_there e h) r
      step u z (suc k, h) e = (k, ap (stands_after next (suc k)) (sym e) ∙ h)

unfoldable rank_of : Records → Job → Rank
rank_of t j = record { ratio = weight_in t j; number = j.number }

goes-rather : (t : Records) (j k : Job) → goes_rather t j k ≡ rather (rank_of t j) (rank_of t k)
unfolding goes_rather rather rank_of
goes-rather t j k = refl

pub weight_positive : (t : Records) (j : Job) → 0 < j.cycles → 0 < (weight_in t j).under
weight_positive t j h = rw (weight_is t j) h

-- next steps that lead to at most 32 jobs
module _ (t : Records) (next : Job → Option Job) (ns : List ℕ)
    (named : (u y : Job) → next u ≡ some y → among ns y.number ≡ true)
    (known : (u v x y : Job) → next u ≡ some x → next v ≡ some y → x.number ≡ y.number → x ≡ y)
    (few : length ns ≤ most_holds) where
  -- the walk lists whom the job reaches
  reached_in_walk : {P : Job → Type 0} (n : ℕ) (x y : Job) → most_holds ≤ n → Each P (follow next n (next x))
      → Reaches next x y → P y
  reached_in_walk n x y l e m =
      let s = within_few next ns named known m.0 x y m.1 in
      let k = s.1 in
      walk_has next n s.0 (next x) y e (omega arith) s.2

  -- on each ring is one that leaves it
  ring_leaves : (P : Job → Type 0) → ((j : Job) → P j → 0 < (weight_in t j).under)
      → ((y z : Job) → P y → next y ≡ some z → P z)
      → ((y : Job) → P y → OnRing next y) → (x : Job) → P x
      → (w : Job) × P w × Reaches next x w × (leaves_ring t (awaited next w) w ≡ true)
  unfolding leaves_ring on_ring awaited rank_of
  ring_leaves P positive step ring x a =
      let r = one_goes_rather (rank_of t) (λ y. P y × Reaches next x y) (λ y q. positive y q.0) x
      (follow next most_holds (next x))
      ((a, ring x a) and walk_each next most_holds (next x) (λ m y h. (reaches_each next step m x y a h, (m, h)))) in
      let w = r.0 in
      let c = within_few next ns named known (ring w r.1.0).0 w w (ring w r.1.0).1 in
      let l = c.1 in (
        w,
        r.1.0,
        r.1.1,
        rw (walk_any next (same w) most_holds c.0 (next w) w (omega arith) c.2 (same_self w))
            (each_all (goes_rather t w)
            (walk_each next most_holds (next w)
            (λ m y h. goes-rather t w y
            ∙ reached_in_walk {P = λ y. rather (rank_of t w) (rank_of t y) ≡ true} most_holds x y (omega arith) (each_rest r.2)
            (reaches_via next x w y r.1.1 (m, h))))),
      )

  -- on a ring no two leave
  ring_loses_one : (x u w : Job) → OnRing next x → Reaches next x u → Reaches next x w
      → leaves_ring t (awaited next u) u ≡ true
      → leaves_ring t (awaited next w) w ≡ true → u ≡ w
  unfolding leaves_ring awaited rank_of
  ring_loses_one x u w r mu mw su sw =
      let uw : Reaches next u w = reaches_via next u x w (back_on_ring next x u r mu) mw in
      let wu : Reaches next w u = reaches_via next w x u (back_on_ring next x w r mw) mu in
      let lu = last_step next mu.0 x u mu.1 in
      let lw = last_step next mw.0 x w mw.1 in
      known lu.0 lw.0 u w lu.1 lw.1
      (rather_both (rank_of t u) (rank_of t w) (sym (goes-rather t u w) ∙ goes u w su uw)
      (sym (goes-rather t w u) ∙ goes w u sw wu))
    where
      goes : (j k : Job) → leaves_ring t (awaited next j) j ≡ true → Reaches next j k → goes_rather t j k ≡ true
      goes j k s m =
          let walk = follow next most_holds (next j) in
          reached_in_walk {P = λ y. goes_rather t j y ≡ true} most_holds j k (omega arith)
          (all_each (goes_rather t j) walk (both_true (on_ring walk j) (all (goes_rather t j) walk) s).1) m

  -- no walk reaches more than one of 32 steps
  walk_reaches_all : (n m : ℕ) (p : Job → Bool) (x : Job) → most_holds ≤ m → any p (follow next n (next x)) ≡ true
      → any p (follow next m (next x)) ≡ true
  walk_reaches_all n m p x l h =
      let a = walk_met next p n (next x) h in
      let s = within_few next ns named known a.0 x a.1 a.3 in
      let b = s.1 in
      walk_any next p m s.0 (next x) a.1 (omega arith) s.2 a.4

  walk_passes_all : (n m : ℕ) (p : Job → Bool) (x : Job) → most_holds ≤ m → all p (follow next m (next x)) ≡ true
      → all p (follow next n (next x)) ≡ true
  walk_passes_all n m p x l h =
      each_all p (walk_each next n (next x)
      (λ k y a. reached_in_walk {P = λ y. p y ≡ true} m x y l (all_each p (follow next m (next x)) h) (k, a)))

module _ (t : Records) (v : Valid t) where
  timely_named : (u y : Job) → waits_timely t u ≡ some y → among (holder_numbers t.holds) y.number ≡ true
  unfolding waits_timely
  timely_named u y h = waits_named t.holds (timely t) u y h

  left_named : (u y : Job) → waits_left t u ≡ some y → among (holder_numbers t.holds) y.number ≡ true
  unfolding waits_left
  left_named u y h = waits_named t.holds (left t) u y h

  waits_timely_each : {P : Job → Type 0} (u y : Job) → waits_timely t u ≡ some y → Each P (timely t) → P y
  unfolding waits_timely
  waits_timely_each u y w e = waits_each t.holds (timely t) u y w e

  timely_by_number : (u w x y : Job) → waits_timely t u ≡ some x → waits_timely t w ≡ some y → x.number ≡ y.number → x ≡ y
  unfolding same
  timely_by_number u w x y a b e =
      one-job (timely t) x y (waits_timely_each u x a (timely_listed t v)) (waits_timely_each w y b (timely_listed t v))
      (rw e (same_self y))

  left_by_number : (u w x y : Job) → waits_left t u ≡ some x → waits_left t w ≡ some y → x.number ≡ y.number → x ≡ y
  unfolding same
  left_by_number u w x y a b e = one-job (left t) x y (waits_listed t v u x a) (waits_listed t v w y b) (rw e (same_self y))

  ahead_before : (n : ℕ) (x y : Job) → stands_after (waits_left t) n (waits_left t x) ≡ some y
      → stands_after (waits_timely t) n (waits_timely t x) ≡ some y
  ahead_before zero x y h = waited_before t v x y h
  ahead_before (suc n) x y h =
      split_option (waits_left t x)
      (λ e. nothing_there (rw e at h) refl)
      (λ k e. rw (waited_before t v x k e) (ahead_before n k y (rw e at h)))

  -- In step 2 a walk longer than the bound meets nobody new,
  pub longer_meets_nobody_new : (n : ℕ) → most_holds ≤ n → (p : Job → Bool) (j : Job)
      → any p (follow (waits_timely t) n (waits_timely t j)) ≡ any p (awaited (waits_timely t) j)
  unfolding awaited
  longer_meets_nobody_new n l p j =
      let meets = walk_reaches_all t (waits_timely t) (holder_numbers t.holds) timely_named timely_by_number (few_holders t v) in
      both_ways (any p (follow (waits_timely t) n (waits_timely t j)))
      (any p (follow (waits_timely t) most_holds (waits_timely t j)))
      (meets n most_holds p j (omega arith)) (meets most_holds n p j l)

  -- and so it would take out the same jobs.
  pub longer_takes_out_the_same : (n : ℕ) → most_holds ≤ n → (j : Job)
      → leaves_ring t (follow (waits_timely t) n (waits_timely t j)) j ≡ leaves_its_ring t j
  unfolding leaves_its_ring leaves_ring on_ring awaited
  longer_takes_out_the_same n l j =
      let next = waits_timely t in
      let passes = walk_passes_all t next (holder_numbers t.holds) timely_named timely_by_number (few_holders t v) in
      rw (longer_meets_nobody_new n l (same j) j)
      (rw (both_ways (all (goes_rather t j) (follow next n (next j))) (all (goes_rather t j) (follow next most_holds (next j)))
      (passes most_holds n (goes_rather t j) j l) (passes n most_holds (goes_rather t j) j (omega arith))))

  timely_weights : Each (λ j. 0 < (weight_in t j).under) (timely t)
  timely_weights = each_timely t (each_too (λ j h. weight_positive t j h) (jobs_cycles t v))

  -- Only a job on a ring is taken out.
  pub taken_only_from_rings : Each (λ j. leaves_its_ring t j ≡ true → OnRing (waits_timely t) j) (timely t)
  unfolding leaves_its_ring leaves_ring on_ring awaited
  taken_only_from_rings =
      each_too
      (λ j k h. let next = waits_timely t in
      let walk = follow next most_holds (next j) in
      let m = walk_met next (same j) most_holds (next j) (both_true (any (same j) walk) (all (goes_rather t j) walk) h).0 in
      let l = last_step next m.0 j m.1 m.3 in
      let e : j ≡ m.1 = one-job (timely t) j m.1 k (waits_timely_each l.0 m.1 l.1 (timely_listed t v)) m.4 in
      (m.0, m.3 ∙ ap {B = Option Job} some (sym e)))
      (timely_listed t v)

  -- Exactly one job leaves each ring: among those that a job of the ring reaches one leaves, and no other.
  pub one_leaves_each_ring : (j : Job) → OnRing (waits_timely t) j
      → (w : Job) × Reaches (waits_timely t) j w × (leaves_its_ring t w ≡ true)
      × ((u : Job) → Reaches (waits_timely t) j u → leaves_its_ring t u ≡ true → u ≡ w)
  unfolding leaves_its_ring
  one_leaves_each_ring j r =
      let next = waits_timely t in
      let s = ring_leaves t next (holder_numbers t.holds) timely_named timely_by_number (few_holders t v)
      (λ y. stands_after next r.0 (next y) ≡ some y)
      (λ y h. let l = last_step next r.0 y y h in waits_timely_each l.0 y l.1 timely_weights)
      (next_on_ring next r.0) (λ y h. (r.0, h)) j r.1 in (
        s.0,
        s.2,
        s.3,
        λ u m c. ring_loses_one t next (holder_numbers t.holds) timely_named timely_by_number (few_holders t v)
            j u s.0 r m s.2 c s.3,
      )

  -- a ring of this length is left, with x on it
  abbrev ComesRound : ℕ → Job → Type 0
  ComesRound n x = stands_after (waits_left t) n (waits_left t x) ≡ some x

  each_comes_round : {P : Job → Type 0} (n : ℕ) (y : Job) → Each P (left t) → ComesRound n y → P y
  each_comes_round n y e h = let l = last_step (waits_left t) n y y h in waits_left_each t v l.0 y l.1 e

  next_comes_round : (n : ℕ) (y z : Job) → ComesRound n y → waits_timely t y ≡ some z → ComesRound n z
  next_comes_round n y z h e =
      split_option (waits_left t y)
      (λ q. nothing_there h (ap (stands_after (waits_left t) n) q ∙ nowhere_after (waits_left t) n))
      (λ k q. rw (one_there e (waited_before t v y k q)) (next_on_ring (waits_left t) n y k h q))

  -- No ring is left by step 2.
  pub no_ring_left : (j : Job) → OnRing (waits_left t) j → ⊥
  unfolding leaves_its_ring
  no_ring_left j r =
      let s = ring_leaves t (waits_timely t) (holder_numbers t.holds) timely_named timely_by_number (few_holders t v)
      (ComesRound r.0) (λ y h. each_comes_round r.0 y (each_of_timely t timely_weights) h) (next_comes_round r.0)
      (λ y h. (r.0, ahead_before r.0 y y h)) j r.1 in
      clash s.3 (each_comes_round r.0 s.0 (left_stays t) s.1)

  -- So no walk from a job left, however long, has the job on it.
  pub walk_never_comes_back : (n : ℕ) → Each (λ j. on_ring (follow (waits_left t) n (waits_left t j)) j ≡ false) (left t)
  unfolding on_ring
  walk_never_comes_back n =
      each_too
      (λ j k. split (any (same j) (follow (waits_left t) n (waits_left t j)))
      (λ h. absurd (let m = walk_met (waits_left t) (same j) n (waits_left t j) h in
      let l = last_step (waits_left t) m.0 j m.1 m.3 in
      let e : j ≡ m.1 = one-job (left t) j m.1 k (waits_listed t v l.0 m.1 l.1) m.4 in
      no_ring_left j (m.0, m.3 ∙ ap {B = Option Job} some (sym e))))
      (λ h. h))
      (left_listed t v)

  -- A walk among the jobs left has ended within the bound,
  pub walk_has_ended : (j : Job) → stands_after (waits_left t) most_holds (waits_left t j) ≡ none
  walk_has_ended j =
      stays_ended (waits_left t) (length (holder_numbers t.holds)) most_holds (waits_left t j) (few_holders t v)
      (must_end (waits_left t) (holder_numbers t.holds) left_named left_by_number (λ n y h. no_ring_left y (n, h)) j)

  -- and a longer one is the same.
  pub longer_is_the_same : (n : ℕ) → most_holds ≤ n → (j : Job)
      → follow (waits_left t) n (waits_left t j) ≡ awaited (waits_left t) j
  unfolding awaited
  longer_is_the_same n l j = walk_ended (waits_left t) most_holds n (waits_left t j) l (walk_has_ended j)

  -- A chain's last member waits for nobody.
  pub last_waits_for_nobody : (j : Job) → waits_left t (last_or no_job (chain_of t j)) ≡ none
  unfolding chain_of awaited
  last_waits_for_nobody j = last_goes_nowhere (waits_left t) most_holds j (walk_has_ended j)

  -- Its job and 32 holder_numbers at most: a chain has no more than 33 members.
  pub chain_at_most_33 : (j : Job) → length (chain_of t j) ≤ 33
  unfolding chain_of awaited
  chain_at_most_33 j = omega (arith, walk_length (waits_left t) most_holds (waits_left t j))
