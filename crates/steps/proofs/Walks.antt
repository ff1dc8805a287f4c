-- A walk along waiting jobs. Where each step leads to one of few numbers and the number tells the job, a longer walk comes
-- to one job twice; so it can be shortened, and meets all that it can meet within so many steps. Where no job comes back to
-- itself, it ends within so many. Assumes nothing.
use mathlib.Core.Bool.{Bool, true, true≢false}
use mathlib.Core.List.{List, [], ◌∷◌}
use mathlib.Core.Logic.{◌⊎◌, inl, inr, ⊎_elim}
use mathlib.Core.Option.{Option, none, some}
use mathlib.Core.Path.{◌≡◌, refl, sym, ap, ◌∙◌}
use Prim.Native.Nat.{ℕ, zero, suc, ◌+◌, ◌-◌, ◌≤◌, ◌<◌}
use native.Mathlib.Nat.{suc-add, zero-add}
use native.Mathlib.Omega.{arith}
use borrow.Author.Tests.{eqb-true, ltb-false, ltb-true}
use lib.Dec.{eqb, ltb}
use lib.ListN.{length}
use Rattle.laws.proofs.Choices.{nothing_there, one_there, split, split_option}
use Rattle.laws.proofs.Elements.{each_map}
use Rattle.laws.proofs.Lookups.{any_map, any_none, length-map}
use Rattle.laws.specs.Pairs.{Distinct, among, no_pair, ◌then◌}
use Rattle.laws.proofs.Pairs.{no_longer}
use Rattle.rules.specs.Lists.{Each, any, last_or, none_left, ◌and◌}
use Rattle.rules.specs.Plan.{follow, numbers_of}
use Rattle.rules.specs.declared.Job.{Job}

-- the job at which a walk has arrived when it has gone n steps, if it got so far
abbrev pub stands_after : (Job → Option Job) → ℕ → Option Job → Option Job
stands_after next zero o = o
stands_after next (suc n) none = none
stands_after next (suc n) (some k) = stands_after next n (next k)

-- two places of a walk, at both of which stands the same number
record Repeated (next : Job → Option Job) (n : ℕ) (o : Option Job) : Type 0 where
  early : ℕ
  late : ℕ
  first : Job
  second : Job
  early<late : early < late
  late<end : late < n
  at_early : stands_after next early o ≡ some first
  at_late : stands_after next late o ≡ some second
  one_number : first.number ≡ second.number

module _ (next : Job → Option Job) where
  pub nowhere_after : (n : ℕ) → stands_after next n none ≡ none
  nowhere_after zero = refl
  nowhere_after (suc n) = refl

  pub after_both : (m n : ℕ) (o : Option Job) → stands_after next (m + n) o ≡ stands_after next n (stands_after next m o)
  after_both zero n o = rw (zero-add n)
  after_both (suc m) n none = rw (suc-add m n) (sym (nowhere_after n))
  after_both (suc m) n (some k) = rw (suc-add m n) (after_both m n (next k))

  -- the list of a walk holds the jobs at which it arrives
  pub walk_each : {P : Job → Type 0} (n : ℕ) (o : Option Job) → ((m : ℕ) (y : Job) → stands_after next m o ≡ some y → P y)
      → Each P (follow next n o)
  unfolding follow
  walk_each zero o f = none_left
  walk_each (suc n) none f = none_left
  walk_each (suc n) (some k) f = f zero k refl and walk_each n (next k) (λ m. f (suc m))

  pub walk_has : {P : Job → Type 0} (n m : ℕ) (o : Option Job) (y : Job) → Each P (follow next n o) → m < n
      → stands_after next m o ≡ some y → P y
  unfolding follow
  walk_has zero m o y e l h = absurd (omega arith)
  walk_has (suc n) zero none y e l h = nothing_there h refl
  walk_has (suc n) (suc m) none y e l h = nothing_there h refl
  walk_has (suc n) zero (some k) y (p and ps) l h = rw (one_there {o = some k} refl h) at p
  walk_has (suc n) (suc m) (some k) y (p and ps) l h = walk_has n m (next k) y ps (omega arith) h

  pub walk_any : (p : Job → Bool) (n m : ℕ) (o : Option Job) (y : Job) → m < n → stands_after next m o ≡ some y → p y ≡ true
      → any p (follow next n o) ≡ true
  unfolding follow
  walk_any p zero m o y l h q = absurd (omega arith)
  walk_any p (suc n) zero none y l h q = nothing_there h refl
  walk_any p (suc n) (suc m) none y l h q = nothing_there h refl
  walk_any p (suc n) zero (some k) y l h q = rw (ap p (one_there {o = some k} refl h) ∙ q)
  walk_any p (suc n) (suc m) (some k) y l h q =
      split (p k) (λ g. rw g) (λ g. rw g (walk_any p n m (next k) y (omega arith) h q))

  pub walk_met : (p : Job → Bool) (n : ℕ) (o : Option Job) → any p (follow next n o) ≡ true
      → (m : ℕ) × (y : Job) × (m < n) × (stands_after next m o ≡ some y) × (p y ≡ true)
  unfolding follow
  walk_met p zero o h = absurd (true≢false (sym h))
  walk_met p (suc n) none h = absurd (true≢false (sym h))
  walk_met p (suc n) (some k) h =
      split (p k)
      (λ g. (zero, k, omega arith, refl, g))
      (λ g. let r = walk_met p n (next k) (rw g at h) in (suc r.0, r.1, (let l = r.2 in omega arith), r.3, r.4))

  distinct_or_repeated : (n : ℕ) (o : Option Job) → Distinct (numbers_of (follow next n o)) ⊎ Repeated next n o
  unfolding follow numbers_of
  distinct_or_repeated zero o = inl no_pair
  distinct_or_repeated (suc n) none = inl no_pair
  distinct_or_repeated (suc n) (some k) =
      ⊎_elim
      (λ d. split (among (numbers_of (follow next n (next k))) k.number)
      (λ h. inr (back h))
      (λ h. inl (any_none (eqb k.number) (numbers_of (follow next n (next k))) h then d)))
      (λ w. inr (record {
        early = suc w.early;
        late = suc w.late;
        first = w.first;
        second = w.second;
        early<late = (let l = w.early<late in omega arith);
        late<end = (let l = w.late<end in omega arith);
        at_early = w.at_early;
        at_late = w.at_late;
        one_number = w.one_number;
      }))
      (distinct_or_repeated n (next k))
    where
      back : among (numbers_of (follow next n (next k))) k.number ≡ true → Repeated next (suc n) (some k)
      back h =
          let r = walk_met (λ (j : Job). eqb k.number j.number) n (next k)
          (sym (any_map (eqb k.number) (λ (j : Job). j.number) (follow next n (next k))) ∙ h) in
          record {
            early = zero;
            late = suc r.0;
            first = k;
            second = r.1;
            early<late = omega arith;
            late<end = (let l = r.2 in omega arith);
            at_early = refl;
            at_late = r.3;
            one_number = eqb-true k.number r.1.number r.4;
          }

  -- a walk that has not ended yet has a job for each step
  walk_full : (n m : ℕ) (o : Option Job) (y : Job) → n ≤ suc m → stands_after next m o ≡ some y → length (follow next n o) ≡ n
  unfolding follow
  walk_full zero m o y l h = refl
  walk_full (suc n) zero none y l h = nothing_there h refl
  walk_full (suc n) (suc m) none y l h = nothing_there h refl
  walk_full (suc zero) zero (some k) y l h = refl
  walk_full (suc (suc n)) zero (some k) y l h = absurd (omega arith)
  walk_full (suc n) (suc m) (some k) y l h = ap suc (walk_full n m (next k) y (omega arith) h)

  -- where a walk arrives, some step has led
  pub last_step : (n : ℕ) (x y : Job) → stands_after next n (next x) ≡ some y → (u : Job) × (next u ≡ some y)
  last_step zero x y h = (x, h)
  last_step (suc n) x y h = split_option (next x) (λ e. nothing_there (rw e at h) refl) (λ k e. last_step n k y (rw e at h))

  -- more steps add nothing to a walk that has ended
  pub walk_ended : (n m : ℕ) (o : Option Job) → n ≤ m → stands_after next n o ≡ none → follow next m o ≡ follow next n o
  unfolding follow
  walk_ended zero zero o l h = refl
  walk_ended zero (suc m) none l h = refl
  walk_ended zero (suc m) (some k) l h = nothing_there {o = some k} refl h
  walk_ended (suc n) zero o l h = absurd (omega arith)
  walk_ended (suc n) (suc m) none l h = refl
  walk_ended (suc n) (suc m) (some k) l h = ap {B = List Job} (λ js. k ∷ js) (walk_ended n m (next k) (omega arith) h)

  pub stays_ended : (n m : ℕ) (o : Option Job) → n ≤ m → stands_after next n o ≡ none → stands_after next m o ≡ none
  stays_ended n m o l h =
      let whole : n + (m - n) ≡ m = omega arith in
      ap (λ k. stands_after next k o) (sym whole) ∙ after_both n (m - n) o ∙ ap (stands_after next (m - n)) h ∙ nowhere_after (m - n)

  -- the last job of a walk that has ended leads nowhere
  pub last_goes_nowhere : (n : ℕ) (j : Job) → stands_after next n (next j) ≡ none → next (last_or j (follow next n (next j))) ≡ none
  unfolding follow
  last_goes_nowhere zero j h = h
  last_goes_nowhere (suc n) j h = split_option (next j) (λ e. rw e e) (λ k e. rw e (last_goes_nowhere n k (rw e at h)))

  pub walk_length : (n : ℕ) (o : Option Job) → length (follow next n o) ≤ n
  unfolding follow
  walk_length zero o = omega arith
  walk_length (suc n) none = omega arith
  walk_length (suc n) (some k) = omega (arith, walk_length n (next k))

  -- a walk from nobody
  pub walk_of_nobody : (n : ℕ) → follow next n none ≡ []
  unfolding follow
  walk_of_nobody zero = refl
  walk_of_nobody (suc n) = refl

-- what each step hands on, all jobs of the walk have
pub walk_keeps : {P : Job → Type 0} (next : Job → Option Job) → ((j k : Job) → P j → next j ≡ some k → P k)
    → (n : ℕ) (j : Job) → P j
    → Each P (follow next n (next j))
unfolding follow
walk_keeps next keeps zero j a = none_left
walk_keeps next keeps (suc n) j a =
    split_option (next j)
    (λ e. rw e none_left)
    (λ k e. rw e (keeps j k a e and walk_keeps next keeps n k (keeps j k a e)))

-- where two next steps agree, and lead to where they agree, their walks are one
pub same_walk : {Fine : Job → Type 0} (next next' : Job → Option Job) → ((j : Job) → Fine j → next j ≡ next' j)
    → ((j k : Job) → Fine j → next j ≡ some k → Fine k)
    → (n : ℕ) (j : Job) → Fine j → follow next n (next j) ≡ follow next' n (next' j)
unfolding follow
same_walk next next' agree keeps zero j f = refl
same_walk next next' agree keeps (suc n) j f =
    rw (sym (agree j f))
    (split_option (next j)
    (λ e. rw e)
    (λ k e. rw e (ap {B = List Job} (λ js. k ∷ js) (same_walk next next' agree keeps n k (keeps j k f e)))))

-- `ns` has the number of every job that a step leads to, and a number belongs to one job
module _ (next : Job → Option Job) (ns : List ℕ)
    (named : (u y : Job) → next u ≡ some y → among ns y.number ≡ true)
    (known : (u v x y : Job) → next u ≡ some x → next v ≡ some y → x.number ≡ y.number → x ≡ y) where
  long_repeats : (m : ℕ) (x y : Job) → stands_after next m (next x) ≡ some y → length ns ≤ m
      → Repeated next (suc (length ns)) (next x)
  unfolding numbers_of
  long_repeats m x y h l =
      let walk = follow next (suc (length ns)) (next x) in
      ⊎_elim
      (λ d. absurd (omega (
        arith,
        no_longer ns d
            (each_map (λ (j : Job). j.number)
            (walk_each next {P = λ (k : Job). among ns k.number ≡ true} (suc (length ns)) (next x)
            (λ n k q. let s = last_step next n x k q in named s.0 k s.1))),
        length-map (λ (j : Job). j.number) walk,
        walk_full next (suc (length ns)) m (next x) y (omega arith) h,
      )))
      (λ w. w)
      (distinct_or_repeated next (suc (length ns)) (next x))

  one_place : (x : Job) (n : ℕ) (w : Repeated next n (next x)) → w.first ≡ w.second
  one_place x n w =
      let a = last_step next w.early x w.first w.at_early in
      let b = last_step next w.late x w.second w.at_late in
      known a.0 b.0 w.first w.second a.1 b.1 w.one_number

  shorter_way : (n : ℕ) (x y : Job) → stands_after next n (next x) ≡ some y → length ns ≤ n
      → (k : ℕ) × (k < n) × (stands_after next k (next x) ≡ some y)
  shorter_way n x y h l =
      let w = long_repeats n x y h l in
      let a = w.early<late in
      let b = w.late<end in
      let whole : w.late + (n - w.late) ≡ n = omega arith in (
        w.early + (n - w.late),
        omega arith,
        after_both next w.early (n - w.late) (next x)
            ∙ ap (stands_after next (n - w.late))
            (w.at_early ∙ ap {B = Option Job} some (one_place x (suc (length ns)) w) ∙ sym w.at_late)
            ∙ sym (after_both next w.late (n - w.late) (next x))
            ∙ ap (λ m. stands_after next m (next x)) whole
            ∙ h,
      )

  within_by : (fuel n : ℕ) (x y : Job) → n ≤ fuel → stands_after next n (next x) ≡ some y
      → (m : ℕ) × (m < length ns) × (stands_after next m (next x) ≡ some y)
  within_by zero n x y l h =
      split (ltb n (length ns))
      (λ g. (n, ltb-true n (length ns) g, h))
      (λ g. absurd (let s = shorter_way n x y h (ltb-false n (length ns) g) in let a = s.1 in omega arith))
  within_by (suc fuel) n x y l h =
      split (ltb n (length ns))
      (λ g. (n, ltb-true n (length ns) g, h))
      (λ g. let s = shorter_way n x y h (ltb-false n (length ns) g) in
      let a = s.1 in
      within_by fuel s.0 x y (omega arith) s.2)

  -- a job that is reached at all is reached in fewer steps than there are numbers
  pub within_few : (n : ℕ) (x y : Job) → stands_after next n (next x) ≡ some y
      → (m : ℕ) × (m < length ns) × (stands_after next m (next x) ≡ some y)
  within_few n x y h = within_by n n x y (omega arith) h

  -- if nobody is reached from himself, no walk is longer than there are numbers
  pub must_end : ((n : ℕ) (y : Job) → stands_after next n (next y) ≡ some y → ⊥)
      → (x : Job) → stands_after next (length ns) (next x) ≡ none
  must_end f x =
      split_option (stands_after next (length ns) (next x))
      (λ e. e)
      (λ z e. absurd (let w = long_repeats (length ns) x z e (omega arith) in
      let a = w.early<late in
      let back : w.early + suc (w.late - suc w.early) ≡ w.late = omega arith in
      f (w.late - suc w.early) w.first
      (ap (stands_after next (suc (w.late - suc w.early))) (sym w.at_early)
      ∙ sym (after_both next w.early (suc (w.late - suc w.early)) (next x))
      ∙ ap (λ m. stands_after next m (next x)) back
      ∙ w.at_late
      ∙ ap {B = Option Job} some (sym (one_place x (suc (length ns)) w)))))
