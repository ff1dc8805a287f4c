-- A turn, in its ways: a job that is planned or gives nothing leaves the plan as it stands, and so does a trial that is dropped. An
-- accepted trial leaves the plan of the rules. What is kept of it was true of the entries before the first change that moves
-- something, and of those behind all changes: they are the same places as before. Assumes nothing.
use mathlib.Core.Bool.{Bool, true, false, cond}
use mathlib.Core.List.{List, [], ◌∷◌, ◌++◌, append_assoc}
use mathlib.Core.Path.{◌≡◌, refl, sym, ap, ◌∙◌}
use Prim.Native.Nat.{ℕ, zero, suc, ◌+◌, ◌-◌, ◌≤◌, ◌<◌}
use native.Mathlib.Omega.{arith}
use borrow.Author.Tests.{eq-eqb, eqb-true, le-ltb, lt-ltb, ne_eqb}
use lib.Dec.{ltb}
use lib.ListN.{drop, get_or, length, length-append, length-drop, take}
use lib.Seq.{drop-drop, get_or-drop, get_or-take, length-take-le, take_at, take-take}
use Rattle.changes.specs.Changes.{merged, staying}
use Rattle.columns.proofs.Entries.{jobs_of_entries, length_jobs_at}
use Rattle.columns.specs.Columns.{AllBelow, entries_in, jobs_at}
use Rattle.columns.specs.declared.Terms.{Terms}
use Rattle.entries.proofs.Found.{in_plan_among}
use Rattle.entries.proofs.Parts.{dropped_front}
use Rattle.entries.proofs.Sums.{cycles_at_most, cycles_of_jobs}
use Rattle.entries.specs.Places.{not_planned, part}
use Rattle.entries.specs.Promises.{cycles_at}
use Rattle.judgements.specs.Changes.{EndsWith, entries_of, far_first, most_changes}
use Rattle.judgements.specs.Promises.{EndsTrue, JudgedDropped, JudgedPlanned, LatestsTrue}
use Rattle.laws.proofs.Numbered.{same_place}
use Rattle.rules.specs.Lists.{Each, Rising, none_left, ◌and◌}
use Rattle.rules.specs.Plan.{Entry, Outcome, Turn, cycles_of, ends_late, fate_budget, fate_planned, fate_ratio_zero, fate_time, in_plan, jobs_of}
use Rattle.rules.specs.Plan.{judge, ratio_zero, same, too_dear, trial, turn, turn_of}
use Rattle.rules.specs.TableText.{Records, most_jobs, no_job}
use Rattle.rules.specs.Answers.{fate_number}
use Rattle.rules.specs.declared.Fate.{Fate}
use Rattle.rules.specs.declared.Job.{Job}
use Rattle.steps.proofs.Jobs.{same_self}
use Rattle.trials.proofs.Accepting.{each_change_of}
use Rattle.trials.proofs.Judged as judged-so
use Rattle.trials.proofs.Making.{each_below}
use Rattle.trials.proofs.Once.{each_dropped, each_taken, length_planned}
use Rattle.trials.proofs.Settling.{front_apart}
use Rattle.trials.proofs.Turning as turning
use Rattle.trials.specs.Promises.{Acceptable, Accepted, EntriesStand, LeftUntouched, Renewable}
use Rattle.trials.specs.Promises.{TurnColumns, TurnOf, TurnTaken, Turnable, WalkNoted, plan_in, planned_places}
use Rattle.trials.specs.declared.Plan.{Plan}
use Rattle.trials.specs.declared.JobInTurn.{JobInTurn}
use Rattle.trials.specs.declared.Untouched.{Untouched}
use Rattle.trials.specs.declared.Walked.{Walked}
use Rattle.judgements.specs.declared.Kept.{Kept}

-- what a trial leaves, by the tests
abbrev outcome_by : Bool → Bool → List Entry → List Entry → Outcome
outcome_by late dear p q =
    cond late (record { plan = p; fate = fate_time })
    (cond dear (record { plan = p; fate = fate_budget }) (record { plan = q; fate = fate_planned }))

abbrev fate_of : Bool → Bool → ℕ
fate_of late dear = cond late fate_time (cond dear fate_budget fate_planned)

dropped_by : (late dear : Bool) (fate : ℕ) (p q : List Entry) → fate ≡ fate_of late dear → (fate ≡ fate_planned → ⊥)
    → record { plan = p; fate = fate } ≡ outcome_by late dear p q
dropped_by true dear fate p q e n = rw e
dropped_by false true fate p q e n = rw e
dropped_by false false fate p q e n = absurd (n e)

accepted_by : (late dear : Bool) (fate : ℕ) (p q : List Entry) → fate ≡ fate_of late dear → fate ≡ fate_planned
    → record { plan = q; fate = fate_planned } ≡ outcome_by late dear p q
accepted_by true dear fate p q e f = absurd (omega arith)
accepted_by false true fate p q e f = absurd (omega arith)
accepted_by false false fate p q e f = refl

-- the rules, by what they test
module _ (t : Records) (i : Turn) (p : List Entry) where
  passed_over : in_plan i.job p ≡ true → record { plan = p; fate = fate_planned } ≡ turn t i p
  unfolding turn
  passed_over h = rw h

  module _ (new : in_plan i.job p ≡ false) where
    gives-nothing : i.ratio.over ≡ 0 → record { plan = p; fate = fate_ratio_zero } ≡ turn t i p
    unfolding turn ratio_zero
    gives-nothing h = rw new (rw (eq-eqb i.ratio.over 0 h))

    module _ (gives : i.ratio.over ≡ 0 → ⊥) (fate : ℕ) (told : fate ≡ fate_of (ends_late t (trial i p)) (too_dear t (trial i p))) where
      judged : judge t p (trial i p) ≡ turn t i p
      unfolding turn ratio_zero
      judged = rw new (rw (ne_eqb i.ratio.over 0 gives))

      dropped : (fate ≡ fate_planned → ⊥) → record { plan = p; fate = fate } ≡ turn t i p
      unfolding judge
      dropped n = dropped_by (ends_late t (trial i p)) (too_dear t (trial i p)) fate p (trial i p) told n ∙ judged

      accepted_so : fate ≡ fate_planned → record { plan = trial i p; fate = fate_planned } ≡ turn t i p
      unfolding judge
      accepted_so f = accepted_by (ends_late t (trial i p)) (too_dear t (trial i p)) fate p (trial i p) told f ∙ judged

-- where numbers rise, jobs tell their places
jobs_tell_places : (js : List Job) → Rising (λ j. j.number) js → {xs ys : List ℕ} → Each (λ x. x < length js) xs
    → Each (λ y. y < length js) ys → jobs_at js xs ≡ jobs_at js ys → xs ≡ ys
jobs_tell_places js rising none_left none_left e = refl
jobs_tell_places js rising none_left (h and hs) e = absurd (let l = ap length e in omega arith)
jobs_tell_places js rising (h and hs) none_left e = absurd (let l = ap length e in omega arith)
jobs_tell_places js rising {xs = x ∷ xs} {ys = y ∷ ys} (h and hs) (l and ls) e =
    let first : x ≡ y =
    eqb-true x y (sym (same_place js rising x y h l) ∙ ap (same (get_or js x no_job)) (sym (ap (λ r. get_or r 0 no_job) e))
    ∙ same_self (get_or js x no_job)) in
    let rest : xs ≡ ys = jobs_tell_places js rising hs ls (ap (drop 1) e) in
    ap {B = List ℕ} (λ n. n ∷ xs) first ∙ ap {B = List ℕ} (λ r. y ∷ r) rest

taken_jobs : (js : List Job) (n : ℕ) (xs : List ℕ) → jobs_at js (take n xs) ≡ take n (jobs_at js xs)
taken_jobs js zero xs = refl
taken_jobs js (suc n) [] = refl
taken_jobs js (suc n) (x ∷ xs) = ap {B = List Job} (λ r. get_or js x no_job ∷ r) (taken_jobs js n xs)

dropped_jobs : (js : List Job) (n : ℕ) (xs : List ℕ) → jobs_at js (drop n xs) ≡ drop n (jobs_at js xs)
dropped_jobs js zero xs = refl
dropped_jobs js (suc n) [] = refl
dropped_jobs js (suc n) (x ∷ xs) = dropped_jobs js n xs

drop_at : {A : Type 0} (xs ys : List A) (n : ℕ) → length xs ≡ n → drop n (xs ++ ys) ≡ ys
drop_at [] ys zero e = refl
drop_at [] ys (suc n) e = absurd (omega arith)
drop_at (x ∷ xs) ys zero e = absurd (omega arith)
drop_at (x ∷ xs) ys (suc n) e = drop_at xs ys n (omega arith)

-- what is kept of places stays true of others that are the same in front, or behind
module _ (cycles : List ℕ) (ps ps' : List ℕ) where
  pub ends_in_front : (from : ℕ) (ends : List ℕ) → from ≤ length ps → take from ps' ≡ take from ps
      → EndsTrue (length ps) cycles ps ends → EndsTrue from cycles ps' ends
  ends_in_front from ends l e was i h =
      let same_place : get_or ps' i 0 ≡ get_or ps i 0 =
      sym (get_or-take from ps' i 0 h) ∙ ap (λ r. get_or r i 0) e ∙ get_or-take from ps i 0 h in
      let same_front : take (i + 1) ps' ≡ take (i + 1) ps =
      sym (take-take (i + 1) from ps' (omega arith)) ∙ ap (take (i + 1)) e ∙ take-take (i + 1) from ps (omega arith) in
      rw (same_place, same_front) (was i (omega arith))

  pub latests_behind : (deadline : List ℕ) (to from : ℕ) (latests : List ℕ) → drop to ps' ≡ drop from ps
      → LatestsTrue 0 cycles deadline ps latests → LatestsTrue to cycles deadline ps' latests
  latests_behind deadline to from latests e was i l h =
      let n : ℕ = i - to in
      let here : to + n ≡ i = omega arith in
      let same_place : get_or ps' i 0 ≡ get_or ps (from + n) 0 =
      ap (λ m. get_or ps' m 0) (sym here) ∙ sym (get_or-drop to ps' n 0) ∙ ap (λ r. get_or r n 0) e ∙ get_or-drop from ps n 0 in
      let same_behind : drop i ps' ≡ drop (from + n) ps =
      ap (λ m. drop m ps') (sym here) ∙ sym (drop-drop n to ps') ∙ ap (drop n) e ∙ drop-drop n from ps in
      let inside : from + n < length ps = omega (arith, length-drop to ps', length-drop from ps, ap length e) in
      rw (same_place, same_behind) (was (from + n) (omega arith) inside)

module _ {p : Plan} {kept : Kept} {changed₀ fresh₀ : List ℕ} {job : JobInTurn} {c : TurnColumns} {terms : Terms}
    (able : Turnable p kept changed₀ fresh₀ job c terms) where
  abbrev stand : EntriesStand p.totals.count p.places p.keys
  stand = able.standing.entries_stand

  abbrev ps : List ℕ
  ps = planned_places p

  abbrev key : ℕ
  key = get_or p.keys job.place 0

  -- the job's key tells whether it is planned
  in_plan_told : (t : Records) (of : TurnOf t p job c terms)
      → in_plan (turn_of t (get_or t.jobs job.place no_job)).job (plan_in t.jobs p) ≡ ltb key not_planned
  unfolding turn_of
  in_plan_told t of =
      in_plan_among t.jobs of.valid.jobs_rise p.keys job.place of.place_of_job ps of.of_jobs
      ∙ sym (stand.keys_tell job.place able.place_below)

  over_told : (t : Records) (of : TurnOf t p job c terms) → (turn_of t (get_or t.jobs job.place no_job)).ratio.over ≡ job.over
  unfolding turn_of
  over_told t of = sym of.over_of

  -- the plan stays, with this fate for the job
  stays : (changed fresh : List ℕ) → length changed ≡ most_changes → length fresh ≡ most_changes → (fate : ℕ)
      → ((t : Records) → TurnOf t p job c terms → record { plan = plan_in t.jobs p; fate = fate }
      ≡ turn t (turn_of t (get_or t.jobs job.place no_job)) (plan_in t.jobs p))
      → TurnTaken p job c terms p kept changed fresh fate
  stays changed fresh a b fate outcome = record {
    standing = able.standing;
    outcome = outcome;
    of_jobs = λ t of. of.of_jobs;
    total_true = able.total_true;
    kept_true = able.kept_true;
    changed_length = a;
    fresh_length = b;
    no_fall = omega arith;
    within = λ was. was;
  }

  pub job_passed_over : key < not_planned → TurnTaken p job c terms p kept changed₀ fresh₀ fate_planned
  job_passed_over l =
      stays changed₀ fresh₀ able.changed_length able.fresh_length fate_planned (λ t of.
      passed_over t (turn_of t (get_or t.jobs job.place no_job)) (plan_in t.jobs p) (in_plan_told t of ∙ lt-ltb key not_planned l))

  module _ (new : not_planned ≤ key) where
    new_told : (t : Records) (of : TurnOf t p job c terms)
        → in_plan (turn_of t (get_or t.jobs job.place no_job)).job (plan_in t.jobs p) ≡ false
    new_told t of = in_plan_told t of ∙ le-ltb key not_planned new

    pub ratio_is_zero : job.over ≡ 0 → TurnTaken p job c terms p kept changed₀ fresh₀ fate_ratio_zero
    ratio_is_zero z =
        stays changed₀ fresh₀ able.changed_length able.fresh_length fate_ratio_zero (λ t of.
        gives-nothing t (turn_of t (get_or t.jobs job.place no_job)) (plan_in t.jobs p) (new_told t of) (over_told t of ∙ z))

    module _ (some : job.over ≡ 0 → ⊥) {changed fresh : List ℕ} {w : Walked}
        (walked : WalkNoted job.place p.keys c.waits c.critical c.cycles changed fresh w) {u : Untouched}
        (left : LeftUntouched ps p.keys changed fresh w.noted u) where
      gives_told : (t : Records) (of : TurnOf t p job c terms)
          → (turn_of t (get_or t.jobs job.place no_job)).ratio.over ≡ 0 → ⊥
      gives_told t of z = some (sym (over_told t of) ∙ z)

      pub trial_is_dropped : (why : Fate)
          → JudgedDropped ps p.keys changed fresh (judged-so.rest able new walked left) (judged-so.from able new walked left)
          (judged-so.all able new walked) c.cycles c.deadline terms why
          → TurnTaken p job c terms p kept changed fresh (fate_number why)
      trial_is_dropped why judged =
          stays changed fresh walked.changed_length walked.fresh_length (fate_number why) (λ t of.
          dropped t (turn_of t (get_or t.jobs job.place no_job)) (plan_in t.jobs p) (new_told t of) (gives_told t of) (fate_number why)
          (judged-so.fate-told able new walked left of (fate_number why) judged.fate) judged.not-planned)

      below_inside : u.below ≤ p.totals.count
      below_inside = omega (arith, left.inside, length_planned p.totals.count p.places p.keys stand)

      pub acceptable : Acceptable p.totals.count p.places p.keys changed fresh w.noted.changes u.below
      acceptable = record {
        stand = stand;
        from_inside = below_inside;
        few = walked.few;
        well_noted = walked.well_noted;
        lower = λ i h.
            rw (sym (get_or-take p.totals.count p.places i 0 (omega (arith, below_inside))))
            (judged-so.lower_than_changes able new walked left i h);
      }

      module _ {passed : ℕ} (judged : JudgedPlanned ps p.keys changed fresh (judged-so.rest able new walked left)
          (judged-so.from able new walked left) (judged-so.all able new walked) c.cycles c.deadline terms passed)
          {places' keys' : List ℕ} {r : ℕ}
          (made : Accepted p.totals.count p.places p.keys changed fresh w.noted.changes u.below places' keys' r) where
        abbrev ps' : List ℕ
        ps' = take r places'

        abbrev from : ℕ
        from = u.below + u.settled

        abbrev pub upto : ℕ
        upto = passed + r - p.totals.count

        abbrev all : ℕ
        all = p.totals.cycles + w.added

        abbrev pub after : Plan
        after = record { totals = record { count = r; cycles = all }; places = places'; keys = keys' }

        long : length ps' ≡ r
        long = length_planned r places' keys' made.stand

        long_before : length ps ≡ p.totals.count
        long_before = length_planned p.totals.count p.places p.keys stand

        -- of a table: the plan is the trial
        module _ (t : Records) (of : TurnOf t p job c terms) where
          noted_of : (i : ℕ) → i < w.noted.changes → get_or changed i 0 < length t.jobs
          noted_of = turning.noted_of_jobs p job c terms stand t of new changed fresh w walked

          plan_told : plan_in t.jobs after ≡ trial (turn_of t (get_or t.jobs job.place no_job)) (plan_in t.jobs p)
          plan_told =
              let js = t.jobs in
              let es = entries_of js (far_first w.noted.changes changed fresh) in
              made.merge js of.valid.jobs_rise of.of_jobs noted_of
              ∙ ap (λ l. entries_in js p.keys l ++ merged es (staying es (entries_in js p.keys (part u.below p.totals.count p.places))))
              (sym (take-take u.below p.totals.count p.places below_inside))
              ∙ ap (λ l. entries_in js p.keys (take u.below ps) ++ merged es (staying es (entries_in js p.keys l)))
              (sym (dropped_front u.below p.totals.count p.places))
              ∙ sym (turning.trial_told p job c terms stand t of new changed fresh w walked
              ∙ front_apart js of.valid.jobs_rise p.keys u.below (far_first w.noted.changes changed fresh) ps
              walked.well_noted.forward (each_below (length js) ps of.of_jobs) (each_change_of js changed fresh w.noted.changes noted_of)
              (judged-so.lowers able new walked left))

          pub after_of_jobs : AllBelow (length t.jobs) ps'
          after_of_jobs = made.of_jobs t.jobs of.of_jobs noted_of

          jobs_after : jobs_at t.jobs ps' ≡ jobs_of (trial (turn_of t (get_or t.jobs job.place no_job)) (plan_in t.jobs p))
          jobs_after = sym (jobs_of_entries t.jobs keys' ps') ∙ ap jobs_of plan_told

        -- the places before the first change that moves something, and those behind all changes, are as they were
        abbrev js : List Job
        js = able.table.jobs

        abbrev of : TurnOf able.table p job c terms
        of = able.of_table

        cs : List Entry
        cs = entries_of js (far_first (w.noted.changes - u.settled) changed fresh)

        behind : EndsWith (merged cs (staying cs (entries_in js p.keys (drop from ps)))) (entries_in js p.keys (drop passed ps))
        unfolding cs
        behind =
            judged.ahead js _ (judged-so.run_of able new walked left of)
            stand.sorted (judged-so.to-go able new walked left of)

        jobs_by_parts : jobs_at js ps' ≡ jobs_at js (take from ps) ++ (jobs_of behind.front ++ jobs_at js (drop passed ps))
        unfolding cs
        jobs_by_parts =
            jobs_after able.table of
            ∙ judged-so.jobs_told able new walked left of
            ∙ ap (λ l. jobs_at js (take from ps) ++ l)
            (ap jobs_of behind.parts ∙ judged-so.jobs_parts behind.front (entries_in js p.keys (drop passed ps))
            ∙ ap (λ l. jobs_of behind.front ++ l) (jobs_of_entries js p.keys (drop passed ps)))

        each_before : Each (λ q. q < length js) ps
        each_before = each_below (length js) ps of.of_jobs

        each_after : Each (λ q. q < length js) ps'
        each_after = each_below (length js) ps' (after_of_jobs able.table of)

        long_front : length (jobs_at js (take from ps)) ≡ from
        long_front = length_jobs_at js (take from ps) ∙ length-take-le from ps left.inside

        front_same : take from ps' ≡ take from ps
        front_same =
            jobs_tell_places js of.valid.jobs_rise (each_taken from each_after) (each_taken from each_before)
            (taken_jobs js from ps' ∙ ap (take from) jobs_by_parts
            ∙ take_at (jobs_at js (take from ps)) (jobs_of behind.front ++ jobs_at js (drop passed ps)) from long_front)

        long_changed : length (jobs_at js (take from ps) ++ jobs_of behind.front) ≡ upto
        long_changed =
            let whole = sym (length_jobs_at js ps') ∙ ap length jobs_by_parts in
            let tail = length_jobs_at js (drop passed ps) ∙ length-drop passed ps in
            omega (
              arith,
              whole,
              long,
              long_before,
              tail,
              judged.inside,
              length-append (jobs_at js (take from ps)) (jobs_of behind.front ++ jobs_at js (drop passed ps)),
              length-append (jobs_of behind.front) (jobs_at js (drop passed ps)),
              length-append (jobs_at js (take from ps)) (jobs_of behind.front),
            )

        behind_same : drop upto ps' ≡ drop passed ps
        behind_same =
            jobs_tell_places js of.valid.jobs_rise (each_dropped upto each_after) (each_dropped passed each_before)
            (dropped_jobs js upto ps' ∙ ap (drop upto) (jobs_by_parts
            ∙ sym (append_assoc (jobs_at js (take from ps)) (jobs_of behind.front) (jobs_at js (drop passed ps))))
            ∙ drop_at (jobs_at js (take from ps) ++ jobs_of behind.front) (jobs_at js (drop passed ps)) upto long_changed)

        pub ends_so_far : EndsTrue from c.cycles ps' kept.ends
        ends_so_far = ends_in_front c.cycles ps ps' from kept.ends left.inside front_same able.kept_true.ends_true

        pub latests_so_far : LatestsTrue upto c.cycles c.deadline ps' kept.latests
        latests_so_far =
            latests_behind c.cycles ps ps' c.deadline upto passed kept.latests behind_same able.kept_true.latests_true

        pub from_inside : from ≤ length ps'
        from_inside = omega (arith, long, long_changed, length-append (jobs_at js (take from ps)) (jobs_of behind.front), long_front, made.no_fewer, judged.inside, long_before)

        pub upto_inside : upto ≤ length ps'
        upto_inside = omega (arith, long, judged.inside, long_before)

        pub renewable : (column : List ℕ) → length column ≡ most_jobs → Renewable ps' column c.cycles
        renewable column e = record {
          places = record { few = omega (arith, long, made.stand.few); below = made.stand.below };
          once = made.stand.once;
          kept_length = e;
          cycles_small = able.columns_small.cycles_small;
        }

        total_so : all ≡ cycles_at c.cycles ps'
        total_so =
            judged-so.all_told able new walked left of
            ∙ sym (cycles_of_jobs c.cycles js of.columns_of.cycles-of ps' ∙ ap cycles_of (jobs_after able.table of))

        pub trial_is_accepted : (ends' latests' : List ℕ) → length ends' ≡ most_jobs → length latests' ≡ most_jobs
            → EndsTrue (length ps') c.cycles ps' ends' → LatestsTrue 0 c.cycles c.deadline ps' latests'
            → TurnTaken p job c terms after (record { ends = ends'; latests = latests' }) changed fresh fate_planned
        trial_is_accepted ends' latests' a b ends latests = record {
          standing = record {
            entries_stand = made.stand;
            cycles_small = omega (arith, total_so, cycles_at_most c.cycles able.columns_small.cycles_small ps', long);
          };
          outcome = λ t of.
              ap (λ (l : List Entry). record { plan = l; fate = fate_planned }) (plan_told t of)
              ∙ accepted_so t (turn_of t (get_or t.jobs job.place no_job)) (plan_in t.jobs p) (new_told t of) (gives_told t of) fate_planned
              (judged-so.fate-told able new walked left of fate_planned judged.fate) refl;
          of_jobs = λ t of. after_of_jobs t of;
          total_true = total_so;
          kept_true = record { ends_length = a; latests_length = b; ends_true = ends; latests_true = latests };
          changed_length = walked.changed_length;
          fresh_length = walked.fresh_length;
          no_fall = omega arith;
          within = λ was. judged.within;
        }
