-- A turn of a table, as the code has it: the plan is sound, its keys tell the rules' keys, what the walk noted are the rules'
-- changes, far end first, and the places that these move leave the plan in their order. So the trial of the rules is the merge of
-- what was noted with what stays. Assumes nothing.
use mathlib.Core.Bool.{Bool, true, false, cond}
use mathlib.Core.List.{List, [], ◌∷◌, map, reverse}
use mathlib.Core.Option.{some}
use mathlib.Core.Path.{◌≡◌, refl, sym, ap, ◌∙◌}
use Prim.Native.Nat.{ℕ, suc, ◌+◌, ◌≤◌, ◌<◌}
use native.Mathlib.Omega.{arith}
use lib.ListN.{get_or, length, take}
use Rattle.changes.proofs.Merging.{pairs_reversed, staying_reversed, total_reversed}
use Rattle.changes.proofs.OfTurns.{chain_in_order, turn_cycles, turn_merges}
use Rattle.changes.proofs.Walk.{changes_in_pairs}
use Rattle.changes.specs.Changes.{changes_of, key_in, key_of, merged, staying, stands_at}
use Rattle.columns.proofs.Entries.{jobs_of_entries}
use Rattle.columns.specs.Columns.{AllBelow, entries_in, entry_at}
use Rattle.columns.specs.declared.Terms.{Terms}
use Rattle.entries.proofs.Found.{found_among, in_plan_among}
use Rattle.entries.proofs.Sums.{cycles_of_jobs}
use Rattle.entries.specs.Places.{first_where, index_of, not_planned}
use Rattle.entries.specs.Promises.{cycles_at}
use Rattle.judgements.specs.Changes.{Change, entries_of, far_first, places_of}
use Rattle.laws.proofs.Elements.{each_map, each_too}
use Rattle.laws.proofs.Numbered.{same_place}
use Rattle.laws.proofs.Pairs.{pairs_map, pairs_too}
use Rattle.laws.specs.Pairs.{Pairwise, among, no_pair, ◌then◌}
use Rattle.rules.specs.Lists.{Each, Rising, find, keep, none_left, only_if, total, ◌and◌}
use Rattle.rules.specs.Plan.{Entry, Turn, cycles_of, in_plan, is_of, jobs_of, left, no_turn_yet, same}
use Rattle.rules.specs.Plan.{trial, turn_of, waits_left}
use Rattle.rules.specs.TableText.{Records, most_jobs, no_job}
use Rattle.rules.specs.declared.Job.{Job}
use Rattle.steps.proofs.Course.{Sound, course_sound, empty_sound}
use Rattle.steps.proofs.Turns.{OfLeft}
use Rattle.trials.proofs.Accepting.{each_change_of}
use Rattle.trials.proofs.Leaving.{keep_alike, leave_in_order}
use Rattle.trials.proofs.Once.{not_among}
use Rattle.trials.specs.Promises.{EntriesStand, TurnColumns, TurnOf, WalkNoted, is_planned, plan_in, planned_places}
use Rattle.trials.specs.declared.Plan.{Plan}
use Rattle.trials.specs.declared.JobInTurn.{JobInTurn}
use Rattle.trials.specs.declared.Walked.{Walked}

of_left : (t : Records) (j : Job) → find (same j) (left t) ≡ some j → OfLeft t (turn_of t j)
unfolding turn_of
of_left t j l = record { listed = l; is_turn = refl }

all_of_left : (t : Records) {js : List Job} → Each (λ j. find (same j) (left t) ≡ some j) js → Each (OfLeft t) (map (turn_of t) js)
all_of_left t es = each_map (turn_of t) (each_too (λ j l. of_left t j l) es)

start_sound : (t : Records) → Sound t no_turn_yet.plan
unfolding no_turn_yet
start_sound t = empty_sound t

key_of_only : (b : Bool) (e : Entry) → key_of (only_if b e) ≡ only_if b e.key
unfolding key_of
key_of_only true e = refl
key_of_only false e = refl

pub pairs_unmapped : {A B : Type 0} {R : B → B → Type 0} (f : A → B) {xs : List A} → Pairwise R (map f xs)
    → Pairwise (λ x y. R (f x) (f y)) xs
pairs_unmapped f {xs = []} no_pair = no_pair
pairs_unmapped {R} f {xs = x ∷ xs} (r then rs) = each_unmapped f r then pairs_unmapped {R = R} f {xs = xs} rs
  where
    each_unmapped : {A B : Type 0} {P : B → Type 0} (f : A → B) {xs : List A} → Each P (map f xs) → Each (λ x. P (f x)) xs
    each_unmapped f {xs = []} none_left = none_left
    each_unmapped {P} f {xs = x ∷ xs} (p and ps) = p and each_unmapped {P = P} f {xs = xs} ps

module _ (p : Plan) (job : JobInTurn) (c : TurnColumns) (terms : Terms)
    (stand : EntriesStand p.totals.count p.places p.keys) (t : Records) (of : TurnOf t p job c terms) where
  abbrev pub js : List Job
  js = t.jobs

  abbrev pub ps : List ℕ
  ps = planned_places p

  abbrev pub before : List Entry
  before = plan_in js p

  abbrev pub own : Job
  own = get_or js job.place no_job

  abbrev pub turn_now : Turn
  turn_now = turn_of t own

  rising : Rising (λ j. j.number) js
  rising = of.valid.jobs_rise

  pub is_of_left : OfLeft t turn_now
  is_of_left = of_left t own of.remains

  pub sound : Sound t before
  sound =
      rw of.of_turns.by_turns
      (course_sound t of.valid no_turn_yet (all_of_left t of.of_turns.remain) (start_sound t))

  few_jobs : length js ≤ most_jobs
  few_jobs = of.columns_of.waits-left.few

  -- the plan has a job exactly if it has its place, at the same index
  planned_place : (q : ℕ) → q < length js → in_plan (get_or js q no_job) before ≡ among ps q
  planned_place q h = in_plan_among js rising p.keys q h ps of.of_jobs

  stands_place : (q : ℕ) → q < length js → (qs : List ℕ) → AllBelow (length js) qs
      → stands_at (get_or js q no_job) (entries_in js p.keys qs) ≡ index_of q qs
  unfolding stands_at first_where is_of
  stands_place q h [] below = refl
  stands_place q h (x ∷ xs) below =
      rw (same_place js rising q x h (below 0 (omega arith)), stands_place q h xs (λ i l. below (suc i) (omega arith)))

  pub keys_tell : (q : ℕ) → q < length js → key_in before (get_or js q no_job) ≡ only_if (is_planned p.keys q) (get_or p.keys q 0)
  unfolding key_in
  keys_tell q h =
      ap key_of (found_among js rising p.keys q h ps of.of_jobs)
      ∙ key_of_only (among ps q) (entry_at js p.keys q)
      ∙ ap (λ b. only_if b (get_or p.keys q 0)) (sym (stand.keys_tell q (omega (arith, few_jobs))))

  module _ (new : not_planned ≤ get_or p.keys job.place 0) where
    pub not_in_plan : in_plan turn_now.job before ≡ false
    unfolding turn_of
    not_in_plan =
        planned_place job.place of.place_of_job
        ∙ not_among p.totals.count p.places p.keys stand job.place (omega (arith, few_jobs, of.place_of_job)) new

    module _ (changed fresh : List ℕ) (w : Walked)
        (walked : WalkNoted job.place p.keys c.waits c.critical c.cycles changed fresh w) where
      abbrev pub ds : List Change
      ds = far_first w.noted.changes changed fresh

      pub noted_of_jobs : (i : ℕ) → i < w.noted.changes → get_or changed i 0 < length js
      noted_of_jobs = walked.of_jobs js (waits_left t) of.columns_of.waits-left of.place_of_job

      pub changes_told : entries_of js ds ≡ reverse (changes_of turn_now before)
      unfolding changes_of turn_of
      changes_told =
          walked.changes-of js (waits_left t) (key_in before) of.columns_of.waits-left of.columns_of.critical_of keys_tell
          of.place_of_job

      -- The trial of the rules is what was noted, merged with what stays.
      pub trial_told : trial turn_now before ≡ merged (entries_of js ds) (staying (entries_of js ds) before)
      trial_told =
          turn_merges t of.valid turn_now before is_of_left sound not_in_plan
          ∙ ap (merged (reverse (changes_of turn_now before))) (sym (staying_reversed (changes_of turn_now before) before))
          ∙ ap (λ cs. merged cs (staying cs before)) (sym changes_told)

      each_noted_of_jobs : Each (λ (d : Change). d.place < length js) ds
      each_noted_of_jobs = each_change_of js changed fresh w.noted.changes noted_of_jobs

      -- who is moved is told by the plan's places as by the keys
      planned_told : Each (λ q. is_planned p.keys q ≡ among ps q) (places_of ds)
      planned_told =
          each_map (λ (d : Change). d.place)
          (each_too (λ (d : Change) h. stand.keys_tell d.place (omega (arith, few_jobs))) each_noted_of_jobs)

      -- Those that leave, leave in the order in which they were noted, the last first.
      pub leave_so : take w.noted.moved (places_of ds) ≡ keep (among (places_of ds)) ps
      leave_so =
          ap (λ n. take n (places_of ds)) (walked.moved_of ∙ ap length (keep_alike planned_told))
          ∙ leave_in_order (places_of ds) ps stand.once
          (pairs_map (λ (d : Change). d.place)
          (pairs_too {P = λ (d : Change). d.place < length js}
          (λ (d e : Change) h l r t.
          let both = r (planned_place e.place l ∙ t) in (
            sym (planned_place d.place h) ∙ both.0,
            omega (arith, both.1, stands_place d.place h ps of.of_jobs, stands_place e.place l ps of.of_jobs),
          ))
          each_noted_of_jobs
          (pairs_unmapped (λ (d : Change). record { job = get_or js d.place no_job; key = d.key }) in_order)))
        where
          in_order : Pairwise (λ (x y : Entry). in_plan y.job before ≡ true
              → (in_plan x.job before ≡ true) × (stands_at x.job before < stands_at y.job before)) (entries_of js ds)
          in_order =
              rw changes_told
              (pairs_reversed (changes_in_pairs turn_now before (chain_in_order t of.valid turn_now before is_of_left sound)))

      -- The cycles of the trial are the plan's and those of whom it takes in.
      pub cycles_told : w.added + cycles_at c.cycles ps ≡ cycles_of (jobs_of (trial turn_now before))
      cycles_told =
          omega (
            arith,
            walked.added_of,
            added_told,
            turn_cycles t of.valid turn_now before is_of_left sound not_in_plan,
            cycles_of_jobs c.cycles js of.columns_of.cycles-of ps,
            ap cycles_of (jobs_of_entries js p.keys ps),
          )
        where
          weight : Entry → ℕ
          weight e = cond (in_plan e.job before) 0 e.job.cycles

          along : {es : List Change} → Each (λ (d : Change). d.place < length js) es
              → total (λ q. cond (is_planned p.keys q) 0 (get_or c.cycles q 0)) (places_of es) ≡ total weight (entries_of js es)
          along none_left = refl
          along {es = d ∷ es} (h and hs) =
              rw (
                stand.keys_tell d.place (omega (arith, few_jobs)) ∙ sym (planned_place d.place h),
                of.columns_of.cycles-of d.place,
                along hs,
              )

          added_told : total (λ q. cond (is_planned p.keys q) 0 (get_or c.cycles q 0)) (places_of ds)
              ≡ total weight (changes_of turn_now before)
          added_told =
              along each_noted_of_jobs ∙ ap (total weight) changes_told ∙ total_reversed weight (changes_of turn_now before)
