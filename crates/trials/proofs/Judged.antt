-- A trial judged: what the turn asks of its functions follows from what they promised before, and the fate that is judged is the one
-- that the rules give to the trial. Of the order that they would make, the code knows the entries that stand as they are to stand,
-- and behind these what the other changes make: they are the same jobs in the same order. Assumes nothing.
use mathlib.Core.Bool.{Bool, true, false, cond, not}
use mathlib.Core.List.{List, [], ◌∷◌, ◌++◌, append_assoc}
use mathlib.Core.Logic.{inl}
use mathlib.Core.Path.{◌≡◌, sym, ap, ◌∙◌}
use Prim.Native.Nat.{ℕ, zero, suc, ◌+◌, ◌-◌, ◌*◌, ◌≤◌, ◌<◌}
use native.Mathlib.Omega.{arith}
use lib.Dec.{ltb}
use lib.ListN.{drop, get_or, length, length-drop, take}
use lib.Seq.{drop-drop, get_or-take, length-take-le, take-add}
use Rattle.chains.proofs.Walks.{chain_met, met_are_places}
use Rattle.chains.specs.Promises.{most_members}
use Rattle.chains.specs.Waits.{places_from}
use Rattle.changes.proofs.OfTurns.{chain_apart, each_runs_in, trial_runs}
use Rattle.changes.specs.Changes.{merged, staying}
use Rattle.columns.proofs.Entries.{jobs_of_entries}
use Rattle.columns.specs.Columns.{AtMost, entries_in, jobs_at}
use Rattle.columns.specs.declared.Terms.{Terms}
use Rattle.entries.specs.Places.{not_planned}
use Rattle.entries.specs.Promises.{JobPlaces}
use Rattle.judgements.specs.Changes.{Change, WellNoted, entries_of, far_first, most_changes, places_of, timely_entries}
use Rattle.judgements.specs.Promises.{FateOf, Judgeable, RunOf, ToGo, at_first}
use Rattle.judgements.specs.declared.Noted.{Noted}
use Rattle.laws.proofs.Elements.{each_too, map_append}
use Rattle.laws.proofs.Lookups.{length_keep}
use Rattle.laws.proofs.Numbered.{same_place}
use Rattle.laws.proofs.Pairs.{pairs_too}
use Rattle.laws.specs.Pairs.{Distinct, Pairwise, ◌then◌}
use Rattle.rules.specs.Lists.{Each, Rising, total, ◌and◌}
use Rattle.rules.specs.Plan.{Entry, awaited, cycles_of, ends_late, fate_budget, fate_planned, fate_time, in_time, jobs_of, same, too_dear, top_of, trial, turn_of, waits_left}
use Rattle.rules.specs.TableText.{Records, most_cycles, most_jobs, no_job}
use Rattle.rules.specs.declared.Job.{Job}
use Rattle.steps.proofs.Deadlines.{in_time_by_deadlines, timely_map}
use Rattle.steps.proofs.RunOrder.{run-order}
use Rattle.steps.proofs.Running.{in_time_behind_none}
use Rattle.steps.specs.Deadlines.{deadline_of, timely_behind}
use Rattle.trials.proofs.Accepting.{each_by_index, each_change_of}
use Rattle.trials.proofs.FarFirst.{length_far_first, length_places}
use Rattle.trials.proofs.Making.{each_below}
use Rattle.trials.proofs.Once.{each_dropped, length_planned, pairs_dropped}
use Rattle.trials.proofs.Settling.{far_first_rest, front_apart, front_none_among, noted_rest, places_rest, settled_jobs, still_to_go}
use Rattle.trials.proofs.Turning.{cycles_told, is_of_left, leave_so, not_in_plan, noted_of_jobs, pairs_unmapped, sound, trial_told, turn_now}
use Rattle.trials.specs.Promises.{EntriesStand, LeftUntouched, Touchable, TurnColumns, TurnOf, Turnable, Walkable, WalkNoted, is_planned, plan_in, planned_places, without_settled}
use Rattle.trials.specs.declared.Plan.{Plan}
use Rattle.trials.specs.declared.JobInTurn.{JobInTurn}
use Rattle.trials.specs.declared.Untouched.{Untouched}
use Rattle.trials.specs.declared.Walked.{Walked}
use Rattle.judgements.specs.declared.Kept.{Kept}

pub jobs_parts : (xs ys : List Entry) → jobs_of (xs ++ ys) ≡ jobs_of xs ++ jobs_of ys
unfolding jobs_of
jobs_parts xs ys = map_append (λ (e : Entry). e.job) xs ys

-- a sum of so many, each no more than it is
few_added : (keys cycles : List ℕ) → AtMost most_cycles cycles → (qs : List ℕ)
    → total (λ q. cond (is_planned keys q) 0 (get_or cycles q 0)) qs ≤ most_cycles * length qs
few_added keys cycles small [] = omega arith
few_added keys cycles small (q ∷ qs) =
    let rest = few_added keys cycles small qs in
    omega (arith, rest, one (is_planned keys q))
  where
    one : (b : Bool) → cond b 0 (get_or cycles q 0) ≤ most_cycles
    one true = omega arith
    one false = small q

module _ {p : Plan} {kept : Kept} {changed₀ fresh₀ : List ℕ} {job : JobInTurn} {c : TurnColumns} {terms : Terms}
    (able : Turnable p kept changed₀ fresh₀ job c terms) where
  abbrev pub stand : EntriesStand p.totals.count p.places p.keys
  stand = able.standing.entries_stand

  abbrev pub ps : List ℕ
  ps = planned_places p

  pub job-places : JobPlaces ps
  job-places = record {
    few = omega (arith, length_planned p.totals.count p.places p.keys stand, stand.few);
    below = stand.below;
  }

  module _ (new : not_planned ≤ get_or p.keys job.place 0) where
    -- no place is met twice along the chain
    places_apart : Distinct (places_from c.waits most_members job.place)
    unfolding turn_of
    places_apart =
        let t = able.table in
        let of = able.of_table in
        let waits = of.columns_of.waits-left in
        apart_places t.jobs of.valid.jobs_rise
        (each_below (length t.jobs) (places_from c.waits most_members job.place)
        (met_are_places t.jobs (waits_left t) c.waits waits most_members job.place (inl of.place_of_job)))
        (rw (chain_met t.jobs (waits_left t) c.waits waits job.place of.place_of_job) chain)
      where
        apart_places : (js : List Job) → Rising (λ j. j.number) js → {qs : List ℕ} → Each (λ q. q < length js) qs
            → Pairwise (λ x y. same x y ≡ false) (jobs_at js qs) → Distinct qs
        apart_places js rising below apart =
            pairs_too {P = λ q. q < length js} (λ x y h l d. sym (same_place js rising x y h l) ∙ d) below
            (pairs_unmapped (λ q. get_or js q no_job) apart)

        chain : Pairwise (λ x y. same x y ≡ false)
            (get_or able.table.jobs job.place no_job
            ∷ awaited (waits_left able.table) (get_or able.table.jobs job.place no_job))
        chain =
            chain_apart able.table able.of_table.valid
            (turn_now p job c terms stand able.table able.of_table)
            (is_of_left p job c terms stand able.table able.of_table)

    pub walkable : Walkable job.place p.keys c.waits c.critical c.cycles changed₀ fresh₀
    walkable = record {
      changed_length = able.changed_length;
      fresh_length = able.fresh_length;
      place_below = able.place_below;
      not-planned = new;
      apart = places_apart;
      critical_small = able.columns_small.critical_small;
      cycles_small = able.columns_small.cycles_small;
    }

    module _ {changed fresh : List ℕ} {w : Walked}
        (walked : WalkNoted job.place p.keys c.waits c.critical c.cycles changed fresh w) where
      abbrev pub ds : List Change
      ds = far_first w.noted.changes changed fresh

      abbrev pub all : ℕ
      all = p.totals.cycles + w.added

      pub moved_few : w.noted.moved ≤ w.noted.changes
      moved_few =
          omega (arith, walked.moved_of, length_keep (is_planned p.keys) (places_of ds), length_places changed fresh w.noted.changes)

      pub all_small : all ≤ most_cycles * (most_jobs + most_changes)
      all_small =
          omega (
            arith,
            able.standing.cycles_small,
            stand.few,
            walked.added_of,
            few_added p.keys c.cycles able.columns_small.cycles_small (places_of ds),
            length_places changed fresh w.noted.changes,
            walked.few,
          )

      pub touchable : Touchable ps w.noted
      touchable = record { places = job-places; some = walked.some; few = walked.few; moved_few = moved_few }

      module _ {u : Untouched} (left : LeftUntouched ps p.keys changed fresh w.noted u) where
        abbrev pub from : ℕ
        from = u.below + u.settled

        abbrev pub rest : Noted
        rest = without_settled w.noted u.settled

        pub settled_few : u.settled ≤ w.noted.changes
        settled_few = omega (arith, left.settled_few, moved_few)

        rest_first : drop u.settled ds ≡ far_first rest.changes changed fresh
        rest_first = far_first_rest changed fresh w.noted.changes u.settled settled_few

        rest_noted : WellNoted (far_first rest.changes changed fresh) p.keys
        rest_noted = rw (sym rest_first) (noted_rest u.settled p.keys walked.well_noted)

        -- what the order of a trial asks for
        pub rest_few : rest.changes ≤ most_changes
        rest_few = omega (arith, walked.few)

        pub rest_moved_few : rest.moved ≤ rest.changes
        rest_moved_few = omega (arith, moved_few, left.settled_few)

        pub judgeable : Judgeable ps p.keys kept.ends kept.latests changed fresh rest from all c.cycles c.deadline terms
        judgeable = record {
          well_noted = rest_noted;
          ends_true = able.kept_true.ends_true;
          latests_true = able.kept_true.latests_true;
          from_inside = left.inside;
          all_small = all_small;
          terms_small = able.terms_small;
        }

        -- the entries before the first change have lower keys than all changes
        first_key : (n : ℕ) → 1 ≤ n → Pairwise (λ (x y : Change). x.key ≤ y.key) (far_first n changed fresh)
            → Each (λ (d : Change). get_or fresh (n - 1) 0 ≤ d.key) (far_first n changed fresh)
        first_key zero h r = absurd (omega arith)
        first_key (suc n) h (r then rs) =
            let here : suc n - 1 ≡ n = omega arith in
            let own : get_or fresh n 0 ≤ get_or fresh n 0 = omega arith in
            rw here (own and r)

        pub lower_than_changes : (i : ℕ) → i < u.below → Each (λ (d : Change). get_or p.keys (get_or ps i 0) 0 < d.key) ds
        lower_than_changes i h =
            let low = left.lower stand.sorted i h in
            each_too (λ (d : Change) l. omega arith) (first_key w.noted.changes walked.some walked.well_noted.no_fall)

        short : u.below ≤ length ps
        short = omega (arith, left.inside)

        pub lowers : Each (λ q. Each (λ (d : Change). get_or p.keys q 0 < d.key) ds) (take u.below ps)
        lowers =
            each_by_index (take u.below ps) (λ i h.
            let inside : i < u.below = omega (arith, length-take-le u.below ps short) in
            rw (get_or-take u.below ps i 0 inside) (lower_than_changes i inside))

        -- what holds of a table of which plan, place and columns are
        module _ {t : Records} (of : TurnOf t p job c terms) where
          abbrev js : List Job
          js = t.jobs

          abbrev due : Job → ℕ
          due = deadline_of t.clock (top_of t).mhz

          abbrev cs : List Entry
          cs = entries_of js (far_first rest.changes changed fresh)

          abbrev tried : List Entry
          tried = trial (turn_now p job c terms stand t of) (plan_in js p)

          of_jobs : (i : ℕ) → i < w.noted.changes → get_or changed i 0 < length js
          of_jobs = noted_of_jobs p job c terms stand t of new changed fresh w walked

          pub run_of : RunOf js due ps changed rest c.cycles c.deadline
          run_of = record {
            rising = of.valid.jobs_rise;
            cycles-of = of.columns_of.cycles-of;
            due_of = of.columns_of.deadline-of;
            of_jobs = of.of_jobs;
            changes_of_jobs = λ i h. of_jobs i (omega arith);
          }

          pub to-go : ToGo ps changed fresh rest (at_first from)
          to-go =
              rw (sym rest_first, places_rest u.settled ds)
              (still_to_go w.noted.moved u.settled u.below (places_of ds) ps
              (leave_so p job c terms stand t of new changed fresh w walked)
              (front_none_among p.keys u.below ds ps walked.well_noted.forward lowers) left.settle left.settled_few
              (omega (arith, moved_few, length_places changed fresh w.noted.changes)) left.inside stand.once)

          -- The jobs of the trial: those that stand as they are to stand, and what the other changes make of those behind.
          pub jobs_told : jobs_of tried
              ≡ jobs_at js (take from ps) ++ jobs_of (merged cs (staying cs (entries_in js p.keys (drop from ps))))
          jobs_told =
              let es = entries_of js ds in
              let behind = drop u.below ps in
              let each_ps = each_below (length js) ps of.of_jobs in
              let each_ds = each_change_of js changed fresh w.noted.changes of_jobs in
              let settled : jobs_of (merged es (staying es (entries_in js p.keys behind)))
              ≡ jobs_at js (take u.settled behind)
              ++ jobs_of (merged (entries_of js (drop u.settled ds))
              (staying (entries_of js (drop u.settled ds)) (entries_in js p.keys (drop u.settled behind)))) =
              settled_jobs js of.valid.jobs_rise p.keys u.settled ds behind walked.well_noted
              (pairs_dropped u.below stand.sorted) (pairs_dropped u.below stand.once) (each_dropped u.below each_ps) each_ds
              (omega (arith, settled_few, length_far_first changed fresh w.noted.changes))
              (omega (arith, left.inside, length-drop u.below ps)) left.settle in
              ap jobs_of (trial_told p job c terms stand t of new changed fresh w walked
              ∙ front_apart js of.valid.jobs_rise p.keys u.below ds ps walked.well_noted.forward each_ps each_ds lowers)
              ∙ jobs_parts (entries_in js p.keys (take u.below ps)) (merged es (staying es (entries_in js p.keys behind)))
              ∙ ap (λ l. l ++ jobs_of (merged es (staying es (entries_in js p.keys behind))))
              (jobs_of_entries js p.keys (take u.below ps))
              ∙ ap (λ l. jobs_at js (take u.below ps) ++ l) settled
              ∙ sym (append_assoc (jobs_at js (take u.below ps)) (jobs_at js (take u.settled behind)) _)
              ∙ ap (λ l. l ++ jobs_of (merged (entries_of js (drop u.settled ds))
              (staying (entries_of js (drop u.settled ds)) (entries_in js p.keys (drop u.settled behind)))))
              (sym (map_append (λ q. get_or js q no_job) (take u.below ps) (take u.settled behind))
              ∙ ap (jobs_at js) (sym (take-add u.below u.settled ps)))
              ∙ rw (rest_first, drop-drop u.settled u.below ps)

          in_time_of : (es : List Entry) → Each (λ j. 1 ≤ j.cycles) (jobs_of es)
              → in_time t.clock (top_of t).mhz (jobs_of es) ≡ timely_entries due 0 es
          unfolding jobs_of
          in_time_of es runs =
              in_time_behind_none t.clock (top_of t).mhz (jobs_of es)
              ∙ in_time_by_deadlines t.clock (top_of t).mhz 0 runs
              ∙ timely_map (λ (j : Job). j.cycles) due (λ (e : Entry). e.job) 0 es

          -- in time before
          timely_before : timely_entries due 0 (entries_in js p.keys ps) ≡ true
          timely_before = sym (in_time_of (entries_in js p.keys ps) (each_runs_in t of.valid (sound p job c terms stand t of)))
              ∙ ap (in_time t.clock (top_of t).mhz) (sym (run-order t (plan_in js p))) ∙ (sound p job c terms stand t of).in-time

          -- the trial in time, by the order that was run through
          timely_told : timely_entries due 0
              (entries_in js p.keys (take from ps) ++ merged cs (staying cs (entries_in js p.keys (drop from ps))))
              ≡ in_time t.clock (top_of t).mhz (jobs_of tried)
          unfolding jobs_of
          timely_told =
              let order = entries_in js p.keys (take from ps) ++ merged cs (staying cs (entries_in js p.keys (drop from ps))) in
              let runs = trial_runs t of.valid (turn_now p job c terms stand t of) (plan_in js p)
              (is_of_left p job c terms stand t of) (sound p job c terms stand t of) (not_in_plan p job c terms stand t of new) in
              let same_jobs : jobs_of order ≡ jobs_of tried =
              jobs_parts (entries_in js p.keys (take from ps)) (merged cs (staying cs (entries_in js p.keys (drop from ps))))
              ∙ ap (λ l. l ++ jobs_of (merged cs (staying cs (entries_in js p.keys (drop from ps)))))
              (jobs_of_entries js p.keys (take from ps))
              ∙ sym jobs_told in
              sym (timely_map (λ (j : Job). j.cycles) due (λ (e : Entry). e.job) 0 order)
              ∙ ap (timely_behind (λ (j : Job). j.cycles) due 0) same_jobs
              ∙ sym (in_time_behind_none t.clock (top_of t).mhz (jobs_of tried) ∙ in_time_by_deadlines t.clock (top_of t).mhz 0 runs)

          pub all_told : all ≡ cycles_of (jobs_of tried)
          all_told = omega (arith, able.total_true, cycles_told p job c terms stand t of new changed fresh w walked)

          late_told : ends_late t tried ≡ not (timely_entries due 0
              (entries_in js p.keys (take from ps) ++ merged cs (staying cs (entries_in js p.keys (drop from ps)))))
          unfolding ends_late
          late_told = ap not (ap (in_time t.clock (top_of t).mhz) (run-order t tried) ∙ sym timely_told)

          dear_told : too_dear t tried ≡ ltb terms.budget (all * terms.cost)
          unfolding too_dear
          dear_told = rw (run-order t tried, sym all_told, of.terms_of.budget, of.terms_of.cost)

          -- The fate that was judged is the one that the rules give.
          pub fate-told : (fate : ℕ) → FateOf ps p.keys changed fresh rest from all c.cycles c.deadline terms fate
              → fate ≡ cond (ends_late t tried) fate_time (cond (too_dear t tried) fate_budget fate_planned)
          fate-told fate judged =
              judged js due run_of stand.sorted to-go timely_before
              ∙ sym (rw (late_told, dear_told))
