-- The judgement: the entries before the first change end as they did, the run goes on from there, and what is to come behind all
-- changes is in time exactly if it begins no later than its latest beginning, for it is in time as the plan stands. Assumes nothing.
use mathlib.Core.Bool.{true, false, ◌&&◌}
use mathlib.Core.List.{List, [], ◌∷◌, ◌++◌, append_assoc}
use mathlib.Core.Path.{◌≡◌, refl, sym, ap, ◌∙◌}
use Prim.Native.Nat.{ℕ, ◌+◌, ◌*◌, ◌≤◌, ◌<◌}
use native.Mathlib.Nat.{mul-le-mul, zero-add}
use native.Mathlib.Omega.{arith}
use borrow.Author.Tests.{le-leb, le-ltb, lt-leb, lt-ltb}
use lib.Dec.{leb}
use lib.ListN.{drop, length-drop, take, take-append-drop}
use lib.Seq.{length-take-le}
use Rattle.changes.specs.Changes.{merged, staying}
use Rattle.columns.specs.Columns.{Column, entries_in, entry_at}
use Rattle.columns.specs.declared.Terms.{Terms}
use Rattle.entries.proofs.Sums.{cycles_at_most}
use Rattle.entries.specs.Places.{Sorted}
use Rattle.entries.specs.Promises.{cycles_at}
use Rattle.judgements.proofs.Onwards.{RunThrough}
use Rattle.judgements.specs.Changes.{EndsWith, most_changes, timely_entries}
use Rattle.judgements.specs.Promises.{ChangesPassed, ChangesRun, JudgedDropped, JudgedPlanned, Judgeable, LatestAt, MovedPassed, MovedRun, RunBefore, RunOf, RunSoFar, ToGo, at_first, change_entries, latest_of_places, no_bound}
use Rattle.judgements.specs.declared.Noted.{Noted}
use Rattle.judgements.specs.declared.Run.{Run}
use Rattle.laws.proofs.Elements.{map_append}
use Rattle.laws.proofs.Tests.{both_true}
use Rattle.rules.specs.Lists.{total}
use Rattle.rules.specs.Plan.{Entry}
use Rattle.rules.specs.TableText.{most_cost, most_cycles, most_jobs}
use Rattle.rules.specs.declared.Fate.{Fate}
use Rattle.rules.specs.declared.Job.{Job}
use Rattle.steps.proofs.Deadlines.{timely_by_latest, timely_earlier, timely_parts}
use Rattle.steps.specs.Deadlines.{latest_of}
use Rattle.std.specs.Prelude.{None}

ends_further : {xs ys zs : List Entry} → EndsWith xs ys → EndsWith ys zs → EndsWith xs zs
ends_further {zs = zs} one two = record {
  front = one.front ++ two.front;
  parts =
      one.parts ∙ ap (λ l. one.front ++ l) two.parts ∙ sym (append_assoc one.front two.front zs);
}

module _ (js : List Job) (due : Job → ℕ) (keys cycles deadline : List ℕ) (cycles-of : Column (λ j. j.cycles) js cycles)
    (due_of : Column due js deadline) where
  total_entries : (ps : List ℕ) → total (λ (e : Entry). e.job.cycles) (entries_in js keys ps) ≡ cycles_at cycles ps
  total_entries [] = refl
  total_entries (p ∷ ps) = rw (sym (cycles-of p), total_entries ps)

  latest_entries : (ps : List ℕ)
      → latest_of (λ (e : Entry). e.job.cycles) (λ (e : Entry). due e.job) no_bound (entries_in js keys ps)
      ≡ latest_of_places cycles deadline ps
  unfolding latest_of
  latest_entries [] = refl
  latest_entries (p ∷ ps) = rw (sym (cycles-of p), sym (due_of p), latest_entries ps)

  -- the entries to an index, and those behind
  two_parts : (ps : List ℕ) (i : ℕ) → entries_in js keys ps ≡ entries_in js keys (take i ps) ++ entries_in js keys (drop i ps)
  two_parts ps i =
      ap (entries_in js keys) (sym (take-append-drop i ps)) ∙ map_append (entry_at js keys) (take i ps) (drop i ps)

  -- In time by parts.
  timely_in_parts : (ps : List ℕ) (i : ℕ) (es : List Entry)
      → timely_entries due 0 (entries_in js keys (take i ps) ++ es)
      ≡ timely_entries due 0 (entries_in js keys (take i ps)) && timely_entries due (cycles_at cycles (take i ps)) es
  timely_in_parts ps i es =
      timely_parts (λ (e : Entry). e.job.cycles) (λ (e : Entry). due e.job) 0 (entries_in js keys (take i ps)) es
      ∙ ap (λ n. timely_entries due 0 (entries_in js keys (take i ps)) && timely_entries due n es)
      (zero-add (total (λ (e : Entry). e.job.cycles) (entries_in js keys (take i ps))) ∙ total_entries (take i ps))

  both_parts : (ps : List ℕ) (i : ℕ) → timely_entries due 0 (entries_in js keys ps) ≡ true
      → (timely_entries due 0 (entries_in js keys (take i ps)) ≡ true)
      × (timely_entries due (cycles_at cycles (take i ps)) (entries_in js keys (drop i ps)) ≡ true)
  both_parts ps i h =
      both_true (timely_entries due 0 (entries_in js keys (take i ps)))
      (timely_entries due (cycles_at cycles (take i ps)) (entries_in js keys (drop i ps)))
      (sym (timely_in_parts ps i (entries_in js keys (drop i ps))) ∙ sym (ap (timely_entries due 0) (two_parts ps i)) ∙ h)

  -- What is to come behind an index is in time exactly if it begins no later than its latest beginning.
  by_latest : (ps : List ℕ) (i run latest : ℕ) → timely_entries due 0 (entries_in js keys ps) ≡ true
      → latest ≡ latest_of_places cycles deadline (drop i ps) → run + cycles_at cycles (drop i ps) ≤ no_bound
      → timely_entries due run (entries_in js keys (drop i ps)) ≡ leb run latest
  by_latest ps i run latest h e small =
      let es = entries_in js keys (drop i ps) in
      timely_by_latest (λ (e : Entry). e.job.cycles) (λ (e : Entry). due e.job) no_bound run es
      (omega (arith, total_entries (drop i ps)))
      (timely_earlier (λ (e : Entry). e.job.cycles) (λ (e : Entry). due e.job) (cycles_at cycles (take i ps)) 0 es
      (omega arith) (both_parts ps i h).1)
      ∙ ap (leb run) (latest_entries (drop i ps) ∙ sym e)

module _ {ps keys ends latests changed fresh : List ℕ} {noted : Noted} {from all_cycles : ℕ} {cycles deadline : List ℕ}
    {terms : Terms} (through : RunThrough ps keys changed fresh noted cycles)
    (able : Judgeable ps keys ends latests changed fresh noted from all_cycles cycles deadline terms) where
  pub all_small : all_cycles * terms.cost ≤ most_cycles * (most_jobs + most_changes) * most_cost
  all_small = mul-le-mul able.all_small able.terms_small.cost

  -- the order of the changes and of the entries behind the first `from` that stay
  abbrev order : List Job → List Entry
  order js =
      merged (change_entries js noted changed fresh)
      (staying (change_entries js noted changed fresh) (entries_in js keys (drop from ps)))

  module _ {front : ℕ} (before : RunBefore ps ends from front) where
    abbrev begun : Run
    begun = record { cycles = front; passed = from; gone = 0 }

    front_run : front ≡ cycles_at cycles (take from ps)
    front_run = before.run cycles (λ i l. able.ends_true i (omega (arith, able.from_inside)))

    -- The run begins behind the entries before the first change.
    pub front_so_far : RunSoFar ps 0 begun
    front_so_far = record {
      cycles_small =
          omega (
            arith,
            front_run,
            cycles_at_most cycles through.cycles_small (take from ps),
            length-take-le from ps able.from_inside,
          );
      passed_inside = able.from_inside;
      gone_few = omega arith;
    }

    -- The trial is in time exactly if, behind the entries before the first change, the order is.
    front_timely : (js : List Job) (due : Job → ℕ) → RunOf js due ps changed noted cycles deadline
        → timely_entries due 0 (entries_in js keys ps) ≡ true
        → timely_entries due 0 (entries_in js keys (take from ps) ++ order js) ≡ timely_entries due front (order js)
    front_timely js due of h =
        timely_in_parts js due keys cycles deadline of.cycles-of of.due_of ps from (order js)
        ∙ rw ((both_parts js due keys cycles deadline of.cycles-of of.due_of ps from h).0, sym front_run)

    -- A trial that is not in time is dropped.
    dropped_late : ((js : List Job) (due : Job → ℕ) → RunOf js due ps changed noted cycles deadline → Sorted keys ps
        → ToGo ps changed fresh noted (at_first from) → timely_entries due 0 (entries_in js keys ps) ≡ true
        → timely_entries due front (order js) ≡ false)
        → JudgedDropped ps keys changed fresh noted from all_cycles cycles deadline terms Fate.Time
    dropped_late late = record {
      fate = λ js due of sorted to-go h. rw (front_timely js due of h, late js due of sorted to-go h);
      not-planned = λ e. absurd (omega arith);
    }

    -- A job has ended late before the last change.
    pub late_on_the_way : ChangesRun ps keys changed fresh noted cycles deadline begun None
        → JudgedDropped ps keys changed fresh noted from all_cycles cycles deadline terms Fate.Time
    late_on_the_way late = dropped_late (λ js due of sorted to-go h. late js due of sorted to-go)

    module _ {c : Run} (changes : ChangesPassed ps keys changed fresh noted cycles deadline begun c) where
      -- A job has ended late behind it.
      pub late_behind : MovedRun ps changed noted cycles deadline c None
          → JudgedDropped ps keys changed fresh noted from all_cycles cycles deadline terms Fate.Time
      late_behind late =
          dropped_late
          (λ js due of sorted to-go h.
          changes.timely js due of sorted to-go ∙ late js due of keys fresh (changes.to-go js due of sorted to-go))

      module _ {r : Run} {latest : ℕ} (moved : MovedPassed ps changed noted cycles deadline c r)
          (at : LatestAt ps latests r.passed latest) where
        timely_told : (js : List Job) (due : Job → ℕ) → RunOf js due ps changed noted cycles deadline → Sorted keys ps
            → ToGo ps changed fresh noted (at_first from) → timely_entries due 0 (entries_in js keys ps) ≡ true
            → timely_entries due front (order js) ≡ leb r.cycles latest
        timely_told js due of sorted to-go h =
            changes.timely js due of sorted to-go
            ∙ moved.timely js due of keys fresh (changes.to-go js due of sorted to-go)
            ∙ by_latest js due keys cycles deadline of.cycles-of of.due_of ps r.passed r.cycles latest h
            (at.latest cycles deadline (λ i l g. able.latests_true i (omega arith) g))
            (omega (
              arith,
              moved.so_far.cycles_small,
              moved.so_far.passed_inside,
              cycles_at_most cycles through.cycles_small (drop r.passed ps),
              length-drop r.passed ps,
              through.few,
              through.places.few,
            ))

        -- What is to come begins too late.
        pub begins_late : latest < r.cycles
            → JudgedDropped ps keys changed fresh noted from all_cycles cycles deadline terms Fate.Time
        begins_late l =
            dropped_late
            (λ js due of sorted to-go h. timely_told js due of sorted to-go h ∙ lt-leb r.cycles latest l)

        module _ (l : r.cycles ≤ latest) where
          in_time : (js : List Job) (due : Job → ℕ) → RunOf js due ps changed noted cycles deadline → Sorted keys ps
              → ToGo ps changed fresh noted (at_first from) → timely_entries due 0 (entries_in js keys ps) ≡ true
              → timely_entries due 0 (entries_in js keys (take from ps) ++ order js) ≡ true
          in_time js due of sorted to-go h =
              front_timely js due of h ∙ timely_told js due of sorted to-go h ∙ le-leb r.cycles latest l

          -- In time, but over the budget.
          pub over_budget : terms.budget < all_cycles * terms.cost
              → JudgedDropped ps keys changed fresh noted from all_cycles cycles deadline terms Fate.Budget
          over_budget dear = record {
            fate = λ js due of sorted to-go h.
                rw (in_time js due of sorted to-go h, lt-ltb terms.budget (all_cycles * terms.cost) dear);
            not-planned = λ e. absurd (omega arith);
          }

          -- In time and within the budget.
          pub planned : all_cycles * terms.cost ≤ terms.budget
              → JudgedPlanned ps keys changed fresh noted from all_cycles cycles deadline terms r.passed
          planned cheap = record {
            not_before = omega (arith, changes.on, moved.on);
            inside = moved.so_far.passed_inside;
            fate = λ js due of sorted to-go h.
                rw (in_time js due of sorted to-go h, le-ltb terms.budget (all_cycles * terms.cost) cheap);
            within = cheap;
            ahead = λ js due of sorted to-go.
                ends_further (changes.ahead js due of sorted to-go)
                (moved.ahead js due of keys fresh (changes.to-go js due of sorted to-go));
          }
