-- The run through the new order, one step at a time: an entry of the plan is passed, or a change is run. Each time what is left of
-- the order is in time exactly if what was left before is, and what is to go yet is known; or a job is late, and it is not in time.
-- Assumes nothing.
use mathlib.Core.Bool.{Bool, true, false}
use mathlib.Core.List.{List, [], ◌∷◌, ◌++◌, append_assoc}
use mathlib.Core.Path.{◌≡◌, refl, sym, ap, ◌∙◌}
use Prim.Native.Nat.{ℕ, suc, ◌+◌, ◌≤◌, ◌<◌}
use native.Mathlib.Numerals.{add-one}
use native.Mathlib.Omega.{arith}
use borrow.Author.Tests.{le-leb, lt-leb}
use lib.ListN.{drop, drop_of_length-le, get_or, length, length-take, take}
use lib.Seq.{drop-cons}
use Rattle.changes.proofs.Merging.{each_staying, merged_first, merged_later, no_change_merged}
use Rattle.changes.proofs.Merging.{staying_all, staying_goes, staying_stays}
use Rattle.changes.specs.Changes.{merged, staying}
use Rattle.columns.specs.Columns.{entries_in, entry_at}
use Rattle.judgements.proofs.Bounds.{by_end}
use Rattle.judgements.proofs.Going.{each_far, each_drop, named_among, next_goes, next_stays}
use Rattle.judgements.proofs.Going.{none_to_go}
use Rattle.judgements.specs.Changes.{EndsWith, entries_of, far_first, is_next_to_go, places_of, timely_entries}
use Rattle.judgements.specs.Promises.{RunOf, ToGo, change_entries, to_come}
use Rattle.judgements.specs.declared.Noted.{Noted}
use Rattle.judgements.specs.declared.Run.{Run}
use Rattle.laws.proofs.Choices.{clash, split}
use Rattle.laws.proofs.Elements.{each_map, each_of_places}
use Rattle.laws.proofs.Lookups.{each_both}
use Rattle.laws.specs.Pairs.{among}
use Rattle.rules.specs.Lists.{Each, keep, none_left}
use Rattle.rules.specs.Plan.{Entry, in_plan}
use Rattle.rules.specs.TableText.{no_job}
use Rattle.rules.specs.declared.Job.{Job}
use Rattle.steps.proofs.Deadlines.{timely_first}

-- A job run in time: those behind it are in time as they were.
in_time_run : (due : Job → ℕ) (run : ℕ) (e : Entry) (es : List Entry) → run + e.job.cycles ≤ due e.job
    → timely_entries due run (e ∷ es) ≡ timely_entries due (run + e.job.cycles) es
in_time_run due run e es l =
    timely_first (λ (x : Entry). x.job.cycles) (λ (x : Entry). due x.job) run e es
    ∙ rw (le-leb (run + e.job.cycles) (due e.job) l)

-- One that ends late: they are not all in time.
late_run : (due : Job → ℕ) (run : ℕ) (e : Entry) (es : List Entry) → due e.job < run + e.job.cycles
    → timely_entries due run (e ∷ es) ≡ false
late_run due run e es l =
    timely_first (λ (x : Entry). x.job.cycles) (λ (x : Entry). due x.job) run e es
    ∙ rw (lt-leb (run + e.job.cycles) (due e.job) l)

-- one more passed
pub one_passed : {xs ys : List Entry} (e : Entry) → EndsWith xs (e ∷ ys) → EndsWith xs ys
one_passed {ys = ys} e ends = record {
  front = ends.front ++ (e ∷ []);
  parts = ends.parts ∙ sym (append_assoc ends.front (e ∷ []) ys);
}

-- What was to come once ends with what is to come now, and is in time exactly if this is.
module _ (js : List Job) (due : Job → ℕ) (ps keys changed fresh : List ℕ) (noted : Noted) (cycles deadline : List ℕ) where
  abbrev cs : List Entry
  cs = change_entries js noted changed fresh

  -- so many changes are left, with the entries that stay
  abbrev pub coming : ℕ → Run → List Entry
  coming left run = merged (entries_of js (far_first left changed fresh)) (staying cs (to_come js keys ps run))

  pub record Since (begun : ℕ) (whole : List Entry) (left : ℕ) (run : Run) : Type 0 where
    pub to-go : ToGo ps changed fresh noted run
    pub timely : timely_entries due begun whole ≡ timely_entries due run.cycles (coming left run)
    pub ends : EndsWith whole (coming left run)

  module _ (few : noted.moved ≤ noted.changes) (of : RunOf js due ps changed noted cycles deadline) where
    changes_below : Each (λ c. c.place < length js) (far_first noted.changes changed fresh)
    changes_below = each_far changed fresh noted.changes (λ i l. of.changes_of_jobs i l)

    named : (p : ℕ) → p < length js → in_plan (get_or js p no_job) cs ≡ among (places_of (far_first noted.changes changed fresh)) p
    named p l = named_among js of.rising p l changes_below

    -- the job at a place run, by its columns
    in_time_at : (run p key : ℕ) (es : List Entry) → run + get_or cycles p 0 ≤ get_or deadline p 0
        → timely_entries due run (record { job = get_or js p no_job; key = key } ∷ es)
        ≡ timely_entries due (run + get_or cycles p 0) es
    in_time_at run p key es l =
        in_time_run due run (record { job = get_or js p no_job; key = key }) es (omega (arith, of.cycles-of p, of.due_of p))
        ∙ ap (λ n. timely_entries due (run + n) es) (sym (of.cycles-of p))

    late_at : (run p key : ℕ) (es : List Entry) → get_or deadline p 0 < run + get_or cycles p 0
        → timely_entries due run (record { job = get_or js p no_job; key = key } ∷ es) ≡ false
    late_at run p key es l =
        late_run due run (record { job = get_or js p no_job; key = key }) es (omega (arith, of.cycles-of p, of.due_of p))

    module _ (begun : ℕ) (whole : List Entry) (left : ℕ) (run : Run) (since : Since begun whole left run) where
      module _ (inside : run.passed < length ps) where
        abbrev p : ℕ
        p = get_or ps run.passed 0

        abbrev behind : List ℕ
        behind = drop (run.passed + 1) ps

        next_place : drop run.passed ps ≡ p ∷ behind
        next_place = rw (add-one run.passed) (drop-cons ps run.passed 0 inside)

        next_entry : to_come js keys ps run ≡ entry_at js keys p ∷ entries_in js keys behind
        next_entry = ap (entries_in js keys) next_place

        going : drop run.gone (take noted.moved (places_of (far_first noted.changes changed fresh)))
            ≡ keep (among (places_of (far_first noted.changes changed fresh))) (p ∷ behind)
        going = since.to-go ∙ ap (keep (among (places_of (far_first noted.changes changed fresh)))) next_place

        abbrev onwards : List Entry
        onwards = merged (entries_of js (far_first left changed fresh)) (staying cs (entries_in js keys behind))

        abbrev is_next : Bool
        is_next = is_next_to_go changed noted run.gone p

        -- the next that is to go is among the changes, and any other that comes is not
        goes : is_next ≡ true → among (places_of (far_first noted.changes changed fresh)) p ≡ true
        goes g =
            split (among (places_of (far_first noted.changes changed fresh)) p) (λ h. h)
            (λ h. clash g (next_stays changed fresh noted few run.gone p behind going h).0)

        stays : is_next ≡ false → among (places_of (far_first noted.changes changed fresh)) p ≡ false
        stays g =
            split (among (places_of (far_first noted.changes changed fresh)) p)
            (λ h. clash (next_goes changed fresh noted few run.gone p behind going h).0 g) (λ h. h)

        -- An entry leaves.
        pub entry_leaves : is_next ≡ true
            → Since begun whole left (record { cycles = run.cycles; passed = run.passed + 1; gone = run.gone + 1 })
        entry_leaves g =
            let h = goes g in
            let same : coming left run ≡ onwards =
            ap (merged (entries_of js (far_first left changed fresh)))
            (ap (staying cs) next_entry
            ∙ staying_goes cs (entry_at js keys p) (entries_in js keys behind) (named p (of.of_jobs run.passed inside) ∙ h)) in
            record {
              to-go = (next_goes changed fresh noted few run.gone p behind going h).1;
              timely = since.timely ∙ ap (timely_entries due run.cycles) same;
              ends = rw same at since.ends;
            }

        module _ (g : is_next ≡ false) (below : Each (λ c. get_or keys p 0 < c.key) (far_first left changed fresh)) where
          stays_first : coming left run ≡ entry_at js keys p ∷ onwards
          stays_first =
              ap (merged (entries_of js (far_first left changed fresh)))
              (ap (staying cs) next_entry
              ∙ staying_stays cs (entry_at js keys p) (entries_in js keys behind) (named p (of.of_jobs run.passed inside) ∙ stays g))
              ∙ merged_later (entry_at js keys p) (staying cs (entries_in js keys behind)) (each_map _ below)

          -- An entry stays, whose key is below all changes that are left: it is run in time.
          pub entry_runs : by_end cycles run p ≤ get_or deadline p 0
              → Since begun whole left (record { cycles = by_end cycles run p; passed = run.passed + 1; gone = run.gone })
          entry_runs l = record {
            to-go = (next_stays changed fresh noted few run.gone p behind going (stays g)).1;
            timely =
                since.timely ∙ ap (timely_entries due run.cycles) stays_first
                ∙ in_time_at run.cycles p (get_or keys p 0) onwards l;
            ends = one_passed (entry_at js keys p) (rw stays_first at since.ends);
          }

          -- Or it is late.
          pub entry_late : get_or deadline p 0 < by_end cycles run p → timely_entries due begun whole ≡ false
          entry_late l =
              since.timely ∙ ap (timely_entries due run.cycles) stays_first ∙ late_at run.cycles p (get_or keys p 0) onwards l

    -- The first change that is left comes next, where its key is no greater than any to come.
    module _ (begun : ℕ) (whole : List Entry) (left : ℕ) (run : Run) (since : Since begun whole (suc left) run)
        (least : Each (λ q. get_or fresh left 0 ≤ get_or keys q 0) (drop run.passed ps)) where
      abbrev place : ℕ
      place = get_or changed left 0

      abbrev change : Entry
      change = record { job = get_or js place no_job; key = get_or fresh left 0 }

      abbrev others : List Entry
      others = coming left run

      change_first : coming (suc left) run ≡ change ∷ others
      change_first =
          merged_first change (entries_of js (far_first left changed fresh))
          (each_staying cs (each_map (entry_at js keys) least))

      -- It is run in time.
      pub change_runs : by_end cycles run place ≤ get_or deadline place 0
          → Since begun whole left (record { cycles = by_end cycles run place; passed = run.passed; gone = run.gone })
      change_runs l = record {
        to-go = since.to-go;
        timely =
            since.timely ∙ ap (timely_entries due run.cycles) change_first
            ∙ in_time_at run.cycles place (get_or fresh left 0) others l;
        ends = one_passed change (rw change_first at since.ends);
      }

      -- Or it is late.
      pub change_late : get_or deadline place 0 < by_end cycles run place → timely_entries due begun whole ≡ false
      change_late l =
          since.timely ∙ ap (timely_entries due run.cycles) change_first
          ∙ late_at run.cycles place (get_or fresh left 0) others l

    -- Where all that leave have gone, all to come stay.
    pub all_stay : (run : Run) → ToGo ps changed fresh noted run → noted.moved ≤ run.gone
        → staying cs (to_come js keys ps run) ≡ to_come js keys ps run
    all_stay run to-go l =
        let far = places_of (far_first noted.changes changed fresh) in
        let gone : drop run.gone (take noted.moved far) ≡ [] =
        drop_of_length-le (take noted.moved far) {i = run.gone} (omega (arith, length-take noted.moved far)) in
        staying_all cs
        (each_map (entry_at js keys)
        (each_both (λ p m h. named p m ∙ h)
        (each_drop run.passed (each_of_places 0 ps of.of_jobs))
        (none_to_go (among far) (drop run.passed ps) (sym gone ∙ to-go))))

  -- Behind the last entry nothing is to come.
  pub none_stays : (run : Run) → length ps ≤ run.passed → staying cs (to_come js keys ps run) ≡ to_come js keys ps run
  none_stays run l = let none = drop_of_length-le ps l in rw none (staying_all cs none_left)

  -- Where no change is left, the entries that stay are to come.
  pub no_change_left : (run : Run) → coming 0 run ≡ staying cs (to_come js keys ps run)
  no_change_left run = no_change_merged (staying cs (to_come js keys ps run))

  -- at the beginning
  pub since_now : (left : ℕ) (run : Run) → ToGo ps changed fresh noted run → Since run.cycles (coming left run) left run
  since_now left run to-go = record {
    to-go = to-go;
    timely = refl;
    ends = record {
      front = [];
      parts = refl;
    };
  }
