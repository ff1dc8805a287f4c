-- What is true whenever a loop of the run comes round, and how it is kept: an entry below the first change that is left is below
-- all of them, so that it comes next, or it leaves; else that change comes next, for no entry to come has a key below it. Where a
-- job is late, not all are in time, whatever is left. Assumes nothing.
use mathlib.Core.Bool.{cond}
use mathlib.Core.List.{List}
use mathlib.Core.Path.{◌≡◌, ap, ◌∙◌}
use Prim.Native.Nat.{ℕ, suc, ◌+◌, ◌-◌, ◌≤◌, ◌<◌}
use native.Mathlib.Omega.{arith}
use lib.Dec.{ltb}
use lib.ListN.{drop, get_or, length}
use Rattle.changes.specs.Changes.{staying}
use Rattle.columns.specs.Columns.{AtMost}
use Rattle.entries.specs.Places.{Sorted, not_planned}
use Rattle.entries.specs.Promises.{JobPlaces}
use Rattle.judgements.proofs.Bounds.{by_change, by_pass, change_so_far, entry_so_far, left_so_far, more_changes}
use Rattle.judgements.proofs.Going.{first_left, key_inside, key_reached, least_to_come}
use Rattle.judgements.proofs.Running.{Since, all_stay, change_late, change_runs, coming, entry_late, entry_leaves, entry_runs}
use Rattle.judgements.proofs.Running.{no_change_left, none_stays, since_now}
use Rattle.judgements.specs.Changes.{WellNoted, far_first, going_on, most_changes, pass_on, run_on, timely_entries}
use Rattle.judgements.specs.Promises.{ChangesPassed, ChangesRun, MovedPassed, MovedRun, RunOf, RunSoFar, ToGo, change_entries, to_come}
use Rattle.judgements.specs.declared.Noted.{Noted}
use Rattle.judgements.specs.declared.Order.{Order}
use Rattle.judgements.specs.declared.Run.{Run}
use Rattle.rules.specs.Lists.{Each, none_left}
use Rattle.rules.specs.Plan.{Entry}
use Rattle.rules.specs.TableText.{most_cycles}
use Rattle.rules.specs.declared.Job.{Job}
use Rattle.std.specs.Prelude.{None, Option, Some}

-- Places to run through and changes; cycles in their range: no sum wraps.
pub record RunThrough (ps keys changed fresh : List ℕ) (noted : Noted) (cycles : List ℕ) : Type 0 where
  pub places : JobPlaces ps
  pub few : noted.changes ≤ most_changes
  pub moved_few : noted.moved ≤ noted.changes
  pub well_noted : WellNoted (far_first noted.changes changed fresh) keys
  pub cycles_small : AtMost most_cycles cycles

pub through_of : (o : Order) → WellNoted (far_first o.noted.changes o.changes.now.places o.changes.now.keys) o.keys.now
    → RunThrough o.planned.now o.keys.now o.changes.now.places o.changes.now.keys o.noted o.cycles.now
through_of o well = record {
  places = o.places;
  few = o.few;
  moved_few = o.moved_few;
  well_noted = well;
  cycles_small = o.cycles_small;
}

-- the key of the next entry to come
abbrev next_key : List ℕ → List ℕ → Run → ℕ
next_key ps keys run = cond (ltb run.passed (length ps)) (get_or keys (get_or ps run.passed 0) 0) not_planned

module _ (ps keys changed fresh : List ℕ) (noted : Noted) (cycles deadline : List ℕ) where
  -- from one run to another, with so many changes left
  pub record Onwards (from run : Run) (left : ℕ) : Type 0 where
    pub left_few : left ≤ noted.changes
    pub so_far : RunSoFar ps (noted.changes - left) run
    pub on : from.passed ≤ run.passed
    pub since : (js : List Job) (due : Job → ℕ) → RunOf js due ps changed noted cycles deadline → Sorted keys ps
        → ToGo ps changed fresh noted from
        → Since js due ps keys changed fresh noted cycles deadline from.cycles
        (coming js due ps keys changed fresh noted cycles deadline noted.changes from) left run

  -- the same, where no job has ended late
  abbrev pub OnwardsTo : Run → ℕ → Option Run → Type 0
  OnwardsTo from left None = ChangesRun ps keys changed fresh noted cycles deadline from None
  OnwardsTo from left (Some run) = Onwards from run left

  pub onwards_begins : (from : Run) → RunSoFar ps 0 from → Onwards from from noted.changes
  onwards_begins from far = record {
    left_few = omega arith;
    so_far = more_changes 0 (noted.changes - noted.changes) (omega arith) far;
    on = omega arith;
    since = λ js due of sorted to-go. since_now js due ps keys changed fresh noted cycles deadline noted.changes from to-go;
  }

module _ {ps keys changed fresh : List ℕ} {noted : Noted} {cycles deadline : List ℕ} where
  module _ {from run : Run} {left : ℕ} (through : RunThrough ps keys changed fresh noted cycles)
      (onwards : Onwards ps keys changed fresh noted cycles deadline from run (suc left)) where
    abbrev onwards_to : ℕ → Option Run → Type 0
    onwards_to = OnwardsTo ps keys changed fresh noted cycles deadline from

    -- the place of the next entry, and that of the first change that is left
    abbrev p : ℕ
    p = get_or ps run.passed 0

    abbrev place : ℕ
    place = get_or changed left 0

    abbrev whole : (js : List Job) (due : Job → ℕ) → List Entry
    whole js due = coming js due ps keys changed fresh noted cycles deadline noted.changes from

    pub next_inside : next_key ps keys run < get_or fresh left 0
        → (run.passed < length ps) × (get_or keys (get_or ps run.passed 0) 0 < get_or fresh left 0)
    next_inside less =
        key_inside (get_or fresh left 0) run.passed (length ps) (get_or keys (get_or ps run.passed 0) 0)
        (first_left changed fresh keys noted.changes left through.well_noted onwards.left_few).1 less

    -- The next entry is passed.
    pub entry_onwards : next_key ps keys run < get_or fresh left 0 → (o : Option Run)
        → o ≡ pass_on changed noted cycles deadline run (get_or ps run.passed 0)
        → OnwardsTo ps keys changed fresh noted cycles deadline from (suc left) o
    entry_onwards less o e =
        rw e
        (by_pass cycles deadline run p changed noted (onwards_to (suc left))
        (λ g. record {
          left_few = onwards.left_few;
          so_far = left_so_far cycles through.cycles_small ps (noted.changes - suc left) run onwards.so_far next.0;
          on = omega (arith, onwards.on);
          since = λ js due of sorted to-go.
              entry_leaves js due ps keys changed fresh noted cycles deadline through.moved_few of from.cycles (whole js due)
              (suc left) run (onwards.since js due of sorted to-go) next.0 g;
        })
        (λ g l js due of sorted to-go.
        entry_late js due ps keys changed fresh noted cycles deadline through.moved_few of from.cycles (whole js due)
        (suc left) run (onwards.since js due of sorted to-go) next.0 g below l)
        (λ g l. record {
          left_few = onwards.left_few;
          so_far = entry_so_far cycles through.cycles_small ps (noted.changes - suc left) run onwards.so_far p next.0;
          on = omega (arith, onwards.on);
          since = λ js due of sorted to-go.
              entry_runs js due ps keys changed fresh noted cycles deadline through.moved_few of from.cycles (whole js due)
              (suc left) run (onwards.since js due of sorted to-go) next.0 g below l;
        }))
      where
        next : (run.passed < length ps) × (get_or keys p 0 < get_or fresh left 0)
        next = next_inside less

        below : Each (λ c. get_or keys p 0 < c.key) (far_first (suc left) changed fresh)
        below =
            (first_left changed fresh keys noted.changes left through.well_noted onwards.left_few).2 (get_or keys p 0) next.1

    -- The first change that is left is run.
    pub change_onwards : get_or fresh left 0 ≤ next_key ps keys run → (ran : Option ℕ)
        → ran ≡ run_on cycles deadline run.cycles (get_or changed left 0)
        → OnwardsTo ps keys changed fresh noted cycles deadline from left (going_on run.passed run.gone ran)
    change_onwards reached ran e =
        rw e
        (by_change cycles deadline run place (onwards_to left)
        (λ l js due of sorted to-go.
        change_late js due ps keys changed fresh noted cycles deadline through.moved_few of from.cycles (whole js due) left run
        (onwards.since js due of sorted to-go) (least sorted) l)
        (λ l. record {
          left_few = omega (arith, onwards.left_few);
          so_far =
              more_changes (noted.changes - suc left + 1) (noted.changes - left) (omega (arith, onwards.left_few))
              (change_so_far cycles through.cycles_small ps (noted.changes - suc left) run onwards.so_far place);
          on = onwards.on;
          since = λ js due of sorted to-go.
              change_runs js due ps keys changed fresh noted cycles deadline through.moved_few of from.cycles (whole js due) left
              run (onwards.since js due of sorted to-go) (least sorted) l;
        }))
      where
        least : Sorted keys ps → Each (λ q. get_or fresh left 0 ≤ get_or keys q 0) (drop run.passed ps)
        least sorted =
            least_to_come (get_or fresh left 0) keys sorted run.passed
            (λ l. key_reached (get_or fresh left 0) run.passed (length ps) (get_or keys (get_or ps run.passed 0) 0) reached l)

  -- All changes are run.
  pub all_run : {from run : Run} → Onwards ps keys changed fresh noted cycles deadline from run 0
      → ChangesPassed ps keys changed fresh noted cycles deadline from run
  all_run {from} {run} onwards = record {
    so_far = more_changes (noted.changes - 0) noted.changes (omega arith) onwards.so_far;
    on = onwards.on;
    timely = λ js due of sorted to-go.
        (onwards.since js due of sorted to-go).timely
        ∙ ap (timely_entries due run.cycles) (no_change_left js due ps keys changed fresh noted cycles deadline run);
    to-go = λ js due of sorted to-go. (onwards.since js due of sorted to-go).to-go;
    ahead = λ js due of sorted to-go.
        rw (no_change_left js due ps keys changed fresh noted cycles deadline run)
        at (onwards.since js due of sorted to-go).ends;
  }

module _ (ps changed : List ℕ) (noted : Noted) (cycles deadline : List ℕ) where
  -- from one run to another, behind all changes
  pub record Behind (from run : Run) : Type 0 where
    pub so_far : RunSoFar ps noted.changes run
    pub on : from.passed ≤ run.passed
    pub since : (js : List Job) (due : Job → ℕ) → RunOf js due ps changed noted cycles deadline → (keys fresh : List ℕ)
        → ToGo ps changed fresh noted from
        → Since js due ps keys changed fresh noted cycles deadline from.cycles
        (staying (change_entries js noted changed fresh) (to_come js keys ps from)) 0 run

  -- the same, where no job has ended late
  abbrev pub BehindTo : Run → Option Run → Type 0
  BehindTo from None = MovedRun ps changed noted cycles deadline from None
  BehindTo from (Some run) = Behind from run

  pub behind_begins : (from : Run) → RunSoFar ps noted.changes from → Behind from from
  behind_begins from far = record {
    so_far = far;
    on = omega arith;
    since = λ js due of keys fresh to-go.
        rw (no_change_left js due ps keys changed fresh noted cycles deadline from)
        at (since_now js due ps keys changed fresh noted cycles deadline 0 from to-go);
  }

module _ {ps changed : List ℕ} {noted : Noted} {cycles deadline : List ℕ} where
  module _ {from run : Run} (few : noted.moved ≤ noted.changes) (behind : Behind ps changed noted cycles deadline from run) where
    -- the place of the next entry
    abbrev next_place : ℕ
    next_place = get_or ps run.passed 0

    abbrev those : (js : List Job) (keys fresh : List ℕ) → List Entry
    those js keys fresh = staying (change_entries js noted changed fresh) (to_come js keys ps from)

    pub entry_behind : AtMost most_cycles cycles → run.passed < length ps → (o : Option Run)
        → o ≡ pass_on changed noted cycles deadline run (get_or ps run.passed 0)
        → BehindTo ps changed noted cycles deadline from o
    entry_behind small inside o e =
        rw e
        (by_pass cycles deadline run next_place changed noted (BehindTo ps changed noted cycles deadline from)
        (λ g. record {
          so_far = left_so_far cycles small ps noted.changes run behind.so_far inside;
          on = omega (arith, behind.on);
          since = λ js due of keys fresh to-go.
              entry_leaves js due ps keys changed fresh noted cycles deadline few of from.cycles (those js keys fresh) 0 run
              (behind.since js due of keys fresh to-go) inside g;
        })
        (λ g l js due of keys fresh to-go.
        entry_late js due ps keys changed fresh noted cycles deadline few of from.cycles (those js keys fresh) 0 run
        (behind.since js due of keys fresh to-go) inside g none_left l)
        (λ g l. record {
          so_far = entry_so_far cycles small ps noted.changes run behind.so_far next_place inside;
          on = omega (arith, behind.on);
          since = λ js due of keys fresh to-go.
              entry_runs js due ps keys changed fresh noted cycles deadline few of from.cycles (those js keys fresh) 0 run
              (behind.since js due of keys fresh to-go) inside g none_left l;
        }))

    -- where all to come stay
    stay_ends : ((js : List Job) (due : Job → ℕ) → RunOf js due ps changed noted cycles deadline → (keys fresh : List ℕ)
        → ToGo ps changed fresh noted from
        → staying (change_entries js noted changed fresh) (to_come js keys ps run) ≡ to_come js keys ps run)
        → MovedPassed ps changed noted cycles deadline from run
    stay_ends stay = record {
      so_far = behind.so_far;
      on = behind.on;
      timely = λ js due of keys fresh to-go.
          (behind.since js due of keys fresh to-go).timely
          ∙ ap (timely_entries due run.cycles)
          (no_change_left js due ps keys changed fresh noted cycles deadline run ∙ stay js due of keys fresh to-go);
      ahead = λ js due of keys fresh to-go.
          rw (no_change_left js due ps keys changed fresh noted cycles deadline run ∙ stay js due of keys fresh to-go)
          at (behind.since js due of keys fresh to-go).ends;
    }

    -- All that leave have gone.
    pub all_gone : noted.moved ≤ run.gone → MovedPassed ps changed noted cycles deadline from run
    all_gone l =
        stay_ends
        (λ js due of keys fresh to-go.
        all_stay js due ps keys changed fresh noted cycles deadline few of run
        (behind.since js due of keys fresh to-go).to-go l)

    -- The end is reached.
    pub end_reached : length ps ≤ run.passed → MovedPassed ps changed noted cycles deadline from run
    end_reached l =
        stay_ends (λ js due of keys fresh to-go. none_stays js due ps keys changed fresh noted cycles deadline run l)
