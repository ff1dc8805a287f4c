-- What the functions of step 7 ask and promise.
use Rattle.std.specs.Prelude.{Bool, true, false, cond, not, List, ◌++◌, Option, Some, None, Result, Ok, Err, ◌≡◌, ℕ, ◌+◌, ◌*◌, ◌≤◌, ◌<◌, ltb, drop, get_or, length, take}
use Rattle.changes.specs.Changes.{merged, staying}
use Rattle.columns.specs.Columns.{AllBelow, Column, entries_in}
use Rattle.columns.specs.Ranges.{TermsInRange}
use Rattle.columns.specs.declared.Terms.{Terms}
use Rattle.entries.specs.Places.{Sorted}
use Rattle.entries.specs.Promises.{cycles_at}
use Rattle.judgements.specs.Changes.{EndsWith, WellNoted, entries_of, far_first, most_changes, places_of, timely_entries}
use Rattle.judgements.specs.declared.Noted.{Noted}
use Rattle.judgements.specs.declared.Run.{Run}
use Rattle.laws.specs.Pairs.{among}
use Rattle.rules.specs.Answers.{fate_number}
use Rattle.rules.specs.Lists.{Rising, keep}
use Rattle.rules.specs.Plan.{Entry, fate_budget, fate_planned, fate_time}
use Rattle.rules.specs.TableText.{most_cycles, most_jobs}
use Rattle.rules.specs.declared.Fate.{Fate}
use Rattle.rules.specs.declared.Job.{Job}
use Rattle.steps.specs.Deadlines.{latest_of}

-- How many cycles can have run before nothing.
abbrev pub no_bound : ℕ
no_bound = 1000000000000

-- the latest beginning of the jobs at places
abbrev pub latest_of_places : List ℕ → List ℕ → List ℕ → ℕ
latest_of_places cycles deadline ps = latest_of (λ p. get_or cycles p 0) (λ p. get_or deadline p 0) no_bound ps

-- What is kept of the entries at these places, up to an index: the cycles run by their ends.
abbrev pub EndsTrue : ℕ → List ℕ → List ℕ → List ℕ → Type 0
EndsTrue upto cycles ps ends = (i : ℕ) → i < upto → get_or ends (get_or ps i 0) 0 ≡ cycles_at cycles (take (i + 1) ps)

-- From an index on: their latest beginnings.
abbrev pub LatestsTrue : ℕ → List ℕ → List ℕ → List ℕ → List ℕ → Type 0
LatestsTrue from cycles deadline ps latests =
    (i : ℕ) → from ≤ i → i < length ps → get_or latests (get_or ps i 0) 0 ≡ latest_of_places cycles deadline (drop i ps)

pub record RunBefore (ps ends : List ℕ) (i r : ℕ) : Type 0 where
  pub run : (cycles : List ℕ) → EndsTrue i cycles ps ends → r ≡ cycles_at cycles (take i ps)

pub record LatestAt (ps latests : List ℕ) (i r : ℕ) : Type 0 where
  pub latest : (cycles deadline : List ℕ) → LatestsTrue i cycles deadline ps latests
      → r ≡ latest_of_places cycles deadline (drop i ps)

-- A run that has come so far, with so many changes run.
pub record RunSoFar (ps : List ℕ) (changes : ℕ) (run : Run) : Type 0 where
  pub cycles_small : run.cycles ≤ most_cycles * (run.passed + changes)
  pub passed_inside : run.passed ≤ length ps
  pub gone_few : run.gone ≤ run.passed

-- The jobs are those of the places and columns: their cycles, and by when they are due.
pub record RunOf (js : List Job) (due : Job → ℕ) (ps changed : List ℕ) (noted : Noted) (cycles deadline : List ℕ) : Type 0 where
  pub rising : Rising (λ j. j.number) js
  pub cycles-of : Column (λ j. j.cycles) js cycles
  pub due_of : Column due js deadline
  pub of_jobs : AllBelow (length js) ps
  pub changes_of_jobs : (i : ℕ) → i < noted.changes → get_or changed i 0 < length js

-- those that are to go yet, in this order, are those of the places to come that leave
abbrev pub ToGo : List ℕ → List ℕ → List ℕ → Noted → Run → Type 0
ToGo ps changed fresh noted run =
    drop run.gone (take noted.moved (places_of (far_first noted.changes changed fresh)))
    ≡ keep (among (places_of (far_first noted.changes changed fresh))) (drop run.passed ps)

-- the entries to come
abbrev pub to_come : List Job → List ℕ → List ℕ → Run → List Entry
to_come js keys ps run = entries_in js keys (drop run.passed ps)

-- the entries of the changes, from the far end on
abbrev pub change_entries : List Job → Noted → List ℕ → List ℕ → List Entry
change_entries js noted changed fresh = entries_of js (far_first noted.changes changed fresh)

-- The changes are run, with the entries before the last of them: what is left to come are the entries that stay.
pub record ChangesPassed (ps keys changed fresh : List ℕ) (noted : Noted) (cycles deadline : List ℕ) (from r : Run) : Type 0 where
  pub so_far : RunSoFar ps noted.changes r
  pub on : from.passed ≤ r.passed
  pub timely : (js : List Job) (due : Job → ℕ) → RunOf js due ps changed noted cycles deadline → Sorted keys ps
      → ToGo ps changed fresh noted from
      → let cs = change_entries js noted changed fresh in
      timely_entries due from.cycles (merged cs (staying cs (to_come js keys ps from)))
      ≡ timely_entries due r.cycles (staying cs (to_come js keys ps r))
  pub to-go : (js : List Job) (due : Job → ℕ) → RunOf js due ps changed noted cycles deadline → Sorted keys ps
      → ToGo ps changed fresh noted from → ToGo ps changed fresh noted r
  pub ahead : (js : List Job) (due : Job → ℕ) → RunOf js due ps changed noted cycles deadline → Sorted keys ps
      → ToGo ps changed fresh noted from
      → let cs = change_entries js noted changed fresh in
      EndsWith (merged cs (staying cs (to_come js keys ps from))) (staying cs (to_come js keys ps r))

-- The changes are run; or on the way a job has ended late.
abbrev pub ChangesRun : (ps keys changed fresh : List ℕ) → Noted → (cycles deadline : List ℕ) → Run → Option Run → Type 0
ChangesRun ps keys changed fresh noted cycles deadline from None =
    (js : List Job) (due : Job → ℕ) → RunOf js due ps changed noted cycles deadline → Sorted keys ps
    → ToGo ps changed fresh noted from
    → let cs = change_entries js noted changed fresh in
    timely_entries due from.cycles (merged cs (staying cs (to_come js keys ps from))) ≡ false
ChangesRun ps keys changed fresh noted cycles deadline from (Some r) =
    ChangesPassed ps keys changed fresh noted cycles deadline from r

-- The entries to the last that leaves are run: those to come all stay.
pub record MovedPassed (ps changed : List ℕ) (noted : Noted) (cycles deadline : List ℕ) (from r : Run) : Type 0 where
  pub so_far : RunSoFar ps noted.changes r
  pub on : from.passed ≤ r.passed
  pub timely : (js : List Job) (due : Job → ℕ) → RunOf js due ps changed noted cycles deadline → (keys fresh : List ℕ)
      → ToGo ps changed fresh noted from
      → let cs = change_entries js noted changed fresh in
      timely_entries due from.cycles (staying cs (to_come js keys ps from)) ≡ timely_entries due r.cycles (to_come js keys ps r)
  pub ahead : (js : List Job) (due : Job → ℕ) → RunOf js due ps changed noted cycles deadline → (keys fresh : List ℕ)
      → ToGo ps changed fresh noted from
      → let cs = change_entries js noted changed fresh in
      EndsWith (staying cs (to_come js keys ps from)) (to_come js keys ps r)

-- The entries to the last that leaves are run; or one of them has ended late.
abbrev pub MovedRun : (ps changed : List ℕ) → Noted → (cycles deadline : List ℕ) → Run → Option Run → Type 0
MovedRun ps changed noted cycles deadline from None =
    (js : List Job) (due : Job → ℕ) → RunOf js due ps changed noted cycles deadline → (keys fresh : List ℕ)
    → ToGo ps changed fresh noted from
    → let cs = change_entries js noted changed fresh in
    timely_entries due from.cycles (staying cs (to_come js keys ps from)) ≡ false
MovedRun ps changed noted cycles deadline from (Some r) = MovedPassed ps changed noted cycles deadline from r

-- the fate of a plan of so many cycles in all, by the tests in their order
abbrev pub fate_by : Bool → ℕ → Terms → ℕ
fate_by timely all_cycles terms =
    cond (not timely) fate_time (cond (ltb terms.budget (all_cycles * terms.cost)) fate_budget fate_planned)

-- A plan to run through behind the first `from`, what is kept of it, and so many cycles in all: no sum or product wraps.
pub record Judgeable (ps keys ends latests changed fresh : List ℕ) (noted : Noted) (from all_cycles : ℕ)
    (cycles deadline : List ℕ) (terms : Terms) : Type 0 where
  pub well_noted : WellNoted (far_first noted.changes changed fresh) keys
  pub ends_true : EndsTrue (length ps) cycles ps ends
  pub latests_true : LatestsTrue 0 cycles deadline ps latests
  pub from_inside : from ≤ length ps
  pub all_small : all_cycles ≤ most_cycles * (most_jobs + most_changes)
  pub terms_small : TermsInRange terms

-- before the first change: nothing has gone yet
abbrev pub at_first : ℕ → Run
at_first from = record { cycles = 0; passed = from; gone = 0 }

-- The fate of a trial that leaves the first `from` entries and makes these changes behind them, where the plan is in time.
abbrev pub FateOf : (ps keys changed fresh : List ℕ) → Noted → (from all_cycles : ℕ) → (cycles deadline : List ℕ) → Terms → ℕ → Type 0
FateOf ps keys changed fresh noted from all_cycles cycles deadline terms fate =
    (js : List Job) (due : Job → ℕ) → RunOf js due ps changed noted cycles deadline → Sorted keys ps
    → ToGo ps changed fresh noted (at_first from)
    → timely_entries due 0 (entries_in js keys ps) ≡ true
    → let cs = change_entries js noted changed fresh in
    fate
    ≡ fate_by (timely_entries due 0
    (entries_in js keys (take from ps) ++ merged cs (staying cs (entries_in js keys (drop from ps))))) all_cycles terms

-- A trial that is planned: behind all changes come entries of the plan as they stand in it, behind so many.
pub record JudgedPlanned (ps keys changed fresh : List ℕ) (noted : Noted) (from all_cycles : ℕ) (cycles deadline : List ℕ)
    (terms : Terms) (passed : ℕ) : Type 0 where
  pub not_before : from ≤ passed
  pub inside : passed ≤ length ps
  pub fate : FateOf ps keys changed fresh noted from all_cycles cycles deadline terms fate_planned
  pub within : all_cycles * terms.cost ≤ terms.budget
  pub ahead : (js : List Job) (due : Job → ℕ) → RunOf js due ps changed noted cycles deadline → Sorted keys ps
      → ToGo ps changed fresh noted (at_first from)
      → let cs = change_entries js noted changed fresh in
      EndsWith (merged cs (staying cs (entries_in js keys (drop from ps)))) (entries_in js keys (drop passed ps))

-- One that is dropped.
pub record JudgedDropped (ps keys changed fresh : List ℕ) (noted : Noted) (from all_cycles : ℕ) (cycles deadline : List ℕ)
    (terms : Terms) (why : Fate) : Type 0 where
  pub fate : FateOf ps keys changed fresh noted from all_cycles cycles deadline terms (fate_number why)
  pub not-planned : fate_number why ≡ fate_planned → ⊥

-- What is judged of a trial.
abbrev pub FateJudged : (ps keys changed fresh : List ℕ) → Noted → (from all_cycles : ℕ) → (cycles deadline : List ℕ) → Terms
    → Result ℕ Fate → Type 0
FateJudged ps keys changed fresh noted from all_cycles cycles deadline terms (Ok passed) =
    JudgedPlanned ps keys changed fresh noted from all_cycles cycles deadline terms passed
FateJudged ps keys changed fresh noted from all_cycles cycles deadline terms (Err why) =
    JudgedDropped ps keys changed fresh noted from all_cycles cycles deadline terms why
