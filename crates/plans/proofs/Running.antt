-- Steps 1 to 7 together: of those that steps 1 and 2 leave, the ratios, the order of turns and the turns taken in it give the rules'
-- course. Assumes nothing.
use mathlib.Core.List.{List, map}
use mathlib.Core.Path.{◌≡◌, sym, ap, ◌∙◌}
use Prim.Native.Nat.{ℕ, ◌≤◌, ◌<◌}
use native.Mathlib.Omega.{arith}
use borrow.Author.Tests.{ltb-false, ltb-true}
use lib.Dec.{ltb}
use lib.ListN.{get_or, get_or-eq_default, length, take}
use lib.Seq.{get_or-take, length-take-le, take_all}
use Rattle.chains.specs.Promises.{Deadlines, Holders}
use Rattle.chains.specs.Waits.{HolderAt}
use Rattle.columns.specs.Columns.{AllBelow, Column}
use Rattle.columns.specs.declared.Columns.{Columns}
use Rattle.columns.specs.declared.Terms.{Terms}
use Rattle.laws.proofs.Choices.{split}
use Rattle.laws.proofs.Elements.{each_at_place}
use Rattle.laws.proofs.Lookups.{each_unmap}
use Rattle.plans.proofs.Noting.{rooms_noted}
use Rattle.plans.specs.Courses.{course_by, job_at, turn_at}
use Rattle.plans.specs.Promises.{CourseOf, LeftNoted, LeftOf, LeftRun, LeftRunnable, Takeable, TurnsNoted, TurnsOf, TurnsTaken}
use Rattle.ranks.specs.Promises.{RatioColumns, TurnOrder}
use Rattle.remaining.specs.Promises.{Staged}
use Rattle.rules.specs.Lists.{Each}
use Rattle.rules.specs.Plan.{course, course_of, no_turn_yet, turn_of, turns}
use Rattle.rules.specs.TableText.{Records, most_jobs, no_job}
use Rattle.rules.specs.Valid.{Valid}
use Rattle.rules.specs.declared.Hold.{Hold}
use Rattle.rules.specs.declared.Job.{Job}
use Rattle.steps.proofs.Turns.{OfLeft, turns_of_left}
use Rattle.trials.specs.Promises.{Remains, columns_read}
use Rattle.trials.specs.declared.Plan.{Plan}

-- in the order of turns, the course is that of the table
course_in_order : (t : Records) (order : List ℕ) → map (turn_at t) order ≡ turns t → course_by t order (length order) ≡ course_of t
unfolding course_of
course_in_order t order e =
    ap (λ is. course t is no_turn_yet) (rw (take_all (length order) order (omega arith)) e)

-- whose turn it is, remains
turn_remains : (t : Records) → Valid t → (order : List ℕ) → map (turn_at t) order ≡ turns t → (i : ℕ) → i < length order
    → Remains t (job_at t (get_or order i 0))
unfolding turn_of
turn_remains t v order e i h =
    let each : Each (λ p. OfLeft t (turn_at t p)) order =
    each_unmap {P = OfLeft t} (turn_at t) order (rw e (turns_of_left t v)) in
    (each_at_place 0 each i h).listed

below_as : {n m : ℕ} (xs : List ℕ) → n ≤ m → AllBelow n xs → AllBelow m xs
below_as xs e below i h = omega (arith, below i h)

-- the numbers of the jobs alone: behind them stands 0
numbers_alone : (js : List Job) (numbers : List ℕ) (n : ℕ) → n ≡ length js → n ≤ length numbers → Column (λ j. j.number) js numbers
    → Column (λ j. j.number) js (take n numbers)
numbers_alone js numbers n long there column i =
    split (ltb i n)
    (λ g. get_or-take n numbers i 0 (ltb-true i n g) ∙ column i)
    (λ g.
    let behind = ltb-false i n g in
    get_or-eq_default (take n numbers) 0 (omega (arith, length-take-le n numbers there, behind))
    ∙ ap (λ (j : Job). j.number) (sym (get_or-eq_default js no_job (omega (arith, behind, long)))))

-- what steps 1 and 2 leave of a table with these holds and columns
pub left_by : {holds : List Hold} {jobs : Columns} {terms : Terms} {fates waits holder-at : List ℕ} → terms.job_count ≤ length jobs.number
    → Holders holds (take terms.job_count jobs.number) holder-at → Staged holder-at jobs terms fates waits
    → (t : Records) → CourseOf t holds jobs terms → LeftOf t fates waits jobs terms
left_by {holds} {jobs} {terms} {holder-at = holder-at} there holders staged t of =
    let long = of.terms_of.job-count in
    let at : HolderAt t.jobs t.holds holder-at =
    rw of.holds_of at
    (holders.holders t.jobs (sym (length-take-le terms.job_count jobs.number there ∙ long)) of.valid.jobs_rise
    (numbers_alone t.jobs jobs.number terms.job_count long there of.columns_of.number)) in
    record {
      valid = of.valid;
      terms_of = of.terms_of;
      stage =
          staged.stage t of.valid of.terms_of at of.columns_of.number
          (record { cycles-of = of.columns_of.cycles; termination_of = of.columns_of.termination }) of.columns_of.worth
          of.columns_of.request;
      columns_of = of.columns_of;
    }

turns_counted : {fates number over under order : List ℕ} {n count : ℕ} → TurnOrder fates number over under n order count
    → n ≤ most_jobs → length (take count order) ≡ count
turns_counted {order = order} {count = count} ordered few_jobs =
    length-take-le count order (omega (arith, ordered.whole, ordered.few, few_jobs))

module _ {fates waits : List ℕ} {jobs : Columns} {terms : Terms} {deadline over under order : List ℕ} {count : ℕ}
    (deadlines_of : Deadlines jobs.termination terms deadline)
    (ratios_of : RatioColumns fates waits jobs.cycles jobs.worth deadline terms.job_count over under)
    (ordered : TurnOrder fates jobs.number over under terms.job_count order count)
    (few_jobs : terms.job_count ≤ most_jobs) where
  -- the turns are the table's, in their order
  turns_of : (t : Records) → LeftOf t fates waits jobs terms
      → TurnsOf t (take count order) over (columns_read waits jobs.critical jobs.cycles deadline) fates terms × (map (turn_at t) (take count order) ≡ turns t)
  turns_of t left =
      let of = left.terms_of in
      let due = deadlines_of.deadlines_of t of left.columns_of.termination in
      let told =
      ratios_of.ratios t left.valid (sym of.job-count) left.stage.fates_so_far left.stage.waits-left left.columns_of.cycles
      left.columns_of.worth due in
      let in_order = ordered.in_order t left.valid (sym of.job-count) left.columns_of.number left.stage.fates_so_far told in (
        record {
          valid = left.valid;
          terms_of = of;
          columns_of =
              record {
                waits-left = left.stage.waits-left;
                critical_of = left.columns_of.critical;
                cycles-of = left.columns_of.cycles;
                deadline-of = due;
              };
          fates_so_far = left.stage.fates_so_far;
          of_jobs = below_as (take count order) (omega (arith, of.job-count)) ordered.below;
          remain = λ i h.
              let l : i < count = omega (arith, turns_counted ordered few_jobs) in
              rw (get_or-take count order i 0 l) (ordered.remain i l);
          remaining_jobs = turn_remains t left.valid (take count order) in_order;
          over_of = told.over_of;
        },
        in_order,
      )

  pub takeable : LeftRunnable fates waits jobs terms → Takeable (take count order) over (columns_read waits jobs.critical jobs.cycles deadline) fates terms
  takeable left = record {
    below = below_as (take count order) few_jobs ordered.below;
    columns_small =
        record {
          critical_small = left.columns_small.critical;
          cycles_small = left.columns_small.cycles;
        };
    terms_small = left.terms_small;
    table = left.table;
    of_table = (turns_of left.table left.of_table).0;
  }

  pub steps_3_to_7 : {p : Plan} {fates' : List ℕ} → TurnsTaken (take count order) over (columns_read waits jobs.critical jobs.cycles deadline) fates terms p fates'
      → LeftRun fates waits jobs terms p fates'
  steps_3_to_7 taken = record {
    placed = taken.placed;
    totalled = taken.totalled;
    course = λ t left.
        let known = turns_of t left in
        rw (sym (course_in_order t (take count order) known.1)) (taken.course t known.0);
  }

  pub turns_noted : {places rooms places' rooms' : List ℕ}
      → TurnsNoted (length (take count order)) (take count order) over (columns_read waits jobs.critical jobs.cycles deadline) fates terms places rooms places' rooms'
      → LeftNoted fates waits jobs terms count places rooms places' rooms'
  turns_noted noted = record {
    few = omega (arith, ordered.few, few_jobs);
    order_whole = noted.order_whole;
    rooms_whole = noted.rooms_whole;
    noted = λ t left long_order long_rooms.
        let known = turns_of t left in
        let few : length (take count order) ≤ most_jobs = omega (arith, turns_counted ordered few_jobs, ordered.few, few_jobs) in
        rw (sym (turns_counted ordered few_jobs)) (rooms_noted known.0 noted (omega arith) (omega arith) known.1);
  }
