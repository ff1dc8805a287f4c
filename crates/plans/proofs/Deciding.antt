-- A valid table is in the ranges that the steps ask for, and its terms are those of its records. Assumes nothing.
use mathlib.Core.Bool.{true}
use mathlib.Core.List.{List, [], ◌∷◌}
use mathlib.Core.Path.{◌≡◌, refl, sym, ap, ◌∙◌}
use Prim.Native.Nat.{ℕ, zero, suc, ◌-◌, ◌≤◌, ◌<◌}
use native.Mathlib.Omega.{arith}
use lib.ListN.{get_or, length, length-take, take}
use lib.Seq.{get_or-take, length-take-le}
use Rattle.columns.proofs.Ranges.{columns_in_range}
use Rattle.columns.specs.Columns.{ColumnsOf, TermsOf}
use Rattle.columns.specs.Ranges.{ColumnsInRange, TermsInRange}
use Rattle.columns.specs.declared.Columns.{Columns}
use Rattle.columns.specs.declared.Terms.{Terms}
use Rattle.laws.proofs.Elements.{each_at_place}
use Rattle.grammar.proofs.Ranges.{SpeedRanges, clock_ranges, hold_ranges, speed_ranges}
use Rattle.plans.specs.Promises.{Concludable, Concluded, CourseNoted, CourseOf, CourseRun, CourseRunnable, Decidable, Decides, DecisionNoted, PlacesOfJobs, Plannable, Totalled, terms_by}
use Rattle.plans.specs.declared.Decided.{Decided}
use Rattle.rules.specs.Lists.{last_or}
use Rattle.rules.specs.Plan.{top_of}
use Rattle.rules.specs.TableText.{Record, in_range, most_holds, most_jobs, most_speeds, no_hold, no_speed, records_of, table_with_budget, with_budget}
use Rattle.rules.specs.declared.Speed.{Speed}
use Rattle.rules.specs.declared.Table.{Table}
use Rattle.std.proofs.lemmas.List.Elements.{All-from_get_or}
use Rattle.trials.specs.declared.Plan.{Plan}

module _ {A : Type 0} where
  last_behind : (x d : A) (xs : List A) (n : ℕ) → n ≤ length xs → last_or x (take n xs) ≡ get_or (x ∷ xs) n d
  last_behind x d xs zero h = refl
  last_behind x d [] (suc n) h = absurd (omega arith)
  last_behind x d (y ∷ ys) (suc n) h = last_behind y d ys n (omega arith)

  -- the last of the first n stands at n - 1
  last_of_first : (d : A) (xs : List A) (n : ℕ) → 1 ≤ n → n ≤ length xs → last_or d (take n xs) ≡ get_or xs (n - 1) d
  last_of_first d xs zero m h = absurd (omega arith)
  last_of_first d [] (suc n) m h = absurd (omega arith)
  last_of_first d (x ∷ xs) (suc n) m h =
      let e : suc n - 1 ≡ n = omega arith in rw e (last_behind x d xs n (omega arith))

module _ {table : Table} {budget : ℕ} (p : Plannable table budget) where
  pub some_speed : 1 ≤ table.speed_count
  unfolding records_of
  some_speed = omega (arith, p.valid.some_speed, length-take table.speed_count table.speeds)

  speed-in-range : (i : ℕ) → i < length (take table.speed_count table.speeds)
      → SpeedRanges (get_or (take table.speed_count table.speeds) i no_speed)
  unfolding records_of
  speed-in-range i h =
      speed_ranges (get_or (take table.speed_count table.speeds) i no_speed)
      (each_at_place {P = λ f. in_range (Record.F f) ≡ true} no_speed p.valid.speed_ranges i h)

  -- the terms are those of its records, and in their ranges
  module _ (all_speeds : length table.speeds ≡ most_speeds) where
    top_is_last : top_of (records_of table) ≡ get_or table.speeds (table.speed_count - 1) no_speed
    unfolding top_of records_of
    top_is_last =
        last_of_first no_speed table.speeds table.speed_count some_speed (omega (arith, p.few_speeds, all_speeds))

    pub terms_of_table : length table.jobs ≡ most_jobs → TermsOf (with_budget (records_of table) budget) (terms_by table budget)
    unfolding records_of top_of
    terms_of_table all_jobs = record {
      clock = refl;
      budget = refl;
      mhz = ap (λ (f : Speed). f.mhz) (sym top_is_last);
      cost = ap (λ (f : Speed). f.cost) (sym top_is_last);
      job-count = sym (length-take-le table.job_count table.jobs (omega (arith, all_jobs, p.few_jobs)));
    }

    pub terms_in_range : TermsInRange (terms_by table budget)
    unfolding records_of
    terms_in_range =
        let there : table.speed_count - 1 < table.speed_count = omega (arith, some_speed) in
        let counted = length-take-le table.speed_count table.speeds (omega (arith, p.few_speeds, all_speeds)) in
        let top : SpeedRanges (get_or table.speeds (table.speed_count - 1) no_speed) =
        rw (sym (get_or-take table.speed_count table.speeds (table.speed_count - 1) no_speed there))
        (speed-in-range (table.speed_count - 1) (omega (arith, counted, there))) in
        record {
          clock = (clock_ranges table.clock budget p.valid.clock_range).0;
          mhz = top.mhz_to;
          cost = top.cost_to;
          job-count = p.few_jobs;
        }

  -- with that budget in its T
  pub by_its_parts : {jobs : Columns} → ColumnsOf (records_of table).jobs jobs → Decidable table budget jobs
  unfolding records_of
  by_its_parts of = record {
    plannable = record { valid = p.valid; few_speeds = p.few_speeds; few_jobs = p.few_jobs; few_holds = p.few_holds };
    columns_of = of;
  }

  module _ {jobs : Columns} (of : ColumnsOf (records_of table).jobs jobs) {terms : Terms}
      (its_terms : TermsOf (with_budget (records_of table) budget) terms × TermsInRange terms) where
    ranges : ColumnsInRange jobs
    ranges = columns_in_range (records_of table).jobs jobs p.valid.job_ranges of

    pub table_runnable : CourseRunnable (take table.hold_count table.holds) jobs terms
    unfolding records_of
    table_runnable = record {
      holdable =
          record {
            few_jobs = omega (arith, length-take terms.job_count jobs.number, its_terms.1.job-count);
            resources_small =
                All-from_get_or (λ h. h.resource ≤ most_holds) (take table.hold_count table.holds) no_hold
                (λ i h.
                (hold_ranges (get_or (take table.hold_count table.holds) i no_hold)
                (each_at_place {P = λ k. in_range (Record.H k) ≡ true} no_hold p.valid.hold_ranges i h)
                ).resource_to);
          };
      columns_small = ranges;
      terms_small = its_terms.1;
      table = with_budget (records_of table) budget;
      of_table = record { valid = p.valid; terms_of = its_terms.0; holds_of = refl; columns_of = of };
    }

    pub table_concludable : {q : Plan} → PlacesOfJobs q → Totalled q jobs.cycles terms
        → Concludable (take table.speed_count table.speeds) jobs terms q
    table_concludable placed totalled = record {
      placed = placed;
      totalled = totalled;
      speeds_small =
          record {
            few = omega (arith, length-take table.speed_count table.speeds, p.few_speeds);
            mhz = λ i h. (speed-in-range i h).mhz_to;
            cost = λ i h. (speed-in-range i h).cost_to;
          };
      runs_small = record { cycles_small = ranges.cycles; termination_small = ranges.termination };
      terms_small = its_terms.1;
    }

-- a table that can be planned with the budget beside it
module _ (table : Table) (budget : ℕ) {jobs : Columns} (by : Decidable table budget jobs) where
  pub its_plannable : Plannable table budget
  unfolding records_of
  its_plannable = record {
    valid = by.plannable.valid;
    few_speeds = by.plannable.few_speeds;
    few_jobs = by.plannable.few_jobs;
    few_holds = by.plannable.few_holds;
  }

  pub its_columns : ColumnsOf (records_of table).jobs jobs
  unfolding records_of
  its_columns = by.columns_of

  -- what is concluded with its terms is decided of it, and what is noted is noted of it
  module _ {terms : Terms} (of : TermsOf (with_budget (records_of table) budget) terms) where
    its_course : CourseOf (records_of (table_with_budget table budget)) (take table.hold_count table.holds) jobs terms
    unfolding records_of
    its_course = record { valid = by.plannable.valid; terms_of = of; holds_of = refl; columns_of = by.columns_of }

    pub decided_of_it : {turns : ℕ} {p : Plan} {fates fates' : List ℕ} {d : Decided}
        → CourseRun (take table.hold_count table.holds) jobs terms p fates
        → Concluded (take table.speed_count table.speeds) jobs terms turns p fates fates' d → Decides table budget p fates' d
    unfolding records_of
    decided_of_it run concluded =
        concluded.decided (records_of (table_with_budget table budget)) by.plannable.valid
        (record {
          terms_of = of;
          runs-of = record { cycles-of = by.columns_of.cycles; termination_of = by.columns_of.termination };
          speeds_of = refl;
        })
        (run.course (records_of (table_with_budget table budget)) its_course)

    pub noted_of_it : {turns turns' : ℕ} {order rooms order' rooms' : List ℕ} → turns' ≡ turns
        → CourseNoted (take table.hold_count table.holds) jobs terms turns order rooms order' rooms'
        → DecisionNoted table budget turns' order rooms order' rooms'
    noted_of_it counted noted =
        rw counted
        (record {
          few = noted.few;
          order_whole = noted.order_whole;
          rooms_whole = noted.rooms_whole;
          noted = noted.noted (records_of (table_with_budget table budget)) its_course;
        })

    pub jobs_counted : terms ≡ terms_by table budget → table.job_count ≡ length (records_of (table_with_budget table budget)).jobs
    unfolding records_of
    jobs_counted told = ap (λ (ts : Terms). ts.job_count) (sym told) ∙ of.job-count
