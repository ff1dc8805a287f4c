-- The lines of the numbers told of what was decided are those of the table's plan. Assumes nothing.
use mathlib.Core.List.{List}
use mathlib.Core.Path.{◌≡◌, sym, ap, ◌∙◌}
use Prim.Native.Nat.{ℕ}
use native.Mathlib.Omega.{arith}
use lib.ListN.{length, take}
use lib.Seq.{get_or-take, length-take-le}
use Rattle.columns.proofs.Entries.{length_jobs_at}
use Rattle.columns.proofs.Ranges.{columns_in_range}
use Rattle.columns.specs.Columns.{ColumnsOf}
use Rattle.columns.specs.declared.Columns.{Columns}
use Rattle.grammar.proofs.Ranges.{clock_ranges}
use Rattle.listing.specs.Promises.{FateRows, Finishable, OrderRows}
use Rattle.listing.specs.Texts.{plan_text, rows_lines}
use Rattle.listing.specs.declared.PlanLines.{PlanLines}
use Rattle.plans.specs.Promises.{DecidedAs}
use Rattle.plans.specs.declared.Decided.{Decided}
use Rattle.rules.specs.Listing.{fate_line, letter_o, letter_x, lines_for, order_line, plan_line, plan_lines, unplanned}
use Rattle.rules.specs.Lists.{joined, keep}
use Rattle.rules.specs.Plan.{course_of, fate_in, plan_from, plan_of, runs_of}
use Rattle.rules.specs.Refusals.{taken}
use Rattle.rules.specs.TableText.{Records}
use Rattle.rules.specs.Valid.{Valid}
use Rattle.rules.specs.declared.Speed.{Speed}
use Rattle.steps.proofs.Speeds.{plan_speed_in_range}
use Rattle.trials.specs.Promises.{planned_places}
use Rattle.trials.specs.declared.Plan.{Plan}

module _ (t : Records) (v : Valid t) (p : Plan) (fates : List ℕ) (d : Decided)
    (decided : DecidedAs t p fates d) (jobs : Columns) (of : ColumnsOf t.jobs jobs) where
  mhz-known : d.speed.mhz ≡ (plan_of t).speed.mhz
  mhz-known = ap (λ (f : Speed). f.mhz) decided.speed

  pub all-planned : length (planned_places p) ≡ p.totals.count
  all-planned = length-take-le p.totals.count p.places (omega (arith, decided.placed.whole, decided.placed.few))

  pub finishable : (clock : ℕ) → clock ≡ t.clock → Finishable (planned_places p) jobs.cycles clock d.speed.mhz
  finishable clock at_clock =
      let range = plan_speed_in_range t v in
      record {
        summable =
            record {
              job-places = record { few = omega (arith, all-planned, decided.placed.few); below = decided.placed.below };
              cycles_small = (columns_in_range t.jobs jobs v.job_ranges of).cycles;
            };
        clock_small = omega (arith, at_clock, (clock_ranges t.clock t.budget v.clock_range).0);
        some_speed = omega (arith, mhz-known, range.mhz_from);
        mhz_small = omega (arith, mhz-known, range.mhz_to);
      }

  jobs-counted : p.totals.count ≡ length (plan_of t).jobs
  jobs-counted = sym all-planned ∙ sym (length_jobs_at t.jobs (planned_places p)) ∙ ap length decided.jobs

  orders_told : (clock order_end : ℕ) (orders : List ℕ) → clock ≡ t.clock
      → OrderRows (planned_places p) jobs.number jobs.cycles clock d.speed.mhz orders order_end
      → rows_lines letter_o (take order_end orders) ≡ joined (order_line t.clock (plan_of t).speed.mhz) (runs_of (plan_of t).jobs)
  orders_told clock order_end orders at_clock o = rw (at_clock, mhz-known, decided.jobs) at (o.lines t.jobs of.number of.cycles)

  others_told : (job-count other_end : ℕ) (others : List ℕ) → job-count ≡ length t.jobs → length (take job-count fates) ≡ job-count
      → FateRows jobs.number (take job-count fates) others other_end
      → rows_lines letter_x (take other_end others) ≡ joined fate_line (keep unplanned (plan_of t).fates)
  unfolding plan_of plan_from
  others_told job-count other_end others counted whole f =
      f.lines t.jobs (fate_in t (course_of t)) (omega arith) of.number
      (λ i h. get_or-take job-count fates i 0 (omega arith) ∙ decided.fates i h)

  pub told : (l : PlanLines) (clock job-count order_end other_end : ℕ) (orders others : List ℕ) → clock ≡ t.clock
      → job-count ≡ length t.jobs → length (take job-count fates) ≡ job-count
      → OrderRows (planned_places p) jobs.number jobs.cycles clock d.speed.mhz orders order_end
      → FateRows jobs.number (take job-count fates) others other_end
      → l.speed ≡ d.speed.mhz → l.energy ≡ d.energy → l.count ≡ p.totals.count
      → l.orders.now ≡ take order_end orders → l.others.now ≡ take other_end others
      → plan_text l ≡ lines_for (taken t)
  unfolding plan_text lines_for plan_lines plan_line
  told l clock job-count order_end other_end orders others at_clock counted whole o f speed energy count these those =
      let first = orders_told clock order_end orders at_clock o in
      let second = others_told job-count other_end others counted whole f in
      rw (these, those, speed, energy, count, first, second, mhz-known, decided.energy, jobs-counted)
