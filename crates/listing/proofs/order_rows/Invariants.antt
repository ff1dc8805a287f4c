use mathlib.Core.List.{List, ◌++◌}
use mathlib.Core.Path.{◌≡◌}
use Prim.Native.Nat.{◌*◌, ◌≤◌}
use lib.ListN.{take}
use Rattle.columns.specs.Columns.{Column, jobs_at}
use Rattle.listing.proofs.Orders.{orders_left}
use Rattle.listing.specs.Texts.{rows_lines, row_fields}
use Rattle.rules.specs.Listing.{letter_o, order_line}
use Rattle.rules.specs.Lists.{joined}
use Rattle.rules.specs.Plan.{runs_of}
use Rattle.rules.specs.TableText.{most_cycles}
use Rattle.rules.specs.declared.Job.{Job}
use Rattle.listing.proofs.order_rows.Given as goal

abbrev pub invariant-loop-noted : goal.invariant-loop-noted
invariant-loop-noted l = record {
  run_small : l.run ≤ most_cycles * l.noted-index;
  counted : l.filled ≡ l.noted-index * row_fields;
  so_far : (js : List Job) → Column (λ j. j.number) js l.jobs.number → Column (λ j. j.cycles) js l.jobs.cycles
      → rows_lines letter_o (take l.filled l.rows) ++ orders_left js l.places l.clock l.mhz l.run l.noted-index
      ≡ joined (order_line l.clock l.mhz) (runs_of (jobs_at js l.places));
}
