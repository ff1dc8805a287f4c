-- `remaining::waits_column` meets its contract. At the place of each job passed stands the place of the one that it waits
-- for, or nobody's. Assumes nothing.
use mathlib.Core.List.{List}
use mathlib.Core.Path.{◌≡◌}
use Prim.Native.Nat.{ℕ, ◌≤◌}
use native.Mathlib.Omega.{arith}
use lib.ListN.{length}
use Rattle.remaining.proofs.FilledTo.{RightBelow, filled_below, one_more_filled}
use Rattle.remaining.specs.Promises.{WaitsColumn}
use Rattle.rules.specs.TableText.{most_jobs}
use Rattle.remaining.proofs.waits_column.Invariants.{WaitsAt}
use Rattle.remaining.proofs.waits_column.Goals as goal

all-wait : (request holder-at fates : List ℕ) (count : ℕ) (waits : List ℕ) → count ≤ most_jobs → length waits ≡ most_jobs
    → RightBelow (WaitsAt request holder-at fates) count waits → WaitsColumn request holder-at fates count waits
all-wait request holder-at fates count waits few whole right = record {
  whole = whole;
  waits = λ js holds remains long rising request_of at remaining. record {
    few = omega arith;
    whom = λ i l. (right i (omega arith)).whom js holds remains rising request_of at remaining;
    place_or_nobody = λ i l. (right i (omega arith)).place_or_nobody js holds at;
  };
}

pub loop-i-preserved : goal.loop-i-preserved
loop-i-preserved c =
    let loop = c.loop-i in
    one_more_filled _ loop.waits loop.i _ (omega arith) loop.invariant c.waits_for.ensures

pub returns : goal.returns
returns c =
    let loop = c.loop-i in
    all-wait _ _ _ _ loop.waits c.requires.0 loop.invariant.whole
    (filled_below _ loop.waits loop.i c.args.job_count (omega arith) loop.invariant)
