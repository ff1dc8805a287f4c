use mathlib.Core.List.{List, ◌++◌}
use mathlib.Core.Path.{◌≡◌}
use Prim.Native.Nat.{ℕ}
use lib.ListN.{length}
use Rattle.chains.specs.Waits.{HolderAt, most_resources}
use Rattle.columns.specs.Columns.{Column}
use Rattle.rules.specs.Lists.{Rising}
use Rattle.rules.specs.declared.Hold.{Hold}
use Rattle.rules.specs.declared.Job.{Job}
use Rattle.chains.proofs.holders.Given as goal

-- behind the H lines that are left are those passed, whose holders stand at their resources
pub record Passed (holds : List Hold) (numbers : List ℕ) (left : List Hold) (holder-at : List ℕ) : Type 0 where
  pub passed : List Hold
  pub all : left ++ passed ≡ holds
  pub long : length holder-at ≡ most_resources
  pub holders : (js : List Job) → length js ≡ length numbers → Rising (λ j. j.number) js
      → Column (λ j. j.number) js numbers → HolderAt js passed holder-at

abbrev pub invariant-loop-hold : goal.invariant-loop-hold
invariant-loop-hold l = Passed l.holds l.numbers l.hold-iterator.iter.rest.now l.holder_at
