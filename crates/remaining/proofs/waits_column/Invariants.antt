use mathlib.Core.List.{List}
use Prim.Native.Nat.{ℕ}
use Rattle.chains.specs.Promises.{WaitsFor}
use Rattle.remaining.proofs.FilledTo.{FilledTo}
use Rattle.remaining.proofs.waits_column.Given as goal

-- whom the job at a place waits for
abbrev pub WaitsAt : List ℕ → List ℕ → List ℕ → ℕ → ℕ → Type 0
WaitsAt request holder-at fates place holder = WaitsFor place request holder-at fates holder

abbrev pub invariant-loop-i : goal.invariant-loop-i
invariant-loop-i l = FilledTo (WaitsAt l.request l.holder_at l.fates) l.i l.waits
