use mathlib.Core.List.{List}
use mathlib.Core.Path.{◌≡◌}
use Prim.Native.Nat.{ℕ, ◌+◌, ◌*◌, ◌≤◌, ◌<◌}
use lib.ListN.{get_or}
use Rattle.rules.specs.TableText.{no_speed}
use Rattle.rules.specs.declared.Speed.{Speed}
use Rattle.speeds.proofs.cheapest.Given as goal

-- of the first n speeds none has less energy than the one at this place, and none before it as little
pub record Least (speeds : List Speed) (total n r : ℕ) : Type 0 where
  pub inside : r < n
  pub none_less : (k : ℕ) → k < n → total * (get_or speeds r no_speed).cost ≤ total * (get_or speeds k no_speed).cost
  pub before_more : (k : ℕ) → k < r → total * (get_or speeds r no_speed).cost < total * (get_or speeds k no_speed).cost

abbrev pub invariant-loop-speed : goal.invariant-loop-speed
invariant-loop-speed l = (r : ℕ) × Least l.fn.speeds l.total (l.speed-index + 1) r × (l.least ≡ get_or l.fn.speeds r no_speed)
