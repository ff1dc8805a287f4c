use mathlib.Core.Path.{◌≡◌}
use Prim.Native.Nat.{◌+◌}
use lib.ListN.{length, take}
use Rattle.entries.specs.Promises.{cycles_at}
use Rattle.judgements.specs.Promises.{EndsTrue}
use Rattle.rules.specs.TableText.{most_jobs}
use Rattle.trials.proofs.renew_ends.Given as goal

abbrev pub invariant-loop-place : goal.invariant-loop-place
invariant-loop-place l = record {
  as_long : length l.ends ≡ most_jobs;
  run_so_far : l.run ≡ cycles_at l.cycles (take (l.first + l.place-index) l.planned);
  ends_true : EndsTrue (l.first + l.place-index) l.cycles l.planned l.ends;
}
