use mathlib.Core.Path.{◌≡◌}
use lib.ListN.{drop, length}
use Rattle.judgements.specs.Promises.{LatestsTrue, latest_of_places}
use Rattle.rules.specs.TableText.{most_jobs}
use Rattle.trials.proofs.renew_latests.Given as goal

abbrev pub invariant-loop-i : goal.invariant-loop-i
invariant-loop-i l = record {
  as_long : length l.latests ≡ most_jobs;
  latest_there : l.latest ≡ latest_of_places l.cycles l.deadline (drop l.i l.planned);
  latests_true : LatestsTrue l.i l.cycles l.deadline l.planned l.latests;
}
