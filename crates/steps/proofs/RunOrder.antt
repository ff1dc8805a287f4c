-- The order in which a plan is run is that of its entries. The laws of time, cycles and energy speak of the order that is run;
-- what they need of it is said here. Assumes nothing.
use mathlib.Core.List.{List, []}
use mathlib.Core.Path.{◌≡◌, refl}
use Rattle.rules.specs.Plan.{Entry, jobs_of, run_order}
use Rattle.rules.specs.TableText.{Records}

pub run-order : (t : Records) (p : List Entry) → run_order t p ≡ jobs_of p
unfolding run_order
run-order t p = refl

pub none_run : (t : Records) → run_order t [] ≡ []
unfolding run_order jobs_of
none_run t = refl
