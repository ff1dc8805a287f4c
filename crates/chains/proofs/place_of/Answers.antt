-- `chains::place_of` meets its contract: the place found is that of the job of the number, and `most_jobs` is nobody's. Assumes
-- nothing.
use Rattle.std.proofs.Common.{rules}
use mathlib.Core.Path.{◌≡◌}
use Prim.Native.Nat.{ℕ, ◌≤◌}
use lib.ListN.{length}
use native.Mathlib.Omega.{arith}
use Rattle.std.specs.Prelude.{None, Some, Option, List, MatchOption}
use Rattle.chains.proofs.Holding.{found_or_nobody, holder_found, place_found}
use Rattle.chains.specs.Promises.{PlaceOf}
use Rattle.columns.specs.LookUp.{StandsAt}
use Rattle.rules.specs.TableText.{most_jobs}
use Rattle.chains.proofs.place_of.Goals as goal

is_found : (o : Option ℕ) (r : ℕ) → MatchOption o (r ≡ most_jobs) (λ x. r ≡ x) → r ≡ place_found o
is_found (Some place) r e = e
is_found None r e = e

place-of : (numbers : List ℕ) (number r : ℕ) (o : Option ℕ) → length numbers ≤ most_jobs → StandsAt numbers number o
    → r ≡ place_found o → PlaceOf numbers number r
place-of numbers number r o few stands is = record {
  place = λ js long rising number_of_lem h e.
      rw is (holder_found js numbers long (omega arith) rising number_of_lem h o (rw e stands));
  place_or_nobody = λ js long. rw is (found_or_nobody js numbers long (omega arith) number o stands);
}

pub returns : goal.returns
returns c =
    place-of c.args.numbers.now c.args.number c.map_or.result c.look_up.result c.requires c.look_up.ensures
    (is_found c.look_up.result c.map_or.result (search rules))
