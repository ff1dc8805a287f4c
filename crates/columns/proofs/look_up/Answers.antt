-- `columns::look_up` meets its contract: what std's search finds has the number, and where the numbers rise and it finds
-- none, those before are lower and those behind higher. Assumes nothing.
use mathlib.Core.Path.{◌≡◌}
use Prim.Native.Nat.{ℕ, ◌≤◌, ◌<◌}
use native.Mathlib.Omega.{arith}
use lib.Dec.{ltb}
use lib.ListN.{get_or, length}
use Rattle.std.proofs.Common.{List, ltb-true, ltb-false}
use Rattle.std.proofs.lemmas.Bool.Decides.{nat_tests}
use Rattle.std.proofs.lemmas.List.Sorted.{searched}
use Rattle.std.specs.List.Sorted.{IsBinarySearchResult, IsSearchInRange}
use Rattle.std.specs.Ordering.{nat_cmp}
use Rattle.std.specs.Prelude.{Ok, Err, Result}
use Rattle.std.specs.Result.{result_ok}
use Rattle.columns.specs.LookUp.{Rises, StandsAt}
use Rattle.columns.proofs.look_up.Goals as goal
use Rattle.laws.proofs.Choices.{split}

not_late : (xs : List ℕ) → Rises xs → (i j : ℕ) → i ≤ j → j < length xs → get_or xs i 0 ≤ get_or xs j 0
not_late xs rises i j le lt =
    split (ltb i j) (λ h. omega (arith, rises i j (ltb-true i j h) lt))
    (λ h. let same : i ≡ j = omega (arith, ltb-false i j h) in rw same (omega arith))

stands : (xs : List ℕ) (x : ℕ) (r : Result ℕ ℕ) → IsSearchInRange r (length xs)
    → IsBinarySearchResult (λ y. nat_cmp y x) xs r → StandsAt xs x (result_ok r)
stands xs x (Ok i) inside h = let at = h 0 in (inside, grind (arith, nat_tests))
stands xs x (Err i) inside h =
    λ rises p l e. let found = searched xs x (Err i) h (not_late xs rises) in
    split (ltb p i) (λ b. omega (arith, found.1 p (ltb-true p i b)))
    (λ b. omega (arith, found.2 p (ltb-false p i b) l))

pub returns : goal.returns
returns c =
    rw c.ok.ensures.value
    (stands c.args.numbers.now c.args.number c.binary_search.result c.binary_search.ensures.bound
    c.binary_search.ensures.position)
