-- Steps 3 and 4 told by columns: the places of a chain, the sum of its cycles, and what its members give, each compared with its
-- deadline in cycles.
use Rattle.std.specs.Prelude.{cond, List, [], ◌∷◌, ℕ, ◌+◌, leb, get_or}
use Rattle.chains.specs.Promises.{most_members}
use Rattle.chains.specs.Waits.{places_from}
use Rattle.rules.specs.Lists.{total}

-- "itself, then the job it waits for, and so on": the places of the chain of the job at a place; nobody has none
abbrev pub chain_from : List ℕ → ℕ → List ℕ
chain_from waits place = places_from waits most_members place

-- the sum of a column at these places
abbrev pub sum_at : List ℕ → List ℕ → ℕ
sum_at column ps = total (λ p. get_or column p 0) ps

-- "Each member that finishes at or before its termination gives its worth, else 0", where it ends after so many cycles
unfoldable pub given_by : ℕ → ℕ → ℕ → ℕ
given_by end deadline worth = cond (leb end deadline) worth 0

-- what the jobs at these places give, each ending when it and all behind it have run
abbrev pub sum_given : List ℕ → List ℕ → List ℕ → List ℕ → ℕ
sum_given cycles worth deadline [] = 0
sum_given cycles worth deadline (p ∷ ps) =
    given_by (sum_at cycles (p ∷ ps)) (get_or deadline p 0) (get_or worth p 0) + sum_given cycles worth deadline ps

-- the sums of the chain of the job at a place
abbrev pub cycles_along : List ℕ → List ℕ → ℕ → ℕ
cycles_along waits cycles place = sum_at cycles (chain_from waits place)

abbrev pub given_along : List ℕ → List ℕ → List ℕ → List ℕ → ℕ → ℕ
given_along waits cycles worth deadline place = sum_given cycles worth deadline (chain_from waits place)
