-- Document 01, "Cycles to allocate".
use Rattle.std.specs.Prelude.{Bool, cond, ◌&&◌, [], ◌∷◌, ℕ, zero, suc, ◌+◌, ◌-◌, ◌*◌, ◌^◌, leb}
use Rattle.std.proofs.Math.Option.{Option, none, some}
use Rattle.rules.specs.Answers.{Answer, good, refused}
use Rattle.rules.specs.Lists.{within}
use Rattle.rules.specs.TableText.{most_cycles}
use Rattle.rules.specs.declared.Refusal.{Refusal}

-- "given mean E (1..1,000,000), variance V (0..10^12) and assurance r in thousandths (0..999)"
unfoldable pub asked_in_range : ℕ → ℕ → ℕ → Bool
asked_in_range mean variance assurance =
    within 1 most_cycles mean && within 0 (10 ^ 12) variance && within 0 999 assurance

-- "(c − E)² × (1000 − r) ≥ r × V", for c ≥ E
unfoldable pub enough : ℕ → ℕ → ℕ → ℕ → Bool
enough mean variance assurance c = leb (assurance * variance) ((c - mean) * (c - mean) * (1000 - assurance))

-- the first of count numbers from low on that passes the test
unfoldable pub least_from : (ℕ → Bool) → ℕ → ℕ → Option ℕ
least_from p low zero = none
least_from p low (suc count) = let later = least_from p (low + 1) count in cond (p low) (some low) later

-- 10: "an allocation above 1,000,000"
unfoldable pub allocated : Option ℕ → Answer
allocated none = refused Refusal.Allocation 0 (0 ∷ [])
allocated (some c) = good (c ∷ [])

-- "the allocation is the least whole c ≥ E with (c − E)² × (1000 − r) ≥ r × V. Outside these ranges: 2."
unfoldable pub allocation : ℕ → ℕ → ℕ → Answer
allocation mean variance assurance =
    let least = least_from (enough mean variance assurance) mean (most_cycles + 1 - mean) in
    cond (asked_in_range mean variance assurance) (allocated least) (refused Refusal.Range 0 (0 ∷ []))
