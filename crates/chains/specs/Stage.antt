-- What steps 1 and 2 leave of the whole table: a fate for each job that they take out, and whom each job waits for among
-- the others.
use Rattle.std.specs.Prelude.{cond, List, ◌≡◌, ℕ, ◌<◌, get_or, length}
use Rattle.chains.specs.Waits.{Waits}
use Rattle.rules.specs.Plan.{fate_deadlock, fate_late, late_in, leaves_its_ring, waits_left}
use Rattle.rules.specs.TableText.{Records, no_job}
use Rattle.rules.specs.declared.Job.{Job}

-- step 1's fate
unfoldable pub fate_if_late : Records → Job → ℕ
fate_if_late t j = cond (late_in t j) fate_late 0

-- the fate of step 1 or 2, or 0 for a job that remains
unfoldable pub fate_so_far : Records → Job → ℕ
fate_so_far t j = cond (late_in t j) fate_late (cond (leaves_its_ring t j) fate_deadlock 0)

-- at the place of each job the fate of step 1 or 2
abbrev pub FatesSoFar : Records → List ℕ → Type 0
FatesSoFar t fates = (i : ℕ) → i < length t.jobs → get_or fates i 0 ≡ fate_so_far t (get_or t.jobs i no_job)

pub record Stage (t : Records) (fates waits : List ℕ) : Type 0 where
  pub fates_so_far : FatesSoFar t fates
  pub waits-left : Waits t.jobs (waits_left t) waits
