-- Document 02, A5, as statements: the two calls, reading and planning, against the one call of document 01 (`Plan.planning`).
use Rattle.std.specs.Prelude.{List, [], ◌∷◌, ◌≡◌, ℕ}
use Rattle.demands.specs.Unplanned.{front_of}
use Rattle.rules.specs.Answers.{Answer}
use Rattle.rules.specs.Plan.{leaves_all, part_of, planning}
use Rattle.rules.specs.declared.Refusal.{Refusal}

-- "the two answer as the one did": decision, part and fates
pub record AsTheOne (text order fates : List ℕ) (says : Answer) (part fates' : List ℕ) : Type 0 where
  pub answer : says ≡ (planning text order fates).answer
  pub part_is : part ≡ part_of (planning text order fates)
  pub fates-left : fates' ≡ (planning text order fates).fates

-- and the whole order buffer, the part at its front
pub record LeavesAsTheOne (text order fates : List ℕ) (says : Answer) (order' fates' : List ℕ) : Type 0 where
  pub as_the_one : AsTheOne text order fates says (front_of says order') fates'
  pub order_left : order' ≡ (planning text order fates).order

-- "refusals included": what reading refuses is not planned. The caller has number and line, no plan, and the buffers as they are.
abbrev pub NotPlanned : (text order fates : List ℕ) → (number line : ℕ) → Type 0
NotPlanned text order fates number line =
    LeavesAsTheOne text order fates (record { number = number; line = line; values = 0 ∷ 0 ∷ 0 ∷ [] }) order fates

-- "the buffer check moves with planning, after reading": where a buffer is too small the one call answered 8, line 0, and did not
-- look at the text
abbrev pub OneSaidRoom : (text order fates : List ℕ) → Type 0
OneSaidRoom text order fates = planning text order fates ≡ leaves_all Refusal.Room 0 order fates

-- so that of a refused text it said something else than reading does
abbrev pub OtherThanTheOne : (text order fates : List ℕ) → (number line : ℕ) → Type 0
OtherThanTheOne text order fates number line =
    ¬ (record { number = number; line = line; values = 0 ∷ 0 ∷ 0 ∷ [] } ≡ (planning text order fates).answer)
