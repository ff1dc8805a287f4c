-- Walks along the column of whom each job waits for that end: after some steps they come to nobody. And what marks say of them.
use Rattle.std.specs.Prelude.{Bool, true, false, List, ◌≡◌, ℕ, zero, suc, ◌≤◌, ◌<◌, get_or}
use Rattle.remaining.specs.declared.Mark.{Mark}
use Rattle.rules.specs.TableText.{most_jobs}

-- a walk from a place comes to nobody after n steps, and not before
abbrev pub EndsAfter : List ℕ → ℕ → ℕ → Type 0
EndsAfter waits zero place = most_jobs ≤ place
EndsAfter waits (suc n) place = (place < most_jobs) × EndsAfter waits n (get_or waits place 0)

-- The walk from a place ends.
pub record Ends (waits : List ℕ) (place : ℕ) : Type 0 where
  pub steps : ℕ
  pub after : EndsAfter waits steps place

-- a mark that says how a walk comes out
abbrev pub is_walked : Mark → Bool
is_walked Mark.Unawaited = false
is_walked Mark.Awaited = false
is_walked Mark.Ends = true
is_walked Mark.GoesOn = true

-- the mark at a place
abbrev pub mark_at : List Mark → ℕ → Mark
mark_at marks place = get_or marks place Mark.Unawaited

-- where a mark says that the walk from there ends, it does
abbrev pub EndMarks : List ℕ → List Mark → Type 0
EndMarks waits marks = (place : ℕ) → mark_at marks place ≡ Mark.Ends → Ends waits place
