-- What `hand_back` promises.
use Rattle.std.specs.Prelude.{Result, List, ◌≡◌, ℕ, take}
use Rattle.rules.specs.Answers.{decision_says}
use Rattle.rules.specs.TableText.{nth}
use Rattle.rules.specs.declared.Decision.{Decision}
use Rattle.rules.specs.declared.Refused.{Refused}

-- How many jobs a decision plans: the first of the values that it says, 0 where it is a refusal.
abbrev pub planned_count : Result Decision Refused → ℕ
planned_count d = nth (decision_says d).values 0

-- The part holds the first count places of the buffer, or all of a shorter one, and begins where the buffer begins.
pub record HandedBack (order : List ℕ) (begin : ℕ × ℕ) (d : Result Decision Refused) (part : List ℕ) (at : ℕ × ℕ) : Type 0 where
  pub part_is : part ≡ take (planned_count d) order
  pub begins : at ≡ begin
