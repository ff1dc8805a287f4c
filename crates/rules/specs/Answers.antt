-- The number, the line and the values of document 01 for each case of each answer.
-- "Every refusal gives number and line, with an empty plan (speed 0, energy 0), a table without records, an empty text,
-- allocation 0 or seven zero costs, as the call has it". Number 0 and line 0: nothing is refused.
use Rattle.std.specs.Prelude.{List, [], ◌∷◌, map, Option, Some, None, Result, Ok, Err, ℕ, replicate}
use Rattle.rules.specs.TableText.{no_records, table_of}
use Rattle.rules.specs.declared.Decision.{Decision}
use Rattle.rules.specs.declared.Fate.{Fate}
use Rattle.rules.specs.declared.Panel.{Panel}
use Rattle.rules.specs.declared.Refusal.{Refusal}
use Rattle.rules.specs.declared.Refused.{Refused}
use Rattle.rules.specs.declared.Table.{Table}

-- "Numbers a refusal carries": 1 the shape, 2 a range, 3 the order of lines, 4 a 17th F or a 65th J, 5 critical after
-- termination, 6 an unknown job, 7 a holder that requests what it holds, 8 room, 9 a cost model, 10 an allocation.
abbrev pub number_of : Refusal → ℕ
number_of Refusal.Shape = 1
number_of Refusal.Range = 2
number_of Refusal.Order = 3
number_of Refusal.TooMany = 4
number_of Refusal.CriticalAfterTermination = 5
number_of Refusal.UnknownJob = 6
number_of Refusal.OwnRequest = 7
number_of Refusal.Room = 8
number_of Refusal.Model = 9
number_of Refusal.Allocation = 10

-- Step 8, and the steps that give them: 1 planned, 2 late alone, 3 taken from a ring, 4 of ratio 0, 5 some job would have ended
-- late, 6 over the budget.
abbrev pub fate_number : Fate → ℕ
fate_number Fate.Planned = 1
fate_number Fate.Late = 2
fate_number Fate.Deadlock = 3
fate_number Fate.RatioZero = 4
fate_number Fate.Time = 5
fate_number Fate.Budget = 6

-- A job's fate as a number, 0 as long as it has none; and those of a column.
unfoldable pub fate_as_number : Option Fate → ℕ
fate_as_number None = 0
fate_as_number (Some fate) = fate_number fate

abbrev pub fates_as_numbers : List (Option Fate) → List ℕ
fates_as_numbers fates = map fate_as_number fates

-- What document 01 says of an answer.
pub record Answer : Type 0 where
  pub number : ℕ
  pub line : ℕ
  pub values : List ℕ

abbrev pub good : List ℕ → Answer
good values = record { number = 0; line = 0; values = values }

abbrev pub refused : Refusal → ℕ → List ℕ → Answer
refused r line values = record { number = number_of r; line = line; values = values }

-- the answer that is a refusal, whatever the call
abbrev pub refuses : {A : Type 0} → Refusal → ℕ → Result A Refused
refuses why line = Err (record { why = why; line = line })

-- what an answer says: of a result its values, and of a refusal these values beside number and line
abbrev pub says : {A : Type 0} → (A → List ℕ) → List ℕ → Result A Refused → Answer
says values _ (Ok a) = good (values a)
says _ none (Err r) = refused r.why r.line none

-- A field: its number.
abbrev pub field_says : Result ℕ Refused → Answer
field_says = says (λ n. n ∷ []) []

-- An allocation: the cycles. "allocation 0"
abbrev pub allocated_says : Result ℕ Refused → Answer
allocated_says = says (λ c. c ∷ []) (0 ∷ [])

-- Nothing beside the refusal.
abbrev pub verdict_says : Result (Unit {0}) Refused → Answer
verdict_says = says (λ _. []) []

-- A cost model: its seven costs. "seven zero costs"
abbrev pub supplied_says : Result (List ℕ) Refused → Answer
supplied_says = says (λ costs. costs) (replicate 7 0)

-- A text that is read: the table. "a table without records"
pub record ReadAnswer : Type 0 where
  pub answer : Answer
  pub table : Table

abbrev pub reading_says : Result Table Refused → ReadAnswer
reading_says (Ok table) = record { answer = good []; table = table }
reading_says (Err r) = record { answer = refused r.why r.line []; table = table_of no_records }

-- A table or a listing that is written: how many bytes. "an empty text"
abbrev pub written_says : Result ℕ Refused → Answer
written_says = says (λ n. n ∷ []) (0 ∷ [])

-- A planning decision: how many jobs are planned, the speed, the energy. "an empty plan (speed 0, energy 0)"
abbrev pub decision_says : Result Decision Refused → Answer
decision_says = says (λ d. d.count ∷ d.speed ∷ d.energy ∷ []) (0 ∷ 0 ∷ 0 ∷ [])

-- The panel's answer: how many turns there were, the room that is left at the end. "Every refusal": no turn, and no room.
abbrev pub panel_says : Result Panel Refused → Answer
panel_says = says (λ p. p.turns ∷ p.room ∷ []) (0 ∷ 0 ∷ [])
