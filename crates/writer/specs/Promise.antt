-- What the writer promises of its answer and of the lent buffer.
use Rattle.std.specs.Prelude.{List, Result, ◌≡◌, ℕ}
use Rattle.rules.specs.Answers.{written_says}
use Rattle.rules.specs.Refusals.{writing}
use Rattle.rules.specs.declared.Refused.{Refused}
use Rattle.rules.specs.declared.Table.{Table}

-- The answer to a table and a lent buffer, and the whole buffer behind the call, are the rules'.
pub record WrittenAs (t : Table) (lent after : List ℕ) (r : Result ℕ Refused) : Type 0 where
  pub answer : written_says r ≡ (writing t lent).answer
  pub buffer : after ≡ (writing t lent).out
