-- The two round trips of demand 2, as statements.
use Rattle.std.specs.Prelude.{Result, Ok, List, ◌≡◌, ℕ, drop, length, take}
use Rattle.rules.specs.TableText.{records_of}
use Rattle.rules.specs.Valid.{Valid}
use Rattle.rules.specs.declared.Refused.{Refused}
use Rattle.rules.specs.declared.Table.{Table}

-- "a valid text read and written again is the same text": its length is the answer, it stands at the front of the buffer,
-- and the bytes behind it are as they were
pub record SameText (text out after : List ℕ) (w : Result ℕ Refused) : Type 0 where
  pub answer : w ≡ Ok (length text)
  pub front : take (length text) after ≡ text
  pub behind : drop (length text) after ≡ drop (length text) out

-- "a valid table written and read again the same table": it is read, it has the same records, and they are valid
pub record SameTable (t : Table) (r : Result Table Refused) : Type 0 where
  pub table : Table
  pub done : r ≡ Ok table
  pub records : records_of table ≡ records_of t
  pub valid : Valid (records_of t)
