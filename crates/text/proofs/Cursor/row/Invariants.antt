use Rattle.std.proofs.Common.{◌≡◌, ◌-◌, length, take}
use Rattle.text.specs.Fields.{row_at}
use Rattle.text.proofs.Told.{so_far}
use Rattle.text.proofs.Cursor.row.Given as goal

abbrev pub invariant-loop-before : goal.invariant-loop-before
invariant-loop-before l =
    row_at (length l.initial.numbers) l.text l.self
    ≡ so_far l.self (take l.before l.numbers) (length l.initial.numbers - l.before) l.text l.place
