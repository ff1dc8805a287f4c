-- Document 01, "The table text": "The longest valid text has 3,653 bytes.", by its lines: a T of 30 bytes, F of 15, J of 48, and
-- H of 9 for a resource below 10, else of 10.
use Rattle.std.specs.Prelude.{ℕ, ◌+◌, ◌-◌, ◌*◌}
use Rattle.rules.specs.TableText.{most_holds, most_jobs, most_speeds}

abbrev pub most_bytes : ℕ
most_bytes = 30 + 15 * most_speeds + 48 * most_jobs + (9 * 9 + 10 * (most_holds - 9))
