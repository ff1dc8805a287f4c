-- `writer::write` meets its contract: the check decides first, then the room, and then the text is put at the front. Assumes
-- nothing.
use mathlib.Core.Path.{◌≡◌}
use native.Mathlib.Omega.{arith}
use borrow.Author.Rules.{rules}
use Rattle.std.proofs.lemmas.Result.{err_from_is_err_and}
use Rattle.checks.proofs.Exactly.{done_exactly, refused_exactly}
use Rattle.rules.specs.Refusals.{check, taken}
use Rattle.rules.specs.TableText.{records_of}
use Rattle.writer.proofs.Answer.{checked, no_room, refused_answer, text_written}
use Rattle.writer.specs.Lines.{Checked}
use Rattle.writer.proofs.write.Goals.{In_ok-check_table}
use Rattle.writer.proofs.write.Goals as goal

-- the check is done
done : (c : In_ok-check_table) → let t = c.args.table in check t ≡ taken (records_of t)
done c = (done_exactly c.args.table).0 c.in_ok-check_table.ensures.verdict

checked-table : (c : In_ok-check_table) → Checked c.args.table
checked-table c = checked c.args.table (done c) (search rules) (search rules) (search rules)

pub returns-in_err-check_table : goal.returns-in_err-check_table
returns-in_err-check_table c =
    let p = err_from_is_err_and c.from_residual.result c.from_residual.ensures.1 in
    rw (p.1, p.2)
    (refused_answer c.args.table c.args.out.now _ _ ((refused_exactly c.args.table _ _).0 c.in_err-check_table.ensures.verdict))

pub text_length-requires : goal.text_length-requires
text_length-requires c = checked-table (goal.at.text_length-requires c).In_ok-check_table

pub returns-then-out-text_length : goal.returns-then-out-text_length
returns-then-out-text_length c =
    rw c.at.ensures
    (no_room c.args.table (done (goal.at.returns-then-out-text_length c).In_ok-check_table) c.args.out.now (omega (arith, c.if-out-text_length.true, c.text_length.ensures)))

pub put_text-requires : goal.put_text-requires
put_text-requires c =
    (checked-table (goal.at.put_text-requires c).In_ok-check_table, omega (arith, c.if-out-text_length.false, c.text_length.ensures))

pub returns : goal.returns
returns c =
    text_written c.args.table (done (goal.at.returns c).In_ok-check_table) c.args.out.now c.put_text.new.out c.put_text.result
    (omega (arith, c.if-out-text_length.false, c.text_length.ensures)) c.put_text.ensures.0 c.put_text.ensures.1
