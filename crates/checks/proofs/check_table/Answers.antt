-- `checks::check_table` meets its contract. The invariant: going on with what is left of the table comes to what the check of
-- all of it comes to, and the columns are those of the jobs accepted so far. Each turn takes one record of what is left, so that
-- its length is the measure. Assumes nothing.
use mathlib.Core.Path.{◌≡◌, sym, ap, ◌∙◌}
use Prim.Native.Nat.{◌+◌, ◌<◌}
use native.Mathlib.Omega.{arith}
use borrow.Author.Rules.{rules}
use lib.ListN.{length}
use Rattle.std.specs.Prelude.{Ok, Some}
use Rattle.records.specs.Faults.{fault_says}
use Rattle.rules.specs.Refusals.{fault_of}
use Rattle.rules.specs.TableText.{Record}
use Rattle.rules.specs.declared.Job.{Job}
use Rattle.text.specs.Lines.{item_of, parsed_of}
use Rattle.text.specs.declared.Parsed.{Parsed}
use Rattle.lines.specs.Step.{fault_in}
use Rattle.checks.specs.Left.{Comes, ComesNext, Whole, left}
use Rattle.checks.proofs.ColumnsSoFar.{ColumnsSoFar, filled_with_zeros, one_more_in_all, refused_table, stored_in_all, taken_table}
use Rattle.checks.proofs.SoFar.{all_checked, bad_next, item_of_record, not_stored, noted, refused_next}
use Rattle.checks.proofs.check_table.Goals.{in-Clock, in-Speed, in-Job, in-Hold, After-judge_record, After-next_of, After-standing_after-before, In-Hold, In-Job, In-Job-parsed, In-Ok-Some, In-Speed, Joined-spot}
use Rattle.checks.proofs.check_table.Goals as goal

whole : (c : After-next_of) → Whole c.args.table.now
whole c = record {
  speeds = search (rules, c.fits-table);
  jobs = search (rules, c.fits-table);
  holds = search (rules, c.fits-table);
}

-- the record that comes, whatever its letter
comes-next : (c : In-Ok-Some) → ComesNext c.args.table.now c.loop-spot.before (Ok (Some c.in-Ok-Some.spot))
comes-next c =
    let whole_table : Whole c.args.table.now = record {
      speeds = search (rules, c.fits-table);
      jobs = search (rules, c.fits-table);
      holds = search (rules, c.fits-table);
    } in
    rw c.in-Ok-Some.field-0-is at (c.in-Ok-Some.ensures whole_table)

comes : (c : Joined-spot)
    → (r : Record) × (c.match-spot.parsed ≡ parsed_of r) × Comes c.args.table.now c.loop-spot.before r
comes c =
    let next = comes-next c.before in
    elim c.match-spot.branch [
      | in-Clock w ↦ (_, w.parsed-is, rw w.in-Clock.is at next)
      | in-Speed w ↦ (_, w.parsed-is, (rw w.in-Speed.is at next).1)
      | in-Job w ↦ (_, w.parsed-is, (rw w.in-Job.is at next).1)
      | in-Hold w ↦ (_, w.parsed-is, (rw w.in-Hold.is at next).1)
    ]

-- the judgement is the rules' fault of it
fault : (c : After-judge_record)
    → fault_of c.loop-spot.invariant.so_far.stands (comes c.before.before).0 ≡ fault_says c.judge_record.result
fault c =
    let so_far = c.loop-spot.invariant.so_far in
    let (r, parsed, first) = comes c.before.before in
    sym
    (c.judge_record.ensures so_far.stands (noted so_far)
    ∙ ap (λ p. fault_in so_far.stands (item_of p)) parsed
    ∙ ap (fault_in so_far.stands) (item_of_record r))

-- it is accepted, and less is left
accepted : (c : After-standing_after-before)
    → ColumnsSoFar c.args.table.now (stored_in_all c.loop-spot.before c.match-spot.parsed c.loop-spot.columns)
    c.standing_after-before.result (c.loop-spot.line + 1)
accepted c =
    let (r, parsed, first) = comes c.before.before.before.before in
    rw c.standing_after-before.ensures
    (one_more_in_all c.loop-spot.invariant r c.match-spot.parsed parsed first
    (fault c.before.before ∙ rw c.in_default.is) (search (rules, c.fits-table)))

less : (c : After-standing_after-before)
    → length (left c.args.table.now c.standing_after-before.result) < length (left c.args.table.now c.loop-spot.before)
less c =
    let (r, parsed, first) = comes c.before.before.before.before in
    rw (c.standing_after-before.ensures, parsed, first.first) (omega arith)

pub loop-spot-init : goal.loop-spot-init
loop-spot-init c = rw (c.none-before.ensures, c.requires) (filled_with_zeros c.args.table.now)

pub returns-in-Ok-None : goal.returns-in-Ok-None
returns-in-Ok-None c =
    let next = rw c.in-Ok-None.field-0-is at (c.in-Ok-None.ensures (whole (goal.at.returns-in-Ok-None c).After-next_of)) in
    taken_table c.loop-spot.invariant (all_checked c.loop-spot.invariant.so_far next.0 next.1)

pub returns-in-Err : goal.returns-in-Err
returns-in-Err c =
    let next = c.in-Err.ensures (whole (goal.at.returns-in-Err c).After-next_of) in
    rw c.at.ensures (refused_table (bad_next c.loop-spot.invariant.so_far c.in-Err.why next.0 next.1))

pub returns-in-Err-judge_record : goal.returns-in-Err-judge_record
returns-in-Err-judge_record c =
    let (r, parsed, first) = comes (goal.at.returns-in-Err-judge_record c).Joined-spot in
    rw c.at-in-Err-judge_record.ensures
    (refused_table
    (refused_next c.loop-spot.invariant.so_far r c.in-Err-judge_record.why first
    (fault (goal.at.returns-in-Err-judge_record c).After-judge_record ∙ rw c.in-Err-judge_record.is)))

pub loop-spot-preserved-in-Job-parsed : goal.loop-spot-preserved-in-Job-parsed
loop-spot-preserved-in-Job-parsed c =
    rw c.put.ensures (rw c.in-Job-parsed.is at (accepted (goal.at.loop-spot-preserved-in-Job-parsed c).After-standing_after-before))

pub loop-spot-preserved : goal.loop-spot-preserved
loop-spot-preserved c =
    let l = c.loop-spot in
    let parsed = c.match-spot.parsed in
    let no-job : (j : Job) → parsed ≡ Parsed.Job j → ⊥ = c.in_default-parsed.not-Job in
    rw (
      not_stored (λ j. j.number) l.before parsed l.columns.number no-job,
      not_stored (λ j. j.cycles) l.before parsed l.columns.cycles no-job,
      not_stored (λ j. j.worth) l.before parsed l.columns.worth no-job,
      not_stored (λ j. j.critical) l.before parsed l.columns.critical no-job,
      not_stored (λ j. j.termination) l.before parsed l.columns.termination no-job,
      not_stored (λ j. j.request) l.before parsed l.columns.request no-job,
    ) at (accepted (goal.at.loop-spot-preserved c).After-standing_after-before)
