-- `judgements::Order::run_changes` meets its contract. Each time round an entry is passed or a change is run, and the invariant is
-- kept, or a job is late. In the ranges no sum wraps. Assumes nothing.
use mathlib.Core.Path.{◌≡◌, sym, ◌∙◌}
use Prim.Native.Nat.{suc, ◌-◌, ◌<◌}
use native.Mathlib.Omega.{arith}
use lib.ListN.{get_or, length}
use Rattle.std.specs.Prelude.{None, Some}
use Rattle.judgements.proofs.Bounds.{one_more}
use Rattle.judgements.proofs.Going.{first_left}
use Rattle.judgements.proofs.Onwards.{all_run, change_onwards, entry_onwards, next_inside, onwards_begins, through_of}
use Rattle.judgements.proofs.Order.run_changes.Goals.{In-loop-run}
use Rattle.judgements.proofs.Order.run_changes.Goals as goal

pub loop-left-init : goal.loop-left-init
loop-left-init c = let o = c.args.self.now in onwards_begins o.planned.now o.keys.now o.changes.now.places o.changes.now.keys o.noted o.cycles.now o.deadline.now c.args.from c.requires.1

pub loop-run-init : goal.loop-run-init
loop-run-init c = let one : suc (c.loop-left.left - 1) ≡ c.loop-left.left = omega arith in rw one c.loop-left.invariant

-- the next entry is there
inside : (c : In-loop-run) → c.loop-run.run.passed < length c.args.self.now.planned.now
inside c = (next_inside (through_of c.args.self.now c.requires.0) c.loop-run.invariant (rw c.key_at.ensures at c.loop-run-test.true)).0

pub bounds-self-run : goal.bounds-self-run
bounds-self-run c = inside c

pub returns-in_err-run : goal.returns-in_err-run
returns-in_err-run c =
    rw c.from_residual.ensures
    (entry_onwards (through_of c.args.self.now c.requires.0) c.loop-run.invariant (rw c.key_at.ensures at c.loop-run-test.true)
    None (sym c.in_err-run.was ∙ c.pass.ensures))

pub loop-run-smaller : goal.loop-run-smaller
loop-run-smaller c =
    let o = c.args.self.now in
    let run = c.loop-run.run in
    let more = one_more o.changes.now.places o.noted o.cycles.now o.deadline.now run (get_or o.planned.now run.passed 0) c.in_ok-run.run'
    (sym c.in_ok-run.was ∙ c.pass.ensures) in
    omega (arith, more, inside (goal.at.loop-run-smaller c).In-loop-run)

pub loop-run-preserved : goal.loop-run-preserved
loop-run-preserved c =
    entry_onwards (through_of c.args.self.now c.requires.0) c.loop-run.invariant (rw c.key_at.ensures at c.loop-run-test.true)
    (Some c.in_ok-run.run') (sym c.in_ok-run.was ∙ c.pass.ensures)

pub run_on-requires : goal.run_on-requires
run_on-requires c =
    let o = c.args.self.now in
    let far = c.loop-run.invariant.so_far in (
      omega (arith, far.cycles_small, far.passed_inside, o.places.few, o.few),
      (first_left o.changes.now.places o.changes.now.keys o.keys.now o.noted.changes (c.loop-left.left - 1) c.requires.0
          c.loop-run.invariant.left_few).0,
    )

pub returns-in_err-cycles : goal.returns-in_err-cycles
returns-in_err-cycles c =
    rw c.from_residual-in_err-cycles.ensures
    (change_onwards (through_of c.args.self.now c.requires.0) c.loop-run.invariant (rw c.key_at.ensures at c.loop-run-test.false)
    None (sym c.in_err-cycles.was ∙ c.run_on.ensures))

pub loop-left-preserved : goal.loop-left-preserved
loop-left-preserved c =
    change_onwards (through_of c.args.self.now c.requires.0) c.loop-run.invariant (rw c.key_at.ensures at c.loop-run-test.false)
    (Some c.in_ok-cycles.cycles) (sym c.in_ok-cycles.was ∙ c.run_on.ensures)

pub returns : goal.returns
returns c = let none : c.loop-left.left ≡ 0 = omega arith in all_run (rw none at c.loop-left.invariant)
