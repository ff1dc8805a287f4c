-- `trials::accept` meets its contract. The front grows by each change that is made, and what the changes that are left make of
-- what is behind it is what all changes make of the plan. Assumes nothing.
use mathlib.Core.Path.{◌≡◌, refl}
use Prim.Native.Nat.{suc, ◌-◌}
use native.Mathlib.Omega.{arith}
use Rattle.trials.proofs.Accepting.{Accepting, accepting_begins, all-made, inserted_there, insertable, movable, moved_there, place_below, room}
use Rattle.trials.proofs.accept.Goals.{In-loop-i}
use Rattle.trials.proofs.accept.Goals as goal

-- in the loop there is a change left
on : (c : In-loop-i)
    → let p = c.args.plan.now in
    let loop = c.loop-i in
    Accepting p.totals.count p.places p.keys c.args.changes.now.places c.args.changes.now.keys c.args.count c.args.from
    loop.plan.places loop.plan.keys loop.behind loop.entries (suc (loop.i - 1))
on c = let one : suc (c.loop-i.i - 1) ≡ c.loop-i.i = omega arith in rw one c.loop-i.invariant.on

pub loop-i-init : goal.loop-i-init
loop-i-init c =
    let p = c.args.plan.now in
    record {
      on = accepting_begins p.totals.count p.places p.keys c.args.changes.now.places c.args.changes.now.keys c.args.count
          c.args.from c.requires;
      same_cycles = refl;
    }

pub offset_bounds-plan-place : goal.offset_bounds-plan-place
offset_bounds-plan-place c = omega (arith, place_below (on (goal.at.offset_bounds-plan-place c).In-loop-i))

pub bounds-plan-place : goal.bounds-plan-place
bounds-plan-place c = place_below (on (goal.at.bounds-plan-place c).In-loop-i)

pub move_up-behind-requires : goal.move_up-behind-requires
move_up-behind-requires c =
    let here = on (goal.at.move_up-behind-requires c).In-loop-i in
    (insertable here, movable here c.if-plan-place-lt-NOT_PLANNED.true)

pub loop-i-preserved-then-plan-place-lt-NOT_PLANNED : goal.loop-i-preserved-then-plan-place-lt-NOT_PLANNED
loop-i-preserved-then-plan-place-lt-NOT_PLANNED c = record {
  on = moved_there (on (goal.at.loop-i-preserved-then-plan-place-lt-NOT_PLANNED c).In-loop-i) c.move_up-behind.ensures;
  same_cycles = c.loop-i.invariant.same_cycles;
}

pub insert-behind-requires : goal.insert-behind-requires
insert-behind-requires c =
    let here = on (goal.at.insert-behind-requires c).In-loop-i in
    (insertable here, room here c.if-plan-place-lt-NOT_PLANNED.false)

pub loop-i-preserved : goal.loop-i-preserved
loop-i-preserved c = record {
  on = inserted_there (on (goal.at.loop-i-preserved c).In-loop-i) c.if-plan-place-lt-NOT_PLANNED.false c.insert-behind.ensures;
  same_cycles = c.loop-i.invariant.same_cycles;
}

pub returns-clause-made : goal.returns-clause-made
returns-clause-made c = all-made (omega arith) c.loop-i.invariant.on
