-- `plans::take_turns` meets its contract: after each turn plan and fates stand for the rules' course of the turns taken, the
-- record's total is true, and the turn is noted with the room by that total. Assumes nothing.
use mathlib.Core.Path.{◌≡◌, refl, sym, ◌∙◌}
use Prim.Native.Nat.{◌+◌}
use native.Mathlib.Omega.{arith}
use borrow.Author.Rules.{rules}
use lib.ListN.{get_or-replicate, length, length-set}
use Rattle.entries.specs.Places.{not_planned}
use Rattle.laws.specs.Pairs.{no_pair}
use Rattle.plans.proofs.Noting.{nothing_noted, one_more_noted}
use Rattle.plans.proofs.Taking.{OnCourse, at-end, at_start, one_more_taken, room_of_turns, turn-of}
use Rattle.plans.specs.Promises.{TurnsOf}
use Rattle.rules.specs.TableText.{Records, most_jobs}
use Rattle.trials.specs.Promises.{PlanStanding, no_entries}
use Rattle.plans.proofs.take_turns.Goals as goal

-- before the first turn nothing is planned
nothing-standing : PlanStanding no_entries
nothing-standing = record {
  entries_stand = record {
    places_length = refl;
    keys_length = refl;
    few = omega arith;
    below = λ i h. absurd (omega arith);
    once = no_pair;
    sorted = no_pair;
    keys_tell = λ p h. rw (get_or-replicate most_jobs p not_planned 0 h);
  };
  cycles_small = omega arith;
}

pub loop-at-init : goal.loop-at-init
loop-at-init c =
    rw c.requires.0
    (record {
      whole = search (rules, c.told-fates);
      standing = nothing-standing;
      on_course = λ t of. at_start of;
      totalled = record { total_true = refl; within = omega arith };
      kept_true =
          record {
            ends_length = refl;
            latests_length = refl;
            ends_true = λ i h. absurd (omega arith);
            latests_true = λ i l h. absurd (omega arith);
          };
      changed_length = refl;
      fresh_length = refl;
      noted = nothing_noted c.args.order.now c.args.rooms.now;
    })

pub turn-fate-requires : goal.turn-fate-requires
turn-fate-requires c =
    let pre = c.requires.1 in
    let so_far = c.loop-at.invariant in
    record {
      standing = so_far.standing;
      total_true = so_far.totalled.total_true;
      kept_true = so_far.kept_true;
      changed_length = so_far.changed_length;
      fresh_length = so_far.fresh_length;
      place_below = pre.below c.loop-at.at c.loop-at-test.true;
      columns_small = pre.columns_small;
      terms_small = pre.terms_small;
      table = pre.table;
      of_table = turn-of pre.of_table c.loop-at.at c.loop-at-test.true (so_far.on_course pre.table pre.of_table);
    }

pub loop-at-preserved : goal.loop-at-preserved
loop-at-preserved c =
    let so_far = c.loop-at.invariant in
    let taken = c.turn-fate.ensures in
    let at = c.loop-at.at in
    let on : (t : Records) (of : TurnsOf t _ _ _ _ _) → OnCourse t _ c.turn-fate.new.plan _ = λ t of.
    one_more_taken of at c.loop-at-test.true (so_far.on_course t of)
    (omega (arith, so_far.whole, c.requires.1.below at c.loop-at-test.true)) taken in
    rw c.from.ensures
    (record {
      whole = length-set c.loop-at.fates _ _ ∙ so_far.whole;
      standing = taken.standing;
      on_course = on;
      totalled = record { total_true = taken.total_true; within = taken.within so_far.totalled.within };
      kept_true = taken.kept_true;
      changed_length = taken.changed_length;
      fresh_length = taken.fresh_length;
      noted =
          one_more_noted at _ (λ t of. room_of_turns of (at + 1) _ (on t of).plan taken.total_true) so_far.noted
          c.note_turn.ensures;
    })

pub returns-clause-taken : goal.returns-clause-taken
returns-clause-taken c =
    let loop = c.loop-at in
    let all : loop.at ≡ length c.args.turns.now = omega arith in
    record {
      placed =
          record {
            whole = loop.invariant.standing.entries_stand.places_length;
            few = loop.invariant.standing.entries_stand.few;
            below = loop.invariant.standing.entries_stand.below;
          };
      totalled = loop.invariant.totalled;
      course = λ t of. rw (sym all) (at-end loop.plan _ of.valid.jobs_rise (loop.invariant.on_course t of));
    }
