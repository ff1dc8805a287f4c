-- `trials::try_trial` meets its contract: what is judged of the changes is what the rules judge of the trial, and what the accepted
-- changes make is the trial. Assumes nothing.
use mathlib.Core.Path.{◌≡◌, ap, ◌∙◌}
use native.Mathlib.Omega.{arith}
use Rattle.std.specs.Prelude.{Err, IsErrAnd, Ok, Result}
use Rattle.rules.specs.Answers.{fate_number}
use Rattle.rules.specs.declared.Fate.{Fate}
use Rattle.trials.proofs.Judged.{all_small, job-places, judgeable, rest_few, rest_moved_few, settled_few, touchable, walkable}
use Rattle.trials.proofs.Taken.{acceptable, ends_so_far, from_inside, latests_so_far, renewable}
use Rattle.trials.proofs.Taken.{trial_is_accepted, trial_is_dropped, upto_inside}
use Rattle.trials.specs.Promises.{trial_fate}
use Rattle.trials.proofs.try_trial.Goals as goal

pub walk-added-requires : goal.walk-added-requires
walk-added-requires c = walkable c.requires.able c.requires.new

pub left_untouched-below-requires : goal.left_untouched-below-requires
left_untouched-below-requires c = touchable c.requires.able c.requires.new c.walk-added.ensures

pub overflow_add-all_cycles : goal.overflow_add-all_cycles
overflow_add-all_cycles c = omega (arith, all_small c.requires.able c.requires.new c.walk-added.ensures)

pub overflow_sub-order : goal.overflow_sub-order
overflow_sub-order c = settled_few c.requires.able c.requires.new c.walk-added.ensures c.left_untouched-below.ensures

pub invariant_of-order : goal.invariant_of-order
invariant_of-order c = record {
  places = job-places c.requires.able;
  few = rest_few c.requires.able c.requires.new c.walk-added.ensures c.left_untouched-below.ensures;
  moved_few = rest_moved_few c.requires.able c.requires.new c.walk-added.ensures c.left_untouched-below.ensures;
  cycles_small = c.requires.able.columns_small.cycles_small;
}

pub judge-requires : goal.judge-requires
judge-requires c = judgeable c.requires.able c.requires.new c.walk-added.ensures c.left_untouched-below.ensures

-- a trial that is dropped tells why
told_why : (r : Result (Unit {0}) Fate) (why : Fate) → IsErrAnd r (λ e. e ≡ why) → trial_fate r ≡ fate_number why
told_why (Ok u) why told = absurd told
told_why (Err w) why told = ap fate_number told

pub returns-in_err-passed : goal.returns-in_err-passed
returns-in_err-passed c =
    rw (told_why c.from_residual.result c.in_err-passed.field-0.0 c.from_residual.ensures.1)
    (trial_is_dropped c.requires.able c.requires.new c.requires.gives c.walk-added.ensures c.left_untouched-below.ensures
    c.in_err-passed.field-0.0 c.in_err-passed.ensures)

pub accept-requires : goal.accept-requires
accept-requires c =
    acceptable c.requires.able c.requires.new c.requires.gives c.walk-added.ensures c.left_untouched-below.ensures

pub renew_ends-requires : goal.renew_ends-requires
renew_ends-requires c = (
  renewable c.requires.able c.requires.new c.requires.gives c.walk-added.ensures c.left_untouched-below.ensures
      c.in_ok-passed.ensures c.accept.ensures.made c.args.kept.now.ends c.requires.able.kept_true.ends_length,
  from_inside c.requires.able c.requires.new c.requires.gives c.walk-added.ensures c.left_untouched-below.ensures
      c.in_ok-passed.ensures c.accept.ensures.made,
  ends_so_far c.requires.able c.requires.new c.requires.gives c.walk-added.ensures c.left_untouched-below.ensures
      c.in_ok-passed.ensures c.accept.ensures.made,
)

pub renew_latests-requires : goal.renew_latests-requires
renew_latests-requires c = (
  renewable c.requires.able c.requires.new c.requires.gives c.walk-added.ensures c.left_untouched-below.ensures
      c.in_ok-passed.ensures c.accept.ensures.made c.args.kept.now.latests c.requires.able.kept_true.latests_length,
  upto_inside c.requires.able c.requires.new c.requires.gives c.walk-added.ensures c.left_untouched-below.ensures
      c.in_ok-passed.ensures c.accept.ensures.made,
  latests_so_far c.requires.able c.requires.new c.requires.gives c.walk-added.ensures c.left_untouched-below.ensures
      c.in_ok-passed.ensures c.accept.ensures.made,
)

pub returns : goal.returns
returns c =
    trial_is_accepted c.requires.able c.requires.new c.requires.gives c.walk-added.ensures c.left_untouched-below.ensures
    c.in_ok-passed.ensures c.accept.ensures.made c.renew_ends.new.ends c.renew_latests.new.latests
    (c.renew_ends.ensures.0 ∙ c.requires.able.kept_true.ends_length)
    (c.renew_latests.ensures.0 ∙ c.requires.able.kept_true.latests_length) c.renew_ends.ensures.1 c.renew_latests.ensures.1
