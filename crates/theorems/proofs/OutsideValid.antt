-- A valid table without the jobs of a set, and without what they hold, is valid: what is left rises and is in range as it
-- was, and a hold that is left has its holder left. So it can be read, written and planned. Assumes nothing.
use mathlib.Core.Bool.{Bool, true}
use mathlib.Core.Path.{◌≡◌, ap, ◌∙◌}
use Prim.Native.Nat.{ℕ}
use native.Mathlib.Omega.{arith}
use Rattle.laws.proofs.Elements.{each_too}
use Rattle.steps.proofs.Jobs.{is-holder}
use Rattle.laws.proofs.Lookups.{any_keep, any_none, each_always, each_both, each_keep, keep_passes, length_keep, none_any}
use Rattle.theorems.proofs.Outside.{only_outside}
use Rattle.laws.proofs.Pairs.{pairs_keep, pairs_rising, rising_pairs}
use Rattle.theorems.specs.Demand3.{outer_hold, outer_job}
use Rattle.rules.specs.Lists.{Each, any, keep}
use Rattle.rules.specs.Refusals.{asks_own, is_holder}
use Rattle.rules.specs.TableText.{Records}
use Rattle.rules.specs.Valid.{Valid}

module _ (out : ℕ → Bool) (t : Records) (v : Valid t) where
  holders_left : Each (λ h. any (is_holder h) (keep (outer_job out) t.jobs) ≡ true) (keep (outer_hold out) t.holds)
  holders_left =
      each_both
      (λ h k o. any_keep (is_holder h) (outer_job out) (each_always t.jobs (λ j i. ap out (is-holder h j i) ∙ o)) ∙ k)
      (each_keep (outer_hold out) v.holders_known) (keep_passes (outer_hold out) t.holds)

  pub outside_valid : Valid (only_outside out t)
  unfolding only_outside
  outside_valid =
      record {
        clock_range = v.clock_range;
        speed_ranges = v.speed_ranges;
        job_ranges = each_keep (outer_job out) v.job_ranges;
        hold_ranges = each_keep (outer_hold out) v.hold_ranges;
        some_speed = v.some_speed;
        few_speeds = v.few_speeds;
        speeds_rise = v.speeds_rise;
        few_jobs = omega (arith, v.few_jobs, length_keep (outer_job out) t.jobs);
        jobs_rise = pairs_rising (pairs_keep (outer_job out) (rising_pairs v.jobs_rise));
        holds_rise = pairs_rising (pairs_keep (outer_hold out) (rising_pairs v.holds_rise));
        critical_first = each_keep (outer_job out) v.critical_first;
        holders_known = holders_left;
        none_asks_own = each_too
            (λ h n. none_any (asks_own h) (each_keep (outer_job out) (any_none (asks_own h) t.jobs n)))
            (each_keep (outer_hold out) v.none_asks_own);
      }
