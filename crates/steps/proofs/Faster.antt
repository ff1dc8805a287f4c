-- Faster is never later: what ends by its termination at one speed does so at every higher one, since its cycles take no
-- longer. So the speeds of a table at which all jobs end in time are the last ones. Assumes nothing.
use mathlib.Core.Bool.{true, false}
use mathlib.Core.List.{List}
use mathlib.Core.Path.{◌≡◌}
use Prim.Native.Nat.{ℕ, ◌+◌, ◌*◌, ◌-◌, ◌≤◌, ◌<◌}
use native.Mathlib.Nat.{add-mul, lt_of_mul-lt-mul_right, mul-le-mul, one-mul}
use native.Mathlib.Omega.{arith}
use borrow.Author.Tests.{le-leb, leb-true}
use Rattle.laws.proofs.Choices.{clash}
use Rattle.laws.proofs.Elements.{each_too}
use Rattle.laws.proofs.Lookups.{all_each, each_all}
use Rattle.laws.proofs.Tests.{not_true_false}
use Rattle.rules.specs.Plan.{ends_by, ends_in_time, in_time, runs_of}
use Rattle.rules.specs.declared.Job.{Job}

module _ (clock slow fast : ℕ) (some_speed : 1 ≤ slow) (faster : slow ≤ fast) where
  -- the time left, end less clock, times the speed is what can be run in it
  more_run : (cycles end : ℕ) → clock * slow + cycles * 1000 ≤ end * slow → clock * fast + cycles * 1000 ≤ end * fast
  more_run cycles end h =
      let begun : clock < end + 1 = lt_of_mul-lt-mul_right slow (omega (arith, add-mul end 1 slow, one-mul slow)) in
      let time : ℕ = end - clock in
      let whole : end ≡ clock + time = omega arith in
      let run : time * slow ≤ time * fast = mul-le-mul (omega arith) faster in
      rw whole (omega (arith, add-mul clock time slow, add-mul clock time fast, rw whole at h))

  pub faster_ends : (cycles end : ℕ) → ends_by clock slow cycles end ≡ true → ends_by clock fast cycles end ≡ true
  unfolding ends_by
  faster_ends cycles end h = le-leb _ _ (more_run cycles end (leb-true _ _ h))

  pub faster_in_time : (js : List Job) → in_time clock slow js ≡ true → in_time clock fast js ≡ true
  unfolding in_time ends_in_time
  faster_in_time js h =
      each_all (ends_in_time clock fast)
      (each_too (λ r e. faster_ends r.cycles_by_end r.job.termination e) (all_each (ends_in_time clock slow) (runs_of js) h))

  pub slower_late : (js : List Job) → in_time clock fast js ≡ false → in_time clock slow js ≡ false
  slower_late js h = not_true_false (in_time clock slow js) (λ e. clash (faster_in_time js e) h)
