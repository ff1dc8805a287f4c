-- What a record's ranges say of its numbers: the test is one of each number between two others. Assumes nothing.
use mathlib.Core.Bool.{true}
use mathlib.Core.Path.{◌≡◌}
use Prim.Native.Nat.{ℕ, ◌≤◌}
use Rattle.laws.proofs.Tests.{both_true, within_true}
use Rattle.rules.specs.TableText.{Record, in_range, is_budget, is_cost, is_cycles, is_job_number, is_mhz, is_request, is_resource, is_time, is_worth}
use Rattle.rules.specs.TableText.{most_budget, most_cost, most_cycles, most_mhz, most_job_number, most_resource, most_time, most_worth}
use Rattle.rules.specs.declared.Speed.{Speed}
use Rattle.rules.specs.declared.Job.{Job}
use Rattle.rules.specs.declared.Hold.{Hold}

pub clock_ranges : (clock budget : ℕ) → in_range (Record.T clock budget) ≡ true → (clock ≤ most_time) × (budget ≤ most_budget)
unfolding in_range is_time is_budget
clock_ranges clock budget e =
    let both = both_true (is_time clock) (is_budget budget) e in
    ((within_true 0 most_time clock both.0).1, (within_true 0 most_budget budget both.1).1)

pub record SpeedRanges (f : Speed) : Type 0 where
  pub mhz_from : 1 ≤ f.mhz
  pub mhz_to : f.mhz ≤ most_mhz
  pub cost_to : f.cost ≤ most_cost

pub speed_ranges : (f : Speed) → in_range (Record.F f) ≡ true → SpeedRanges f
unfolding in_range is_mhz is_cost
speed_ranges f e =
    let both = both_true (is_mhz f.mhz) (is_cost f.cost) e in
    let speed = within_true 1 most_mhz f.mhz both.0 in
    record { mhz_from = speed.0; mhz_to = speed.1; cost_to = (within_true 1 most_cost f.cost both.1).1 }

pub record JobRanges (j : Job) : Type 0 where
  pub number_from : 1 ≤ j.number
  pub number_to : j.number ≤ most_job_number
  pub cycles_to : j.cycles ≤ most_cycles
  pub worth_to : j.worth ≤ most_worth
  pub critical_to : j.critical ≤ most_time
  pub termination_to : j.termination ≤ most_time
  pub request_to : j.request ≤ most_resource

pub job_ranges : (j : Job) → in_range (Record.J j) ≡ true → JobRanges j
unfolding in_range is_job_number is_cycles is_worth is_time is_request
job_ranges j e =
    let six = both_true _ (is_request j.request) e in
    let five = both_true _ (is_time j.termination) six.0 in
    let four = both_true _ (is_time j.critical) five.0 in
    let three = both_true _ (is_worth j.worth) four.0 in
    let two = both_true (is_job_number j.number) (is_cycles j.cycles) three.0 in
    let number = within_true 1 most_job_number j.number two.0 in
    record {
      number_from = number.0;
      number_to = number.1;
      cycles_to = (within_true 1 most_cycles j.cycles two.1).1;
      worth_to = (within_true 0 most_worth j.worth three.1).1;
      critical_to = (within_true 0 most_time j.critical four.1).1;
      termination_to = (within_true 0 most_time j.termination five.1).1;
      request_to = (within_true 0 most_resource j.request six.1).1;
    }

pub record HoldRanges (h : Hold) : Type 0 where
  pub resource_from : 1 ≤ h.resource
  pub resource_to : h.resource ≤ most_resource
  pub holder_to : h.holder ≤ most_job_number

pub hold_ranges : (h : Hold) → in_range (Record.H h) ≡ true → HoldRanges h
unfolding in_range is_resource is_job_number
hold_ranges h e =
    let both = both_true (is_resource h.resource) (is_job_number h.holder) e in
    let resource = within_true 1 most_resource h.resource both.0 in
    record { resource_from = resource.0; resource_to = resource.1; holder_to = (within_true 1 most_job_number h.holder both.1).1 }
