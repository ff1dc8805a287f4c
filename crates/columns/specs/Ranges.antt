-- Columns and terms in the ranges of document 01's "The table text": no sum or product that the steps reckon of them wraps.
use Rattle.std.specs.Prelude.{List, ℕ, ◌≤◌}
use Rattle.columns.specs.Columns.{AtMost, Columns}
use Rattle.columns.specs.declared.Terms.{Terms}
use Rattle.rules.specs.TableText.{most_cost, most_cycles, most_jobs, most_mhz, most_job_number, most_resource, most_time, most_worth}

-- each column in the range of its field; beyond the jobs stands 0
pub record ColumnsInRange (c : Columns) : Type 0 where
  pub number : AtMost most_job_number c.number
  pub cycles : AtMost most_cycles c.cycles
  pub worth : AtMost most_worth c.worth
  pub critical : AtMost most_time c.critical
  pub termination : AtMost most_time c.termination
  pub request : AtMost most_resource c.request

-- the columns by which it is told whether jobs end in time
pub record RunsInRange (cycles termination : List ℕ) : Type 0 where
  pub cycles_small : AtMost most_cycles cycles
  pub termination_small : AtMost most_time termination

-- the clock, the top speed with its cost, and how many jobs there are
pub record TermsInRange (terms : Terms) : Type 0 where
  pub clock : terms.clock ≤ most_time
  pub mhz : terms.mhz ≤ most_mhz
  pub cost : terms.cost ≤ most_cost
  pub job-count : terms.job_count ≤ most_jobs
