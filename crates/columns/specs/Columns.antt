-- How the code's columns, places and keys stand for the rules' lists: a job is known by its place in the table, and
-- each of its fields stands at that place of the field's column.
use Rattle.std.specs.Prelude.{List, map, ◌≡◌, ℕ, ◌≤◌, ◌<◌, get_or, length, replicate, set}
pub use Rattle.columns.specs.declared.Columns.{Columns}
use Rattle.columns.specs.declared.Terms.{Terms}
use Rattle.rules.specs.Plan.{Entry, top_of}
use Rattle.rules.specs.TableText.{Records, most_jobs, no_job}
use Rattle.rules.specs.declared.Job.{Job}

-- at each place the field of the job there, and 0 beyond the jobs
abbrev pub Column : (Job → ℕ) → List Job → List ℕ → Type 0
Column f js c = (i : ℕ) → get_or c i 0 ≡ f (get_or js i no_job)

-- columns of zeros
abbrev pub no_jobs : Columns
no_jobs = record {
  number = replicate most_jobs 0;
  cycles = replicate most_jobs 0;
  worth = replicate most_jobs 0;
  critical = replicate most_jobs 0;
  termination = replicate most_jobs 0;
  request = replicate most_jobs 0;
}

-- a job's fields at a place
abbrev pub with_job : Columns → ℕ → Job → Columns
with_job c place j = record {
  number = set c.number place j.number;
  cycles = set c.cycles place j.cycles;
  worth = set c.worth place j.worth;
  critical = set c.critical place j.critical;
  termination = set c.termination place j.termination;
  request = set c.request place j.request;
}

-- a column for each field of the jobs
pub record ColumnsOf (js : List Job) (c : Columns) : Type 0 where
  pub number : Column (λ j. j.number) js c.number
  pub cycles : Column (λ j. j.cycles) js c.cycles
  pub worth : Column (λ j. j.worth) js c.worth
  pub critical : Column (λ j. j.critical) js c.critical
  pub termination : Column (λ j. j.termination) js c.termination
  pub request : Column (λ j. j.request) js c.request

-- the columns by which it is told whether jobs end in time are those of the jobs
pub record RunsOf (js : List Job) (cycles termination : List ℕ) : Type 0 where
  pub cycles-of : Column (λ j. j.cycles) js cycles
  pub termination_of : Column (λ j. j.termination) js termination

-- the T line, "the top speed", and how many jobs there are
pub record TermsOf (t : Records) (terms : Terms) : Type 0 where
  pub clock : terms.clock ≡ t.clock
  pub budget : terms.budget ≡ t.budget
  pub mhz : terms.mhz ≡ (top_of t).mhz
  pub cost : terms.cost ≡ (top_of t).cost
  pub job-count : terms.job_count ≡ length t.jobs

-- the jobs at these places
abbrev pub jobs_at : List Job → List ℕ → List Job
jobs_at js ps = map (λ p. get_or js p no_job) ps

-- the job at a place, with the key that stands at that place
abbrev pub entry_at : List Job → List ℕ → ℕ → Entry
entry_at js keys p = record { job = get_or js p no_job; key = get_or keys p 0 }

-- the entries that places stand for, each job with its own key
abbrev pub entries_in : List Job → List ℕ → List ℕ → List Entry
entries_in js keys ps = map (entry_at js keys) ps

-- each element is below n
abbrev pub AllBelow : ℕ → List ℕ → Type 0
AllBelow n xs = (i : ℕ) → i < length xs → get_or xs i 0 < n

-- each element is at most b
abbrev pub AtMost : ℕ → List ℕ → Type 0
AtMost b xs = (i : ℕ) → get_or xs i 0 ≤ b
