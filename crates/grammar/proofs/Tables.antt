-- Short names for tables to compute with, and that a table which the reader takes from its own text is valid.
-- Assumes nothing.
use mathlib.Core.List.{List, [], ◌∷◌}
use mathlib.Core.Path.{◌≡◌}
use Prim.Native.Nat.{ℕ}
use Rattle.grammar.proofs.Trips.{read_exactly}
use Rattle.rules.specs.Refusals.{read, taken}
use Rattle.rules.specs.TableText.{Records, no_records, text_of, with_clock, with_holds, with_jobs, with_speeds}
use Rattle.rules.specs.Valid.{Valid}
use Rattle.rules.specs.declared.Hold.{Hold}
use Rattle.rules.specs.declared.Job.{Job}
use Rattle.rules.specs.declared.Speed.{Speed}

abbrev pub speed : ℕ → ℕ → Speed
speed mhz cost = record { mhz = mhz; cost = cost }

abbrev pub job : ℕ → ℕ → ℕ → ℕ → ℕ → ℕ → Job
job number cycles worth critical termination request =
    record {
      number = number;
      cycles = cycles;
      worth = worth;
      critical = critical;
      termination = termination;
      request = request;
    }

abbrev pub hold : ℕ → ℕ → Hold
hold resource holder = record { resource = resource; holder = holder }

abbrev pub table : ℕ → ℕ → List Speed → List Job → List Hold → Records
table clock budget speeds jobs holds = with_holds (with_jobs (with_speeds (with_clock no_records clock budget) speeds) jobs) holds

-- the two speeds of case S
abbrev pub two_speeds : List Speed
two_speeds = speed 500 700000 ∷ speed 1000 1000000 ∷ []

pub read_valid : (t : Records) → read (text_of t) ≡ taken t → Valid t
read_valid t e = ((read_exactly (text_of t) t).0 e).0
