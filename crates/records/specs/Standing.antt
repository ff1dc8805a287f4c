-- The small state that the judgement of a record needs, and the records that it stands for.
use Rattle.std.specs.Prelude.{true, false, ◌+◌, length}
use Rattle.rules.specs.Lists.{last_or}
use Rattle.rules.specs.Refusals.{Before}
use Rattle.rules.specs.TableText.{no_hold, no_job, no_speed}
use Rattle.rules.specs.declared.Hold.{Hold}
use Rattle.rules.specs.declared.Job.{Job}
use Rattle.rules.specs.declared.Speed.{Speed}
use Rattle.records.specs.declared.Standing.{Standing}

-- the state of what stands before a line
abbrev pub standing_of : Before → Standing
standing_of b = record {
  begun = b.begun;
  speeds = length b.records.speeds;
  jobs = length b.records.jobs;
  holds = length b.records.holds;
  mhz = (last_or no_speed b.records.speeds).mhz;
  number = (last_or no_job b.records.jobs).number;
  resource = (last_or no_hold b.records.holds).resource;
}

-- before line 1
abbrev pub none_standing : Standing
none_standing = record { begun = false; speeds = 0; jobs = 0; holds = 0; mhz = 0; number = 0; resource = 0 }

-- after one record more
abbrev pub after_clock : Standing → Standing
after_clock s = record { begun = true; speeds = s.speeds; jobs = s.jobs; holds = s.holds; mhz = s.mhz; number = s.number; resource = s.resource }

abbrev pub after_speed : Standing → Speed → Standing
after_speed s f = record { begun = true; speeds = s.speeds + 1; jobs = s.jobs; holds = s.holds; mhz = f.mhz; number = s.number; resource = s.resource }

abbrev pub after_job : Standing → Job → Standing
after_job s j = record { begun = true; speeds = s.speeds; jobs = s.jobs + 1; holds = s.holds; mhz = s.mhz; number = j.number; resource = s.resource }

abbrev pub after_hold : Standing → Hold → Standing
after_hold s h = record { begun = true; speeds = s.speeds; jobs = s.jobs; holds = s.holds + 1; mhz = s.mhz; number = s.number; resource = h.resource }
