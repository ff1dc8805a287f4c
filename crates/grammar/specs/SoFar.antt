-- A table's records as its lines come: the T with some of the F, all of these with some of the J, all of these with some of
-- the H.
use Rattle.std.specs.Prelude.{List}
use Rattle.rules.specs.TableText.{Records, no_records, with_clock, with_holds, with_jobs, with_speeds}
use Rattle.rules.specs.declared.Hold.{Hold}
use Rattle.rules.specs.declared.Job.{Job}
use Rattle.rules.specs.declared.Speed.{Speed}

abbrev pub speeds_so_far : Records → List Speed → Records
speeds_so_far r fs = with_speeds (with_clock no_records r.clock r.budget) fs

abbrev pub jobs_so_far : Records → List Job → Records
jobs_so_far r js = with_jobs (speeds_so_far r r.speeds) js

abbrev pub holds_so_far : Records → List Hold → Records
holds_so_far r hs = with_holds (jobs_so_far r r.jobs) hs
