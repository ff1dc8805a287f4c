-- The course of turns by places: the turns come in an order of places, and the plan's places and the fates stand in columns.
use Rattle.std.specs.Prelude.{cond, List, map, ◌≡◌, ℕ, ◌<◌, get_or, length, take}
use Rattle.rules.specs.Plan.{Course, Turn, course, fate_deadlock, fate_late, late_in, leaves_its_ring, no_turn_yet, own_fate, turn_of}
use Rattle.rules.specs.Rooms.{room_left}
use Rattle.rules.specs.TableText.{Records, no_job}
use Rattle.rules.specs.declared.Job.{Job}

-- the job at a place
abbrev pub job_at : Records → ℕ → Job
job_at t p = get_or t.jobs p no_job

-- its turn
abbrev pub turn_at : Records → ℕ → Turn
turn_at t p = turn_of t (job_at t p)

-- the course of the first n turns of an order of places
abbrev pub course_by : Records → List ℕ → ℕ → Course
course_by t order n = course t (map (turn_at t) (take n order)) no_turn_yet

-- the room after them
abbrev pub room_by : Records → List ℕ → ℕ → ℕ
room_by t order n = room_left t (course_by t order n).plan

-- the fate of step 1 or 2, or that of the job's own turn, or 0 where it had none
unfoldable pub fate_by_turn : Records → Course → Job → ℕ
fate_by_turn t c j = cond (late_in t j) fate_late (cond (leaves_its_ring t j) fate_deadlock (own_fate j c))

-- at the place of each job such a fate
abbrev pub FatesByTurn : Records → Course → List ℕ → Type 0
FatesByTurn t c fates = (i : ℕ) → i < length t.jobs → get_or fates i 0 ≡ fate_by_turn t c (job_at t i)
