-- What is noted of the course's turns, and the fates that it leaves, are the rows of the rooms: a row's job is one that steps 1
-- and 2 leave, so that at its place stands the fate of its own turn. Assumes nothing.
use mathlib.Core.List.{List, [], ◌∷◌, map}
use mathlib.Core.Path.{◌≡◌, refl, sym, ap, ◌∙◌}
use Prim.Native.Nat.{ℕ, zero, suc, ◌≤◌, ◌<◌}
use native.Mathlib.Omega.{arith}
use lib.ListN.{get_or-map, get_or, length, length-map, take}
use lib.Seq.{get_or-take, length-take-le}
use Rattle.columns.specs.Columns.{Column}
use Rattle.laws.proofs.Elements.{each_at_place, each_map, each_too}
use Rattle.laws.proofs.Lookups.{each_both, each_unmap}
use Rattle.plans.specs.Courses.{FatesByTurn, fate_by_turn, job_at}
use Rattle.plans.specs.Promises.{RoomsNoted}
use Rattle.roomlines.specs.Promises.{RowsBy, TurnPlaces, no_turn}
use Rattle.rules.specs.Lists.{Each}
use Rattle.rules.specs.Plan.{Turn, course_of, left, own_fate}
use Rattle.rules.specs.Rooms.{TurnRoom, rooms_of}
use Rattle.rules.specs.TableText.{Records, most_jobs, no_job}
use Rattle.rules.specs.Valid.{Valid}
use Rattle.rules.specs.declared.Job.{Job}
use Rattle.steps.proofs.Jobs.{Listed, left_on_time, left_stays, listed_has}
use Rattle.steps.proofs.Rooms.{fate_of_own_turn, one_row_each_turn}
use Rattle.steps.proofs.Turns.{turns_of_left}

-- a job that stands in a list does so whatever stands beyond it
whatever_beyond : (js : List Job) (k : ℕ) (beyond beyond' : Job) → k < length js → get_or js k beyond ≡ get_or js k beyond'
whatever_beyond [] k beyond beyond' h = absurd (omega arith)
whatever_beyond (j ∷ js) zero beyond beyond' h = refl
whatever_beyond (j ∷ js) (suc k) beyond beyond' h = whatever_beyond js k beyond beyond' (omega arith)

module _ (t : Records) (v : Valid t) where
  -- each row is of a job left
  pub rows_of_left : Each (λ (r : TurnRoom). Listed (left t) r.job) (rooms_of t)
  rows_of_left =
      each_unmap (λ (r : TurnRoom). r.job) (rooms_of t)
      (rw (one_row_each_turn t) (each_map (λ (i : Turn). i.job) (each_too (λ i o. o.listed) (turns_of_left t v))))

  -- neither late nor taken out of a ring, it has the fate of its own turn
  left_by_turn : (j : Job) → Listed (left t) j → fate_by_turn t (course_of t) j ≡ own_fate j (course_of t)
  unfolding fate_by_turn
  left_by_turn j l = rw (listed_has (left_on_time t) l) (rw (listed_has (left_stays t) l))

  fates_of_rows : Each (λ (r : TurnRoom). fate_by_turn t (course_of t) r.job ≡ r.fate) (rooms_of t)
  fates_of_rows = each_both (λ r l e. left_by_turn r.job l ∙ sym e) rows_of_left (fate_of_own_turn t v)

  module _ (count : ℕ) (order rooms number fates : List ℕ) (noted : RoomsNoted t count order rooms)
      (of : Column (λ j. j.number) t.jobs number) (by_turn : FatesByTurn t (course_of t) fates)
      (places : count ≤ length order) where
    -- the places of the jobs of these turns
    abbrev turned : List ℕ
    turned = take count order

    pub all-turned : length turned ≡ count
    all-turned = length-take-le count order places

    pub rows_counted : length (rooms_of t) ≡ length turned
    rows_counted =
        sym (length-map (rooms_of t) (λ (r : TurnRoom). r.job))
        ∙ ap length (sym noted.row_jobs)
        ∙ length-map turned (λ p. get_or t.jobs p no_job)

    pub turn_places : count ≤ most_jobs → TurnPlaces turned
    turn_places few = record { few = omega (arith, all-turned); below = λ k h. omega (arith, noted.below k h, v.few_jobs) }

    module _ (k : ℕ) (h : k < length (rooms_of t)) where
      within : k < length turned
      within = omega (arith, rows_counted)

      job_noted : job_at t (get_or turned k 0) ≡ (get_or (rooms_of t) k no_turn).job
      job_noted =
          sym (get_or-map (job_at t) turned k 0)
          ∙ ap (λ js. get_or js k (job_at t 0)) noted.row_jobs
          ∙ whatever_beyond (map (λ (r : TurnRoom). r.job) (rooms_of t)) k (job_at t 0) no_job
          (omega (arith, length-map (rooms_of t) (λ (r : TurnRoom). r.job)))
          ∙ get_or-map (λ (r : TurnRoom). r.job) (rooms_of t) k no_turn

    pub rows_by : RowsBy (rooms_of t) turned rooms number fates
    rows_by = record {
      job_numbers = λ k h. of (get_or turned k 0) ∙ ap (λ (j : Job). j.number) (job_noted k h);
      rooms_left = λ k h.
          sym (get_or-take count rooms k 0 (omega (arith, within k h, all-turned)))
          ∙ ap (λ ns. get_or ns k 0) noted.row_rooms
          ∙ get_or-map (λ (r : TurnRoom). r.room) (rooms_of t) k no_turn;
      own-fates = λ k h.
          by_turn (get_or turned k 0) (noted.below k (within k h))
          ∙ ap (fate_by_turn t (course_of t)) (job_noted k h)
          ∙ each_at_place {P = λ (r : TurnRoom). fate_by_turn t (course_of t) r.job ≡ r.fate} no_turn fates_of_rows k h;
    }
