-- What is put into both buffers, and the numbers of the answer, are the rules': the plan's job numbers and then 0, a fate for
-- each job and then 0; for the panel the numbers of the turns' jobs and the rooms, each with 0 behind. Assumes nothing.
use mathlib.Core.List.{List, [], ◌∷◌, map}
use mathlib.Core.Path.{◌≡◌, refl, sym, ap, ◌∙◌}
use Prim.Native.Nat.{ℕ, suc, ◌≤◌, ◌<◌}
use native.Mathlib.Omega.{arith}
use lib.ListN.{get_or, length, length-map, take}
use lib.Seq.{length-take-le}
use Rattle.columns.proofs.Entries.{length_jobs_at}
use Rattle.columns.specs.Columns.{Column, jobs_at}
use Rattle.steps.proofs.Planned.{fates_alone}
use Rattle.plans.specs.Promises.{DecidedAs, RoomsNoted, leaves, tells}
use Rattle.plans.specs.declared.Decided.{Decided}
use Rattle.rules.specs.Plan.{course_of, fate_in, fates_of, leaves_plan, numbers_of, plan_from, plan_of}
use Rattle.rules.specs.Rooms.{TurnRoom, last_room, leaves_rooms, rooms_of}
use Rattle.rules.specs.TableText.{Records, no_job, padded}
use Rattle.rules.specs.declared.Decision.{Decision}
use Rattle.rules.specs.declared.Job.{Job}
use Rattle.rules.specs.declared.Panel.{Panel}
use Rattle.rules.specs.declared.Speed.{Speed}
use Rattle.std.specs.Prelude.{Ok}
use Rattle.trials.specs.Promises.{planned_places}
use Rattle.trials.specs.declared.Plan.{Plan}

-- the numbers at the places are those of the jobs there
numbers_at : (js : List Job) (number : List ℕ) → Column (λ j. j.number) js number → (ps : List ℕ)
    → map (λ p. get_or number p 0) ps ≡ numbers_of (jobs_at js ps)
unfolding numbers_of
numbers_at js number of [] = refl
numbers_at js number of (p ∷ ps) = rw (of p, numbers_at js number of ps)

-- a column's front part, as long as the jobs
front_of_column : (f : Job → ℕ) (js : List Job) (xs : List ℕ) → length js ≤ length xs
    → ((i : ℕ) → i < length js → get_or xs i 0 ≡ f (get_or js i no_job)) → take (length js) xs ≡ map f js
front_of_column f [] xs h e = refl
front_of_column f (j ∷ js) [] h e = absurd (omega arith)
front_of_column f (j ∷ js) (x ∷ xs) h e =
    rw (e 0 (omega arith), front_of_column f js xs (omega arith) (λ i l. e (suc i) (omega arith)))

pub fates_planned : (t : Records) → fates_of (plan_of t).fates ≡ map (fate_in t (course_of t)) t.jobs
unfolding plan_of plan_from fates_of
fates_planned t = fates_alone t (course_of t) t.jobs

-- an answer is its three parts
same-answer : (t : Records) (d : Decision) (order fates order' fates' : List ℕ) → d.count ≡ length (plan_of t).jobs
    → d.speed ≡ (plan_of t).speed.mhz → d.energy ≡ (plan_of t).energy
    → order' ≡ padded (length order) 0 (numbers_of (plan_of t).jobs)
    → fates' ≡ padded (length fates) 0 (fates_of (plan_of t).fates)
    → leaves (Ok d) order' fates' ≡ leaves_plan (plan_of t) order fates
unfolding leaves_plan
same-answer t d order fates order' fates' c m e o f = rw (c, m, e, o, f)

module _ {t : Records} (p : Plan) (by_job : List ℕ) (d : Decided) (number : List ℕ)
    (decided : DecidedAs t p by_job d)
    (of : Column (λ j. j.number) t.jobs number) (job-count : ℕ) (counted : job-count ≡ length t.jobs) where
  pub plan_counted : length (planned_places p) ≡ p.totals.count
  plan_counted = length-take-le p.totals.count p.places (omega (arith, decided.placed.whole, decided.placed.few))

  pub buffers_left : length t.jobs ≤ length by_job → (order fates : List ℕ) {order' fates' : List ℕ}
      → order' ≡ padded (length order) 0 (map (λ p. get_or number p 0) (planned_places p))
      → fates' ≡ padded (length fates) 0 (take job-count by_job)
      → leaves (Ok (record { count = p.totals.count; speed = d.speed.mhz; energy = d.energy })) order' fates'
      ≡ leaves_plan (plan_of t) order fates
  buffers_left there order fates {order' = order'} {fates' = fates'} o f =
      same-answer t _ order fates order' fates'
      (sym plan_counted ∙ sym (length_jobs_at t.jobs (planned_places p)) ∙ ap length decided.jobs)
      (ap (λ (s : Speed). s.mhz) decided.speed) decided.energy
      (o ∙ ap (padded (length order) 0) (numbers_at t.jobs number of (planned_places p) ∙ ap numbers_of decided.jobs))
      (f
      ∙ ap (padded (length fates) 0)
      (ap (λ n. take n by_job) counted
      ∙ front_of_column (fate_in t (course_of t)) t.jobs by_job there decided.fates
      ∙ sym (fates_planned t)))

-- the panel's answer, part by part
same-telling : (t : Records) (p : Panel) (turns rooms turns' rooms' : List ℕ) → p.turns ≡ length (rooms_of t)
    → p.room ≡ last_room t → turns' ≡ padded (length turns) 0 (map (λ (r : TurnRoom). r.job.number) (rooms_of t))
    → rooms' ≡ padded (length rooms) 0 (map (λ (r : TurnRoom). r.room) (rooms_of t))
    → tells (Ok p) turns' rooms' ≡ leaves_rooms t turns rooms
unfolding leaves_rooms
same-telling t p turns rooms turns' rooms' c l n r = rw (c, l, n, r)

-- the numbers of the rows' jobs
row-numbers : (rs : List TurnRoom) → numbers_of (map (λ (r : TurnRoom). r.job) rs) ≡ map (λ (r : TurnRoom). r.job.number) rs
unfolding numbers_of
row-numbers [] = refl
row-numbers (r ∷ rs) = ap {B = List ℕ} (λ ns. r.job.number ∷ ns) (row-numbers rs)

pub rooms_left : {t : Records} {count : ℕ} {order rooms : List ℕ} (number : List ℕ) → RoomsNoted t count order rooms
    → Column (λ j. j.number) t.jobs number → count ≤ length rooms → {room : ℕ} → room ≡ last_room t
    → (turns rooms₀ : List ℕ) {turns' rooms' : List ℕ} → length order ≡ length turns → length rooms ≡ length rooms₀
    → turns' ≡ padded (length order) 0 (map (λ p. get_or number p 0) (take count order))
    → rooms' ≡ padded (length rooms) 0 (take count rooms)
    → tells (Ok (record { turns = count; room = room })) turns' rooms' ≡ leaves_rooms t turns rooms₀
rooms_left {t} {count} {order} {rooms} number noted of few {room} last turns rooms₀ {turns' = turns'} {rooms' = rooms'} long whole n r =
    same-telling t _ turns rooms₀ turns' rooms'
    (sym (length-take-le count rooms few)
    ∙ ap length noted.row_rooms
    ∙ length-map (rooms_of t) (λ (r : TurnRoom). r.room))
    last
    (n
    ∙ ap (λ m. padded m 0 (map (λ p. get_or number p 0) (take count order))) long
    ∙ ap (padded (length turns) 0)
    (numbers_at t.jobs number of (take count order) ∙ ap numbers_of noted.row_jobs ∙ row-numbers (rooms_of t)))
    (r ∙ ap (λ m. padded m 0 (take count rooms)) whole ∙ ap (padded (length rooms₀) 0) noted.row_rooms)
