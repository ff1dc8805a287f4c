-- The turns as they are noted: a number stored at a turn's place is there, and those of earlier turns stay. In the order of turns
-- the places noted are those of the rows' jobs, and the rooms noted are the rows'. Assumes nothing.
use mathlib.Core.List.{List, [], ◌∷◌, map}
use mathlib.Core.Path.{◌≡◌, refl, sym, ap, ◌∙◌}
use Prim.Native.Nat.{ℕ, zero, suc, ◌+◌, ◌≤◌, ◌<◌}
use native.Mathlib.Omega.{arith}
use borrow.Author.Tests.{eqb-false, eqb-true, ltb-false, ltb-true}
use lib.Dec.{eqb, ltb}
use lib.ListN.{get_or, length, length-map, length-set, set, take}
use lib.Seq.{ext_get_or, get_or-set_other, get_or-set_same, get_or-take, length-take-le}
use Rattle.columns.specs.Columns.{jobs_at}
use Rattle.columns.specs.declared.Terms.{Terms}
use Rattle.laws.proofs.Choices.{split}
use Rattle.plans.specs.Courses.{job_at, room_by, turn_at}
use Rattle.plans.specs.Promises.{RoomsNoted, TurnNoted, TurnsNoted, TurnsOf}
use Rattle.rules.specs.Plan.{Turn, course, no_turn_yet, turn_of, turns}
use Rattle.rules.specs.Rooms.{TurnRoom, room_left, rooms_of}
use Rattle.rules.specs.TableText.{Records}
use Rattle.rules.specs.declared.Job.{Job}
use Rattle.steps.proofs.Rooms.{one_row_each_turn, room_after_turn}
use Rattle.trials.specs.Promises.{TurnColumns}

-- at a place of its own the number stored, at every other what was there
stored : (xs : List ℕ) (i n k : ℕ) {m : ℕ} → k < length xs → (k ≡ i → n ≡ m) → ((k ≡ i → ⊥) → get_or xs k 0 ≡ m)
    → get_or (set xs i n) k 0 ≡ m
stored xs i n k h here there =
    split (eqb k i)
    (λ g.
    let e = eqb-true k i g in
    ap (λ p. get_or (set xs i n) p 0) e ∙ get_or-set_same xs i n 0 (omega (arith, h, e)) ∙ here e)
    (λ g. let d = eqb-false k i g in get_or-set_other xs i k n 0 d ∙ there d)

module _ {in_order over : List ℕ} {c : TurnColumns} {so_far : List ℕ} {terms : Terms} where
  pub nothing_noted : (places rooms : List ℕ) → TurnsNoted 0 in_order over c so_far terms places rooms places rooms
  nothing_noted places rooms = record {
    order_whole = refl;
    rooms_whole = refl;
    place_noted = λ k h l. absurd (omega arith);
    room_noted = λ t of k h l m. absurd (omega arith);
  }

  module _ (i room : ℕ) {places rooms places' rooms' places'' rooms'' : List ℕ}
      (told : (t : Records) → TurnsOf t in_order over c so_far terms → room ≡ room_by t in_order (i + 1))
      (noted : TurnsNoted i in_order over c so_far terms places rooms places' rooms')
      (turn : TurnNoted i (get_or in_order i 0) room places' rooms' places'' rooms'') where
    rooms_kept : length rooms'' ≡ length rooms'
    rooms_kept =
        split (ltb i (length places'))
        (λ g. ap length (turn.room_stored (ltb-true i (length places') g)) ∙ length-set rooms' i room)
        (λ g. ap length (turn.else_kept (ltb-false i (length places') g)))

    room_there : (t : Records) → TurnsOf t in_order over c so_far terms → (k : ℕ) → k < i + 1 → k < length places → k < length rooms
        → get_or rooms'' k 0 ≡ room_by t in_order (k + 1)
    room_there t of k h l m =
        split (ltb i (length places'))
        (λ g.
        ap (λ xs. get_or xs k 0) (turn.room_stored (ltb-true i (length places') g))
        ∙ stored rooms' i room k (omega (arith, noted.rooms_whole))
        (λ e. told t of ∙ ap (λ n. room_by t in_order (n + 1)) (sym e)) (λ d. noted.room_noted t of k (omega (arith, d)) l m))
        (λ g.
        let beyond = ltb-false i (length places') g in
        ap (λ xs. get_or xs k 0) (turn.else_kept beyond)
        ∙ noted.room_noted t of k (omega (arith, beyond, noted.order_whole)) l m)

    pub one_more_noted : TurnsNoted (i + 1) in_order over c so_far terms places rooms places'' rooms''
    one_more_noted = record {
      order_whole = ap length turn.place_stored ∙ length-set places' i (get_or in_order i 0) ∙ noted.order_whole;
      rooms_whole = rooms_kept ∙ noted.rooms_whole;
      place_noted = λ k h l.
          ap (λ xs. get_or xs k 0) turn.place_stored
          ∙ stored places' i (get_or in_order i 0) k (omega (arith, noted.order_whole))
          (λ e. ap (λ n. get_or in_order n 0) (sym e)) (λ d. noted.place_noted k (omega (arith, d)) l);
      room_noted = room_there;
    }

  module _ {t : Records} (of : TurnsOf t in_order over c so_far terms) {places rooms places' rooms' : List ℕ}
      (noted : TurnsNoted (length in_order) in_order over c so_far terms places rooms places' rooms')
      (room_for_places : length in_order ≤ length places) (room_for_rooms : length in_order ≤ length rooms)
      (the_table's : map (turn_at t) in_order ≡ turns t) where
    abbrev count : ℕ
    count = length in_order

    same_places : take count places' ≡ in_order
    same_places =
        let long = length-take-le count places' (omega (arith, noted.order_whole)) in
        ext_get_or 0 (take count places') in_order long
        (λ k h.
        let l : k < count = omega (arith, long, h) in
        get_or-take count places' k 0 l ∙ noted.place_noted k l (omega arith))

    turns_counted : length (turns t) ≡ count
    turns_counted = ap length (sym the_table's) ∙ length-map in_order (turn_at t)

    rows_counted : length (map (λ (r : TurnRoom). r.room) (rooms_of t)) ≡ count
    rows_counted =
        length-map (rooms_of t) (λ (r : TurnRoom). r.room)
        ∙ sym (length-map (rooms_of t) (λ (r : TurnRoom). r.job))
        ∙ ap length (one_row_each_turn t)
        ∙ length-map (turns t) (λ (i : Turn). i.job)
        ∙ turns_counted

    jobs_of_turns : (ps : List ℕ) → jobs_at t.jobs ps ≡ map (λ (i : Turn). i.job) (map (turn_at t) ps)
    unfolding turn_of
    jobs_of_turns [] = refl
    jobs_of_turns (p ∷ ps) = ap {B = List Job} (λ js. job_at t p ∷ js) (jobs_of_turns ps)

    turns_taken : (k : ℕ) → map (turn_at t) (take (k + 1) in_order) ≡ take (k + 1) (turns t)
    turns_taken k = map_take (k + 1) in_order ∙ ap (take (k + 1)) the_table's
      where
        map_take : (n : ℕ) (ps : List ℕ) → map (turn_at t) (take n ps) ≡ take n (map (turn_at t) ps)
        map_take zero ps = refl
        map_take (suc n) [] = refl
        map_take (suc n) (p ∷ ps) = ap {B = List Turn} (λ is. turn_at t p ∷ is) (map_take n ps)

    same_rooms : take count rooms' ≡ map (λ (r : TurnRoom). r.room) (rooms_of t)
    same_rooms =
        let long = length-take-le count rooms' (omega (arith, noted.rooms_whole)) in
        ext_get_or 0 (take count rooms') (map (λ (r : TurnRoom). r.room) (rooms_of t)) (long ∙ sym rows_counted)
        (λ k h.
        let l : k < count = omega (arith, long, h) in
        get_or-take count rooms' k 0 l
        ∙ noted.room_noted t of k l (omega arith) (omega arith)
        ∙ ap (λ is. room_left t (course t is no_turn_yet).plan) (turns_taken k)
        ∙ sym (room_after_turn t k (omega (arith, turns_counted))))

    pub rooms_noted : RoomsNoted t count places' rooms'
    rooms_noted = record {
      below = rw same_places of.of_jobs;
      row_jobs =
          ap (jobs_at t.jobs) same_places
          ∙ jobs_of_turns in_order
          ∙ ap (map (λ (i : Turn). i.job)) the_table's
          ∙ sym (one_row_each_turn t);
      row_rooms = same_rooms;
    }
