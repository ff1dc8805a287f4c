-- The fold over the items takes exactly the lines of valid records. The states it reaches are three, nothing read, the T
-- alone, valid records, and each record accepted leads from one of them to the next. Assumes nothing.
use mathlib.Core.Bool.{Bool, true, false, not, false≢true}
use mathlib.Core.List.{List, [], ◌∷◌, ◌++◌, map, append_assoc, append-nil}
use mathlib.Core.Logic.{◌↔◌}
use mathlib.Core.Path.{◌≡◌, refl, sym, ap, ◌∙◌}
use Prim.Native.Nat.{ℕ, ◌<◌}
use native.Mathlib.Omega.{arith}
use borrow.Author.Tests.{le-ltb, leb-false, lt-leb, lt-ltb, ltb-false, ltb-true, not-false}
use lib.ListN.{length}
use lib.Seq.{append_snoc}
use Rattle.laws.proofs.Elements.{each_at, each_more, empty_true, length_at, length_more, map_append, not_empty, rising_at, rising_more}
use Rattle.grammar.proofs.Ranges.{hold_ranges, job_ranges, speed_ranges}
use Rattle.laws.proofs.Tests.{both_true}
use Rattle.rules.specs.Lists.{Each, any, empty, none_left, no_element, one_element, ◌and◌}
use Rattle.rules.specs.Refusals.{Before, Item, accept, accept_up_to, accepted, added, bad, begun_with, critical_after, is_holder, may_stand, nothing, one, own_request, rises, take_from, taken, too_many_up_to, unknown_job, with_more}
use Rattle.rules.specs.TableText.{Record, Records, in_range, lined, most_jobs, most_speeds, no_hold, no_job, no_records, no_speed, with_clock, with_speeds}
use Rattle.rules.specs.Valid.{Valid}
use Rattle.rules.specs.declared.Refusal.{Refusal}
use Rattle.rules.specs.declared.Speed.{Speed}
use Rattle.rules.specs.declared.Job.{Job}
use Rattle.rules.specs.declared.Hold.{Hold}
use Rattle.grammar.specs.SoFar.{holds_so_far, jobs_so_far, speeds_so_far}
use Rattle.grammar.proofs.Stopped.{Faultless, Reached, accepted_exactly, after, at_once, taken_where_reached}

-- The states that can be reached, with the records accepted on the way: nothing read, the T alone, valid records.
pub data Reachable : Before → List Record → Type 0 where
  nothing_read : Reachable nothing []
  clock_read : {clock budget : ℕ} → in_range (Record.T clock budget) ≡ true
      → Reachable (with_more nothing (Record.T clock budget)) (Record.T clock budget ∷ [])
  valid : {r : Records} → Valid r → Reachable (begun_with r) (lined r)

-- a record that may stand behind a table's records comes last of their lines
lined_speed : (r : Records) (f : Speed) → r.jobs ≡ [] → r.holds ≡ [] → lined (added r (Record.F f)) ≡ lined r ++ Record.F f ∷ []
unfolding lined added
lined_speed r f no-job no-hold = simp (no-job, no-hold, append_assoc, append-nil, map_append)

lined_job : (r : Records) (j : Job) → r.holds ≡ [] → lined (added r (Record.J j)) ≡ lined r ++ Record.J j ∷ []
unfolding lined added
lined_job r j no-hold = simp (no-hold, append_assoc, append-nil, map_append)

lined_hold : (r : Records) (h : Hold) → lined (added r (Record.H h)) ≡ lined r ++ Record.H h ∷ []
unfolding lined added
lined_hold r h = simp (append_assoc, map_append)

-- where no job is, no hold's holder is known
no_hold_without_job : (js : List Job) (hs : List Hold) → js ≡ [] → Each (λ h. any (is_holder h) js ≡ true) hs → hs ≡ []
no_hold_without_job js [] e ps = refl
no_hold_without_job js (h ∷ hs) e (p and ps) =
    absurd (false≢true (ap (λ js. any (is_holder h) js) (sym e) ∙ p))

module _ {r : Records} (v : Valid r) where
  no_job_yet : (f : Speed) → Faultless (begun_with r) (Record.F f) → r.jobs ≡ []
  unfolding may_stand
  no_job_yet f ok = empty_true r.jobs ok.may-stand

  no_hold_yet : (f : Speed) → Faultless (begun_with r) (Record.F f) → r.holds ≡ []
  no_hold_yet f ok = no_hold_without_job r.jobs r.holds (no_job_yet f ok) v.holders_known

  no_hold_before_job : (j : Job) → Faultless (begun_with r) (Record.J j) → r.holds ≡ []
  unfolding may_stand
  no_hold_before_job j ok = empty_true r.holds (both_true (not (empty r.speeds)) (empty r.holds) ok.may-stand).1

  valid_speed : (f : Speed) → Faultless (begun_with r) (Record.F f) → Valid (added r (Record.F f))
  unfolding added rises too_many_up_to
  valid_speed f ok = record {
    clock_range = v.clock_range;
    speed_ranges = each_more v.speed_ranges ok.in-range;
    job_ranges = v.job_ranges;
    hold_ranges = v.hold_ranges;
    some_speed = rw (length_more r.speeds f) (omega arith);
    few_speeds = rw (length_more r.speeds f) (omega (arith, leb-false most_speeds (length r.speeds) ok.few));
    speeds_rise = rising_more no_speed v.speeds_rise (ltb-true _ _ ok.rising);
    few_jobs = v.few_jobs;
    jobs_rise = v.jobs_rise;
    holds_rise = v.holds_rise;
    critical_first = v.critical_first;
    holders_known = v.holders_known;
    none_asks_own = v.none_asks_own;
  }

  valid_job : (j : Job) → Faultless (begun_with r) (Record.J j) → Valid (added r (Record.J j))
  unfolding added rises too_many_up_to critical_after
  valid_job j ok =
      let no-hold = no_hold_before_job j ok in
      record {
        clock_range = v.clock_range;
        speed_ranges = v.speed_ranges;
        job_ranges = each_more v.job_ranges ok.in-range;
        hold_ranges = v.hold_ranges;
        some_speed = v.some_speed;
        few_speeds = v.few_speeds;
        speeds_rise = v.speeds_rise;
        few_jobs = rw (length_more r.jobs j) (omega (arith, leb-false most_jobs (length r.jobs) ok.few));
        jobs_rise = rising_more no_job v.jobs_rise (ltb-true _ _ ok.rising);
        holds_rise = v.holds_rise;
        critical_first = each_more v.critical_first (ltb-false _ _ ok.critical_first);
        holders_known = rw no-hold none_left;
        none_asks_own = rw no-hold none_left;
      }

  valid_hold : (h : Hold) → Faultless (begun_with r) (Record.H h) → Valid (added r (Record.H h))
  unfolding added rises unknown_job own_request
  valid_hold h ok = record {
    clock_range = v.clock_range;
    speed_ranges = v.speed_ranges;
    job_ranges = v.job_ranges;
    hold_ranges = each_more v.hold_ranges ok.in-range;
    some_speed = v.some_speed;
    few_speeds = v.few_speeds;
    speeds_rise = v.speeds_rise;
    few_jobs = v.few_jobs;
    jobs_rise = v.jobs_rise;
    holds_rise = rising_more no_hold v.holds_rise (ltb-true _ _ ok.rising);
    critical_first = v.critical_first;
    holders_known = each_more v.holders_known (not-false _ ok.holder_known);
    none_asks_own = each_more v.none_asks_own ok.no_own_request;
  }

-- the first speed behind the T
valid_first_speed : {clock budget : ℕ} (f : Speed) → in_range (Record.T clock budget) ≡ true → in_range (Record.F f) ≡ true
    → Valid (with_speeds (with_clock no_records clock budget) (f ∷ []))
valid_first_speed f clock_in speed_in = record {
  clock_range = clock_in;
  speed_ranges = speed_in and none_left;
  job_ranges = none_left;
  hold_ranges = none_left;
  some_speed = omega arith;
  few_speeds = omega arith;
  speeds_rise = one_element;
  few_jobs = omega arith;
  jobs_rise = no_element;
  holds_rise = no_element;
  critical_first = none_left;
  holders_known = none_left;
  none_asks_own = none_left;
}

step : {b : Before} {rs : List Record} → Reachable b rs → (r : Record) → Faultless b r → Reachable (with_more b r) (rs ++ r ∷ [])
unfolding added nothing may_stand lined
step nothing_read (Record.T clock budget) ok = clock_read ok.in-range
step nothing_read (Record.F f) ok = absurd (false≢true ok.may-stand)
step nothing_read (Record.J j) ok = absurd (false≢true ok.may-stand)
step nothing_read (Record.H h) ok = absurd (false≢true ok.may-stand)
step (clock_read c) (Record.T clock budget) ok = absurd (false≢true ok.may-stand)
step (clock_read c) (Record.F f) ok = valid (valid_first_speed f c ok.in-range)
step (clock_read c) (Record.J j) ok = absurd (false≢true ok.may-stand)
step (clock_read c) (Record.H h) ok = absurd (false≢true ok.may-stand)
step (valid v) (Record.T clock budget) ok = absurd (false≢true ok.may-stand)
step (valid {r} v) (Record.F f) ok =
    rw (lined_speed r f (no_job_yet v f ok) (no_hold_yet v f ok)) at (valid (valid_speed v f ok))
step (valid {r} v) (Record.J j) ok = rw (lined_job r j (no_hold_before_job v j ok)) at (valid (valid_job v j ok))
step (valid {r} v) (Record.H h) ok = rw (lined_hold r h) at (valid (valid_hold v h ok))

bad_refused : (b next : Before) (why : Refusal) → accept b (bad why) ≡ accepted next → ⊥
unfolding accept_up_to
bad_refused b next why e = let z : ◌≡◌ {A = ℕ} 0 1 = cc in omega arith

-- Whatever is reached stands so, and what was accepted on the way are records.
pub reached_standing : {b last : Before} {items : List Item} {done : List Record} → Reachable b done → Reached b items last
    → (rs : List Record) × (items ≡ map one rs) × Reachable last (done ++ rs)
reached_standing {done} s at_once = ([], refl, rw append-nil s)
reached_standing {done} s (after {b} {next} {i = one r} e more) =
    let ok = (accepted_exactly b r next).0 e in
    let (rs, same, stands) = reached_standing (rw (← ok.1) at (step s r ok.0)) more in
    (r ∷ rs, ap (λ is. one r ∷ is) same, rw append_snoc at stands)
reached_standing {done} s (after {b} {next} {i = bad why} e more) = absurd (bad_refused b next why e)

standing_valid : {b : Before} {rs : List Record} → Reachable b rs → empty b.records.speeds ≡ false
    → Valid b.records × (rs ≡ lined b.records)
unfolding nothing added
standing_valid nothing_read e = absurd (false≢true (sym e))
standing_valid (clock_read c) e = absurd (false≢true (sym e))
standing_valid (valid v) e = (v, refl)

-- and the lines of valid records are accepted, letter by letter: each record stands in its place among its letter's
reached_more : {b c d : Before} (rs ss : List Record) → Reached b (map one rs) c → Reached c (map one ss) d
    → Reached b (map one (rs ++ ss)) d
reached_more [] ss at_once more = more
reached_more (r ∷ rs) ss (after e reached) more = after e (reached_more rs ss reached more)

reached_letter : {A : Type 0} (letter : A → Record) (so_far : List A → Records) (all : List A)
    → ((front : List A) (x : A) (rest : List A) → all ≡ front ++ x ∷ rest
    → accept (begun_with (so_far front)) (one (letter x)) ≡ accepted (begun_with (so_far (front ++ x ∷ []))))
    → (front rest : List A) → all ≡ front ++ rest
    → Reached (begun_with (so_far front)) (map one (map letter rest)) (begun_with (so_far all))
reached_letter letter so_far all accepts front [] e = rw (e, append-nil front) at_once
reached_letter letter so_far all accepts front (x ∷ rest) e =
    after (accepts front x rest e) (reached_letter letter so_far all accepts (front ++ x ∷ []) rest (e ∙ sym (append_snoc front x rest)))

any_not_empty : {A : Type 0} (p : A → Bool) (xs : List A) → any p xs ≡ true → not (empty xs) ≡ true
any_not_empty p [] e = e
any_not_empty p (x ∷ xs) e = refl

module _ (r : Records) (v : Valid r) where
  clock_faultless : Faultless nothing (Record.T r.clock r.budget)
  unfolding nothing may_stand rises too_many_up_to critical_after unknown_job own_request
  clock_faultless = record {
    in-range = v.clock_range;
    may-stand = refl;
    rising = refl;
    few = refl;
    critical_first = refl;
    holder_known = refl;
    no_own_request = refl;
  }

  speed_faultless : (front : List Speed) (f : Speed) (rest : List Speed) → r.speeds ≡ front ++ f ∷ rest
      → Faultless (begun_with (speeds_so_far r front)) (Record.F f)
  unfolding may_stand rises too_many_up_to critical_after unknown_job own_request
  speed_faultless front f rest e =
      let ranges : in_range (Record.F f) ≡ true = each_at front f rest (rw e at v.speed_ranges) in
      let above : 0 < f.mhz = (speed_ranges f ranges).mhz_from in
      let place : length front < length r.speeds = rw e (length_at front f rest) in
      record {
        in-range = ranges;
        may-stand = refl;
        rising = lt-ltb _ _ (rising_at no_speed front f rest above (rw e at v.speeds_rise));
        few = lt-leb most_speeds (length front) (omega arith);
        critical_first = refl;
        holder_known = refl;
        no_own_request = refl;
      }

  job_faultless : (front : List Job) (j : Job) (rest : List Job) → r.jobs ≡ front ++ j ∷ rest
      → Faultless (begun_with (jobs_so_far r front)) (Record.J j)
  unfolding may_stand rises too_many_up_to critical_after unknown_job own_request
  job_faultless front j rest e =
      let ranges : in_range (Record.J j) ≡ true = each_at front j rest (rw e at v.job_ranges) in
      let above : 0 < j.number = (job_ranges j ranges).number_from in
      let place : length front < length r.jobs = rw e (length_at front j rest) in
      record {
        in-range = ranges;
        may-stand = rw (not_empty r.speeds v.some_speed);
        rising = lt-ltb _ _ (rising_at no_job front j rest above (rw e at v.jobs_rise));
        few = lt-leb most_jobs (length front) (omega arith);
        critical_first = le-ltb _ _ (each_at front j rest (rw e at v.critical_first));
        holder_known = refl;
        no_own_request = refl;
      }

  hold_faultless : (front : List Hold) (h : Hold) (rest : List Hold) → r.holds ≡ front ++ h ∷ rest
      → Faultless (begun_with (holds_so_far r front)) (Record.H h)
  unfolding may_stand rises too_many_up_to critical_after unknown_job own_request
  hold_faultless front h rest e =
      let ranges : in_range (Record.H h) ≡ true = each_at front h rest (rw e at v.hold_ranges) in
      let above : 0 < h.resource = (hold_ranges h ranges).resource_from in
      let known : any (is_holder h) r.jobs ≡ true = each_at front h rest (rw e at v.holders_known) in
      record {
        in-range = ranges;
        may-stand = any_not_empty (is_holder h) r.jobs known;
        rising = lt-ltb _ _ (rising_at no_hold front h rest above (rw e at v.holds_rise));
        few = refl;
        critical_first = refl;
        holder_known = rw known;
        no_own_request = each_at front h rest (rw e at v.none_asks_own);
      }

  pub valid_reached : Reached nothing (map one (lined r)) (begun_with r)
  unfolding lined added nothing
  valid_reached =
      after ((accepted_exactly nothing _ _).1 (clock_faultless, refl))
      (reached_more (map Record.F r.speeds) (map Record.J r.jobs ++ map Record.H r.holds)
      (reached_letter Record.F (speeds_so_far r) r.speeds
      (λ front f rest e. (accepted_exactly _ _ _).1 (speed_faultless front f rest e, refl)) [] r.speeds refl)
      (reached_more (map Record.J r.jobs) (map Record.H r.holds)
      (reached_letter Record.J (jobs_so_far r) r.jobs
      (λ front j rest e. (accepted_exactly _ _ _).1 (job_faultless front j rest e, refl)) [] r.jobs refl)
      (reached_letter Record.H (holds_so_far r) r.holds
      (λ front h rest e. (accepted_exactly _ _ _).1 (hold_faultless front h rest e, refl)) [] r.holds refl)))

-- What is taken is exactly the lines of valid records.
pub taken_exactly : (line : ℕ) (items : List Item) (r : Records)
    → (take_from line nothing items ≡ taken r) ↔ (Valid r × (items ≡ map one (lined r)))
taken_exactly line items r = (
  λ e.
      let (last, reached, some_speed, same) = (taken_where_reached line nothing items r).0 e in
      let (rs, these, stands) = reached_standing nothing_read reached in
      let (v, lines) = standing_valid stands some_speed in
      (rw same at v, these ∙ ap (λ rs. map one rs) lines ∙ rw same),
  λ e.
      (taken_where_reached line nothing items r).1
      (begun_with r, rw e.1 (valid_reached r e.0), not_empty r.speeds e.0.some_speed, refl),
)
