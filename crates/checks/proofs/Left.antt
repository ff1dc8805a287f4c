-- What comes first of what is left of a table. The letters stand one behind the other, so that a letter comes first where
-- nothing is left of those before it; and of one letter there is left a record more, the first beyond the places, or
-- nothing. Assumes nothing.
use mathlib.Core.Bool.{Bool, true, false, cond}
use mathlib.Core.List.{List, [], ◌∷◌, ◌++◌, append-nil}
use mathlib.Core.Path.{◌≡◌, refl, sym, ◌∙◌}
use Prim.Native.Nat.{ℕ, ◌+◌, ◌≤◌, ◌<◌}
use native.Mathlib.Numerals.{add-one}
use native.Mathlib.Omega.{arith}
use borrow.Author.Tests.{eq-eqb, le-ltb, lt-ltb, ltb-false, ltb-true, ne_eqb}
use lib.Dec.{ltb}
use lib.ListN.{length}
use Rattle.lines.specs.Step.{after_parsed}
use Rattle.records.specs.declared.Standing.{Standing}
use Rattle.rules.specs.Refusals.{Item, bad, beyond, one}
use Rattle.rules.specs.TableText.{Record, most_holds, most_jobs, most_speeds}
use Rattle.rules.specs.declared.Refusal.{Refusal}
use Rattle.rules.specs.declared.Table.{Table}
use Rattle.text.specs.Lines.{parsed_of}
use Rattle.checks.specs.Left.{Comes, ComesNext, InPlace, Letter, Room, behind_clock, holds_in, jobs_in, left, letter_left, record_at, speeds_in}
use Rattle.std.specs.Prelude.{Some, Ok, Err}
use Rattle.checks.specs.declared.Spot.{Spot}
use Rattle.checks.proofs.Places.{none_left, record-at}

-- one letter, n of whose records stand, and the rest behind it
module _ {A : Type 0} (l : Letter A) (n : ℕ) (rest : List Item) where
  record_first : n < l.count → n < length l.all → letter_left l n ++ rest ≡ one (record_at l n) ∷ (letter_left l (n + 1) ++ rest)
  unfolding letter_left
  record_first h k = rw (record-at l.count l.all l.zeros n h k, add-one n)

  beyond_first : length l.all ≤ n → l.places < l.count → letter_left l n ++ rest ≡ bad l.why ∷ rest
  unfolding letter_left beyond
  beyond_first k h = rw (none_left l.count l.all n (omega arith), lt-ltb l.places l.count h)

  letter_done : l.count ≤ n → n ≤ l.places → letter_left l n ++ rest ≡ rest
  unfolding letter_left beyond
  letter_done k h = rw (none_left l.count l.all n (omega arith), le-ltb l.places l.count (omega arith))

  -- where it comes first, and there is more of it than stands: the record at the next place, or the first beyond the places
  pub letter_next : (t : Table) (s : Standing) (next : Spot) → ((n < l.places) × Comes t s (record_at l n) → ComesNext t s (Ok (Some next)))
      → (n < l.places → Room s (record_at l n)) → InPlace t s (record_at l n) → left t s ≡ letter_left l n ++ rest
      → left t (after_parsed s (parsed_of (record_at l n))) ≡ letter_left l (n + 1) ++ rest
      → length l.all ≡ l.places → n < l.count → ComesNext t s (cond (ltb n l.places) (Ok (Some next)) (Err l.why))
  letter_next t s next stands room in_place here behind whole h = go (ltb n l.places) refl
    where
      go : (b : Bool) → ltb n l.places ≡ b → ComesNext t s (cond b (Ok (Some next)) (Err l.why))
      go true e =
          let k = ltb-true n l.places e in
          stands (k, record { room = room k; in_place = in_place; first = here ∙ rw behind (record_first h (omega arith)) })
      go false e = let k = ltb-false n l.places e in (rest, here ∙ beyond_first (omega arith) (omega arith))

-- the T does not stand yet
pub clock_comes : (t : Table) (s : Standing) → s.begun ≡ false → Comes t s (Record.T t.clock t.budget)
unfolding left behind_clock
clock_comes t s e = record { room = e; in_place = tt; first = rw e }

-- all F, all J stand
abbrev pub SpeedsStand : Table → Standing → Type 0
SpeedsStand t s = (1 ≤ t.speed_count) × (t.speed_count ≤ s.speeds) × (s.speeds ≤ most_speeds)

abbrev pub JobsStand : Table → Standing → Type 0
JobsStand t s = SpeedsStand t s × (t.job_count ≤ s.jobs) × (s.jobs ≤ most_jobs)

-- what is left behind the F, behind the J
abbrev pub behind_jobs : Table → Standing → List Item
behind_jobs t s = letter_left (holds_in t) s.holds

abbrev pub behind_speeds : Table → Standing → List Item
behind_speeds t s = letter_left (jobs_in t) s.jobs ++ behind_jobs t s

module _ (t : Table) (s : Standing) (begun : s.begun ≡ true) where
  pub no_speed_first : t.speed_count ≡ 0 → left t s ≡ bad Refusal.Order ∷ behind_speeds t s
  unfolding left behind_clock
  no_speed_first e = rw (begun, eq-eqb t.speed_count 0 e)

  pub speeds_first : 1 ≤ t.speed_count → left t s ≡ letter_left (speeds_in t) s.speeds ++ behind_speeds t s
  unfolding left behind_clock
  speeds_first some_speed = rw (begun, ne_eqb t.speed_count 0 (λ z. omega arith))

  pub jobs_first : SpeedsStand t s → left t s ≡ behind_speeds t s
  jobs_first speeds = speeds_first speeds.0 ∙ letter_done (speeds_in t) s.speeds (behind_speeds t s) speeds.1 speeds.2

  pub holds_first : JobsStand t s → left t s ≡ behind_jobs t s ++ []
  holds_first jobs =
      jobs_first jobs.0
      ∙ letter_done (jobs_in t) s.jobs (behind_jobs t s) jobs.1 jobs.2
      ∙ sym (append-nil (behind_jobs t s))

  pub nothing_left : JobsStand t s → t.hold_count ≤ s.holds → s.holds ≤ most_holds → left t s ≡ []
  nothing_left jobs holds few_holds = holds_first jobs ∙ letter_done (holds_in t) s.holds [] holds few_holds
