-- A budget beside a table (document 02, A5). Valid records stay valid with another budget in its range. The check of a table
-- looks at its budget in the T alone, so that planning with a budget beside is planning the same table whose T has it. A text
-- that is read is planned as its table, with its own budget. Assumes nothing.
use mathlib.Core.Bool.{true, false}
use mathlib.Core.List.{List, [], ◌∷◌, ◌++◌}
use mathlib.Core.Option.{Option, none, some}
use mathlib.Core.Path.{◌≡◌, refl, sym, ◌∙◌}
use Prim.Native.Nat.{ℕ, ◌+◌}
use native.Mathlib.Omega.{arith}
use Rattle.grammar.proofs.Trips.{check_exactly, read_exactly, table_checked, text_read}
use Rattle.laws.proofs.Choices.{nothing_there, split}
use Rattle.laws.proofs.Tests.{both_true}
use Rattle.rules.specs.Listing.{listed_with, listing_of}
use Rattle.rules.specs.Lists.{empty}
use Rattle.rules.specs.Plan.{at_budget, taken_with, taken_with_up_to}
use Rattle.rules.specs.Refusals.{Item, Taken, accept_up_to, added, critical_after, and_then, at_end, bad, begun_with, check, check_up_to, fault_of, fault_of_up_to, hold_items, items_of_up_to, job_items, job_items_up_to, judged, may_stand, nothing, one, out_of_order, out_of_range, own_request, read, refused_at, rises, speed_items, take_from, take_from_up_to, taken, too_many_up_to, unknown_job}
use Rattle.rules.specs.TableText.{Record, Records, in_range, is_budget, is_time, no_records, records_of, table_of, table_with_budget, text_of, with_budget, with_clock}
use Rattle.rules.specs.Valid.{Valid}
use Rattle.rules.specs.declared.Refusal.{Refusal}
use Rattle.rules.specs.declared.Table.{Table}

-- valid records, and another budget

pub budget-in-range : {t : Records} → Valid t → is_budget t.budget ≡ true
unfolding in_range
budget-in-range {t} v = (both_true (is_time t.clock) (is_budget t.budget) v.clock_range).1

pub valid_at : {t : Records} → Valid t → (budget : ℕ) → is_budget budget ≡ true → Valid (with_budget t budget)
unfolding in_range
valid_at {t} v budget h = record {
  clock_range = rw (both_true (is_time t.clock) (is_budget t.budget) v.clock_range).0 h;
  speed_ranges = v.speed_ranges;
  job_ranges = v.job_ranges;
  hold_ranges = v.hold_ranges;
  some_speed = v.some_speed;
  few_speeds = v.few_speeds;
  speeds_rise = v.speeds_rise;
  few_jobs = v.few_jobs;
  jobs_rise = v.jobs_rise;
  holds_rise = v.holds_rise;
  critical_first = v.critical_first;
  holders_known = v.holders_known;
  none_asks_own = v.none_asks_own;
}

-- what is taken with a budget beside

pub at-budget : (t : Records) (budget : ℕ) → is_budget budget ≡ true → at_budget budget (taken t) ≡ taken (with_budget t budget)
unfolding at_budget
at-budget t budget h = rw h

pub at_no_budget : (t : Records) (budget : ℕ) → is_budget budget ≡ false → at_budget budget (taken t) ≡ refused_at Refusal.Range 1
unfolding at_budget
at_no_budget t budget h = rw h

pub at_refused : (why : Refusal) (line budget : ℕ) → at_budget budget (refused_at why line) ≡ refused_at why line
unfolding at_budget
at_refused why line budget = refl

pub taken-with : (table : Table) (budget : ℕ) (t : Records) → is_budget budget ≡ true → check table ≡ taken t
    → taken_with table budget ≡ taken (with_budget t budget)
unfolding taken_with_up_to
taken-with table budget t h e = rw h (rw e (at-budget t budget h))

pub table_refused : (table : Table) (budget : ℕ) (why : Refusal) (line : ℕ) → is_budget budget ≡ true
    → check table ≡ refused_at why line → taken_with table budget ≡ refused_at why line
unfolding taken_with_up_to
table_refused table budget why line h e = rw h (rw e (at_refused why line budget))

pub budget-refused : (table : Table) (budget : ℕ) → is_budget budget ≡ false → taken_with table budget ≡ refused_at Refusal.Range 1
unfolding taken_with_up_to
budget-refused table budget h = rw h

-- what planning takes is valid, and its budget is the one beside the table
pub taken_beside : (table : Table) (budget : ℕ) (t : Records) → taken_with table budget ≡ taken t
    → (t.budget ≡ budget) × Valid t
taken_beside table budget t e =
    split (is_budget budget)
    (λ h. from h (check table) refl)
    (λ h. absurd (never (sym (budget-refused table budget h) ∙ e)))
  where
    never : {why : Refusal} {line : ℕ} {r : Records} → refused_at why line ≡ taken r → ⊥
    never q = let z : ◌≡◌ {A = ℕ} 0 1 = cc in omega arith

    from : is_budget budget ≡ true → (k : Taken) → check table ≡ k → (t.budget ≡ budget) × Valid t
    from h (taken r) c =
        let same : taken t ≡ taken (with_budget r budget) = sym e ∙ taken-with table budget r h c in
        let eq : t ≡ with_budget r budget = cc in
        rw eq (refl, valid_at ((check_exactly table r).0 c).0 budget h)
    from h (refused_at why line) c = absurd (never (sym (table_refused table budget why line h c) ∙ e))

-- the same table whose T has the budget

-- what was taken, with another budget
abbrev rebudgeted : ℕ → Taken → Taken
rebudgeted budget (taken t) = taken (with_budget t budget)
rebudgeted budget (refused_at why line) = refused_at why line

module _ (budget : ℕ) where
  -- behind the T no line looks at the budget
  fault_alike : (t : Records) (r : Record) → fault_of (begun_with (with_budget t budget)) r ≡ fault_of (begun_with t) r
  unfolding fault_of_up_to out_of_order may_stand rises too_many_up_to unknown_job own_request
  fault_alike t (Record.T c b) = refl
  fault_alike t (Record.F f) = refl
  fault_alike t (Record.J j) = refl
  fault_alike t (Record.H h) = refl

  -- and no line behind it is a T
  second_clock : (t : Records) (c b : ℕ) → (why : Refusal) × (fault_of (begun_with t) (Record.T c b) ≡ some why)
  unfolding fault_of_up_to out_of_order may_stand
  second_clock t c b =
      split (out_of_range (Record.T c b)) (λ h. (Refusal.Range, rw h)) (λ h. (Refusal.Order, rw h))

  line_alike : (line : ℕ) (t : Records) (is : List Item)
      → ((next : Records)
      → take_from (line + 1) (begun_with (with_budget next budget)) is ≡ rebudgeted budget (take_from (line + 1) (begun_with next) is))
      → (r : Record) (o : Option Refusal) → fault_of (begun_with t) r ≡ o
      → take_from line (begun_with (with_budget t budget)) (one r ∷ is) ≡ rebudgeted budget (take_from line (begun_with t) (one r ∷ is))
  unfolding take_from_up_to accept_up_to and_then judged added
  line_alike line t is behind r (some why) e = rw (fault_alike t r) (rw e)
  line_alike line t is behind (Record.T c b) none e = nothing_there (second_clock t c b).1 e
  line_alike line t is behind (Record.F f) none e = rw (fault_alike t (Record.F f)) (rw e (behind (added t (Record.F f))))
  line_alike line t is behind (Record.J j) none e = rw (fault_alike t (Record.J j)) (rw e (behind (added t (Record.J j))))
  line_alike line t is behind (Record.H h) none e = rw (fault_alike t (Record.H h)) (rw e (behind (added t (Record.H h))))

  taken_alike : (line : ℕ) (t : Records) (is : List Item)
      → take_from line (begun_with (with_budget t budget)) is ≡ rebudgeted budget (take_from line (begun_with t) is)
  unfolding take_from_up_to at_end accept_up_to and_then
  taken_alike line t [] = split (empty t.speeds) (λ h. rw h) (λ h. rw h)
  taken_alike line t (bad why ∷ is) = refl
  taken_alike line t (one r ∷ is) =
      line_alike line t is (λ next. taken_alike (line + 1) next is) r (fault_of (begun_with t) r) refl

  module _ (table : Table) (own : is_budget table.budget ≡ true) (beside : is_budget budget ≡ true) where
    check_alike : check (table_with_budget table budget) ≡ rebudgeted budget (check table)
    unfolding check_up_to items_of_up_to speed_items job_items_up_to hold_items records_of take_from_up_to accept_up_to and_then judged fault_of_up_to out_of_range in_range out_of_order may_stand rises too_many_up_to critical_after unknown_job own_request added nothing
    check_alike =
        split (is_time table.clock)
        (λ h. rw own (rw beside (rw h
        (taken_alike 2 (with_clock no_records table.clock table.budget) (speed_items table ++ (job_items table ++ hold_items table))))))
        (λ h. rw h)

    rebudgeted_taken : (k : Taken) → at_budget budget (rebudgeted budget k) ≡ at_budget budget k
    unfolding at_budget
    rebudgeted_taken (taken t) = refl
    rebudgeted_taken (refused_at why line) = refl

    -- planning with a budget beside the table is planning the same table whose T has it
    pub budget_beside_counts : taken_with (table_with_budget table budget) budget ≡ taken_with table budget
    unfolding taken_with_up_to
    budget_beside_counts = rw beside (rw check_alike (rebudgeted_taken (check table)))

-- a text, and its own budget

module _ (text : List ℕ) where
  -- a text that is read is planned as its table, with its own budget
  pub as_its_table : (t : Records) → read text ≡ taken t → taken_with (table_of t) t.budget ≡ taken t
  as_its_table t e =
      let v = ((read_exactly text t).0 e).0 in
      taken-with (table_of t) t.budget t (budget-in-range v) (table_checked v)

  -- the listing is that with the text's own budget beside it, and of a refused text that with any
  pub listed_at_own : (t : Records) → read text ≡ taken t → listed_with text t.budget ≡ listing_of text
  unfolding listed_with listing_of
  listed_at_own t e = rw e (rw (at-budget t t.budget (budget-in-range ((read_exactly text t).0 e).0)) refl)

  -- it is that of the text whose T has the budget
  pub listed_as_its_own : (t : Records) → read text ≡ taken t → (budget : ℕ) → is_budget budget ≡ true
      → listed_with text budget ≡ listing_of (text_of (with_budget t budget))
  unfolding listed_with listing_of
  listed_as_its_own t e budget h =
      rw e (rw (at-budget t budget h) (rw (text_read (valid_at ((read_exactly text t).0 e).0 budget h)) refl))

  pub listed_refused : (why : Refusal) (line : ℕ) → read text ≡ refused_at why line → (budget : ℕ)
      → listed_with text budget ≡ listing_of text
  unfolding listed_with listing_of
  listed_refused why line e budget = rw e (rw (at_refused why line budget) refl)
