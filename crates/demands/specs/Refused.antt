-- Demand 1 as statements: when the rules refuse what a call is handed, and what the call then answers and leaves. An answer is
-- told in document 01's numbers (rules/specs/Answers), so that a call and its form for C and Rust are held to one statement.
use Rattle.std.specs.Prelude.{true, false, List, ◌≡◌, ℕ, ◌≤◌, ◌<◌, length}
use Rattle.demands.specs.Plans.{HasRoom}
use Rattle.rules.specs.Answers.{Answer, refused}
use Rattle.rules.specs.Cycles.{asked_in_range, enough}
use Rattle.rules.specs.Refusals.{check, read, refused_at}
use Rattle.rules.specs.TableText.{is_budget, most_cycles, most_jobs, records_of, text_of}
use Rattle.rules.specs.Valid.{Valid, WithinPlaces}
use Rattle.rules.specs.declared.Refusal.{Refusal}
use Rattle.rules.specs.declared.Table.{Table}

-- an answer that is a refusal: its number is not 0
abbrev pub IsRefusal : Answer → Type 0
IsRefusal a = ¬ (a.number ≡ 0)

-- "A refusal gives its number and line, hands back an empty plan, and every lent buffer still holds what it held."
-- `Given why line`: the rules refuse what is handed in, with this number and line. `values`: what a refusal hands back.
pub record Refuses (Given : Refusal → ℕ → Type 0) (says : Answer) (values : List ℕ) (Held : Type 0) : Type 0 where
  -- where the rules refuse, the answer has their number and their line, and hands back nothing
  pub told : (why : Refusal) (line : ℕ) → Given why line → says ≡ refused why line values
  -- nowhere else is anything refused
  pub nowhere_else : IsRefusal says → (why : Refusal) × (line : ℕ) × Given why line
  -- and all that was lent holds what it held
  pub held : IsRefusal says → Held

-- a call that no buffer is lent to
abbrev pub NothingLent : Type 0
NothingLent = Unit

-- "an order buffer or a fate buffer of fewer than 64 places is refused 8 with line 0"; "2 for the budget, line 1, after 8 and before
-- the table's own"; the table "as the writer" checks it, with the writer's lines. The panel's call refuses the same, of its own two buffers.
pub data PlanRefused (table : Table) (budget : ℕ) (first second : List ℕ) : Refusal → ℕ → Type 0 where
  first_too_small : length first < most_jobs → PlanRefused table budget first second Refusal.Room 0
  second_too_small : length second < most_jobs → PlanRefused table budget first second Refusal.Room 0
  bad_budget : HasRoom first second → is_budget budget ≡ false → PlanRefused table budget first second Refusal.Range 1
  bad_table : {why : Refusal} {line : ℕ} → HasRoom first second → is_budget budget ≡ true → check table ≡ refused_at why line
      → PlanRefused table budget first second why line

-- 8: the listing is longer than the lent buffer. A refused text, or a budget beside it that is refused, is a success: its R line.
pub data ListRefused (listing out : List ℕ) : Refusal → ℕ → Type 0 where
  listing_too_long : length out < length listing → ListRefused listing out Refusal.Room 0

-- "checks the records first (2 to 7, with the line the record would have had) and then room (8, line 0)"
pub data WriteRefused (t : Table) (out : List ℕ) : Refusal → ℕ → Type 0 where
  bad_record : {why : Refusal} {line : ℕ} → check t ≡ refused_at why line → WriteRefused t out why line
  text_too_long : WithinPlaces t → Valid (records_of t) → length out < length (text_of (records_of t))
      → WriteRefused t out Refusal.Room 0

-- "The first bad line decides"
pub data ReadRefused (text : List ℕ) : Refusal → ℕ → Type 0 where
  bad_text : {why : Refusal} {line : ℕ} → read text ≡ refused_at why line → ReadRefused text why line

-- the first line alone: refused as the whole text is, where it is refused at line 1
pub data FirstLineRefused (text : List ℕ) : Refusal → ℕ → Type 0 where
  bad_first_line : {why : Refusal} → read text ≡ refused_at why 1 → FirstLineRefused text why 1

-- "Outside these ranges: 2"; 10: "an allocation above 1,000,000", where nothing to there is enough; both "carry line 0"
pub data AllocationRefused (mean variance assurance : ℕ) : Refusal → ℕ → Type 0 where
  out-of-range : asked_in_range mean variance assurance ≡ false → AllocationRefused mean variance assurance Refusal.Range 0
  none_enough : asked_in_range mean variance assurance ≡ true
      → ((c : ℕ) → mean ≤ c → c ≤ most_cycles → enough mean variance assurance c ≡ false)
      → AllocationRefused mean variance assurance Refusal.Allocation 0

-- 9: "a cost model other than 1, 2, 3", line 0
pub data CostsRefused (model : ℕ) : Refusal → ℕ → Type 0 where
  other_model : ¬ (model ≡ 1) → ¬ (model ≡ 2) → ¬ (model ≡ 3) → CostsRefused model Refusal.Model 0
