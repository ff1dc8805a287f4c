-- Document 02, A5, over the calls: reading a text and planning its table with its own budget answers as the one call of document 01
-- did; the budget beside a table is the one that counts; and a listing is the one with the text's own budget beside it. Each law
-- speaks of any answers that the calls' promises allow. Assumes nothing.
use mathlib.Core.Bool.{true}
use mathlib.Core.List.{List}
use mathlib.Core.Logic.{◌⊎◌, inl, inr}
use mathlib.Core.Path.{◌≡◌, refl, sym, ap, ◌∙◌}
use Prim.Native.Nat.{ℕ, ◌<◌}
use native.Mathlib.Omega.{arith}
use contract.Lifetimes.{Lfts}
use denote.Ref.{Bor, MutBor}
use lib.ListN.{length}
use Rattle.std.specs.Prelude.{Result, Ok}
use Rattle.beside.specs.Listed.{wrote}
use Rattle.boundary.proofs.Unique.{plan_unique, text_known}
use Rattle.boundary.specs.Told as boundary
use Rattle.boundary.specs.declared.PlanAnswer.{PlanAnswer}
use Rattle.boundary.specs.declared.TableAnswer.{TableAnswer}
use Rattle.boundary.specs.declared.TextAnswer.{TextAnswer}
use Rattle.demands.specs.Plans.{HasRoom}
use Rattle.demands.specs.ReadOnce.{AsTheOne, LeavesAsTheOne, NotPlanned, OneSaidRoom, OtherThanTheOne}
use Rattle.grammar.proofs.BudgetBeside.{as_its_table, budget_beside_counts, listed_as_its_own, listed_at_own, listed_refused}
use Rattle.grammar.proofs.Readings.{reading_done, reading_refused, refused_from_line_1}
use Rattle.laws.proofs.Unique.{decision_unique, refusal_not_0, written_unique}
use Rattle.listing.proofs.Unique as lists
use Rattle.planner.proofs.Decisions.{either_true, room, too-small}
use Rattle.planner.proofs.Unique as planner
use Rattle.planner.specs.Promises.{PlannedAs}
use Rattle.planner.specs.declared.Planned.{Planned}
use Rattle.reader.proofs.Unique as reader
use Rattle.plans.specs.Promises.{leaves}
use Rattle.rules.specs.Answers.{Answer, decision_says, number_of, refuses}
use Rattle.rules.specs.Listing.{listed_with, listing, listing_of, listing_with}
use Rattle.rules.specs.Plan.{AfterPlanning, leaves_all, leaves_of, part_of, planning, planning_of, planning_of_up_to, planning_with, taken_with, too_small}
use Rattle.rules.specs.Refusals.{AfterWriting, Taken, read, reading_up_to, refused_at, table_answer, table_answer_up_to, taken, written}
use Rattle.rules.specs.TableText.{Records, is_budget, most_jobs, table_of, table_of_up_to, table_with_budget, text_of, with_budget}
use Rattle.rules.specs.declared.Decision.{Decision}
use Rattle.rules.specs.declared.Refusal.{Refusal}
use Rattle.rules.specs.declared.Refused.{Refused}
use Rattle.rules.specs.declared.Table.{Table}

-- the rules

module _ (text : List ℕ) where
  -- a table that was read, with its own budget
  read_planned : (t : Records) → read text ≡ taken t → (table : Table) → table ≡ table_of t → (order fates : List ℕ)
      → planning_with table table.budget order fates ≡ planning text order fates
  unfolding table_of_up_to
  read_planned t e table same order fates =
      rw same (ap (λ k. planning_of k order fates) (as_its_table text t e ∙ sym e))

  module _ (order fates : List ℕ) where
    left_as_one : (a : AfterPlanning) → a ≡ planning text order fates
        → LeavesAsTheOne text order fates a.answer a.order a.fates
    unfolding part_of
    left_as_one a e = record {
      as_the_one =
          record {
            answer = ap (λ (b : AfterPlanning). b.answer) e;
            part_is = ap part_of e;
            fates-left = ap (λ (b : AfterPlanning). b.fates) e;
          };
      order_left = ap (λ (b : AfterPlanning). b.order) e;
    }

    not-planned : (why : Refusal) (line : ℕ) → read text ≡ refused_at why line → HasRoom order fates
        → NotPlanned text order fates (number_of why) line
    unfolding planning_of_up_to leaves_of leaves_all
    not-planned why line e large =
        left_as_one (leaves_all why line order fates)
        (rw (room order large.first_room) (rw (room fates large.second_room) (rw e)))

    -- where a buffer is short, whatever the text
    pub one_said_room : (length order < most_jobs) ⊎ (length fates < most_jobs) → OneSaidRoom text order fates
    unfolding planning_of_up_to
    one_said_room (inl h) = rw (too-small order h)
    one_said_room (inr h) = rw (too-small fates h) (rw (either_true (too_small order)))

    -- so of a refused text it did not tell the refusal, whose line is 1 at least
    other_than_the_one : (why : Refusal) (line : ℕ) → read text ≡ refused_at why line
        → (length order < most_jobs) ⊎ (length fates < most_jobs) → OtherThanTheOne text order fates (number_of why) line
    unfolding leaves_all
    other_than_the_one why line e short same =
        let at : line ≡ 0 =
        ap (λ (a : Answer). a.line) (same ∙ ap (λ (a : AfterPlanning). a.answer) (one_said_room short)) in
        omega (arith, at, refused_from_line_1 text why line e)

-- the calls of Rattle

module _ (lifetime : Lfts 1) (text : Bor (List ℕ)) (table : Table) (promise : reader.Promised lifetime text (Ok table)) where
  pub plan_into_as_the_one : (lifetimes : Lfts 2) (order fates order' fates' : MutBor (List ℕ))
      (d : Result Decision Refused) → planner.Promised lifetimes table table.budget order fates d order' fates'
      → LeavesAsTheOne text.now order.now fates.now (decision_says d) order'.now fates'.now
  plan_into_as_the_one lifetimes order fates order' fates' d planned =
      let (t, e, same) = reading_done text.now table promise in
      left_as_one text.now order.now fates.now (leaves d order'.now fates'.now)
      (planned ∙ read_planned text.now t e table same order.now fates.now)

  pub plan_as_the_one : (order fates : List ℕ) (begin : ℕ × ℕ) (p : Planned) (fates' : List ℕ)
      → PlannedAs (taken_with table table.budget) order fates begin p fates'
      → AsTheOne text.now order fates (decision_says p.decision) p.plan.now fates'
  plan_as_the_one order fates begin p fates' planned =
      let (t, e, same) = reading_done text.now table promise in
      let all = read_planned text.now t e table same order fates in
      record {
        answer = planned.decided ∙ ap (λ (a : AfterPlanning). a.answer) all;
        part_is = planned.plan ∙ ap part_of all;
        fates-left = planned.fates-left ∙ ap (λ (a : AfterPlanning). a.fates) all;
      }

module _ (lifetime : Lfts 1) (text : Bor (List ℕ)) (why : Refusal) (line : ℕ)
    (promise : reader.Promised lifetime text (refuses why line)) (order fates : List ℕ) where
  is_refused : read text.now ≡ refused_at why line
  is_refused = reading_refused text.now (record { why = why; line = line }) promise

  pub refused_as_the_one : HasRoom order fates → NotPlanned text.now order fates (number_of why) line
  refused_as_the_one = not-planned text.now order fates why line is_refused

  -- where a buffer is short the two tell the text's refusal, and the one told another
  pub refused_not_as_the_one : (length order < most_jobs) ⊎ (length fates < most_jobs)
      → OtherThanTheOne text.now order fates (number_of why) line
  refused_not_as_the_one = other_than_the_one text.now order fates why line is_refused

-- the calls for C and Rust

module _ (text : List ℕ) (r : TableAnswer) (promise : boundary.ReadTold text r) where
  done_told : (k : Taken) → read text ≡ k → boundary.table_says r ≡ (table_answer k).answer → r.table ≡ (table_answer k).table
      → r.number ≡ 0 → (t : Records) × (read text ≡ taken t) × (r.table ≡ table_of t)
  unfolding table_answer_up_to
  done_told (taken t) e says table zero = (t, e, table)
  done_told (refused_at why line) e says table zero =
      absurd (refusal_not_0 why (sym (ap (λ (a : Answer). a.number) says) ∙ zero))

  refused_told : (k : Taken) → read text ≡ k → boundary.table_says r ≡ (table_answer k).answer → ¬ (r.number ≡ 0)
      → (order fates : List ℕ) → HasRoom order fates → NotPlanned text order fates r.number r.line
  unfolding table_answer_up_to
  refused_told (taken t) e says other order fates large = absurd (other (ap (λ (a : Answer). a.number) says))
  refused_told (refused_at why line) e says other order fates large =
      rw (ap (λ (a : Answer). a.number) says, ap (λ (a : Answer). a.line) says) (not-planned text order fates why line e large)

  pub cuddlelamb_plan_as_the_one : r.number ≡ 0 → (order fates order' fates' : List ℕ) (s : PlanAnswer)
      → boundary.PlanTold (taken_with r.table r.table.budget) order fates s order' fates'
      → LeavesAsTheOne text order fates (boundary.plan_says s) order' fates'
  unfolding reading_up_to
  cuddlelamb_plan_as_the_one zero order fates order' fates' s planned =
      let (t, e, same) = done_told (read text) refl promise.answer promise.table zero in
      left_as_one text order fates (record { answer = boundary.plan_says s; order = order'; fates = fates' })
      (rw (planned.answer, planned.order_left, planned.fates-left) (read_planned text t e r.table same order fates))

  pub cuddlelamb_refused_as_the_one : ¬ (r.number ≡ 0) → (order fates : List ℕ) → HasRoom order fates
      → NotPlanned text order fates r.number r.line
  unfolding reading_up_to
  cuddlelamb_refused_as_the_one = refused_told (read text) refl promise.answer

-- the budget beside

module _ (table : Table) (budget : ℕ) (own : is_budget table.budget ≡ true) (beside : is_budget budget ≡ true) where
  pub same_as_its_own : (l l* : Lfts 2) (order fates a b a' b' : MutBor (List ℕ)) (d e : Result Decision Refused)
      → planner.Promised l table budget order fates d a b
      → planner.Promised l* (table_with_budget table budget) budget order fates e a' b'
      → (d ≡ e) × (a.now ≡ a'.now) × (b.now ≡ b'.now)
  same_as_its_own l l* order fates a b a' b' d e p q =
      let same = p ∙ ap (λ k. planning_of k order.now fates.now) (sym (budget_beside_counts budget table own beside)) ∙ sym q in (
        decision_unique d e (ap (λ (told : AfterPlanning). told.answer) same),
        ap (λ (told : AfterPlanning). told.order) same,
        ap (λ (told : AfterPlanning). told.fates) same,
      )

  pub part_as_its_own : (order fates : List ℕ) (begin begin* : ℕ × ℕ) (r s : Planned) (b b' : List ℕ)
      → PlannedAs (taken_with table budget) order fates begin r b
      → PlannedAs (taken_with (table_with_budget table budget) budget) order fates begin* s b'
      → (r.plan.now ≡ s.plan.now) × (r.decision ≡ s.decision) × (b ≡ b')
  part_as_its_own order fates begin begin* r s b b' p q =
      let same = ap (λ k. planning_of k order fates) (sym (budget_beside_counts budget table own beside)) in (
        p.plan ∙ ap part_of same ∙ sym q.plan,
        decision_unique r.decision s.decision (p.decided ∙ ap (λ (told : AfterPlanning). told.answer) same ∙ sym q.decided),
        p.fates-left ∙ ap (λ (told : AfterPlanning). told.fates) same ∙ sym q.fates-left,
      )

  pub told_as_its_own : (order fates a b a' b' : List ℕ) (r s : PlanAnswer)
      → boundary.PlanTold (taken_with table budget) order fates r a b
      → boundary.PlanTold (taken_with (table_with_budget table budget) budget) order fates s a' b' → (r ≡ s) × (a ≡ a') × (b ≡ b')
  told_as_its_own order fates a b a' b' r s p q =
      plan_unique table budget order fates r s a b a' b' p (rw (sym (budget_beside_counts budget table own beside)) q)

-- the listing

-- two answers that say what is written of the same lines
listed_alike : (lines lines* out : List ℕ) (w v : Result ℕ Refused) (a b : List ℕ) → wrote w a ≡ written lines out
    → wrote v b ≡ written lines* out → lines* ≡ lines → (w ≡ v) × (a ≡ b)
listed_alike lines lines* out w v a b p q same =
    let all = p ∙ sym (ap (λ ls. written ls out) same) ∙ sym q in
    (written_unique w v (ap (λ (x : AfterWriting). x.answer) all), ap (λ (x : AfterWriting). x.out) all)

module _ (l l* : Lfts 2) (text : Bor (List ℕ)) (out a b : MutBor (List ℕ)) (w v : Result ℕ Refused) (p : lists.Promised l text out w a) where
  pub list_at_own_budget : (t : Records) → read text.now ≡ taken t → lists.PromisedWith l* text t.budget out v b
      → (w ≡ v) × (a.now ≡ b.now)
  unfolding listing listing_with
  list_at_own_budget t e q =
      listed_alike (listing_of text.now) (listed_with text.now t.budget) out.now w v a.now b.now p q
      (listed_at_own text.now t e)

  pub list_refused_at_any_budget : (why : Refusal) (line : ℕ) → read text.now ≡ refused_at why line → (budget : ℕ)
      → lists.PromisedWith l* text budget out v b → (w ≡ v) × (a.now ≡ b.now)
  unfolding listing listing_with
  list_refused_at_any_budget why line e budget q =
      listed_alike (listing_of text.now) (listed_with text.now budget) out.now w v a.now b.now p q
      (listed_refused text.now why line e budget)

-- with a budget beside a text, and with it in the T of another
pub list_with_as_its_own : (l l* : Lfts 2) (text text* : Bor (List ℕ)) (out a b : MutBor (List ℕ)) (w v : Result ℕ Refused) (t : Records) (budget : ℕ)
    → read text.now ≡ taken t → is_budget budget ≡ true → text*.now ≡ text_of (with_budget t budget)
    → lists.Promised l text* out w a → lists.PromisedWith l* text budget out v b → (w ≡ v) × (a.now ≡ b.now)
unfolding listing listing_with
list_with_as_its_own l l* text text* out a b w v t budget e h is p q =
    listed_alike (listing_of text*.now) (listed_with text.now budget) out.now w v a.now b.now p q
    (listed_as_its_own text.now t e budget h ∙ ap listing_of (sym is))

-- the same of the calls for C and Rust

module _ (text out a b : List ℕ) (r s : TextAnswer) (p : boundary.ListTold text out r a) where
  told_alike : (budget : ℕ) → listed_with text budget ≡ listing_of text → boundary.ListWithTold text budget out s b
      → (r ≡ s) × (a ≡ b)
  unfolding listing listing_with
  told_alike budget same q =
      let all = ap (λ lines. written lines out) same in (
        text_known r s (p.answer ∙ sym (ap (λ (x : AfterWriting). x.answer) all) ∙ sym q.answer),
        p.out_left ∙ sym (ap (λ (x : AfterWriting). x.out) all) ∙ sym q.out_left,
      )

  pub cuddlelamb_list_at_own_budget : (t : Records) → read text ≡ taken t → boundary.ListWithTold text t.budget out s b
      → (r ≡ s) × (a ≡ b)
  cuddlelamb_list_at_own_budget t e = told_alike t.budget (listed_at_own text t e)

  pub cuddlelamb_list_refused_at_any_budget : (why : Refusal) (line : ℕ) → read text ≡ refused_at why line → (budget : ℕ)
      → boundary.ListWithTold text budget out s b → (r ≡ s) × (a ≡ b)
  cuddlelamb_list_refused_at_any_budget why line e budget = told_alike budget (listed_refused text why line e budget)
