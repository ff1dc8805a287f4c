-- Demand 3 over the calls: jobs that are not planned do not matter to what the calls that plan and list answer. Two tables agree
-- outside a set of job numbers, one budget is beside both, and neither plan has a number of the set: then the rules give one
-- plan, and one fate to each job outside; and the calls answer, and leave in the buffers, what the rules give. Assumes nothing.
use mathlib.Core.Bool.{Bool, true}
use mathlib.Core.List.{List, [], ◌∷◌, ◌++◌, map}
use mathlib.Core.Option.{none, some}
use mathlib.Core.Path.{◌≡◌, refl, sym, ap, ◌∙◌}
use Prim.Native.Nat.{ℕ, zero, suc, ◌-◌, ◌≤◌, ◌<◌}
use native.Mathlib.Omega.{arith}
use borrow.Author.Tests.{eqb-true}
use contract.Lifetimes.{Lfts}
use denote.Ref.{Bor, MutBor}
use lib.Dec.{eqb}
use lib.ListN.{drop, get_or, length, length-append, length-map, length-replicate, replicate, take}
use lib.Seq.{take-append_seam}
use Rattle.std.specs.Prelude.{Result}
use Rattle.boundary.specs.Told as boundary
use Rattle.boundary.specs.declared.PlanAnswer.{PlanAnswer}
use Rattle.boundary.specs.declared.TextAnswer.{TextAnswer}
use Rattle.demands.proofs.Planned.{cuddlelamb_list_gives, cuddlelamb_list_with_gives, cuddlelamb_plan_gives, front_of_plan, list_gives, list_with_gives, plan_gives, plan_into_gives}
use Rattle.demands.specs.Plans.{AtFront, HasRoom, PartBy, PlannedBy, decided}
use Rattle.demands.specs.Unplanned.{BothAgree, NoneInFront, SameFates, SameListing, SameOutside, SamePart, fate_lines, front_of}
use Rattle.laws.proofs.Choices.{one_there, split}
use Rattle.theorems.proofs.Demand3.{unplanned_do_not_matter}
use Rattle.laws.proofs.Elements.{each_at_place}
use Rattle.steps.proofs.Jobs.{Listed, jobs_listed}
use Rattle.laws.proofs.Lookups.{each_always, each_unmap, find_keep, keep_agree}
use Rattle.grammar.proofs.BudgetBeside.{at-budget, budget-in-range, listed_at_own, valid_at}
use Rattle.grammar.proofs.Trips.{check_exactly, read_exactly}
use Rattle.theorems.specs.Demand3.{Agree, Alike, NoneAsksInside, NonePlanned, out_of, outer_fated}
use Rattle.listing.proofs.Unique as listing
use Rattle.planner.proofs.Unique as planner
use Rattle.planner.specs.Promises.{PlannedAs}
use Rattle.planner.specs.declared.Planned.{Planned}
use Rattle.plans.proofs.Leaving.{fates_planned}
use Rattle.rules.specs.Answers.{Answer, decision_says, written_says}
use Rattle.rules.specs.Listing.{lines_for, listed_with, listing_of, order_line, plan_line, plan_lines, unplanned}
use Rattle.rules.specs.Lists.{find, joined, keep}
use Rattle.rules.specs.Plan.{Fated, at_budget, course_of, fate_in, fate_told, fates_of, numbers_of, plan_from, plan_of, runs_of, same, taken_with}
use Rattle.rules.specs.TableText.{Records, is_budget, no_job, padded, with_budget}
use Rattle.rules.specs.Valid.{Valid}
use Rattle.rules.specs.declared.Refused.{Refused}
use Rattle.rules.specs.declared.Decision.{Decision}
use Rattle.rules.specs.declared.Job.{Job}
use Rattle.rules.specs.declared.Table.{Table}
use Rattle.rules.specs.Refusals.{check, read, taken}

front_at : (xs ys : List ℕ) (i : ℕ) → i < length xs → get_or (xs ++ ys) i 0 ≡ get_or xs i 0
front_at [] ys i h = absurd (omega arith)
front_at (x ∷ xs) ys zero h = refl
front_at (x ∷ xs) ys (suc i) h = front_at xs ys i (omega arith)

map_at : (f : Job → ℕ) (js : List Job) (i : ℕ) → i < length js → get_or (map f js) i 0 ≡ f (get_or js i no_job)
map_at f [] i h = absurd (omega arith)
map_at f (j ∷ js) zero h = refl
map_at f (j ∷ js) (suc i) h = map_at f js i (omega arith)

-- the fate that stands beside the job of a number
abbrev fate_of : ℕ → List Fated → ℕ
fate_of n is = fate_told (find (λ (i : Fated). eqb n i.job.number) is)

-- beside each job of the table stands its fate
found_beside : (fate : Job → ℕ) (js : List Job) (j : Job) → Listed js j
    → fate_of j.number (map (λ k. record { job = k; fate = fate k }) js) ≡ fate j
unfolding fate_told same
found_beside fate [] j l = absurd (never l)
  where
    never : {x : Job} → none ≡ some x → ⊥
    never e = let z : ◌≡◌ {A = ℕ} 0 1 = cc in omega arith
found_beside fate (k ∷ js) j l =
    split (eqb j.number k.number)
    (λ h. rw h (ap fate (one_there {o = some k} refl (rw h at l))))
    (λ h. rw h (found_beside fate js j (rw h at l)))

fates_are : (t : Records) → (plan_of t).fates ≡ map (λ j. record { job = j; fate = fate_in t (course_of t) j }) t.jobs
unfolding plan_of plan_from
fates_are t = refl

-- what stands in the fate buffer at the place of a job
fate_at : (t : Records) → Valid t → (places i : ℕ) → i < length t.jobs
    → get_or (padded places 0 (fates_of (plan_of t).fates)) i 0 ≡ fate_of (get_or t.jobs i no_job).number (plan_of t).fates
fate_at t v places i h =
    front_at (fates_of (plan_of t).fates) _ i (omega (arith, ap length (fates_planned t), length-map t.jobs (fate_in t (course_of t))))
    ∙ ap (λ fs. get_or fs i 0) (fates_planned t)
    ∙ map_at (fate_in t (course_of t)) t.jobs i h
    ∙ sym
    (ap (fate_of (get_or t.jobs i no_job).number) (fates_are t)
    ∙ found_beside (fate_in t (course_of t)) t.jobs (get_or t.jobs i no_job) (each_at_place no_job (jobs_listed t v) i h))

-- the plan's numbers stand at the front of the order buffer
in_front : (t : Records) (order fates : List ℕ) (says : Answer) (order' fates' : List ℕ)
    → PlannedBy t order fates says order' fates' → front_of says order' ≡ numbers_of (plan_of t).jobs
in_front t order fates says order' fates' x =
    ap (λ s. front_of s order') x.answer ∙ ap (take (length (plan_of t).jobs)) x.order_left ∙ front_of_plan t (length order)

-- and a text that was written, at the front of its buffer
text_in_front : (text out : List ℕ) (says : Answer) (after : List ℕ) → AtFront text out says after → front_of says after ≡ text
text_in_front text out says after x =
    ap (λ s. front_of s after) x.answer ∙ ap (take (length text)) x.out_left ∙ take-append_seam text (drop (length text) out)

-- what is padded to one length is padded alike
as_long_padded : (ns : List ℕ) (n m : ℕ) → length (padded n 0 ns) ≡ length (padded m 0 ns) → padded n 0 ns ≡ padded m 0 ns
as_long_padded ns n m e =
    let rest : n - length ns ≡ m - length ns =
    omega (
      arith,
      e,
      length-append ns (replicate (n - length ns) 0),
      length-append ns (replicate (m - length ns) 0),
      length-replicate {A = ℕ} (n - length ns) 0,
      length-replicate {A = ℕ} (m - length ns) 0,
    ) in
    ap (λ k. ns ++ replicate k 0) rest

module _ (set : ℕ → Bool) where
  -- a fate outside is found among those outside
  outside_found : (n : ℕ) → out_of set n ≡ true → (is : List Fated)
      → fate_of n (keep (outer_fated (out_of set)) is) ≡ fate_of n is
  outside_found n o is =
      ap fate_told
      (find_keep (λ (i : Fated). eqb n i.job.number) (outer_fated (out_of set))
      (each_always is (λ i e. ap (out_of set) (sym (eqb-true n i.job.number e)) ∙ o)))

  -- whose numbers are none of the set is nobody of the set
  none-planned : (t : Records) → NoneInFront set (numbers_of (plan_of t).jobs) → NonePlanned set t
  unfolding numbers_of
  none-planned t e = each_unmap (λ (j : Job). j.number) (plan_of t).jobs e

  -- two tables, and one budget beside both
  module _ (a b : Records) (valid_first : Valid a) (valid_second : Valid b) (agree : Agree set a b)
      (first_asks : NoneAsksInside set a) (second_asks : NoneAsksInside set b) (budget : ℕ) (in-range : is_budget budget ≡ true) where
    abbrev a' : Records
    a' = with_budget a budget

    abbrev b' : Records
    b' = with_budget b budget

    -- the rules' plans, speeds, energies and fates outside
    rules_alike : NonePlanned set a' → NonePlanned set b' → Alike (out_of set) a' b'
    rules_alike first second =
        unplanned_do_not_matter set budget in-range a b valid_first valid_second agree first_asks second_asks first second

    module _ (alike : Alike (out_of set) a' b') where
      same_decision : decided a' ≡ decided b'
      same_decision = rw (alike.jobs, alike.speed, alike.energy)

      same_fates : (places places* : ℕ)
          → SameFates (out_of set) a b (padded places 0 (fates_of (plan_of a').fates)) (padded places* 0 (fates_of (plan_of b').fates))
      same_fates places places* i k h l same_number out =
          fate_at a' (valid_at valid_first budget in-range) places i h
          ∙ sym (outside_found _ out (plan_of a').fates)
          ∙ ap (fate_of (get_or a.jobs i no_job).number) alike.fates
          ∙ outside_found _ out (plan_of b').fates
          ∙ ap (λ n. fate_of n (plan_of b').fates) same_number
          ∙ sym (fate_at b' (valid_at valid_second budget in-range) places* k l)

      same_listing : SameListing (out_of set) a' b' (lines_for (taken a')) (lines_for (taken b'))
      unfolding lines_for plan_lines plan_line
      same_listing = record {
        first = refl;
        second = refl;
        plan-line = rw (alike.jobs, alike.speed, alike.energy);
        order-lines =
            ap (λ clock. joined (order_line clock (plan_of a').speed.mhz) (runs_of (plan_of a').jobs)) agree.clock
            ∙ rw (alike.jobs, alike.speed);
        fate-lines =
            ap fate_lines
            (sym (kept_outside (plan_of a').fates) ∙ ap (keep unplanned) alike.fates ∙ kept_outside (plan_of b').fates);
      }
        where
          kept_outside : (is : List Fated)
              → keep unplanned (keep (outer_fated (out_of set)) is) ≡ keep (outer_fated (out_of set)) (keep unplanned is)
          kept_outside is = keep_agree (outer_fated (out_of set)) unplanned unplanned (each_always is (λ i o. refl))

    -- what any two calls that answer and leave the rules' plans give
    same_outside : (order fates order' fates' order* fates* order*' fates*' : List ℕ) (says says* : Answer)
        → PlannedBy a' order fates says order' fates' → PlannedBy b' order* fates* says* order*' fates*'
        → NoneInFront set (front_of says order') → NoneInFront set (front_of says* order*')
        → SameOutside (out_of set) a b says says* order' order*' fates' fates*'
    same_outside order fates order' fates' order* fates* order*' fates*' says says* x y without without* =
        let front = in_front a' order fates says order' fates' x in
        let front* = in_front b' order* fates* says* order*' fates*' y in
        let alike = rules_alike (none-planned a' (rw front at without)) (none-planned b' (rw front* at without*)) in
        record {
          answer = x.answer ∙ same_decision alike ∙ sym y.answer;
          front = front ∙ ap numbers_of alike.jobs ∙ sym front*;
          whole = λ as_long. x.order_left
              ∙ ap (λ js. padded (length order) 0 (numbers_of js)) alike.jobs
              ∙ as_long_padded (numbers_of (plan_of b').jobs) (length order) (length order*)
              (ap (λ js. length (padded (length order) 0 (numbers_of js))) (sym alike.jobs)
              ∙ ap length (sym x.order_left) ∙ as_long ∙ ap length y.order_left)
              ∙ sym y.order_left;
          fate = rw x.fates-left (rw y.fates-left (same_fates alike (length fates) (length fates*)));
        }

    -- the same, of two parts that are handed back
    same_part : (fates part fates' fates* part* fates*' : List ℕ) (says says* : Answer)
        → PartBy a' fates says part fates' → PartBy b' fates* says* part* fates*' → NoneInFront set part → NoneInFront set part*
        → SamePart (out_of set) a b says says* part part* fates' fates*'
    same_part fates part fates' fates* part* fates*' says says* x y without without* =
        let alike =
        rules_alike (none-planned a' (rw x.part_is at without)) (none-planned b' (rw y.part_is at without*)) in
        record {
          answer = x.answer ∙ same_decision alike ∙ sym y.answer;
          plan = x.part_is ∙ ap numbers_of alike.jobs ∙ sym y.part_is;
          fate = rw x.fates-left (rw y.fates-left (same_fates alike (length fates) (length fates*)));
        }

    -- the listings that stand at the fronts of two buffers
    same_listed : (lines lines* out after out* after* : List ℕ) (says says* : Answer) → NonePlanned set a' → NonePlanned set b'
        → lines ≡ lines_for (taken a') → lines* ≡ lines_for (taken b')
        → AtFront lines out says after → AtFront lines* out* says* after*
        → SameListing (out_of set) a' b' (front_of says after) (front_of says* after*)
    same_listed lines lines* out after out* after* says says* without without* e e* x y =
        rw (text_in_front lines out says after x ∙ e) (rw (text_in_front lines* out* says* after* y ∙ e*)
        (same_listing (rules_alike without without*)))

  -- Demand 3, over the calls that plan tables with one budget beside them.
  module _ (table table* : Table) (budget : ℕ) (a b : Records) (agree : BothAgree set (check table) (check table*) a b)
      (in-range : is_budget budget ≡ true) where
    checked_valid : (t : Table) (r : Records) → check t ≡ taken r → Valid r
    checked_valid t r e = ((check_exactly t r).0 e).0

    module _ (lifetimes lifetimes* : Lfts 2) (order order* fates fates* order' order*' fates' fates*' : MutBor (List ℕ))
        (d e : Result Decision Refused) where
      pub unplanned_do_not_matter_to_plan_into :
          planner.Promised lifetimes table budget order fates d order' fates'
          → planner.Promised lifetimes* table* budget order* fates* e order*' fates*'
          → HasRoom order.now fates.now → HasRoom order*.now fates*.now
          → NoneInFront set (front_of (decision_says d) order'.now) → NoneInFront set (front_of (decision_says e) order*'.now)
          → SameOutside (out_of set) a b (decision_says d) (decision_says e) order'.now order*'.now fates'.now fates*'.now
      unplanned_do_not_matter_to_plan_into p q large large* =
          same_outside a b (checked_valid table a agree.first) (checked_valid table* b agree.second) agree.agree
          agree.first_asks agree.second_asks budget in-range order.now fates.now order'.now fates'.now
          order*.now fates*.now order*'.now fates*'.now (decision_says d) (decision_says e)
          (plan_into_gives lifetimes table budget order fates order' fates' d a p agree.first in-range large)
          (plan_into_gives lifetimes* table* budget order* fates* order*' fates*' e b q agree.second in-range large*)

    module _ (order order* fates fates* order' order*' fates' fates*' : List ℕ) (r s : PlanAnswer) where
      pub unplanned_do_not_matter_to_cuddlelamb_plan :
          boundary.PlanTold (taken_with table budget) order fates r order' fates'
          → boundary.PlanTold (taken_with table* budget) order* fates* s order*' fates*'
          → HasRoom order fates → HasRoom order* fates*
          → NoneInFront set (front_of (boundary.plan_says r) order') → NoneInFront set (front_of (boundary.plan_says s) order*')
          → SameOutside (out_of set) a b (boundary.plan_says r) (boundary.plan_says s) order' order*' fates' fates*'
      unplanned_do_not_matter_to_cuddlelamb_plan p q large large* =
          same_outside a b (checked_valid table a agree.first) (checked_valid table* b agree.second) agree.agree
          agree.first_asks agree.second_asks budget in-range order fates order' fates' order* fates* order*' fates*'
          (boundary.plan_says r) (boundary.plan_says s)
          (cuddlelamb_plan_gives table budget order fates order' fates' r a p agree.first in-range large)
          (cuddlelamb_plan_gives table* budget order* fates* order*' fates*' s b q agree.second in-range large*)

    module _ (order order* fates fates* : List ℕ) (begin begin* : ℕ × ℕ) (r s : Planned) (fates' fates*' : List ℕ) where
      pub unplanned_do_not_matter_to_plan :
          PlannedAs (taken_with table budget) order fates begin r fates'
          → PlannedAs (taken_with table* budget) order* fates* begin* s fates*'
          → HasRoom order fates → HasRoom order* fates* → NoneInFront set r.plan.now → NoneInFront set s.plan.now
          → SamePart (out_of set) a b (decision_says r.decision) (decision_says s.decision)
          r.plan.now s.plan.now fates' fates*'
      unplanned_do_not_matter_to_plan p q large large* =
          same_part a b (checked_valid table a agree.first) (checked_valid table* b agree.second) agree.agree
          agree.first_asks agree.second_asks budget in-range fates r.plan.now fates' fates* s.plan.now fates*'
          (decision_says r.decision) (decision_says s.decision)
          (plan_gives table budget order fates begin r fates' a p agree.first in-range large)
          (plan_gives table* budget order* fates* begin* s fates*' b q agree.second in-range large*)

  -- Demand 3, over the calls that list texts.
  module _ (text text* : List ℕ) (a b : Records) (agree : BothAgree set (read text) (read text*) a b) where
    read_valid : (t : List ℕ) (r : Records) → read t ≡ taken r → Valid r
    read_valid t r e = ((read_exactly t r).0 e).0

    module _ (budget : ℕ) (in-range : is_budget budget ≡ true) where
      listed : (t : List ℕ) (r : Records) → read t ≡ taken r → listed_with t budget ≡ lines_for (taken (with_budget r budget))
      unfolding listed_with
      listed t r e = ap (λ k. lines_for (at_budget budget k)) e ∙ ap lines_for (at-budget r budget in-range)

      -- with one budget beside both texts
      listed-with : (out after out* after* : List ℕ) (says says* : Answer)
          → NonePlanned set (with_budget a budget) → NonePlanned set (with_budget b budget)
          → AtFront (listed_with text budget) out says after → AtFront (listed_with text* budget) out* says* after*
          → SameListing (out_of set) (with_budget a budget) (with_budget b budget) (front_of says after) (front_of says* after*)
      listed-with out after out* after* says says* without without* =
          same_listed a b (read_valid text a agree.first) (read_valid text* b agree.second) agree.agree
          agree.first_asks agree.second_asks budget in-range (listed_with text budget) (listed_with text* budget)
          out after out* after* says says* without without* (listed text a agree.first) (listed text* b agree.second)

    -- and with one budget that is their own
    listed_same : a.budget ≡ b.budget → (out after out* after* : List ℕ) (says says* : Answer) → NonePlanned set a → NonePlanned set b
        → AtFront (listing_of text) out says after → AtFront (listing_of text*) out* says* after*
        → SameListing (out_of set) a b (front_of says after) (front_of says* after*)
    listed_same one out after out* after* says says* without without* x y =
        let same : with_budget b a.budget ≡ b = rw one refl in
        rw same at
        (listed-with a.budget (budget-in-range (read_valid text a agree.first)) out after out* after* says says* without
        (rw same without*) (rw (listed_at_own text a agree.first) x)
        (rw one (rw (listed_at_own text* b agree.second) y)))

  module _ (lifetimes lifetimes* : Lfts 2) (text text* : Bor (List ℕ)) (out out* after after* : MutBor (List ℕ)) (w v : Result ℕ Refused) (a b : Records)
      (agree : BothAgree set (read text.now) (read text*.now) a b) where
    pub unplanned_do_not_matter_to_list : a.budget ≡ b.budget
        → listing.Promised lifetimes text out w after → listing.Promised lifetimes* text* out* v after*
        → NonePlanned set a → NonePlanned set b
        → length (listing_of text.now) ≤ length out.now → length (listing_of text*.now) ≤ length out*.now
        → SameListing (out_of set) a b (front_of (written_says w) after.now) (front_of (written_says v) after*.now)
    unplanned_do_not_matter_to_list one p q without without* fits fits* =
        listed_same text.now text*.now a b agree one out.now after.now out*.now after*.now
        (written_says w) (written_says v) without without*
        (list_gives lifetimes text out after w p fits) (list_gives lifetimes* text* out* after* v q fits*)

    pub unplanned_do_not_matter_to_list_with : (budget : ℕ) → is_budget budget ≡ true
        → listing.PromisedWith lifetimes text budget out w after → listing.PromisedWith lifetimes* text* budget out* v after*
        → NonePlanned set (with_budget a budget) → NonePlanned set (with_budget b budget)
        → length (listed_with text.now budget) ≤ length out.now → length (listed_with text*.now budget) ≤ length out*.now
        → SameListing (out_of set) (with_budget a budget) (with_budget b budget)
        (front_of (written_says w) after.now) (front_of (written_says v) after*.now)
    unplanned_do_not_matter_to_list_with budget in-range p q without without* fits fits* =
        listed-with text.now text*.now a b agree budget in-range out.now after.now out*.now after*.now
        (written_says w) (written_says v) without without*
        (list_with_gives lifetimes text budget out after w p fits) (list_with_gives lifetimes* text* budget out* after* v q fits*)

  module _ (text text* out out* after after* : List ℕ) (r s : TextAnswer) (a b : Records)
      (agree : BothAgree set (read text) (read text*) a b) where
    pub unplanned_do_not_matter_to_cuddlelamb_list : a.budget ≡ b.budget
        → boundary.ListTold text out r after → boundary.ListTold text* out* s after*
        → NonePlanned set a → NonePlanned set b → length (listing_of text) ≤ length out → length (listing_of text*) ≤ length out*
        → SameListing (out_of set) a b (front_of (boundary.text_says r) after) (front_of (boundary.text_says s) after*)
    unplanned_do_not_matter_to_cuddlelamb_list one p q without without* fits fits* =
        listed_same text text* a b agree one out after out* after* (boundary.text_says r) (boundary.text_says s) without without*
        (cuddlelamb_list_gives text out after r p fits) (cuddlelamb_list_gives text* out* after* s q fits*)

    pub unplanned_do_not_matter_to_cuddlelamb_list_with : (budget : ℕ) → is_budget budget ≡ true
        → boundary.ListWithTold text budget out r after → boundary.ListWithTold text* budget out* s after*
        → NonePlanned set (with_budget a budget) → NonePlanned set (with_budget b budget)
        → length (listed_with text budget) ≤ length out → length (listed_with text* budget) ≤ length out*
        → SameListing (out_of set) (with_budget a budget) (with_budget b budget)
        (front_of (boundary.text_says r) after) (front_of (boundary.text_says s) after*)
    unplanned_do_not_matter_to_cuddlelamb_list_with budget in-range p q without without* fits fits* =
        listed-with text text* a b agree budget in-range out after out* after* (boundary.text_says r) (boundary.text_says s)
        without without* (cuddlelamb_list_with_gives text budget out after r p fits)
        (cuddlelamb_list_with_gives text* budget out* after* s q fits*)
