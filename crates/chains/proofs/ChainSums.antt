-- The sums of a chain, from the columns, are the rules'. In a valid table every walk has ended within its bound, so that a chain
-- is its job and then the chain of whom it waits for: its sums are those, and one member more. Assumes nothing.
use mathlib.Core.List.{List, [], ◌∷◌}
use mathlib.Core.Logic.{inl}
use mathlib.Core.Path.{◌≡◌, refl, sym, ap, ◌∙◌}
use Prim.Native.Nat.{ℕ, suc, ◌+◌, ◌*◌, ◌≤◌, ◌<◌}
use native.Mathlib.Nat.{mul-le-mul_left, mul-suc}
use native.Mathlib.Omega.{arith}
use lib.Dec.{leb}
use lib.ListN.{get_or, length}
use Rattle.chains.proofs.Walks.{chain_met, few_met, met_are_places, next_met, walk_is_whole}
use Rattle.chains.specs.ChainSums.{chain_from, cycles_along, given_along, given_by, sum_at, sum_given}
use Rattle.chains.specs.Promises.{most_members}
use Rattle.chains.specs.Waits.{Waits}
use Rattle.columns.specs.Columns.{AllBelow, AtMost, Column, jobs_at}
use Rattle.laws.proofs.Choices.{split}
use Rattle.laws.proofs.Elements.{each_at_place}
use Rattle.rules.specs.Plan.{Run, chain_of, cycles_of, ends_by, gives, ratio_of, top_of, waits_left}
use Rattle.rules.specs.TableText.{Records, most_holds, no_job}
use Rattle.rules.specs.Valid.{Valid}
use Rattle.rules.specs.declared.Job.{Job}
use Rattle.steps.proofs.ChainRuns.{chain_gives, job_and_rest_give, no_job_gives}
use Rattle.steps.proofs.Deadlines.{ends_by_deadline}
use Rattle.steps.proofs.Given.{late_gives_nothing, timely_gives_worth}
use Rattle.steps.proofs.Jobs.{jobs_cycles}
use Rattle.steps.proofs.Rings.{walk_has_ended}
use Rattle.steps.proofs.Walks.{stands_after}
use Rattle.steps.specs.Deadlines.{deadline_of}

-- a member gives its worth or nothing
pub given_by_at_most : (end deadline worth : ℕ) → given_by end deadline worth ≤ worth
unfolding given_by
given_by_at_most end deadline worth =
    split (leb end deadline) (λ e. rw e (omega arith)) (λ e. rw e (omega arith))

module _ (b : ℕ) (column : List ℕ) (small : AtMost b column) where
  sum_at_most : (ps : List ℕ) → sum_at column ps ≤ b * length ps
  sum_at_most [] = omega arith
  sum_at_most (p ∷ ps) = rw (mul-suc b (length ps)) (omega (arith, small p, sum_at_most ps))

  given_at_most : (cycles deadline : List ℕ) (ps : List ℕ) → sum_given cycles column deadline ps ≤ b * length ps
  given_at_most cycles deadline [] = omega arith
  given_at_most cycles deadline (p ∷ ps) =
      rw (mul-suc b (length ps))
      (omega (
        arith,
        small p,
        given_by_at_most (sum_at cycles (p ∷ ps)) (get_or deadline p 0) (get_or column p 0),
        given_at_most cycles deadline ps,
      ))

  whole_at_most : (waits : List ℕ) (place : ℕ) → b * length (chain_from waits place) ≤ b * most_members
  whole_at_most waits place = mul-le-mul_left b (few_met waits most_members place)

  pub along_at_most : (waits : List ℕ) (place : ℕ) → cycles_along waits column place ≤ b * most_members
  along_at_most waits place = omega (arith, sum_at_most (chain_from waits place), whole_at_most waits place)

  pub given_along_at_most : (waits cycles deadline : List ℕ) (place : ℕ)
      → given_along waits cycles column deadline place ≤ b * most_members
  given_along_at_most waits cycles deadline place =
      omega (arith, given_at_most cycles deadline (chain_from waits place), whole_at_most waits place)

-- what a member gives, by its deadline
gives_by_deadline : (t : Records) (j : Job) (end : ℕ) → 1 ≤ end
    → gives t (record { job = j; cycles_by_end = end }) ≡ given_by end (deadline_of t.clock (top_of t).mhz j) j.worth
unfolding given_by
gives_by_deadline t j end h =
    let run : Run = record { job = j; cycles_by_end = end } in
    let by = ends_by_deadline t.clock (top_of t).mhz end j.termination h in
    split (ends_by t.clock (top_of t).mhz end j.termination)
    (λ e. timely_gives_worth t run _ _ _ _ refl refl refl refl e ∙ rw (sym by ∙ e))
    (λ e. late_gives_nothing t run _ _ _ _ refl refl refl refl e ∙ rw (sym by ∙ e))

module _ (t : Records) (v : Valid t) (waits : List ℕ) (column : Waits t.jobs (waits_left t) waits) where
  -- "itself, then the job it waits for, and so on"
  pub chain_one_more : (place : ℕ) → place < length t.jobs
      → chain_from waits place ≡ place ∷ chain_from waits (get_or waits place 0)
  chain_one_more place h =
      next_met waits most_members most_holds place refl (omega (arith, column.few))
      ∙ ap (λ ps. place ∷ ps)
      (sym (walk_is_whole t.jobs (waits_left t) waits column most_holds (get_or waits place 0) (column.place_or_nobody place h)
      (ap (λ o. stands_after (waits_left t) most_holds o) (column.whom place h) ∙ walk_has_ended t v (get_or t.jobs place no_job))))

  module _ (cycles : List ℕ) (cycles-of : Column (λ j. j.cycles) t.jobs cycles) where
    pub some_cycles : (place : ℕ) → place < length t.jobs → 1 ≤ get_or cycles place 0
    some_cycles place h = rw (cycles-of place) (each_at_place no_job (jobs_cycles t v) place h)

    cycles_at_places : (ps : List ℕ) → cycles_of (jobs_at t.jobs ps) ≡ sum_at cycles ps
    unfolding cycles_of
    cycles_at_places [] = refl
    cycles_at_places (p ∷ ps) = omega (arith, cycles-of p, cycles_at_places ps)

    pub cycles-along : (place : ℕ) → place < length t.jobs
        → cycles_along waits cycles place ≡ (ratio_of t (chain_of t (get_or t.jobs place no_job))).under
    unfolding ratio_of chain_of
    cycles-along place h =
        sym (cycles_at_places (chain_from waits place))
        ∙ ap cycles_of (chain_met t.jobs (waits_left t) waits column place h)

    module _ (worth deadline : List ℕ) (worth_of : Column (λ j. j.worth) t.jobs worth)
        (deadline-of : Column (deadline_of t.clock (top_of t).mhz) t.jobs deadline) where
      given_at_places : (ps : List ℕ) → AllBelow (length t.jobs) ps
          → chain_gives t (jobs_at t.jobs ps) ≡ sum_given cycles worth deadline ps
      given_at_places [] below = no_job_gives t
      given_at_places (p ∷ ps) below =
          let rest = given_at_places ps (λ i l. below (suc i) (omega arith)) in
          let own : (get_or t.jobs p no_job).cycles + cycles_of (jobs_at t.jobs ps) ≡ sum_at cycles (p ∷ ps) =
          omega (arith, cycles-of p, cycles_at_places ps) in
          let more = some_cycles p (below 0 (omega arith)) in
          job_and_rest_give t (get_or t.jobs p no_job) (jobs_at t.jobs ps)
          ∙ rw (rest, own) (rw (gives_by_deadline t (get_or t.jobs p no_job) (sum_at cycles (p ∷ ps)) (omega arith))
          (rw (worth_of p, deadline-of p)))

      pub given-along : (place : ℕ) → place < length t.jobs
          → given_along waits cycles worth deadline place ≡ (ratio_of t (chain_of t (get_or t.jobs place no_job))).over
      unfolding ratio_of chain_of
      given-along place h =
          sym (given_at_places (chain_from waits place)
          (met_are_places t.jobs (waits_left t) waits column most_members place (inl h)))
          ∙ ap (chain_gives t) (chain_met t.jobs (waits_left t) waits column place h)
