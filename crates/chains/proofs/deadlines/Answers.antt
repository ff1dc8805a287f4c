-- `chains::deadlines` meets its contract. At the place of each job passed stands its deadline, and 0 beyond them: what is stored
-- so far is the column of the jobs passed. Assumes nothing.
use mathlib.Core.List.{List, [], ◌∷◌}
use mathlib.Core.Path.{◌≡◌, refl, ap, ◌∙◌}
use Prim.Native.Nat.{ℕ, zero, suc, ◌+◌, ◌*◌, ◌-◌, ◌≤◌, ◌<◌}
use native.Mathlib.Nat.{mul-le-mul, zero-mul}
use native.Mathlib.Omega.{arith}
use lib.ListN.{get_or, length-set, set, take}
use lib.Seq.{get_or-take, length-take-le, take_all}
use Rattle.chains.specs.Promises.{most_deadline}
use Rattle.columns.proofs.Stored.{Filled, nothing_filled, one_more_filled, zeros_at}
use Rattle.columns.specs.Columns.{AtMost, Column, TermsOf}
use Rattle.columns.specs.declared.Terms.{Terms}
use Rattle.rules.specs.Plan.{top_of}
use Rattle.rules.specs.TableText.{Records, most_jobs, most_mhz, most_time, no_job}
use Rattle.steps.specs.Deadlines.{cycles_by, deadline_of}
use Rattle.chains.proofs.deadlines.Invariants.{deadlineIn}
use Rattle.chains.proofs.deadlines.Goals as goal

stored-at-most : (b : ℕ) (column : List ℕ) (i value : ℕ) → AtMost b column → value ≤ b → AtMost b (set column i value)
stored-at-most b [] i value all h k = omega arith
stored-at-most b (x ∷ column) zero value all h zero = h
stored-at-most b (x ∷ column) zero value all h (suc k) = all (suc k)
stored-at-most b (x ∷ column) (suc i) value all h zero = all 0
stored-at-most b (x ∷ column) (suc i) value all h (suc k) = stored-at-most b column i value (λ m. all (suc m)) h k

by-end-at-most : (clock mhz end : ℕ) → mhz ≤ most_mhz → end ≤ most_time → cycles_by clock mhz end ≤ most_deadline
unfolding cycles_by
by-end-at-most clock mhz end h l =
    let time : end - clock ≤ most_time = omega arith in
    let product : (end - clock) * mhz ≤ most_time * most_mhz = mul-le-mul time h in
    omega arith

-- where there is no job stands 0
nobody's-deadline : (clock mhz : ℕ) → deadline_of clock mhz no_job ≡ 0
unfolding cycles_by
nobody's-deadline clock mhz =
    let none : (0 - clock) * mhz ≡ 0 = ap (λ n. n * mhz) {y = 0} (omega arith) ∙ zero-mul mhz in
    rw none

module _ (t : Records) (termination : List ℕ) (terms : Terms) (terms_of : TermsOf t terms)
    (termination_of : Column (λ j. j.termination) t.jobs termination) where
  read-from-column : (i : ℕ) → cycles_by terms.clock terms.mhz (get_or termination i 0)
      ≡ deadlineIn t (get_or t.jobs i no_job)
  read-from-column i = rw (termination_of i, terms_of.clock, terms_of.mhz)

  one-deadline-more : (deadline : List ℕ) (i : ℕ) → i < most_jobs → Filled (deadlineIn t) (take i t.jobs) deadline
      → Filled (deadlineIn t) (take (i + 1) t.jobs)
      (set deadline i (cycles_by terms.clock terms.mhz (get_or termination i 0)))
  one-deadline-more deadline i h filled =
      rw (read-from-column i) (one_more_filled (deadlineIn t) t.jobs deadline i h filled)

pub loop-i-init : goal.loop-i-init
loop-i-init c =
    rw c.requires.0 (
      refl,
      λ i. omega (arith, zeros_at most_jobs i),
      λ t terms_of termination_of. nothing_filled (deadlineIn t) (nobody's-deadline t.clock (top_of t).mhz),
    )

pub loop-i-preserved : goal.loop-i-preserved
loop-i-preserved c =
    let start = c in
    let loop = c.loop-i in
    let inside : loop.i < start.args.terms.job_count = omega (arith, length-take-le start.args.terms.job_count start.args.termination.now) in
    let is : c.deadline.result ≡ cycles_by start.args.terms.clock start.args.terms.mhz (get_or start.args.termination.now loop.i 0) =
    c.deadline.ensures ∙ rw (get_or-take start.args.terms.job_count start.args.termination.now loop.i 0 inside) in (
      length-set loop.deadline_at loop.i c.deadline.result ∙ loop.invariant.0,
      stored-at-most most_deadline loop.deadline_at loop.i c.deadline.result loop.invariant.1
          (rw is (by-end-at-most start.args.terms.clock start.args.terms.mhz
          (get_or start.args.termination.now loop.i 0) start.requires.2.mhz (start.requires.1 loop.i))),
      λ t terms_of termination_of. rw is
          (one-deadline-more t start.args.termination.now start.args.terms terms_of termination_of
          loop.deadline_at loop.i (omega arith) (loop.invariant.2 t terms_of termination_of)),
    )

pub returns : goal.returns
returns c =
    let start = c in
    let loop = c.loop-i in
    record {
      deadlines_of = λ t terms_of termination_of.
          let whole : take loop.i t.jobs ≡ t.jobs = take_all loop.i t.jobs (omega (arith, terms_of.job-count)) in
          let filled : Filled (deadlineIn t) t.jobs loop.deadline_at =
          rw whole at (loop.invariant.2 t terms_of termination_of) in
          filled.column;
      at_most = loop.invariant.1;
    }
