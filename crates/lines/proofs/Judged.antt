-- What the judgement of a record says is the rules' fault of its item, for the records that the reader has noted. Assumes
-- nothing.
use mathlib.Core.Bool.{Bool, true, false}
use mathlib.Core.List.{List, [], ◌∷◌}
use mathlib.Core.Option.{Option, some}
use mathlib.Core.Path.{◌≡◌, refl, sym, ap, ◌∙◌}
use Prim.Native.Nat.{ℕ}
use lib.Dec.{eqb}
use native.Mathlib.Omega.{arith}
use Rattle.std.specs.Prelude.{Option as Answer, cond, map}
use Rattle.records.proofs.Faults.{clock-fault, hold-fault, job-fault, speed-fault}
use Rattle.records.proofs.LookedUp.{holder_fault_looked_up}
use Rattle.records.specs.Faults.{RequestOf, clock_fault, hold_fault, job_fault, looked_up, requested, speed_fault}
use Rattle.records.specs.declared.Standing.{Standing}
use Rattle.rules.specs.Lists.{Rising, find, no_element, one_element, ◌below◌}
use Rattle.rules.specs.Refusals.{Before, fault_of}
use Rattle.rules.specs.TableText.{Record}
use Rattle.rules.specs.declared.Hold.{Hold}
use Rattle.rules.specs.declared.Job.{Job}
use Rattle.rules.specs.declared.Refusal.{Refusal}
use Rattle.rules.specs.declared.Speed.{Speed}
use Rattle.lines.specs.Step.{Noted}

-- Jobs with the numbers of others rise as those do.
rising_alike : (js ks : List Job) → map (λ (j : Job). j.number) js ≡ map (λ (j : Job). j.number) ks → Rising (λ (j : Job). j.number) ks
    → Rising (λ (j : Job). j.number) js
rising_alike [] ks e r = no_element
rising_alike (x ∷ []) ks e r = one_element
rising_alike (x ∷ y ∷ js) [] e r = cc
rising_alike (x ∷ y ∷ js) (z ∷ []) e r = cc
rising_alike (x ∷ y ∷ js) (z ∷ w ∷ ks) e (l below r) =
    let first : x.number ≡ z.number = cc in
    let second : y.number ≡ w.number = cc in
    let others : map (λ (j : Job). j.number) (y ∷ js) ≡ map (λ (j : Job). j.number) (w ∷ ks) = cc in
    (omega arith) below (rising_alike (y ∷ js) (w ∷ ks) others r)

-- With their requests too, they are looked up as those are.
looked_up_alike : (number : ℕ) (js ks : List Job) → map (λ (j : Job). j.number) js ≡ map (λ (j : Job). j.number) ks
    → map (λ (j : Job). j.request) js ≡ map (λ (j : Job). j.request) ks → looked_up js number ≡ looked_up ks number
unfolding looked_up
looked_up_alike number [] [] e f = refl
looked_up_alike number [] (k ∷ ks) e f = cc
looked_up_alike number (j ∷ js) [] e f = cc
looked_up_alike number (j ∷ js) (k ∷ ks) e f =
    let same : j.number ≡ k.number = cc in
    let asked : j.request ≡ k.request = cc in
    let more : map (λ (j : Job). j.number) js ≡ map (λ (j : Job). j.number) ks = cc in
    let more_asked : map (λ (j : Job). j.request) js ≡ map (λ (j : Job). j.request) ks = cc in
    ap (λ n. requested (cond (eqb n number) (some j) (find (λ j. eqb j.number number) js))) same
    ∙ by_test (eqb k.number number) asked (looked_up_alike number js ks more more_asked)
  where
    by_test : (t : Bool) → j.request ≡ k.request → looked_up js number ≡ looked_up ks number
        → requested (cond t (some j) (find (λ j. eqb j.number number) js)) ≡ requested (cond t (some k) (find (λ j. eqb j.number number) ks))
    by_test true asked others = rw asked
    by_test false asked others = others

module _ (b : Before) (before : Standing) (jobs : List Job) (n : Noted b before jobs) where
  pub clock_judged : (clock budget : ℕ) {o : Option Refusal} → o ≡ clock_fault before clock budget → o ≡ fault_of b (Record.T clock budget)
  clock_judged clock budget e = e ∙ rw n.state (sym (clock-fault b clock budget))

  pub speed_judged : (f : Speed) {o : Option Refusal} → o ≡ speed_fault before f → o ≡ fault_of b (Record.F f)
  speed_judged f e = e ∙ rw n.state (sym (speed-fault b f))

  pub job_judged : (j : Job) {o : Option Refusal} → o ≡ job_fault before j → o ≡ fault_of b (Record.J j)
  job_judged j e = e ∙ rw n.state (sym (job-fault b j))

  pub hold_judged : (h : Hold) (request : Answer ℕ) {o : Option Refusal} → RequestOf jobs h.holder request
      → o ≡ hold_fault before h request → o ≡ fault_of b (Record.H h)
  hold_judged h request found e =
      let js = b.records.jobs in
      let looked : request ≡ looked_up js h.holder =
      found (rising_alike jobs js n.numbers n.rising) ∙ looked_up_alike h.holder jobs js n.numbers n.requests in
      e ∙ rw n.state (rw looked (sym (hold-fault b h (looked_up js h.holder) (holder_fault_looked_up h js n.rising))))
