-- `records::request_of` meets its contract: the closure gives a job's number. Assumes nothing.
use Rattle.std.proofs.Common.{◌≡◌, rules}
use Rattle.std.proofs.lemmas.List.Sorted.{answers_always}
use Rattle.rules.specs.Lists.{Rising}
use Rattle.rules.specs.declared.Job.{Job}
use Rattle.records.specs.Faults.{looked_up}
use Rattle.records.proofs.LookedUp.{request_at, request_found}
use Rattle.records.proofs.request_of.Goals.{After-ok}
use Rattle.records.proofs.request_of.Goals as goal

found : (c : After-ok) → Rising (λ (j : Job). j.number) c.args.jobs.now
    → request_at c.args.jobs.now c.ok.result ≡ looked_up c.args.jobs.now c.args.number
found c rising =
    let facts = c.binary_search_by_key.ensures in
    let by_number = facts.position (λ job. job.number) (answers_always _ _ _ (λ f a r g called. search rules)) in
    rw c.ok.ensures.value (request_found c.args.jobs.now c.args.number rising _ facts.bound by_number)

pub returns-in_err-place : goal.returns-in_err-place
returns-in_err-place c rising =
    rw (c.from_residual.ensures, ← found (goal.at.returns-in_err-place c).After-ok rising, c.in_err-place.was)

pub returns : goal.returns
returns c rising = rw (← found (goal.at.returns c).After-ok rising, c.in_ok-place.was)
