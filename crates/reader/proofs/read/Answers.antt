-- `reader::read` meets its contract. The invariant: what has been stored and noted are the records of the lines so far, and
-- reading all of the text comes to the same as going on from them with the rest of it. Each turn takes one line. Assumes
-- nothing.
use mathlib.Core.List.{List}
use mathlib.Core.Path.{◌≡◌, ap, ◌∙◌}
use Prim.Native.Nat.{ℕ, ◌<◌}
use native.Mathlib.Omega.{arith}
use lib.ListN.{length}
use Rattle.std.proofs.lemmas.Result.{err_from_is_err_and}
use Rattle.records.specs.declared.Standing.{Standing}
use Rattle.rules.specs.TableText.{most_holds, most_jobs, most_speeds}
use Rattle.rules.specs.declared.Hold.{Hold}
use Rattle.rules.specs.declared.Job.{Job}
use Rattle.rules.specs.declared.Speed.{Speed}
use Rattle.text.specs.declared.Parsed.{Parsed}
use Rattle.lines.specs.Step.{RecordAccepted, after_parsed, count_of}
use Rattle.reader.proofs.Ends.{all_read, at_start, no-speed, refused-line}
use Rattle.reader.proofs.OneMore.{clock_more, hold_more, hold_room, job_more, job_room, speed_more, speed_room}
use Rattle.reader.proofs.SoFar.{stands_with, fits, goes_on, noted}
use Rattle.reader.proofs.read.Goals.{After-place-1}
use Rattle.reader.proofs.read.Goals as goal

abbrev text-of : After-place-1 → List ℕ
text-of c = c.args.text.now

inside : (c : After-place-1) → c.loop-place.place.at < length (text-of c)
inside c = c.loop-place-test.true

line : (c : After-place-1) → let l = c.loop-place in
    RecordAccepted (text-of c) l.place (stands_with l.before l.invariant.records) c.in_ok-line.line
line c =
    let l = c.loop-place in
    c.in_ok-line.ensures (stands_with l.before l.invariant.records) (noted (text-of c) l.table l.before l.place l.invariant)

abbrev parsed-of : After-place-1 → Parsed
parsed-of k = k.in_ok-line.line.parsed

-- a line that is accepted moves the reading place on
moves : (k : After-place-1) → k.loop-place.place.at < k.in_ok-line.line.next.at
moves k =
    let l = k.loop-place in
    goes_on (text-of k) l.table l.before l.place l.invariant (inside k) k.in_ok-line.line (line k)

-- what is counted before the line, and the state after it, by what it holds
counted : (k : After-place-1) (p : Parsed) → parsed-of k ≡ p
    → k.count_of-n.result ≡ count_of k.loop-place.before p
counted k p e = k.count_of-n.ensures ∙ ap (count_of k.loop-place.before) e

stood : (k : After-place-1) (p : Parsed) → parsed-of k ≡ p
    → k.standing_after-before.result ≡ after_parsed k.loop-place.before p
stood k p e = k.standing_after-before.ensures ∙ ap (after_parsed k.loop-place.before) e

-- its record has a place
speed-place : (k : After-place-1) (f : Speed) → parsed-of k ≡ Parsed.Speed f → k.count_of-n.result < most_speeds
speed-place k f e =
    let l = k.loop-place in
    omega (arith, counted k (Parsed.Speed f) e, speed_room (text-of k) l.table l.before l.place l.invariant (inside k) k.in_ok-line.line (line k) f e)

job-place : (k : After-place-1) (j : Job) → parsed-of k ≡ Parsed.Job j → k.count_of-n.result < most_jobs
job-place k j e =
    let l = k.loop-place in
    omega (arith, counted k (Parsed.Job j) e, job_room (text-of k) l.table l.before l.place l.invariant (inside k) k.in_ok-line.line (line k) j e)

hold-place : (k : After-place-1) (h : Hold) → parsed-of k ≡ Parsed.Hold h → k.count_of-n.result < most_holds
hold-place k h e =
    let l = k.loop-place in
    omega (arith, counted k (Parsed.Hold h) e, hold_room (text-of k) l.table l.before l.place l.invariant (inside k) k.in_ok-line.line (line k) h e)

pub loop-place-init : goal.loop-place-init
loop-place-init c = rw c.without_records-table.ensures (rw c.none-before.ensures (at_start c.args.text.now (omega arith)))

pub shared_ref_as_front-accept_line : goal.shared_ref_as_front-accept_line
shared_ref_as_front-accept_line c =
    let l = c.loop-place in
    omega (arith, (fits l.invariant.reached).jobs, ap (λ (s : Standing). s.jobs) l.invariant.state)

pub standing_after-before-requires : goal.standing_after-before-requires
standing_after-before-requires c =
    let l = c.loop-place in
    let f = fits l.invariant.reached in
    rw l.invariant.state (f.speeds, f.jobs, f.holds)

pub loop-place-smaller-in-Clock : goal.loop-place-smaller-in-Clock
loop-place-smaller-in-Clock c =
    let k = c in omega (arith, inside (goal.at.loop-place-smaller-in-Clock k).After-place-1, moves (goal.at.loop-place-smaller-in-Clock k).After-place-1)

pub loop-place-preserved-in-Clock : goal.loop-place-preserved-in-Clock
loop-place-preserved-in-Clock c =
    let k = c in
    let l = k.loop-place in
    rw (stood (goal.at.loop-place-preserved-in-Clock k).After-place-1 _ c.in-Clock.is) (clock_more (text-of (goal.at.loop-place-preserved-in-Clock k).After-place-1) l.table l.before l.place l.invariant (inside (goal.at.loop-place-preserved-in-Clock k).After-place-1) k.in_ok-line.line (line (goal.at.loop-place-preserved-in-Clock k).After-place-1) c.in-Clock.clock c.in-Clock.budget c.in-Clock.is)

pub offset_bounds-table-n : goal.offset_bounds-table-n
offset_bounds-table-n c = omega (arith, speed-place (goal.at.offset_bounds-table-n c).After-place-1 c.in-Speed.speed c.in-Speed.is)

pub bounds-table-n : goal.bounds-table-n
bounds-table-n c = omega (arith, speed-place (goal.at.bounds-table-n c).After-place-1 c.in-Speed.speed c.in-Speed.is)

pub loop-place-smaller-in-Speed : goal.loop-place-smaller-in-Speed
loop-place-smaller-in-Speed c =
    let k = c in omega (arith, inside (goal.at.loop-place-smaller-in-Speed k).After-place-1, moves (goal.at.loop-place-smaller-in-Speed k).After-place-1)

pub loop-place-preserved-in-Speed : goal.loop-place-preserved-in-Speed
loop-place-preserved-in-Speed c =
    let k = c in
    let l = k.loop-place in
    rw (stood (goal.at.loop-place-preserved-in-Speed k).After-place-1 _ c.in-Speed.is)
    (rw (counted (goal.at.loop-place-preserved-in-Speed k).After-place-1 _ c.in-Speed.is) (speed_more (text-of (goal.at.loop-place-preserved-in-Speed k).After-place-1) l.table l.before l.place l.invariant (inside (goal.at.loop-place-preserved-in-Speed k).After-place-1) k.in_ok-line.line (line (goal.at.loop-place-preserved-in-Speed k).After-place-1) c.in-Speed.speed c.in-Speed.is))

pub offset_bounds-table-n-in-Job : goal.offset_bounds-table-n-in-Job
offset_bounds-table-n-in-Job c = omega (arith, job-place (goal.at.offset_bounds-table-n-in-Job c).After-place-1 c.in-Job.job c.in-Job.is)

pub bounds-table-n-in-Job : goal.bounds-table-n-in-Job
bounds-table-n-in-Job c = omega (arith, job-place (goal.at.bounds-table-n-in-Job c).After-place-1 c.in-Job.job c.in-Job.is)

pub loop-place-smaller-in-Job : goal.loop-place-smaller-in-Job
loop-place-smaller-in-Job c =
    let k = c in omega (arith, inside (goal.at.loop-place-smaller-in-Job k).After-place-1, moves (goal.at.loop-place-smaller-in-Job k).After-place-1)

pub loop-place-preserved-in-Job : goal.loop-place-preserved-in-Job
loop-place-preserved-in-Job c =
    let k = c in
    let l = k.loop-place in
    rw (stood (goal.at.loop-place-preserved-in-Job k).After-place-1 _ c.in-Job.is)
    (rw (counted (goal.at.loop-place-preserved-in-Job k).After-place-1 _ c.in-Job.is) (job_more (text-of (goal.at.loop-place-preserved-in-Job k).After-place-1) l.table l.before l.place l.invariant (inside (goal.at.loop-place-preserved-in-Job k).After-place-1) k.in_ok-line.line (line (goal.at.loop-place-preserved-in-Job k).After-place-1) c.in-Job.job c.in-Job.is))

pub offset_bounds-table-n-in-Hold : goal.offset_bounds-table-n-in-Hold
offset_bounds-table-n-in-Hold c = omega (arith, hold-place (goal.at.offset_bounds-table-n-in-Hold c).After-place-1 c.in-Hold.hold c.in-Hold.is)

pub bounds-table-n-in-Hold : goal.bounds-table-n-in-Hold
bounds-table-n-in-Hold c = omega (arith, hold-place (goal.at.bounds-table-n-in-Hold c).After-place-1 c.in-Hold.hold c.in-Hold.is)

pub loop-place-smaller : goal.loop-place-smaller
loop-place-smaller c =
    let k = c in omega (arith, inside (goal.at.loop-place-smaller k).After-place-1, moves (goal.at.loop-place-smaller k).After-place-1)

pub loop-place-preserved : goal.loop-place-preserved
loop-place-preserved c =
    let k = c in
    let l = k.loop-place in
    rw (stood (goal.at.loop-place-preserved k).After-place-1 _ c.in-Hold.is)
    (rw (counted (goal.at.loop-place-preserved k).After-place-1 _ c.in-Hold.is) (hold_more (text-of (goal.at.loop-place-preserved k).After-place-1) l.table l.before l.place l.invariant (inside (goal.at.loop-place-preserved k).After-place-1) k.in_ok-line.line (line (goal.at.loop-place-preserved k).After-place-1) c.in-Hold.hold c.in-Hold.is))

pub returns-in_err-line : goal.returns-in_err-line
returns-in_err-line c =
    let l = c.loop-place in
    let p = err_from_is_err_and c.from_residual.result c.from_residual.ensures.1 in
    rw (p.1, p.2)
    (refused-line c.args.text.now l.table l.before l.place l.invariant c.loop-place-test.true _
    (c.in_err-line.ensures (stands_with l.before l.invariant.records) (noted c.args.text.now l.table l.before l.place l.invariant)))

pub returns-then-before-eq0 : goal.returns-then-before-eq0
returns-then-before-eq0 c =
    let l = c.loop-place in
    rw c.at.ensures
    (no-speed c.args.text.now l.table l.before l.place l.invariant c.loop-place-test.false c.if-before-eq0.true)

pub returns : goal.returns
returns c =
    let l = c.loop-place in
    all_read c.args.text.now l.table l.before l.place l.invariant c.loop-place-test.false c.if-before-eq0.false
