-- `checks::next_of` meets its contract: the letters are looked at in their order, and the first of which anything is left
-- comes next. Assumes nothing.
use mathlib.Core.Bool.{true}
use mathlib.Core.List.{[]}
use mathlib.Core.Path.{◌≡◌, refl}
use native.Mathlib.Omega.{arith}
use borrow.Author.Tests.{not-false, not-true}
use Rattle.lines.specs.Step.{after_parsed}
use Rattle.text.specs.Lines.{parsed_of}
use Rattle.checks.specs.Left.{holds_in, jobs_in, record_at, speeds_in}
use Rattle.checks.specs.declared.Spot.{Spot}
use Rattle.checks.proofs.Left.{behind_jobs, behind_speeds, clock_comes, holds_first, jobs_first, letter_next, no_speed_first, nothing_left, speeds_first}
use Rattle.checks.proofs.next_of.Goals.{Else-not-before}
use Rattle.checks.proofs.next_of.Goals as goal

-- the T stands
begun : (c : Else-not-before) → c.args.before.begun ≡ true
begun c = not-false c.args.before.begun c.if-not-before.false

pub returns-then-not-before : goal.returns-then-not-before
returns-then-not-before c whole =
    let s = c.args.before in let t = c.args.table.now in clock_comes t s (not-true s.begun c.if-not-before.true)

pub returns-then-table-eq0 : goal.returns-then-table-eq0
returns-then-table-eq0 c whole =
    let s = c.args.before in let t = c.args.table.now in (behind_speeds t s, no_speed_first t s (begun (goal.at.returns-then-table-eq0 c).Else-not-before) (omega arith))

pub returns-then-speeds-table : goal.returns-then-speeds-table
returns-then-speeds-table c whole =
    let e = c in
    let s = e.args.before in let t = e.args.table.now in
    let behind = speeds_first t (after_parsed s (parsed_of (record_at (speeds_in t) s.speeds))) refl (omega arith) in
    rw c.placed.ensures
    (letter_next (speeds_in t) s.speeds (behind_speeds t s) t s (Spot.Speed s.speeds) (λ x. x) (λ x. x) tt (speeds_first t s (begun (goal.at.returns-then-speeds-table e).Else-not-before) (omega arith)) behind whole.speeds (omega arith))

pub returns-then-jobs-table : goal.returns-then-jobs-table
returns-then-jobs-table c whole =
    let e = c in
    let s = e.args.before in let t = e.args.table.now in
    let behind = jobs_first t (after_parsed s (parsed_of (record_at (jobs_in t) s.jobs))) refl (omega arith) in
    rw c.placed-then-jobs-table.ensures
    (letter_next (jobs_in t) s.jobs (behind_jobs t s) t s (Spot.Job s.jobs) (λ x. x) (λ x. x) refl (jobs_first t s (begun (goal.at.returns-then-jobs-table e).Else-not-before) (omega arith)) behind whole.jobs (omega arith))

pub returns-then-holds-table : goal.returns-then-holds-table
returns-then-holds-table c whole =
    let e = c in
    let s = e.args.before in let t = e.args.table.now in
    let behind = holds_first t (after_parsed s (parsed_of (record_at (holds_in t) s.holds))) refl (omega arith) in
    rw c.placed-then-holds-table.ensures
    (letter_next (holds_in t) s.holds [] t s (Spot.Hold s.holds) (λ x. x) (λ x. x) tt (holds_first t s (begun (goal.at.returns-then-holds-table e).Else-not-before) (omega arith)) behind whole.holds (omega arith))

pub returns : goal.returns
returns c whole =
    let e = c in
    let s = e.args.before in let t = e.args.table.now in (nothing_left t s (begun (goal.at.returns e).Else-not-before) (omega arith) (omega arith) (omega arith), omega arith)
