-- `lines::judge_record` meets its contract: each letter's judgement is the rules' fault of that record. Assumes nothing.
use Rattle.lines.proofs.Judged.{clock_judged, speed_judged, job_judged, hold_judged}
use Rattle.text.specs.Lines.{item_of}
use Rattle.lines.proofs.judge_record.Goals as goal

pub returns-in-Clock : goal.returns-in-Clock
unfolding item_of
returns-in-Clock c = λ b n.
    let s = c in
    rw c.in-Clock.is (clock_judged b s.args.before s.args.jobs.now n c.in-Clock.clock c.in-Clock.budget c.judge_clock.ensures)

pub returns-in-Speed : goal.returns-in-Speed
unfolding item_of
returns-in-Speed c = λ b n.
    let s = c in
    rw c.in-Speed.is (speed_judged b s.args.before s.args.jobs.now n c.in-Speed.speed c.judge_speed.ensures)

pub returns-in-Job : goal.returns-in-Job
unfolding item_of
returns-in-Job c = λ b n.
    let s = c in
    rw c.in-Job.is (job_judged b s.args.before s.args.jobs.now n c.in-Job.job c.judge_job.ensures)

pub returns-in-Hold : goal.returns-in-Hold
unfolding item_of
returns-in-Hold c = λ b n.
    let s = c in
    rw c.in-Hold.is
    (hold_judged b s.args.before s.args.jobs.now n c.in-Hold.hold c.request_of-request.result c.request_of-request.ensures c.judge_hold.ensures)
