-- `text::digits_within` meets its contract. The loop's invariant: the digits passed are counted and summed up, and going on
-- from there gives the whole. It stops at a byte that is no digit, or at the end, which is at most one digit behind a number's
-- last: so many fit 64 bits. Assumes nothing.
use Rattle.std.proofs.Common.{◌≡◌, ◌<◌, get_or, take, arith}
use Rattle.std.proofs.lemmas.List.{get_or-take, length-take-le}
use Rattle.text.proofs.Numbers.{begun_ended, begun_more, begun_none, begun_small, begun_unended}
use Rattle.text.proofs.digits_within.Goals.{In-loop-count}
use Rattle.text.proofs.digits_within.Goals as goal

inside : (c : In-loop-count) → c.loop-count.count < c.args.end
inside c = omega (arith, c.loop-count-test.true, length-take-le c.args.end c.args.text.now c.requires.0)

-- the byte that is read is that of the text
byte : (c : In-loop-count)
    → get_or (take c.args.end c.args.text.now) c.loop-count.count 0 ≡ get_or c.args.text.now c.loop-count.count 0
byte c = get_or-take c.args.end c.args.text.now c.loop-count.count 0 (inside c)

pub loop-count-init : goal.loop-count-init
loop-count-init c = begun_none _

pub returns-in_default : goal.returns-in_default
returns-in_default c =
    let l = (goal.at.returns-in_default c).In-loop-count in
    rw (byte l)
    (begun_ended _ _ c.loop-count.count _ c.loop-count.invariant (omega (arith, inside l)) (inside l)
    (rw (byte l) at (c.in_default.ensures)))

pub overflow_mul-value : goal.overflow_mul-value
overflow_mul-value c =
    omega (arith, begun_small _ _ _ c.loop-count.invariant (omega (arith, inside (goal.at.overflow_mul-value c).In-loop-count)))

pub overflow_add-value : goal.overflow_add-value
overflow_add-value c =
    let digit = c.in-Some.ensures in
    omega (arith, digit.0, begun_small _ _ _ c.loop-count.invariant (omega (arith, inside (goal.at.overflow_add-value c).In-loop-count)))

pub loop-count-preserved : goal.loop-count-preserved
loop-count-preserved c =
    let l = (goal.at.loop-count-preserved c).In-loop-count in
    let digit = c.in-Some.ensures in
    begun_more _ _ _ _ c.loop-count.invariant (omega (arith, inside l)) (rw (byte l) at digit.1) digit.0

pub returns : goal.returns
returns c =
    let all : c.loop-count.count ≡ c.args.end =
    omega (arith, length-take-le c.args.end c.args.text.now c.requires.0) in
    begun_unended _ _ _ (rw all at c.loop-count.invariant)
