-- `text::Cursor::row` meets its contract. At each field, the numbers taken so far and the fields that are left from the place
-- there tell the whole row; each field is what `number` says, with the end that it is to have here. Assumes nothing.
use Rattle.std.proofs.Common.{◌≡◌, ℕ, zero, suc, ◌+◌, ◌-◌, ◌<◌, length, take, sym, ap, ◌∙◌, add-one, arith, refl, take_all, take-suc-set}
use Rattle.text.specs.Fields.{FieldsTold, number_at, row_at}
use Rattle.text.proofs.Told.{end_before, no_field, none_so_far, number_field, one_more, refused-field, so_far}
use Rattle.text.proofs.Cursor.row.Goals.{In-loop-before, After-ended-taken, then-before-count, else-before-count}
use Rattle.text.proofs.Cursor.row.Goals as goal

-- what is told of the row, where so many fields are left
abbrev told : In-loop-before → ℕ → FieldsTold
told c n = so_far c.args.self (take c.loop-before.before c.loop-before.numbers) n c.args.text.now c.loop-before.place

-- the fields behind the one that is taken
abbrev left : In-loop-before → ℕ
left c = length c.args.numbers.now - (c.loop-before.before + 1)

whole : (c : In-loop-before) → row_at (length c.args.numbers.now) c.args.text.now c.args.self ≡ told c (suc (left c))
whole c =
    let one : length c.args.numbers.now - c.loop-before.before ≡ suc (left c) = omega (arith, c.loop-before-test.true) in
    c.loop-before.invariant ∙ ap (told c) one

end_there : (behind end : ℕ) → (behind ≡ 0 → end ≡ 10) → (0 < behind → end ≡ 9) → end ≡ end_before behind
end_there zero end last more = last refl
end_there (suc n) end last more = more (omega arith)

-- the end that is asked for here
end-is : (c : After-ended-taken) → c.if-before-count.end ≡ end_before (length c.args.numbers.now - (c.loop-before.before + 1))
end-is c =
    end_there (length c.args.numbers.now - (c.loop-before.before + 1)) c.if-before-count.end
    (λ e. elim c.if-before-count.branch [
      | then-before-count w ↦ absurd (omega (arith, w.if-before-count.true))
      | else-before-count w ↦ w.end-is
    ])
    (λ e. elim c.if-before-count.branch [
      | then-before-count w ↦ w.end-is
      | else-before-count w ↦ absurd (omega (arith, w.if-before-count.false))
    ])

pub loop-before-init : goal.loop-before-init
loop-before-init c = none_so_far (length c.args.numbers.now) c.args.text.now c.args.self c.if-count-eq0.false

pub returns-then-count-eq0 : goal.returns-then-count-eq0
unfolding row_at
returns-then-count-eq0 c = rw (c.at.ensures, c.if-count-eq0.true)

pub returns-in_default : goal.returns-in_default
returns-in_default c =
    let l = (goal.at.returns-in_default c).In-loop-before in
    let bad = refused-field c.ended-taken.result (number_at c.args.text.now c.loop-before.place c.if-before-count.end)
    c.in_default.field-0 (c.ended-taken.ensures ∙ c.run.ensures.says c.if-before-count.end) c.in_default.is in
    rw c.at-in_default.ensures
    (no_field c.args.self (take c.loop-before.before c.loop-before.numbers) c.args.text.now c.loop-before.place (left l)
    (rw (end-is (goal.at.returns-in_default c).After-ended-taken) at bad)
    ∙ sym (whole l))

pub loop-before-preserved : goal.loop-before-preserved
loop-before-preserved c =
    let l = (goal.at.loop-before-preserved c).In-loop-before in
    let field = number_field c.ended-taken.result (number_at c.args.text.now c.loop-before.place c.if-before-count.end)
    c.in-Ok.value (c.ended-taken.ensures ∙ c.run.ensures.says c.if-before-count.end) c.in-Ok.is in
    whole l
    ∙ one_more c.args.self (take c.loop-before.before c.loop-before.numbers) c.args.text.now c.loop-before.place c.in-Ok.value
    c.ended-taken.result.next (left l) (rw (end-is (goal.at.loop-before-preserved c).After-ended-taken) at field)
    ∙ rw (add-one c.loop-before.before, take-suc-set c.loop-before.numbers c.loop-before.before c.in-Ok.value (omega (arith, c.loop-before-test.true, c.loop-before.auto.numbers)))

pub returns : goal.returns
returns c =
    let all : length c.args.numbers.now - c.loop-before.before ≡ 0 = omega (arith, c.loop-before-test.false) in
    let whole_part = take_all c.loop-before.before c.loop-before.numbers (omega (arith, c.loop-before-test.false, c.loop-before.auto.numbers)) in
    sym (rw whole_part at (rw all at c.loop-before.invariant))
