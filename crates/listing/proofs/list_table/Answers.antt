-- `listing::list_table` meets its contract: what is decided for the table is told in numbers, whose lines are the table's. Assumes
-- nothing.
use mathlib.Core.Path.{◌≡◌, refl, ap, ◌∙◌}
use native.Mathlib.Omega.{arith}
use borrow.Author.Rules.{rules}
use lib.ListN.{length}
use lib.Seq.{length-take-le}
use Rattle.listing.proofs.Told.{finishable, told}
use Rattle.plans.specs.Promises.{Plannable}
use Rattle.rules.specs.Refusals.{written}
use Rattle.rules.specs.TableText.{most_jobs, records_of}
use Rattle.rules.specs.Valid.{Valid}
use Rattle.rules.specs.declared.Table.{Table}
use Rattle.listing.proofs.list_table.Goals as goal

clock_of : (table : Table) → table.clock ≡ (records_of table).clock
unfolding records_of
clock_of table = refl

valid-of : (table : Table) → Plannable table table.budget → Valid (records_of table)
unfolding records_of
valid-of table p = p.valid

pub order_rows-order_end-requires : goal.order_rows-order_end-requires
order_rows-order_end-requires c =
    let table = c.args.table.now in
    finishable (records_of table) (valid-of table c.requires.plannable) c.decide-decided.new.plan c.decide-decided.new.fates
    c.decide-decided.result c.decide-decided.ensures.decides c.check_table.new.columns (c.check_table.ensures.columns c.requires.checked)
    table.clock (clock_of table)

pub returns : goal.returns
returns c =
    let table = c.args.table.now in
    let fates = c.decide-decided.new.fates in
    let many : length fates ≡ most_jobs = search rules in
    c.list.ensures
    ∙ ap (λ lines. written lines c.args.out.now)
    (told (records_of table) (valid-of table c.requires.plannable) c.decide-decided.new.plan fates c.decide-decided.result
    c.decide-decided.ensures.decides c.check_table.new.columns (c.check_table.ensures.columns c.requires.checked) _ table.clock
    table.job_count c.order_rows-order_end.result c.fate_rows-other_end.result c.order_rows-order_end.new.rows
    c.fate_rows-other_end.new.rows (clock_of table) c.decide-decided.ensures.counted
    (length-take-le table.job_count fates (omega (arith, c.requires.plannable.few_jobs))) c.order_rows-order_end.ensures
    c.fate_rows-other_end.ensures refl refl refl refl refl)
