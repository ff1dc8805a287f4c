-- `plans::decide` meets its contract: a table that can be planned is in the ranges that the steps ask for, and its terms are those
-- of its records. Assumes nothing.
use Rattle.plans.proofs.Deciding.{decided_of_it, its_columns, its_plannable, jobs_counted, noted_of_it, some_speed, table_concludable, table_runnable}
use Rattle.plans.proofs.decide.Goals as goal

pub terms_of-terms-requires : goal.terms_of-terms-requires
terms_of-terms-requires c = (some_speed c.requires.plannable, c.requires.plannable.few_speeds)

pub course_of-turns-requires : goal.course_of-turns-requires
course_of-turns-requires c =
    let plannable = its_plannable c.args.table.now c.args.budget c.requires in
    let columns = its_columns c.args.table.now c.args.budget c.requires in
    table_runnable plannable columns (c.terms_of-terms.ensures.of_table plannable)

pub conclude-requires : goal.conclude-requires
conclude-requires c =
    let plannable = its_plannable c.args.table.now c.args.budget c.requires in
    let columns = its_columns c.args.table.now c.args.budget c.requires in
    let run = c.course_of-turns.ensures.run in
    table_concludable plannable columns (c.terms_of-terms.ensures.of_table plannable) run.placed run.totalled

pub returns-clause-decides : goal.returns-clause-decides
returns-clause-decides c =
    let plannable = its_plannable c.args.table.now c.args.budget c.requires in
    decided_of_it c.args.table.now c.args.budget c.requires (c.terms_of-terms.ensures.of_table plannable).0
    c.course_of-turns.ensures.run c.conclude.ensures

pub returns-clause-noted : goal.returns-clause-noted
returns-clause-noted c =
    let plannable = its_plannable c.args.table.now c.args.budget c.requires in
    noted_of_it c.args.table.now c.args.budget c.requires (c.terms_of-terms.ensures.of_table plannable).0
    c.conclude.ensures.turns_counted c.course_of-turns.ensures.noted

pub returns-clause-counted : goal.returns-clause-counted
returns-clause-counted c =
    let plannable = its_plannable c.args.table.now c.args.budget c.requires in
    jobs_counted c.args.table.now c.args.budget c.requires (c.terms_of-terms.ensures.of_table plannable).0
    c.terms_of-terms.ensures.told
