-- `roomlines::list_table` meets its contract: the turns noted of the table's course, and the fates that it leaves, are the rows of the
-- rooms, whose numbers are stored. Assumes nothing.
use mathlib.Core.List.{List}
use mathlib.Core.Path.{◌≡◌, refl, ap, ◌∙◌}
use Prim.Native.Nat.{ℕ, ◌≤◌}
use native.Mathlib.Omega.{arith}
use lib.ListN.{length, take}
use Rattle.columns.specs.Columns.{ColumnsOf, TermsOf}
use Rattle.columns.specs.declared.Columns.{Columns}
use Rattle.columns.specs.declared.Terms.{Terms}
use Rattle.plans.proofs.Deciding.{some_speed, table_runnable}
use Rattle.plans.specs.Courses.{FatesByTurn}
use Rattle.plans.specs.Promises.{CourseNoted, CourseOf, CourseRun, Plannable, RoomsNoted}
use Rattle.roomlines.proofs.Listed.{lines-of-rows}
use Rattle.roomlines.proofs.OwnTurns.{rows_by, rows_counted, turn_places}
use Rattle.roomlines.specs.Promises.{RoomRows, TurnPlaces}
use Rattle.rules.specs.Plan.{course_of}
use Rattle.rules.specs.Refusals.{taken, written}
use Rattle.rules.specs.Rooms.{room_lines_for, rooms_of}
use Rattle.rules.specs.TableText.{most_jobs, records_of, with_budget}
use Rattle.rules.specs.Valid.{Valid}
use Rattle.rules.specs.declared.Table.{Table}
use Rattle.digits.specs.Rows.{tab_rows}
use Rattle.roomlines.specs.Promises.{row_fields}
use Rattle.trials.specs.declared.Plan.{Plan}
use Rattle.roomlines.proofs.list_table.Goals as goal

-- what the course leaves of a table that can be planned, and its columns
module _ (table : Table) {jobs : Columns} {terms : Terms} (p : Plannable table table.budget)
    (of : ColumnsOf (records_of table).jobs jobs) (its_terms : TermsOf (with_budget (records_of table) table.budget) terms)
    {plan : Plan} {fates order₀ rooms₀ order rooms : List ℕ} {turns : ℕ}
    (run : CourseRun (take table.hold_count table.holds) jobs terms plan fates)
    (noted : CourseNoted (take table.hold_count table.holds) jobs terms turns order₀ rooms₀ order rooms)
    (order_long : length order₀ ≡ most_jobs) (rooms_long : length rooms₀ ≡ most_jobs) where
  v : Valid (records_of table)
  unfolding records_of
  v = p.valid

  course : CourseOf (records_of table) (take table.hold_count table.holds) jobs terms
  unfolding records_of
  course = record { valid = p.valid; terms_of = its_terms; holds_of = refl; columns_of = of }

  rooms-noted : RoomsNoted (records_of table) turns order rooms
  rooms-noted = noted.noted (records_of table) course (omega (arith, order_long)) (omega (arith, rooms_long))

  by-turn : FatesByTurn (records_of table) (course_of (records_of table)) fates
  by-turn = (run.course (records_of table) course).fates

  all-noted : turns ≤ length order
  all-noted = omega (arith, noted.few, noted.order_whole, order_long)

  pub places_of_turns : TurnPlaces (take turns order)
  places_of_turns =
      turn_places (records_of table) v turns order rooms jobs.number fates rooms-noted of.number by-turn all-noted noted.few

  pub rooms_told : (rows : List ℕ) (end : ℕ) → RoomRows (take turns order) rooms jobs.number fates rows end
      → tab_rows row_fields (take end rows) ≡ room_lines_for (taken (records_of table))
  rooms_told rows end told =
      told.lines (rooms_of (records_of table))
      (rows_counted (records_of table) v turns order rooms jobs.number fates rooms-noted of.number by-turn all-noted)
      (rows_by (records_of table) v turns order rooms jobs.number fates rooms-noted of.number by-turn all-noted)
      ∙ lines-of-rows (records_of table)

pub terms_of-terms-requires : goal.terms_of-terms-requires
terms_of-terms-requires c = (some_speed c.requires.plannable, c.requires.plannable.few_speeds)

pub course_of-turns-requires : goal.course_of-turns-requires
course_of-turns-requires c =
    let p = c.requires.plannable in
    table_runnable p (c.check_table.ensures.columns c.requires.checked) (c.terms_of-terms.ensures.of_table p)

pub room_rows-end-requires : goal.room_rows-end-requires
room_rows-end-requires c =
    let p = c.requires.plannable in
    let ran = c.course_of-turns.ensures in
    places_of_turns c.args.table.now p (c.check_table.ensures.columns c.requires.checked) (c.terms_of-terms.ensures.of_table p).0
    ran.run ran.noted refl refl

pub returns : goal.returns
returns c =
    let p = c.requires.plannable in
    let ran = c.course_of-turns.ensures in
    c.list_rows.ensures
    ∙ ap (λ lines. written lines c.args.out.now)
    (rooms_told c.args.table.now p (c.check_table.ensures.columns c.requires.checked) (c.terms_of-terms.ensures.of_table p).0
    ran.run ran.noted refl refl c.room_rows-end.new.rows c.room_rows-end.result c.room_rows-end.ensures)
