-- `text::record_at` meets its contract: without a letter before a tab the line has no shape; with one, the row of as many
-- numbers as the letter table has decides what the line holds, and the record is made of these numbers alone. Assumes nothing.
use Rattle.std.proofs.Common.{◌≡◌, ℕ, ◌≤◌, List, length, take, replicate, sym, ap, ◌∙◌, length-take-le}
use Rattle.std.proofs.lemmas.Result.{err_from_is_err_and}
use Rattle.rules.specs.TableText.{field_count, most_fields}
use Rattle.text.specs.Fields.{is_good, row_at, row_says}
use Rattle.text.proofs.Records.{LineMade, no_letter_read, no_row_read, row_made_read}
use Rattle.text.proofs.Told.{refused_row}
use Rattle.text.proofs.record_at.Goals.{After-parsed_of}
use Rattle.text.proofs.record_at.Goals as goal

pub returns-in_default : goal.returns-in_default
returns-in_default c =
    let a = c.args in
    rw c.at.ensures (no_letter_read a.text.now a.place c.letter-taken.result c.letter-taken.ensures _ c.in_default.is)

-- as many places are lent as the letter has numbers
abbrev zeros : List ℕ
zeros = replicate most_fields 0

counted : (count letter : ℕ) → (count ≡ field_count letter) × (count ≤ most_fields) → length (take count zeros) ≡ field_count letter
counted count letter fields = length-take-le count zeros fields.1 ∙ fields.0

pub returns-in_default-row : goal.returns-in_default-row
returns-in_default-row c =
    let a = c.args in
    rw c.at-in_default-row.ensures
    (no_row_read a.text.now a.place c.letter-taken.result c.letter-taken.ensures _ c.in-Ok.is
    (ap (λ count. is_good (row_at count a.text.now c.letter-taken.result.next)) (sym (counted _ _ c.field_count-count.ensures))
    ∙ refused_row _ _ _ _ _ c.row.ensures c.in_default-row.is))

line_made : (c : After-parsed_of) → LineMade c.args.text.now c.args.place c.in-Ok-row.next c.parsed_of.result
line_made c =
    let a = c.args in
    rw c.parsed_of.ensures
    (row_made_read a.text.now a.place c.letter-taken.result c.letter-taken.ensures _ c.in-Ok.is _ _ _
    (sym (ap (row_says c.letter-taken.result.next _) c.in-Ok-row.is) ∙ c.row.ensures
    ∙ ap (λ count. row_at count a.text.now c.letter-taken.result.next) (counted _ _ c.field_count-count.ensures)))

pub returns-in_err-parsed : goal.returns-in_err-parsed
returns-in_err-parsed c =
    let p = err_from_is_err_and c.from_residual.result c.from_residual.ensures.1 in
    rw (p.1, p.2) (rw c.in_err-parsed.was at (line_made (goal.at.returns-in_err-parsed c).After-parsed_of))

pub returns : goal.returns
returns c = rw c.in_ok-parsed.was at (line_made (goal.at.returns c).After-parsed_of)
