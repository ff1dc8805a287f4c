-- One line of a text, read by its letter and its numbers: what it holds, and where the reading stands behind it.
use Rattle.std.specs.Prelude.{Result, Ok, Err, ◌≡◌, ℕ, ◌≤◌, List, length, drop}
use Rattle.std.proofs.Math.Option.{Option, none, some}
use Rattle.rules.specs.TableText.{Record, line_feed}
use Rattle.rules.specs.Refusals.{Item, bad, one}
use Rattle.rules.specs.Answers.{refuses}
use Rattle.rules.specs.declared.Refusal.{Refusal}
use Rattle.rules.specs.declared.Refused.{Refused}
use Rattle.grammar.specs.FirstLine.{first_item, rest_of}
use Rattle.text.specs.Fields.{line_behind}
use Rattle.text.specs.declared.Cursor.{Cursor}
use Rattle.text.specs.declared.Line.{Line}
use Rattle.text.specs.declared.Parsed.{Parsed}

abbrev pub parsed_of : Record → Parsed
parsed_of (Record.T clock budget) = Parsed.Clock clock budget
parsed_of (Record.F f) = Parsed.Speed f
parsed_of (Record.J j) = Parsed.Job j
parsed_of (Record.H h) = Parsed.Hold h

-- what a line's letter and numbers make: its record, or where they make none "1: the line has none of the four shapes", with the
-- number of the line
abbrev pub parsed_with : ℕ → Option Record → Result Parsed Refused
parsed_with line none = refuses Refusal.Shape line
parsed_with line (some r) = Ok (parsed_of r)

-- What the rules call what was parsed.
unfoldable pub item_of : Parsed → Item
item_of (Parsed.Clock clock budget) = one (Record.T clock budget)
item_of (Parsed.Speed f) = one (Record.F f)
item_of (Parsed.Job j) = one (Record.J j)
item_of (Parsed.Hold h) = one (Record.H h)

-- A record: the text from the place on begins with it, and the reading then stands behind the line feed, in the next line.
pub record RecordRead (text : List ℕ) (place : Cursor) (line : Line) : Type 0 where
  pub item : item_of line.parsed ≡ first_item (drop place.at text)
  pub within : line.next.at ≤ length text
  pub rest : drop line.next.at text ≡ rest_of (drop place.at text)
  pub next_line : line.next.line ≡ line_behind line_feed place.line

-- A refusal: the text from the place on begins with a line of no record, and it has the line's number. At the end of the text, or
-- beyond, there is no line: that is refused 1 too.
pub record LineRefused (text : List ℕ) (place : Cursor) (r : Refused) : Type 0 where
  pub item : bad r.why ≡ first_item (drop place.at text)
  pub line : r.line ≡ place.line

-- What reading the line at a place promises.
abbrev pub LineRead : List ℕ → Cursor → Result Line Refused → Type 0
LineRead text place (Ok line) = RecordRead text place line
LineRead text place (Err r) = LineRefused text place r
