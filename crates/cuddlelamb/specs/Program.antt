-- What the program's functions promise. Of the bytes that the system gives or takes no promise can speak; of a reader and a writer
-- whose bytes are known the promises do.
use Rattle.std.specs.Prelude.{Bool, false, cond, List, ◌∷◌, ◌++◌, ◌≡◌, ℕ, eqb, take, IfSome, Option as Answer, Some, None}
use Rattle.std.specs.Io.KnownBytes.{Appends}
use Rattle.std.proofs.Math.Option.{Option, none, some}
use Rattle.caller.specs.Promises.{IsPrefixLen}
use Rattle.rules.specs.Listing.{listed_with, listing_of}
use Rattle.rules.specs.Lists.{any}
use Rattle.rules.specs.Rooms.{room_listing, room_listing_with}
use Rattle.rules.specs.TableText.{number_in}

-- All lines, and nothing else, are the front of the buffer: they are never refused for want of room.
pub record ListedAs (lines buffer : List ℕ) (count : ℕ) : Type 0 where
  pub counts : IsPrefixLen count buffer
  pub whole : take count buffer ≡ lines

-- What a word asks for: the budget that it is, "a number" as document 01 has them.
abbrev pub asks : Option ℕ → Answer ℕ
asks none = None
asks (some budget) = Some budget

-- The lines of a text's rooms, where they are asked for, or else its listing, with the text's own budget or with the one that is
-- asked for.
abbrev pub lines_asked : List ℕ → Bool → Answer ℕ → List ℕ
lines_asked text rooms None = cond rooms (room_listing text) (listing_of text)
lines_asked text rooms (Some budget) = cond rooms (room_listing_with text budget) (listed_with text budget)

-- Where it is known what there was to read and what was printed before: the lines that are asked for, of the first so many bytes of
-- the input, are printed behind that.
abbrev pub PrintedOf : ℕ → Bool → Answer ℕ → (input before after : Answer (List ℕ)) → Type 0
PrintedOf most rooms asked input before after = IfSome input (λ text. Appends before after (lines_asked (take most text) rooms asked))

-- Where the buffer begins with a word, and the byte 0 behind it, which is not in it.
pub record BudgetIn (buffer : List ℕ) (r : Answer ℕ) : Type 0 where
  pub of_word : (word rest : List ℕ) → buffer ≡ word ++ 0 ∷ rest → any (λ b. eqb b 0) word ≡ false → r ≡ asks (number_in word)
