-- What the functions for a program's caller promise. Of the bytes that the system gives or takes no promise can speak; of a reader
-- and a writer whose bytes are known the promises do.
use Rattle.std.specs.Prelude.{List, ℕ, Option, Result, Ok, Err, ◌≡◌, ◌≤◌, ◌<◌, ◌++◌, codes, length, take}
use Rattle.std.specs.Io.KnownBytes.{Appends, Consumes, IsAtEnd}

-- A buffer has so many bytes, and its front of that length has as many.
abbrev pub IsPrefixLen : ℕ → List ℕ → Type 0
IsPrefixLen count buffer = (count ≤ length buffer) × (count ≡ length (take count buffer))

-- What was read is a front part of the buffer.
abbrev pub FrontOf : {E : Type 0} → List ℕ → Result ℕ E → Type 0
FrontOf buffer (Ok count) = IsPrefixLen count buffer
FrontOf buffer (Err why) = Unit {0}

-- So many bytes of the buffer are the front of what there was to read, and where it did not get full they are all of that.
abbrev pub TakenOf : Option (List ℕ) → Option (List ℕ) → List ℕ → ℕ → Type 0
TakenOf old new buffer count = Consumes old new (take count buffer) × (count < length buffer → IsAtEnd new)

-- The same of what an input gave, where no read failed.
abbrev pub Taken : {E : Type 0} → Option (List ℕ) → Option (List ℕ) → List ℕ → Result ℕ E → Type 0
Taken old new buffer (Ok count) = TakenOf old new buffer count
Taken old new buffer (Err why) = Unit {0}

-- Where it is known what was said before: a line more is said, and it begins with what failed.
abbrev pub SaysOf : List ℕ → Option (List ℕ) → Option (List ℕ) → Type 0
SaysOf what before after = (why : List ℕ) × Appends before after (what ++ (codes ": " ++ (why ++ codes "\n")))
