-- A number that is at most a buffer's length is the length of its front, and what a read puts behind the front that was read
-- makes it longer. Assumes nothing.
use Rattle.std.proofs.Common.{◌≤◌, ◌≡◌, ◌+◌, ◌∙◌, ℕ, List, ◌++◌, ap, length, length-take-le, subst, sym, take, Option}
use Rattle.std.proofs.Math.Seq.{take-append-add}
use Rattle.std.proofs.lemmas.List.{take-append-le}
use Rattle.std.proofs.KnownBytes.{Consumes-trans}
use Rattle.std.specs.Io.KnownBytes.{Consumes}
use Rattle.caller.specs.Promises.{IsPrefixLen}

pub prefix_len_of_le : (count : ℕ) (buffer : List ℕ) → count ≤ length buffer → IsPrefixLen count buffer
prefix_len_of_le count buffer within = (within, sym (length-take-le count buffer within))

-- What a read puts behind the front that was read makes that front longer.
module _ (front part behind : List ℕ) (at n : ℕ) (within : at ≤ length front) (few : n ≤ length part) where
  longer : take (at + n) (take at front ++ (part ++ behind)) ≡ take at front ++ take n part
  longer =
      ap (λ k. take (k + n) (take at front ++ (part ++ behind))) (sym (length-take-le at front within))
      ∙ take-append-add (take at front) (part ++ behind) n
      ∙ ap (λ l. take at front ++ l) (take-append-le n part behind few)

  pub read_on : (a b c : Option (List ℕ)) → Consumes a b (take at front) → Consumes b c (take n part)
      → Consumes a c (take (at + n) (take at front ++ (part ++ behind)))
  read_on a b c first second = subst (Consumes a c) (sym longer) (Consumes-trans a b c _ _ first second)
