-- Any two answers that a promise of this crate allows are equal: each promise says the whole value. For the four calls over a
-- reader and for `take` the promise is the record of specs/ that the contract says (`start_says` and so on, by computation); of
-- the readers that come back the text, where it begins and the place are the same. Assumes nothing.
use mathlib.Core.List.{List}
use mathlib.Core.Path.{◌≡◌, refl, sym, ap, ◌∙◌}
use Prim.Native.Nat.{ℕ}
use base.Logic.{SProp}
use contract.Lifetimes.{Lfts}
use contract.Monad.{Fun, fact}
use denote.Ref.{Bor}
use types.Logic.{Logic}
use seplogic.Ra.Ura.{Ura}
use prog.Memory.{Memory}
use prog.Routine.{Routine}
use Rattle.laws.proofs.Unique.{field_unique}
use Rattle.std.specs.Prelude.{Result}
use Rattle.rules.specs.declared.Refused.{Refused}
use Rattle.text.specs.Fields.{FieldsTold}
use Rattle.text.specs.declared.Cursor.{Cursor}
use Rattle.text.specs.declared.FieldTaken.{FieldTaken}
use Rattle.front.specs.Reading.{Moved, Next, Placed, Started, Took}
use Rattle.front.specs.declared.Clock.{Clock}
use Rattle.front.specs.declared.Kind.{Kind}
use Rattle.front.specs.declared.Reader.{Reader}
use Rattle.front.proofs.WholeText.{clock_line_unique}
use Rattle.front.proofs.clock_and_budget.Reads.{Learnt}
use Rattle.front.specs.contracts.moved as moved
use Rattle.front.specs.contracts.next as next
use Rattle.front.specs.contracts.place as place
use Rattle.front.specs.contracts.start as start
use Rattle.front.specs.contracts.take as take

-- what the contracts say of an answer r
module _ {M : Type 1} {𝓤 : Ura M} (𝓛 : Logic 𝓤) (mem : Memory → SProp 𝓤) (run : Routine → Fun 𝓤) (κs : Lfts 1) where
  pub start_says : (text : Bor (List ℕ)) (at : Cursor) (r : Reader)
      → (start.clauses 𝓛 mem run κs (text, (at, tt))).ensures tt r (text, (at, tt)) ≡ fact 𝓤 (Started text at r)
  start_says text at r = refl

  pub next_says : (reader : Reader) (kind : Kind) (r : Result ℕ Refused)
      → (next.clauses 𝓛 mem run κs (reader, (kind, tt))).ensures tt r (reader, (kind, tt)) ≡ fact 𝓤 (Next reader kind r)
  next_says reader kind r = refl

  pub moved_says : (reader : Reader) (kind : Kind) (r : Reader)
      → (moved.clauses 𝓛 mem run κs (reader, (kind, tt))).ensures tt r (reader, (kind, tt)) ≡ fact 𝓤 (Moved reader kind r)
  moved_says reader kind r = refl

  pub place_says : (reader : Reader) (r : Cursor)
      → (place.clauses 𝓛 mem run κs (reader, tt)).ensures tt r (reader, tt) ≡ fact 𝓤 (Placed reader r)
  place_says reader r = refl

  pub take_says : (text : Bor (List ℕ)) (at : Cursor) (kind : Kind) (r : FieldTaken)
      → (take.clauses 𝓛 mem run κs (text, (at, (kind, tt)))).ensures tt r (text, (at, (kind, tt)))
      ≡ fact 𝓤 (Took text.now at kind r)
  take_says text at kind r = refl

pub start_unique : (text : Bor (List ℕ)) (at : Cursor) (r s : Reader) → Started text at r → Started text at s → r ≡ s
start_unique text at r s p q = p.reader ∙ sym q.reader

pub next_unique : (reader : Reader) (kind : Kind) (r s : Result ℕ Refused) → Next reader kind r → Next reader kind s → r ≡ s
next_unique reader kind r s p q = field_unique r s (p.field ∙ sym q.field)

pub moved_unique : (reader : Reader) (kind : Kind) (r s : Reader) → Moved reader kind r → Moved reader kind s → r ≡ s
moved_unique reader kind r s p q = p.reader_behind ∙ sym q.reader_behind

pub place_unique : (reader : Reader) (r s : Cursor) → Placed reader r → Placed reader s → r ≡ s
place_unique reader r s p q = p.place ∙ sym q.place

pub take_unique : (text : List ℕ) (at : Cursor) (kind : Kind) (r s : FieldTaken)
    → Took text at kind r → Took text at kind s → r ≡ s
take_unique text at kind r s p q =
    let same = p.told ∙ sym q.told in
    known_by_parts r s (field_unique r.field s.field (ap (λ (told : FieldsTold). told.says) same))
    (ap (λ (told : FieldsTold). told.next) same)
  where
    known_by_parts : (r s : FieldTaken) → r.field ≡ s.field → r.next ≡ s.next → r ≡ s
    known_by_parts r s e f = rw (e, f)

-- what the promise of `clock_and_budget` tells a caller of an answer r
abbrev pub Promised : Lfts 1 → Bor (List ℕ) → Result Clock Refused → Type 0
Promised lifetime text r = Learnt lifetime (text, tt) r (text, tt)

pub clock_and_budget_unique : (lifetime : Lfts 1) (text : Bor (List ℕ)) (r s : Result Clock Refused)
    → Promised lifetime text r → Promised lifetime text s → r ≡ s
clock_and_budget_unique lifetime text r s p q = clock_line_unique r s (p ∙ sym q)
