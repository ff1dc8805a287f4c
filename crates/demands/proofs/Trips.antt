-- Both round trips of demand 2 over the calls. Each law speaks of any answer that a call's promise allows, and so of the
-- answer that the call gives. Assumes nothing.
use mathlib.Core.List.{List}
use mathlib.Core.Path.{◌≡◌, sym, ◌∙◌}
use Prim.Native.Nat.{ℕ, ◌≤◌}
use contract.Lifetimes.{Lfts}
use denote.Ref.{Bor, MutBor}
use lib.ListN.{length, take}
use Rattle.std.specs.Prelude.{Result, Ok}
use Rattle.demands.specs.Trips.{SameTable, SameText}
use Rattle.grammar.proofs.Readings.{reading_done}
use Rattle.grammar.proofs.Trips.{WrittenBack, read_exactly, read_text, table_checked, table_records, written_back, written_read_again}
use Rattle.laws.proofs.Unique.{reading_unique, written_unique}
use Rattle.reader.proofs.Unique.{Promised as Reads}
use Rattle.rules.specs.Answers.{written_says}
use Rattle.rules.specs.Refusals.{check, read, reading_up_to, table_answer_up_to, taken, writing}
use Rattle.rules.specs.TableText.{Records, records_of, table_of, text_of}
use Rattle.rules.specs.declared.Refused.{Refused}
use Rattle.rules.specs.declared.Table.{Table}
use Rattle.writer.proofs.Unique.{Promised as Writes}

same_text : (text out after : List ℕ) (table : Table) (w : Result ℕ Refused)
    → (r : Records) × (read text ≡ taken r) × (table ≡ table_of r)
    → written_says w ≡ (writing table out).answer → after ≡ (writing table out).out → length text ≤ length out
    → SameText text out after w
same_text text out after table w (rs, took, stands) answered left room =
    let same : text_of rs ≡ text = read_text text rs took in
    let checked : check table ≡ taken rs = rw stands (table_checked ((read_exactly text rs).0 took).0) in
    let back : WrittenBack rs out (writing table out) = written_back table rs out checked (rw same room) in
    record {
      answer = written_unique w (Ok (length text)) (answered ∙ back.answer_length ∙ rw same);
      front = rw left (rw (← same) back.front);
      behind = rw left (rw (← same) back.behind);
    }

module _ (lifetime lifetime' : Lfts 1) where
  -- Demand 2: what `read` answers, handed to `write` with room.
  pub text_again : (text : Bor (List ℕ)) (table : Table) → Reads lifetime text (Ok table)
      → (out after : MutBor (List ℕ)) (w : Result ℕ Refused) → Writes lifetime' table out w after → length text.now ≤ length out.now
      → SameText text.now out.now after.now w
  text_again text table read_it out after w written_it room =
      let found = reading_done text.now table read_it in
      same_text text.now out.now after.now table w found written_it.answer written_it.buffer room

  -- Demand 2: what `write` put at the front of the buffer, handed to `read`.
  pub table_again : (t : Table) (out after : MutBor (List ℕ)) (n : ℕ) → Writes lifetime' t out (Ok n) after
      → (text : Bor (List ℕ)) → text.now ≡ take n after.now → (r : Result Table Refused) → Reads lifetime text r
      → SameTable t r
  unfolding reading_up_to table_answer_up_to
  table_again t out after n written_it text front r read_it =
      let took : read text.now ≡ taken (records_of t) =
      rw front (rw written_it.buffer (written_read_again t out.now n (sym written_it.answer))) in
      record {
        table = table_of (records_of t);
        done = reading_unique r (Ok (table_of (records_of t))) (read_it ∙ rw took);
        records = table_records (records_of t);
        valid = ((read_exactly text.now (records_of t)).0 took).0;
      }
