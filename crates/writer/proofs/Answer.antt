-- The writer's answers are the rules': a refusal of the records, no room, or the text at the front. Where the check is done
-- the records are valid, so that no count is beyond its places and the text is no longer than the longest. Assumes nothing.
use mathlib.Core.List.{List}
use mathlib.Core.Path.{◌≡◌, refl, ◌∙◌}
use Prim.Native.Nat.{ℕ, ◌≤◌, ◌<◌}
use native.Mathlib.Omega.{arith}
use borrow.Author.Tests.{le-leb, lt-leb}
use lib.ListN.{length}
use Rattle.grammar.proofs.Longest.{valid_text_length}
use Rattle.grammar.proofs.Put.{put_at_front}
use Rattle.grammar.proofs.Trips.{check_exactly}
use Rattle.grammar.specs.Put.{put}
use Rattle.rules.specs.Answers.{refuses}
use Rattle.rules.specs.Refusals.{check, refused_at, refused_out, taken, writing, written, written_of}
use Rattle.rules.specs.TableText.{most_holds, most_jobs, most_speeds, records_of, text_of}
use Rattle.rules.specs.declared.Refusal.{Refusal}
use Rattle.rules.specs.declared.Table.{Table}
use Rattle.std.specs.Prelude.{Ok}
use Rattle.writer.specs.Lines.{Checked}
use Rattle.writer.specs.Promise.{WrittenAs}

pub refused_answer : (t : Table) (out : List ℕ) (why : Refusal) (line : ℕ) → check t ≡ refused_at why line
    → WrittenAs t out out (refuses why line)
unfolding writing written_of refused_out
refused_answer t out why line e = record { answer = rw e; buffer = rw e }

-- the records are taken
module _ (t : Table) (e : check t ≡ taken (records_of t)) where
  pub checked : length t.speeds ≡ most_speeds → length t.jobs ≡ most_jobs → length t.holds ≡ most_holds → Checked t
  checked speeds jobs holds =
      let (valid, same, fits) = (check_exactly t (records_of t)).0 e in
      record {
        placed =
            record {
              speeds = omega (arith, fits.speeds_fit);
              jobs = omega (arith, fits.jobs_fit);
              holds = omega (arith, fits.holds_fit);
            };
        speeds = fits.speeds_fit;
        jobs = fits.jobs_fit;
        holds = fits.holds_fit;
        bytes = valid_text_length valid;
      }

  pub no_room : (out : List ℕ) → length out < length (text_of (records_of t)) → WrittenAs t out out (refuses Refusal.Room 0)
  unfolding writing written_of written refused_out
  no_room out h =
      let short = lt-leb (length (text_of (records_of t))) (length out) h in
      record { answer = rw e (rw short refl); buffer = rw e (rw short refl) }

  pub text_written : (out after : List ℕ) (n : ℕ) → length (text_of (records_of t)) ≤ length out
      → n ≡ length (text_of (records_of t)) → after ≡ put out 0 (text_of (records_of t)) → WrittenAs t out after (Ok n)
  unfolding writing written_of written
  text_written out after n h long a =
      let room = le-leb (length (text_of (records_of t))) (length out) h in
      record {
        answer = rw e (rw room (rw long refl));
        buffer = a ∙ put_at_front out (text_of (records_of t)) ∙ rw e (rw room refl);
      }
