-- What is written is the rules' listing: it stands at the front of the buffer where there is room. Assumes nothing.
use mathlib.Core.List.{List}
use mathlib.Core.Path.{◌≡◌}
use Prim.Native.Nat.{ℕ, ◌≤◌, ◌<◌}
use borrow.Author.Tests.{le-leb, lt-leb}
use lib.ListN.{length}
use Rattle.std.specs.Prelude.{Ok}
use Rattle.grammar.proofs.Put.{put_at_front}
use Rattle.grammar.specs.Put.{put}
use Rattle.beside.specs.Listed.{wrote}
use Rattle.rules.specs.Answers.{refuses}
use Rattle.rules.specs.Refusals.{refused_out, written}
use Rattle.rules.specs.declared.Refusal.{Refusal}

-- a text that fits stands at the front; one that does not leaves the buffer as it was
module _ (text out : List ℕ) where
  pub fits : (n : ℕ) (out' : List ℕ) → length text ≤ length out → n ≡ length text → out' ≡ put out 0 text
      → wrote (Ok n) out' ≡ written text out
  unfolding written
  fits n out' h e q = rw (le-leb (length text) (length out) h) (rw (e, q, put_at_front out text))

  pub no_room : length out < length text → wrote (refuses Refusal.Room 0) out ≡ written text out
  unfolding written refused_out
  no_room h = rw (lt-leb (length text) (length out) h)
