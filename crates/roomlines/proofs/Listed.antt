-- What was taken of a text decides its lines, with its own budget or with one beside it. A refused one has those of its listing.
-- Assumes nothing.
use mathlib.Core.List.{List}
use mathlib.Core.Path.{◌≡◌, refl, ◌∙◌}
use Prim.Native.Nat.{ℕ}
use Rattle.rules.specs.Listing.{lines_for, listed_with, listing_of}
use Rattle.rules.specs.Plan.{at_budget}
use Rattle.rules.specs.Refusals.{Taken, read, refused_at, taken}
use Rattle.rules.specs.Rooms.{room_lines_for, room_lines_from, room_listing, room_listing_with, rooms_of}
use Rattle.rules.specs.TableText.{Records}
use Rattle.rules.specs.declared.Refusal.{Refusal}

pub lines-of-rows : (t : Records) → room_lines_from 1 (rooms_of t) ≡ room_lines_for (taken t)
unfolding room_lines_for
lines-of-rows t = refl

pub refusal_lines : (why : Refusal) (line : ℕ) → room_lines_for (refused_at why line) ≡ lines_for (refused_at why line)
unfolding room_lines_for
refusal_lines why line = refl

module _ (text : List ℕ) where
  pub rooms-of : (k : Taken) → read text ≡ k → room_listing text ≡ room_lines_for k
  unfolding room_listing
  rooms-of k e = rw e

  pub as_listed : (why : Refusal) (line : ℕ) → read text ≡ refused_at why line → room_listing text ≡ listing_of text
  unfolding listing_of
  as_listed why line e = rooms-of (refused_at why line) e ∙ rw (e, refusal_lines why line)

  module _ (budget : ℕ) where
    pub rooms_with : (k : Taken) → at_budget budget (read text) ≡ k → room_listing_with text budget ≡ room_lines_for k
    unfolding room_listing_with
    rooms_with k e = rw e

    pub as_listed_with : (why : Refusal) (line : ℕ) → at_budget budget (read text) ≡ refused_at why line
        → room_listing_with text budget ≡ listed_with text budget
    unfolding listed_with
    as_listed_with why line e = rooms_with (refused_at why line) e ∙ rw (e, refusal_lines why line)
