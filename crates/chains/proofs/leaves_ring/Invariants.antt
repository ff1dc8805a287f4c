use mathlib.Core.Bool.{Bool, false}
use mathlib.Core.List.{List}
use mathlib.Core.Path.{◌≡◌, sym, ap, ◌∙◌}
use Prim.Native.Nat.{ℕ, ◌-◌, ◌≤◌}
use lib.ListN.{get_or}
use Rattle.chains.proofs.Rings.{leaves_behind, leaves_told}
use Rattle.chains.proofs.Walks.{awaited_are_places, awaited_met}
use Rattle.chains.specs.Promises.{LeavesRing}
use Rattle.chains.specs.Waits.{places_from}
use Rattle.columns.specs.declared.Columns.{Columns}
use Rattle.rules.specs.Plan.{leaves_ring}
use Rattle.rules.specs.TableText.{Records, most_holds, no_job}
use Rattle.chains.proofs.leaves_ring.Given as goal

module _ (place : ℕ) (waits : List ℕ) (columns : Columns) where
  -- the places that the job waits for, in the end
  abbrev pub ring : List ℕ
  ring = places_from waits most_holds (get_or waits place 0)

  pub promised : (r : Bool) → ((t : Records) → r ≡ leaves_behind columns t place false ring)
      → LeavesRing place waits columns r
  promised r e = record {
    leaves = λ t js next rising column h number_of worth_of cycles-of.
        e t
        ∙ sym
        (leaves_told columns t place js rising h number_of worth_of cycles-of ring
        (awaited_are_places js next waits column place h))
        ∙ ap (λ jobs. leaves_ring t jobs (get_or js place no_job)) (awaited_met js next waits column place h);
  }

abbrev pub invariant-loop : goal.invariant-loop
invariant-loop l = (l.counter ≤ most_holds)
    × ((t : Records) → leaves_behind l.jobs t l.place l.met (places_from l.waits (most_holds - l.counter) l.at)
    ≡ leaves_behind l.jobs t l.place false (ring l.place l.waits l.jobs))
