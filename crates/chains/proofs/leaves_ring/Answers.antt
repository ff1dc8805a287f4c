-- `chains::leaves_ring` meets its contract. The job goes rather than each member met so far, so that it leaves the ring
-- exactly where it was met or is yet to be met, and goes rather than each that is yet to be met. Assumes nothing.
use mathlib.Core.Bool.{Bool, false}
use mathlib.Core.List.{List}
use mathlib.Core.Path.{◌≡◌, refl, sym, ap, ◌∙◌}
use Prim.Native.Nat.{ℕ, ◌+◌, ◌-◌}
use native.Mathlib.Omega.{arith}
use lib.ListN.{get_or}
use Rattle.chains.proofs.Rings.{leaves_behind, next_goes, next_stays, none_left, rather_at, told_at}
use Rattle.chains.proofs.Walks.{next_met, no_step_left, nobody_met}
use Rattle.chains.specs.Promises.{Rather, Weighable, weight_at}
use Rattle.chains.specs.declared.Weight.{Weight}
use Rattle.columns.specs.declared.Columns.{Columns}
use Rattle.chains.specs.Waits.{places_from}
use Rattle.rules.specs.TableText.{Records, most_holds}
use Rattle.chains.proofs.leaves_ring.Invariants.{promised}
use Rattle.chains.proofs.leaves_ring.Goals.{After-goes_rather}
use Rattle.chains.proofs.leaves_ring.Goals as goal

told_by : (columns : Columns) (place at : ℕ) (own other : Weight) (r : Bool) → own ≡ weight_at columns place
    → other ≡ weight_at columns at → Rather own other r → (t : Records) → r ≡ rather_at columns t place at
told_by columns place at own other r e f rather t =
    rather.rather t (told_at columns place) (told_at columns at)
    (rw e (record { worth_of = refl; cycles-of = refl; number_of = refl }))
    (rw f (record { worth_of = refl; cycles-of = refl; number_of = refl }))

goes-told : (c : After-goes_rather) (t : Records) → c.goes_rather.result ≡ rather_at c.args.jobs.now t c.args.place c.loop.at
goes-told c =
    told_by c.args.jobs.now c.args.place c.loop.at c.at-own.result c.at.result c.goes_rather.result c.at-own.ensures
    c.at.ensures c.goes_rather.ensures

pub loop-init : goal.loop-init
loop-init c = (omega arith, λ t. refl)

pub returns-then-at-ge-MOST_JOBS : goal.returns-then-at-ge-MOST_JOBS
returns-then-at-ge-MOST_JOBS c =
    let args = c.args in
    let loop = c.loop in
    promised _ _ _ loop.met (λ t.
    let leaves : List ℕ → Bool =
    leaves_behind args.jobs.now t args.place loop.met in
    sym (none_left args.jobs.now t args.place loop.met)
    ∙ sym (ap leaves (nobody_met args.waits.now (most_holds - loop.counter) loop.at c.if-at-ge-MOST_JOBS.true))
    ∙ loop.invariant.1 t)

pub goes_rather-requires : goal.goes_rather-requires
goes_rather-requires c =
    let weighable : (p : ℕ) → Weighable (weight_at c.args.jobs.now p) =
    λ p. record { worth_small = c.requires.1 p; cycles_small = c.requires.2 p } in
    (rw c.at-own.ensures (weighable c.args.place), rw c.at.ensures (weighable c.loop.at))

pub returns-then-not-goes_rather : goal.returns-then-not-goes_rather
returns-then-not-goes_rather c =
    let args = c.args in
    let loop = c.loop in
    let rest = places_from args.waits.now (most_holds - (loop.counter + 1)) (get_or args.waits.now loop.at 0) in
    promised _ _ _ false (λ t.
    let leaves : List ℕ → Bool =
    leaves_behind args.jobs.now t args.place loop.met in
    sym
    (next_goes args.jobs.now t args.place loop.met loop.at rest
    (sym (goes-told (goal.at.returns-then-not-goes_rather c).After-goes_rather t) ∙ c.if-not-goes_rather.true))
    ∙ sym
    (ap leaves
    (next_met args.waits.now (most_holds - loop.counter) (most_holds - (loop.counter + 1)) loop.at (omega arith) (omega arith)))
    ∙ loop.invariant.1 t)

pub loop-preserved : goal.loop-preserved
loop-preserved c =
    let args =
    c.args in
    let loop = c.loop in
    let rest = places_from args.waits.now (most_holds - (loop.counter + 1)) (get_or args.waits.now loop.at 0) in (
      omega arith,
      λ t.
          let leaves : Bool → List ℕ → Bool =
          leaves_behind args.jobs.now t args.place in
          sym
          (next_stays args.jobs.now t args.place loop.met loop.at rest
          (sym (goes-told (goal.at.loop-preserved c).After-goes_rather t) ∙ c.if-not-goes_rather.false))
          ∙ sym
          (ap (leaves loop.met)
          (next_met args.waits.now (most_holds - loop.counter) (most_holds - (loop.counter + 1)) loop.at (omega arith)
          (omega arith)))
          ∙ loop.invariant.1 t,
    )

pub returns : goal.returns
returns c =
    let args = c.args in
    let loop = c.loop in
    let none : most_holds - loop.counter ≡ 0 = omega arith in
    promised _ _ _ loop.met (λ t.
    let leaves : List ℕ → Bool =
    leaves_behind args.jobs.now t args.place loop.met in
    sym (none_left args.jobs.now t args.place loop.met)
    ∙ sym
    (ap leaves
    (ap (λ n. places_from args.waits.now n loop.at) none ∙ no_step_left args.waits.now loop.at))
    ∙ loop.invariant.1 t)
