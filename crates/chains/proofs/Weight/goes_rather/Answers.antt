-- `chains::Weight::goes_rather` meets its contract: the weights, multiplied out, are less, greater or equal, and among equals the
-- numbers tell. Assumes nothing.
use mathlib.Core.Bool.{true, false, ◌&&◌, ◌||◌}
use mathlib.Core.Path.{◌≡◌}
use Prim.Native.Nat.{ℕ, ◌*◌, ◌<◌}
use native.Mathlib.Omega.{arith}
use borrow.Author.Tests.{eq-eqb, le-ltb, lt-ltb, ne_eqb}
use lib.Dec.{eqb, leb, ltb}
use Rattle.chains.specs.Promises.{Weighs}
use Rattle.chains.specs.declared.Weight.{Weight}
use Rattle.rules.specs.Plan.{equal, goes_rather, less}
use Rattle.rules.specs.TableText.{Records}
use Rattle.rules.specs.declared.Job.{Job}
use Rattle.std.proofs.lemmas.Grind.{common_steps}
use Rattle.steps.proofs.Given.{weight_is}
use Rattle.chains.proofs.Weight.goes_rather.Goals as goal

module _ (w v : Weight) (t : Records) (j k : Job) (one : Weighs j w) (other : Weighs k v) where
  abbrev weight : ℕ
  weight = w.worth * v.cycles

  abbrev other-weight : ℕ
  other-weight = v.worth * w.cycles

  goes-by-products : goes_rather t j k
      ≡ ltb weight other-weight || (eqb weight other-weight && leb v.number w.number)
  unfolding goes_rather less equal
  goes-by-products =
      rw (weight_is t j, weight_is t k, one.worth_of, one.cycles-of, one.number_of, other.worth_of, other.cycles-of, other.number_of)

  lighter : weight < other-weight → true ≡ goes_rather t j k
  lighter h = rw (goes-by-products, lt-ltb weight other-weight h)

  heavier : other-weight < weight → false ≡ goes_rather t j k
  heavier h =
      rw (goes-by-products, le-ltb weight other-weight (omega arith), ne_eqb weight other-weight (λ e. omega arith))

  as-heavy : weight ≡ other-weight → leb v.number w.number ≡ goes_rather t j k
  as-heavy h = rw (goes-by-products, le-ltb weight other-weight (omega arith), eq-eqb weight other-weight h)

pub returns-in-Less : goal.returns-in-Less
returns-in-Less c =
    let h : c.args.self.worth * c.args.other.cycles < c.args.other.worth * c.args.self.cycles = grind (arith, common_steps, c.in-Less.ensures) in
    record { rather = λ t j k one other. lighter c.args.self c.args.other t j k one other h }

pub returns-in-Equal : goal.returns-in-Equal
returns-in-Equal c =
    let h : c.args.self.worth * c.args.other.cycles ≡ c.args.other.worth * c.args.self.cycles = grind (arith, common_steps, c.in-Equal.ensures) in
    record { rather = λ t j k one other. as-heavy c.args.self c.args.other t j k one other h }

pub returns-in-Greater : goal.returns-in-Greater
returns-in-Greater c =
    let h : c.args.other.worth * c.args.self.cycles < c.args.self.worth * c.args.other.cycles = grind (arith, common_steps, c.in-Greater.ensures) in
    record { rather = λ t j k one other. heavier c.args.self c.args.other t j k one other h }
