-- Whether the job at a place leaves its ring, from the columns, one member at a time: it has to be met, and to go rather
-- than each. Where the numbers of the jobs rise, a job is met where its place is. Assumes nothing.
use mathlib.Core.Bool.{Bool, true, false, ◌&&◌, ◌||◌, and-false}
use mathlib.Core.List.{List, [], ◌∷◌}
use mathlib.Core.Path.{◌≡◌, refl, ap}
use Prim.Native.Nat.{ℕ, suc, ◌<◌}
use native.Mathlib.Omega.{arith}
use lib.Dec.{eqb}
use lib.ListN.{get_or, length}
use Rattle.columns.specs.declared.Columns.{Columns}
use Rattle.columns.specs.Columns.{AllBelow, Column, jobs_at}
use Rattle.laws.proofs.Numbered.{same_place}
use Rattle.rules.specs.Lists.{Rising, all, any}
use Rattle.rules.specs.Plan.{equal, goes_rather, leaves_ring, less, on_ring, same}
use Rattle.rules.specs.TableText.{Records, no_job}
use Rattle.rules.specs.declared.Job.{Job}
use Rattle.steps.proofs.Given.{weight_is}

module _ (columns : Columns) where
  -- what the columns tell of the job at a place
  abbrev pub told_at : ℕ → Job
  told_at p = record {
    number = get_or columns.number p 0;
    cycles = get_or columns.cycles p 0;
    worth = get_or columns.worth p 0;
    critical = 0;
    termination = 0;
    request = 0;
  }

  -- the job at a place goes rather than that at another
  abbrev pub rather_at : Records → ℕ → ℕ → Bool
  rather_at t place p = goes_rather t (told_at place) (told_at p)

  -- the job at a place was met, or is met among these, and goes rather than each of these
  abbrev pub leaves_behind : Records → ℕ → Bool → List ℕ → Bool
  leaves_behind t place met ps = (met || any (eqb place) ps) && all (rather_at t place) ps

  module _ (t : Records) (place : ℕ) where
    pub none_left : (met : Bool) → leaves_behind t place met [] ≡ met
    none_left true = refl
    none_left false = refl

    pub next_goes : (met : Bool) (p : ℕ) (ps : List ℕ) → rather_at t place p ≡ false
        → leaves_behind t place met (p ∷ ps) ≡ false
    next_goes met p ps e = rw e (and-false (met || any (eqb place) (p ∷ ps)))

    stays_by : (met is more rest : Bool) → (met || (is || more)) && rest ≡ ((met || is) || more) && rest
    stays_by true is more rest = refl
    stays_by false is more rest = refl

    pub next_stays : (met : Bool) (p : ℕ) (ps : List ℕ) → rather_at t place p ≡ true
        → leaves_behind t place met (p ∷ ps) ≡ leaves_behind t place (met || eqb place p) ps
    next_stays met p ps e =
        rw e (stays_by met (eqb place p) (any (eqb place) ps) (all (rather_at t place) ps))

    module _ (js : List Job) (rising : Rising (λ j. j.number) js) (h : place < length js)
        (number_of_lem : Column (λ j. j.number) js columns.number) (worth_of : Column (λ j. j.worth) js columns.worth)
        (cycles-of : Column (λ j. j.cycles) js columns.cycles) where
      abbrev job : Job
      job = get_or js place no_job

      rather_told : (p : ℕ) → goes_rather t job (get_or js p no_job) ≡ rather_at t place p
      unfolding goes_rather less equal
      rather_told p =
          rw (weight_is t job, weight_is t (get_or js p no_job), weight_is t (told_at place), weight_is t (told_at p))
          (rw (number_of_lem p, worth_of p, cycles-of p, number_of_lem place, worth_of place, cycles-of place))

      met_at_place : (ps : List ℕ) → AllBelow (length js) ps → any (same job) (jobs_at js ps) ≡ any (eqb place) ps
      met_at_place [] below = refl
      met_at_place (p ∷ ps) below =
          rw (same_place js rising place p h (below 0 (omega arith)))
          (ap (λ b. eqb place p || b) (met_at_place ps (λ i l. below (suc i) (omega arith))))

      rather_than_all : (ps : List ℕ) → all (goes_rather t job) (jobs_at js ps) ≡ all (rather_at t place) ps
      rather_than_all [] = refl
      rather_than_all (p ∷ ps) = rw (rather_told p) (ap (λ b. rather_at t place p && b) (rather_than_all ps))

      pub leaves_told : (ps : List ℕ) → AllBelow (length js) ps
          → leaves_ring t (jobs_at js ps) job ≡ leaves_behind t place false ps
      unfolding leaves_ring on_ring
      leaves_told ps below = rw (met_at_place ps below, rather_than_all ps)
