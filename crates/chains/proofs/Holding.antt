-- The places of the holders, one H line at a time: a place stored at the line's resource is the holder's, and at every
-- other resource stands what stood there. Where there is no H line there is nobody. Assumes nothing.
use mathlib.Core.Bool.{true, false}
use mathlib.Core.List.{List, [], ◌∷◌}
use mathlib.Core.Logic.{inl, inr, ⊎_elim}
use mathlib.Core.Path.{◌≡◌, refl, sym, ◌∙◌}
use Prim.Native.Nat.{ℕ, ◌≤◌}
use native.Mathlib.Omega.{arith}
use borrow.Author.Tests.{eqb-false, eqb-true}
use lib.Dec.{eqb}
use lib.ListN.{get_or, get_or-replicate, length, replicate, set, take}
use lib.Seq.{get_or-set_other, get_or-set_same, take_all}
use Rattle.chains.proofs.Remaining.{which}
use Rattle.chains.proofs.Walks.{job-at, nobody_at}
use Rattle.chains.specs.Waits.{HolderAt, PlaceOrNobody, at_place, most_resources}
use Rattle.columns.proofs.LookedUp.{found_job}
use Rattle.columns.specs.Columns.{Column}
use Rattle.columns.specs.LookUp.{StandsAt}
use Rattle.std.specs.Prelude.{None, Some, Option as Answer}
use Rattle.rules.specs.Lists.{Rising, find}
use Rattle.rules.specs.Plan.{holder_in, same}
use Rattle.rules.specs.Refusals.{is_holder}
use Rattle.rules.specs.TableText.{most_holds, most_jobs}
use Rattle.rules.specs.declared.Hold.{Hold}
use Rattle.rules.specs.declared.Job.{Job}

-- what a search of the numbers gives as a place: `most_jobs`, which is nobody's, where it finds none
abbrev pub place_found : Answer ℕ → ℕ
place_found (Some place) = place
place_found None = most_jobs

-- the place found for the line's job is its place, and where nothing is found, `most_jobs` is nobody's
module _ (js : List Job) (numbers : List ℕ) (long : length js ≡ length numbers) (few : length js ≤ most_jobs) where
  whole : take (length js) numbers ≡ numbers
  whole = take_all (length js) numbers (omega arith)

  pub holder_found : Rising (λ j. j.number) js → Column (λ j. j.number) js numbers → (h : Hold) (r : Answer ℕ)
      → StandsAt numbers h.holder r → at_place js (place_found r) ≡ find (is_holder h) js
  unfolding is_holder same
  holder_found rising number_of_lem h (Some place) stands =
      job-at js place (omega (arith, stands.0))
      ∙ found_job h.holder js numbers rising number_of_lem (omega arith) (Some place) (rw whole stands)
  holder_found rising number_of_lem h None stands =
      nobody_at js most_jobs few
      ∙ found_job h.holder js numbers rising number_of_lem (omega arith) None (rw whole stands)

  pub found_or_nobody : (number : ℕ) (r : Answer ℕ) → StandsAt numbers number r → PlaceOrNobody js (place_found r)
  found_or_nobody number (Some place) stands = inl (omega (arith, stands.0))
  found_or_nobody number None stands = inr refl

module _ (js : List Job) where
  pub no_line : length js ≤ most_jobs → HolderAt js [] (replicate most_resources most_jobs)
  unfolding holder_in
  no_line few = record {
    few = few;
    whom = λ resource l.
        rw (get_or-replicate most_resources resource most_jobs 0 (omega arith)) (nobody_at js most_jobs few);
    place_or_nobody = λ resource l. inr (get_or-replicate most_resources resource most_jobs 0 (omega arith));
  }

  module _ (h : Hold) (holds : List Hold) (holder-at : List ℕ) (p : ℕ) (long : length holder-at ≡ most_resources)
      (in-range : h.resource ≤ most_holds) (is : at_place js p ≡ find (is_holder h) js) (w : PlaceOrNobody js p)
      (at : HolderAt js holds holder-at) where
    stored_whom : (resource : ℕ) → resource ≤ most_holds
        → at_place js (get_or (set holder-at h.resource p) resource 0)
        ≡ holder_in js (find (λ g. eqb g.resource resource) (h ∷ holds))
    unfolding holder_in
    stored_whom resource l =
        ⊎_elim
        (λ (t : eqb h.resource resource ≡ true).
        rw t
        (rw (sym (eqb-true h.resource resource t))
        (rw (get_or-set_same holder-at h.resource p 0 (omega arith)) is)))
        (λ (t : eqb h.resource resource ≡ false).
        rw t
        (rw
        (get_or-set_other holder-at h.resource resource p 0
        (λ (e : resource ≡ h.resource). eqb-false h.resource resource t (sym e)))
        (at.whom resource l)))
        (which (eqb h.resource resource))

    stored_place : (resource : ℕ) → resource ≤ most_holds
        → PlaceOrNobody js (get_or (set holder-at h.resource p) resource 0)
    stored_place resource l =
        ⊎_elim
        (λ (t : eqb h.resource resource ≡ true).
        rw (sym (eqb-true h.resource resource t))
        (rw (get_or-set_same holder-at h.resource p 0 (omega arith)) w))
        (λ (t : eqb h.resource resource ≡ false).
        rw
        (get_or-set_other holder-at h.resource resource p 0
        (λ (e : resource ≡ h.resource). eqb-false h.resource resource t (sym e)))
        (at.place_or_nobody resource l))
        (which (eqb h.resource resource))

    pub one_line_more : HolderAt js (h ∷ holds) (set holder-at h.resource p)
    one_line_more = record { few = at.few; whom = stored_whom; place_or_nobody = stored_place }
