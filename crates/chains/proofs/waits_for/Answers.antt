-- `chains::waits_for` meets its contract. What stands at the requested resource is the place of its holder or nobody's; a
-- holder whose fate is 0 remains and is waited for, and of one that was taken out the resource is free. Assumes nothing.
use mathlib.Core.List.{List}
use mathlib.Core.Logic.{inr}
use mathlib.Core.Path.{◌≡◌, refl, sym, ◌∙◌}
use Prim.Native.Nat.{ℕ, ◌≤◌, ◌<◌}
use native.Mathlib.Omega.{arith}
use borrow.Author.Tests.{eq-eqb, ne_eqb}
use lib.Dec.{eqb}
use lib.ListN.{get_or}
use Rattle.chains.proofs.Remaining.{holder_remains, holder_taken_out, nobody_holds}
use Rattle.chains.proofs.Walks.{job-at, nobody_at, is_place}
use Rattle.chains.specs.Promises.{WaitsFor}
use Rattle.columns.specs.Columns.{Column}
use Rattle.rules.specs.Lists.{find}
use Rattle.rules.specs.Plan.{asks_for, holder_in, waits_for}
use Rattle.rules.specs.TableText.{most_holds, most_jobs, no_job}
use Rattle.rules.specs.declared.Hold.{Hold}
use Rattle.rules.specs.declared.Job.{Job}
use Rattle.chains.proofs.waits_for.Goals as goal
use Rattle.chains.proofs.waits_for.Goals.{then-holder-ge-NOBODY-via-then-holder-ge-NOBODY, then-holder-ge-NOBODY-via-else-holder-ge-NOBODY+then-fates-holder-ne-NO_FATE}

module _ (place : ℕ) (requests holder-at fates : List ℕ) (small : get_or requests place 0 ≤ most_holds) where
  abbrev resource : ℕ
  resource = get_or requests place 0

  abbrev holder : ℕ
  holder = get_or holder-at resource 0

  by-request : (js ks : List Job) (holds : List Hold) → Column (λ j. j.request) js requests
      → waits_for holds ks (get_or js place no_job) ≡ holder_in ks (find (λ h. eqb h.resource resource) holds)
  unfolding waits_for asks_for
  by-request js ks holds request_of = rw (request_of place)

  not-held : most_jobs ≤ holder → WaitsFor place requests holder-at fates most_jobs
  not-held h = record {
    whom = λ js holds remains rising request_of at remaining.
        nobody_at js most_jobs at.few
        ∙ sym
        (by-request js _ holds request_of
        ∙ nobody_holds js remains _
        (sym (at.whom resource small) ∙ nobody_at js holder (omega (arith, at.few))));
    place_or_nobody = λ js holds at. inr refl;
  }

  held-by-one-taken-out : holder < most_jobs → (get_or fates holder 0 ≡ 0 → ⊥)
      → WaitsFor place requests holder-at fates most_jobs
  held-by-one-taken-out h f = record {
    whom = λ js holds remains rising request_of at remaining.
        let l = is_place js holder (at.place_or_nobody resource small) h in
        nobody_at js most_jobs at.few
        ∙ sym
        (by-request js _ holds request_of
        ∙ holder_taken_out js remains rising holder l _
        (sym (at.whom resource small) ∙ job-at js holder l)
        (remaining holder l ∙ ne_eqb (get_or fates holder 0) 0 f));
    place_or_nobody = λ js holds at. inr refl;
  }

  held-by-one-that-remains : holder < most_jobs → get_or fates holder 0 ≡ 0
      → WaitsFor place requests holder-at fates holder
  held-by-one-that-remains h f = record {
    whom = λ js holds remains rising request_of at remaining.
        let l = is_place js holder (at.place_or_nobody resource small) h in
        job-at js holder l
        ∙ sym
        (by-request js _ holds request_of
        ∙ holder_remains js remains _ _
        (sym (at.whom resource small) ∙ job-at js holder l)
        (remaining holder l ∙ eq-eqb (get_or fates holder 0) 0 f));
    place_or_nobody = λ js holds at. at.place_or_nobody resource small;
  }

pub returns-then-holder-ge-NOBODY : goal.returns-then-holder-ge-NOBODY
returns-then-holder-ge-NOBODY c =
    elim c.then-holder-ge-NOBODY.branch [
      | then-holder-ge-NOBODY-via-then-holder-ge-NOBODY w ↦ not-held _ _ _ _ (c.requires.1 c.args.place) w.if-holder-ge-NOBODY.true
      | then-holder-ge-NOBODY-via-else-holder-ge-NOBODY+then-fates-holder-ne-NO_FATE w ↦
          held-by-one-taken-out _ _ _ _ (c.requires.1 c.args.place) w.if-holder-ge-NOBODY.false w.if-fates-holder-ne-NO_FATE.true
    ]

pub returns : goal.returns
returns c =
    held-by-one-that-remains _ _ _ _ (c.requires.1 c.args.place) c.if-holder-ge-NOBODY.false c.if-fates-holder-ne-NO_FATE.false
