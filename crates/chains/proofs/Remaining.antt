-- Whom a job waits for among those that remain: the holder, if it remains. Where the numbers of the jobs rise no other job
-- has the holder's number, so that nobody is waited for in its stead. Assumes nothing.
use mathlib.Core.Bool.{Bool, true, false, cond}
use mathlib.Core.List.{List, [], ◌∷◌}
use mathlib.Core.Logic.{◌⊎◌, inl, inr, ⊎_elim}
use mathlib.Core.Option.{Option, none, some}
use mathlib.Core.Path.{◌≡◌, refl, sym, ap, ◌∙◌}
use Prim.Native.Nat.{ℕ, suc, ◌<◌}
use native.Mathlib.Omega.{arith}
use borrow.Author.Tests.{eq-eqb, eqb-true}
use lib.ListN.{get_or, length}
use Rattle.laws.proofs.Numbered.{same_place}
use Rattle.rules.specs.Lists.{Rising, find, keep}
use Rattle.rules.specs.Plan.{holder_in, same}
use Rattle.rules.specs.Refusals.{is_holder}
use Rattle.rules.specs.TableText.{no_job}
use Rattle.rules.specs.declared.Hold.{Hold}
use Rattle.rules.specs.declared.Job.{Job}

pub which : (t : Bool) → (t ≡ true) ⊎ (t ≡ false)
which true = inl refl
which false = inr refl

module _ {A : Type 0} where
  never_both : (x : A) → some x ≡ none → ⊥
  never_both x e = let z : ◌≡◌ {A = ℕ} 0 1 = cc in omega arith

  module _ (p keeps : A → Bool) where
    passed_over_by : (t : Bool) (x : A) (xs : List A) → p x ≡ false → find p (cond t (x ∷ xs) xs) ≡ find p xs
    passed_over_by true x xs e = rw e
    passed_over_by false x xs e = refl

    taken_out_by : (t : Bool) (x : A) (xs : List A) → t ≡ false → find p (cond t (x ∷ xs) xs) ≡ find p xs
    taken_out_by t x xs e = rw e

    -- where nothing passes, nothing that is kept does
    none_kept : (xs : List A) → find p xs ≡ none → find p (keep keeps xs) ≡ none
    none_kept [] e = refl
    none_kept (x ∷ xs) e =
        ⊎_elim (λ (h : p x ≡ true). absurd (never_both x (rw h at e)))
        (λ (h : p x ≡ false). passed_over_by (keeps x) x (keep keeps xs) h ∙ none_kept xs (rw h at e))
        (which (p x))

    found_here : (y x : A) (ys ks : List A) → p y ≡ true → cond (p y) (some y) (find p ys) ≡ some x → keeps x ≡ true
        → find p (cond (keeps y) (y ∷ ks) ks) ≡ some x
    found_here y x ys ks h e k =
        let one : some y ≡ some x = rw h at e in
        let is : y ≡ x = cc in
        let kept : keeps y ≡ true = ap keeps is ∙ k in
        rw kept (rw h one)

    -- the first that passes is the first of those that are kept, if it is kept
    first_kept : (xs : List A) (x : A) → find p xs ≡ some x → keeps x ≡ true → find p (keep keeps xs) ≡ some x
    first_kept [] x e k = absurd (never_both x (sym e))
    first_kept (y ∷ ys) x e k =
        ⊎_elim (λ (h : p y ≡ true). found_here y x ys (keep keeps ys) h e k)
        (λ (h : p y ≡ false). passed_over_by (keeps y) y (keep keeps ys) h ∙ first_kept ys x (rw h at e) k)
        (which (p y))

    -- what is found passes
    found_passes : (xs : List A) (x : A) → find p xs ≡ some x → p x ≡ true
    found_passes [] x e = absurd (never_both x (sym e))
    found_passes (y ∷ ys) x e =
        ⊎_elim
        (λ (h : p y ≡ true).
        let one : some y ≡ some x = rw h at e in
        let is : x ≡ y = cc in
        ap p is ∙ h)
        (λ (h : p y ≡ false). found_passes ys x (rw h at e))
        (which (p y))

    -- where each that passes is taken out, nothing that is kept passes
    passing_taken_out : (d : A) (xs : List A)
        → ((i : ℕ) → i < length xs → p (get_or xs i d) ≡ true → keeps (get_or xs i d) ≡ false)
        → find p (keep keeps xs) ≡ none
    passing_taken_out d [] out = refl
    passing_taken_out d (x ∷ xs) out =
        let rest = passing_taken_out d xs (λ i l. out (suc i) (omega arith)) in
        ⊎_elim
        (λ (h : p x ≡ true). taken_out_by (keeps x) x (keep keeps xs) (out 0 (omega arith) h) ∙ rest)
        (λ (h : p x ≡ false). passed_over_by (keeps x) x (keep keeps xs) h ∙ rest)
        (which (p x))

module _ (js : List Job) (remains : Job → Bool) where
  pub nobody_holds : (h : Option Hold) → holder_in js h ≡ none → holder_in (keep remains js) h ≡ none
  unfolding holder_in
  nobody_holds none e = refl
  nobody_holds (some h) e = none_kept (is_holder h) remains js e

  pub holder_remains : (h : Option Hold) (j : Job) → holder_in js h ≡ some j → remains j ≡ true
      → holder_in (keep remains js) h ≡ some j
  unfolding holder_in
  holder_remains none j e k = absurd (never_both j (sym e))
  holder_remains (some h) j e k = first_kept (is_holder h) remains js j e k

  module _ (rising : Rising (λ j. j.number) js) (place : ℕ) (l : place < length js) where
    one_holder : (h : Hold) (i : ℕ) → i < length js → is_holder h (get_or js place no_job) ≡ true
        → is_holder h (get_or js i no_job) ≡ true → i ≡ place
    unfolding is_holder same
    one_holder h i m e f =
        let number = eqb-true _ _ e in
        let number' = eqb-true _ _ f in
        eqb-true i place
        (sym (same_place js rising i place m l)
        ∙ eq-eqb (get_or js i no_job).number (get_or js place no_job).number (number' ∙ sym number))

    pub holder_taken_out : (h : Option Hold) → holder_in js h ≡ some (get_or js place no_job)
        → remains (get_or js place no_job) ≡ false → holder_in (keep remains js) h ≡ none
    unfolding holder_in
    holder_taken_out none e k = refl
    holder_taken_out (some h) e k =
        let holds = found_passes (is_holder h) remains js (get_or js place no_job) e in
        passing_taken_out (is_holder h) remains no_job js
        (λ i m f. rw (one_holder h i m holds f) k)
