-- Which places leave a plan, in its order: where the planned ones of a list come first in it and stand in the plan as they stand in the
-- list, those of the plan that are in the list are just these, one after the other. Assumes nothing.
use mathlib.Core.Bool.{Bool, true, false}
use mathlib.Core.List.{List, [], ◌∷◌}
use mathlib.Core.Path.{◌≡◌, refl, sym, ap, ◌∙◌}
use Prim.Native.Nat.{ℕ, suc, ◌<◌}
use native.Mathlib.Omega.{arith}
use borrow.Author.Tests.{eq-eqb, eqb-true}
use lib.Dec.{eqb}
use lib.ListN.{length, take}
use Rattle.entries.specs.Places.{first_where, index_of}
use Rattle.laws.proofs.Choices.{clash, eqb_swap, or_right, split}
use Rattle.laws.proofs.Elements.{each_too}
use Rattle.laws.proofs.Lookups.{each_both, none_any}
use Rattle.laws.proofs.Pairs.{pairs_keep, pairs_too}
use Rattle.laws.specs.Pairs.{Distinct, Pairwise, among, no_pair, ◌then◌}
use Rattle.rules.specs.Lists.{Each, keep, none_left, ◌and◌}

-- where whoever passes has only such before it, those that pass are the first
module _ (f : ℕ → Bool) where
  none_kept : {xs : List ℕ} → Each (λ x. f x ≡ false) xs → keep f xs ≡ []
  none_kept none_left = refl
  none_kept (h and hs) = rw h (none_kept hs)

  pub first_kept : {xs : List ℕ} → Pairwise (λ x y. f y ≡ true → f x ≡ true) xs → take (length (keep f xs)) xs ≡ keep f xs
  first_kept no_pair = refl
  first_kept {xs = x ∷ xs} (r then rs) =
      split (f x)
      (λ h. rw h (ap {B = List ℕ} (λ l. x ∷ l) (first_kept rs)))
      (λ h. let rest = none_kept (each_too (λ y g. split (f y) (λ t. clash (g t) h) (λ t. t)) r) in rw h (rw rest))

  -- each that is kept passes
  pub kept_pass : (xs : List ℕ) → Each (λ x. f x ≡ true) (keep f xs)
  kept_pass [] = none_left
  kept_pass (x ∷ xs) = split (f x) (λ h. rw h (h and kept_pass xs)) (λ h. rw h (kept_pass xs))

  -- whoever passes is kept exactly if it is there
  pub among_kept : (n : ℕ) (xs : List ℕ) → f n ≡ true → among (keep f xs) n ≡ among xs n
  among_kept n [] h = refl
  among_kept n (x ∷ xs) h =
      split (f x)
      (λ g. rw g (rw (among_kept n xs h)))
      (λ g. rw g (split (eqb n x) (λ e. clash h (ap f (eqb-true n x e) ∙ g)) (λ e. rw e (among_kept n xs h))))

pub keep_alike : {f g : ℕ → Bool} {xs : List ℕ} → Each (λ x. f x ≡ g x) xs → keep f xs ≡ keep g xs
keep_alike none_left = refl
keep_alike {f} {g} {xs = x ∷ xs} (h and hs) =
    split (g x)
    (λ t. rw (h ∙ t) (rw t (ap {B = List ℕ} (λ l. x ∷ l) (keep_alike hs))))
    (λ t. rw (h ∙ t) (rw t (keep_alike hs)))

-- the index behind the first
index_further : (n p : ℕ) (ps : List ℕ) → eqb n p ≡ false → index_of n (p ∷ ps) ≡ suc (index_of n ps)
unfolding first_where
index_further n p ps d = rw d

index_first : (p : ℕ) (ps : List ℕ) → index_of p (p ∷ ps) ≡ 0
unfolding first_where
index_first p ps = rw (eq-eqb p p refl)

not_first : (g p : ℕ) (ps : List ℕ) → 0 < index_of g (p ∷ ps) → eqb g p ≡ false
not_first g p ps l =
    split (eqb g p)
    (λ e. absurd (omega (arith, ap (λ n. index_of n (p ∷ ps)) (eqb-true g p e), index_first p ps)))
    (λ e. e)

there_behind : (g p : ℕ) (ps : List ℕ) → eqb g p ≡ false → among (p ∷ ps) g ≡ true → among ps g ≡ true
there_behind g p ps d h = rw d at h

-- places stand in a list in this order
abbrev InOrder : List ℕ → List ℕ → Type 0
InOrder ps gs = Pairwise (λ x y. index_of x ps < index_of y ps) gs

abbrev AllThere : List ℕ → List ℕ → Type 0
AllThere ps gs = Each (λ x. among ps x ≡ true) gs

always_out : (xs : List ℕ) → Each (λ x. among [] x ≡ false) xs
always_out [] = none_left
always_out (x ∷ xs) = refl and always_out xs

-- behind the first of the list they stand in the same order
module _ (p : ℕ) (ps : List ℕ) where
  order_behind : {gs : List ℕ} → Each (λ x. eqb x p ≡ false) gs → InOrder (p ∷ ps) gs → InOrder ps gs
  order_behind apart order =
      pairs_too {P = λ x. eqb x p ≡ false} (λ x y d f l. omega (arith, index_further x p ps d, index_further y p ps f)) apart order

  all_behind : {gs : List ℕ} → Each (λ x. eqb x p ≡ false) gs → AllThere (p ∷ ps) gs → AllThere ps gs
  all_behind apart there = each_both (λ x d t. there_behind x p ps d t) apart there

  module _ (g : ℕ) (gs : List ℕ) (r : Each (λ x. eqb p x ≡ false) ps) (o : Each (λ x. index_of g (p ∷ ps) < index_of x (p ∷ ps)) gs)
      (order : InOrder (p ∷ ps) gs) (h : among (p ∷ ps) g ≡ true) (there : AllThere (p ∷ ps) gs)
      (rest : (xs : List ℕ) → InOrder ps xs → AllThere ps xs → xs ≡ keep (among xs) ps) where
    behind_one : (x : ℕ) → eqb x g ≡ false → among (g ∷ gs) x ≡ among gs x
    behind_one x d = rw d

    is_first : eqb g p ≡ true → g ∷ gs ≡ keep (among (g ∷ gs)) (p ∷ ps)
    is_first e =
        let q : g ≡ p = eqb-true g p e in
        let apart : Each (λ x. eqb x p ≡ false) gs =
        each_too (λ x l. not_first x p ps (omega (arith, ap (λ n. index_of n (p ∷ ps)) q, index_first p ps))) o in
        let others : Each (λ x. among gs x ≡ among (g ∷ gs) x) ps =
        each_too (λ x d. sym (behind_one x (ap (eqb x) q ∙ eqb_swap x p ∙ d))) r in
        let alike : keep (among gs) ps ≡ keep (among (g ∷ gs)) ps = keep_alike {f = among gs} {g = among (g ∷ gs)} others in
        let own : among (g ∷ gs) p ≡ true = rw (eqb_swap p g ∙ e) in
        rw own
        (ap {B = List ℕ} (λ n. n ∷ gs) q
        ∙ ap {B = List ℕ} (λ l. p ∷ l) (rest gs (order_behind apart order) (all_behind apart there) ∙ alike))

    not_there : eqb g p ≡ false → g ∷ gs ≡ keep (among (g ∷ gs)) (p ∷ ps)
    not_there e =
        let apart : Each (λ x. eqb x p ≡ false) (g ∷ gs) = e and each_too (λ x l. not_first x p ps (omega arith)) o in
        let out : among (g ∷ gs) p ≡ false = none_any (eqb p) (each_too (λ x d. eqb_swap p x ∙ d) apart) in
        rw out (rest (g ∷ gs) (order_behind apart (o then order)) (all_behind apart (h and there)))

-- Places that stand in a list in this order are those of the list that are among them.
pub in_order_kept : (ps : List ℕ) → Distinct ps → (gs : List ℕ) → InOrder ps gs → AllThere ps gs → gs ≡ keep (among gs) ps
in_order_kept [] once [] order there = refl
in_order_kept [] once (g ∷ gs) order (h and hs) = clash h refl
in_order_kept (p ∷ ps) (r then once) [] order there = sym (none_kept (among []) (always_out (p ∷ ps)))
in_order_kept (p ∷ ps) (r then once) (g ∷ gs) (o then order) (h and there) =
    split (eqb g p)
    (λ e. is_first p ps g gs r o order h there (λ xs a b. in_order_kept ps once xs a b) e)
    (λ e. not_there p ps g gs r o order h there (λ xs a b. in_order_kept ps once xs a b) e)

-- The planned ones of a list come first in it and stand in the plan in its order: those of the plan that are in the list are these.
pub leave_in_order : (far ps : List ℕ) → Distinct ps
    → Pairwise (λ x y. among ps y ≡ true → (among ps x ≡ true) × (index_of x ps < index_of y ps)) far
    → take (length (keep (among ps) far)) far ≡ keep (among far) ps
leave_in_order far ps once order =
    first_kept (among ps) (pairs_alike (λ x y h t. (h t).0) order)
    ∙ in_order_kept ps once (keep (among ps) far)
    (pairs_too {P = λ x. among ps x ≡ true} (λ x y a b h. (h b).1) (kept_pass (among ps) far) (pairs_keep (among ps) order))
    (kept_pass (among ps) far)
    ∙ keep_alike {f = among (keep (among ps) far)} {g = among far} (each_there ps (λ q t. among_kept (among ps) q far t))
  where
    pairs_alike : {R S : ℕ → ℕ → Type 0} {xs : List ℕ} → ((x y : ℕ) → R x y → S x y) → Pairwise R xs → Pairwise S xs
    pairs_alike h no_pair = no_pair
    pairs_alike h (r then rs) = each_too (λ y s. h _ y s) r then pairs_alike h rs

    each_there : {P : ℕ → Type 0} (xs : List ℕ) → ((q : ℕ) → among xs q ≡ true → P q) → Each P xs
    each_there [] h = none_left
    each_there (x ∷ xs) h =
        let own : among (x ∷ xs) x ≡ true = rw (eq-eqb x x refl) in
        h x own and each_there xs (λ q t. h q (or_right (eqb q x) (among xs q) t))
