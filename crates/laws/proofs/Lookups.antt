-- What keep, find, any, all, map and total give where two tests agree, where each element passes, or where what is sought
-- is kept: each law goes along the list and splits on the element's test. Assumes nothing.
use mathlib.Core.Bool.{Bool, true, false, ◌||◌}
use mathlib.Core.List.{List, [], ◌∷◌, map}
use mathlib.Core.Option.{Option, none, some}
use mathlib.Core.Path.{◌≡◌, refl, sym, ap, ◌∙◌}
use Prim.Native.Nat.{ℕ, suc, ◌+◌, ◌≤◌, ◌<◌}
use native.Mathlib.Omega.{arith}
use lib.ListN.{length}
use Rattle.laws.proofs.Choices.{clash, neither, nothing_there, one_there, or_swap, split}
use Rattle.laws.proofs.Tests.{both_true}
use Rattle.rules.specs.Lists.{Each, all, any, find, keep, none_left, put_in, sorted, total, ◌and◌}

module _ {A : Type 0} where
  pub each_both : {P Q R : A → Type 0} {xs : List A} → ((x : A) → P x → Q x → R x) → Each P xs → Each Q xs → Each R xs
  each_both h none_left none_left = none_left
  each_both h (p and ps) (q and qs) = h _ p q and each_both h ps qs

  pub each_always : {P : A → Type 0} (xs : List A) → ((x : A) → P x) → Each P xs
  each_always [] h = none_left
  each_always (x ∷ xs) h = h x and each_always xs h

  pub each_first : {P : A → Type 0} {x : A} {xs : List A} → Each P (x ∷ xs) → P x
  each_first (p and ps) = p

  pub each_rest : {P : A → Type 0} {x : A} {xs : List A} → Each P (x ∷ xs) → Each P xs
  each_rest (p and ps) = ps

  pub each_keep : {P : A → Type 0} (p : A → Bool) {xs : List A} → Each P xs → Each P (keep p xs)
  each_keep p none_left = none_left
  each_keep p {xs = x ∷ xs} (h and hs) = split (p x) (λ g. rw g (h and each_keep p hs)) (λ g. rw g (each_keep p hs))

  pub each_kept : {P : A → Type 0} (p : A → Bool) {xs : List A} → Each (λ x. p x ≡ true → P x) xs → Each P (keep p xs)
  each_kept p none_left = none_left
  each_kept p {xs = x ∷ xs} (h and hs) = split (p x) (λ g. rw g (h g and each_kept p hs)) (λ g. rw g (each_kept p hs))

  pub kept_each : {P : A → Type 0} (p : A → Bool) (xs : List A) → Each P (keep p xs) → Each (λ x. p x ≡ true → P x) xs
  kept_each p [] e = none_left
  kept_each {P} p (x ∷ xs) e =
      split (p x)
      (λ g. let both : Each P (x ∷ keep p xs) = rw g at e in (λ h. each_first both) and kept_each p xs (each_rest both))
      (λ g. (λ h. clash h g) and kept_each p xs (rw g at e))

  pub keep_passes : (p : A → Bool) (xs : List A) → Each (λ x. p x ≡ true) (keep p xs)
  keep_passes p [] = none_left
  keep_passes p (x ∷ xs) = split (p x) (λ h. rw h (h and keep_passes p xs)) (λ h. rw h (keep_passes p xs))

  pub all_each : (p : A → Bool) (xs : List A) → all p xs ≡ true → Each (λ x. p x ≡ true) xs
  all_each p [] h = none_left
  all_each p (x ∷ xs) h = let both = both_true (p x) (all p xs) h in both.0 and all_each p xs both.1

  pub each_all : (p : A → Bool) {xs : List A} → Each (λ x. p x ≡ true) xs → all p xs ≡ true
  each_all p none_left = refl
  each_all p (h and hs) = rw h (each_all p hs)

  pub any_none : (p : A → Bool) (xs : List A) → any p xs ≡ false → Each (λ x. p x ≡ false) xs
  any_none p [] h = none_left
  any_none p (x ∷ xs) h = let both = neither (p x) (any p xs) h in both.0 and any_none p xs both.1

  pub none_any : (p : A → Bool) {xs : List A} → Each (λ x. p x ≡ false) xs → any p xs ≡ false
  none_any p none_left = refl
  none_any p (h and hs) = rw h (none_any p hs)

  -- two tests that agree
  pub any_agree : (p q : A → Bool) (xs : List A) → ((x : A) → p x ≡ q x) → any p xs ≡ any q xs
  any_agree p q [] h = refl
  any_agree p q (x ∷ xs) h = rw (h x, any_agree p q xs h)

  pub find_agree : (p q : A → Bool) (xs : List A) → ((x : A) → p x ≡ q x) → find p xs ≡ find q xs
  find_agree p q [] h = refl
  find_agree p q (x ∷ xs) h = rw (h x, find_agree p q xs h)

  -- an element that is found has what all have, and passes the test
  pub found_each : {P : A → Type 0} (p : A → Bool) {xs : List A} {y : A} → Each P xs → find p xs ≡ some y → P y
  found_each p none_left h = nothing_there h refl
  found_each {P} p {xs = x ∷ xs} {y} (e and es) h =
      split (p x) (λ g. rw (one_there {o = some x} refl (rw g at h)) at e) (λ g. found_each p es (rw g at h))

  pub found_passes : (p : A → Bool) (xs : List A) {y : A} → find p xs ≡ some y → p y ≡ true
  found_passes p [] h = nothing_there h refl
  found_passes p (x ∷ xs) {y} h =
      split (p x) (λ g. ap p (sym (one_there {o = some x} refl (rw g at h))) ∙ g) (λ g. found_passes p xs (rw g at h))

  pub found_any : (p q : A → Bool) (xs : List A) {y : A} → find p xs ≡ some y → q y ≡ true → any q xs ≡ true
  found_any p q [] h c = nothing_there h refl
  found_any p q (x ∷ xs) {y} h c =
      split (p x) (λ g. rw (ap q (one_there {o = some x} refl (rw g at h)) ∙ c))
      (λ g. split (q x) (λ b. rw b) (λ b. rw b (found_any p q xs (rw g at h) c)))

  pub found_any_own : (p : A → Bool) (xs : List A) {y : A} → find p xs ≡ some y → any p xs ≡ true
  found_any_own p xs h = found_any p p xs h (found_passes p xs h)

  pub not_found : (p : A → Bool) (xs : List A) → find p xs ≡ none → any p xs ≡ false
  not_found p [] h = refl
  not_found p (x ∷ xs) h =
      split (p x) (λ g. nothing_there {o = some x} refl (rw g at h)) (λ g. rw g (not_found p xs (rw g at h)))

  pub none_found : (p : A → Bool) {xs : List A} → Each (λ x. p x ≡ false) xs → find p xs ≡ none
  none_found p none_left = refl
  none_found p (h and hs) = rw h (none_found p hs)

  -- q keeps all that p is looking for
  pub find_keep : (p q : A → Bool) {xs : List A} → Each (λ x. p x ≡ true → q x ≡ true) xs → find p (keep q xs) ≡ find p xs
  find_keep p q none_left = refl
  find_keep p q {xs = x ∷ xs} (e and es) =
      split (p x) (λ h. rw (e h) (rw h))
      (λ h. split (q x) (λ g. rw g (rw h (find_keep p q es))) (λ g. rw g (rw h (find_keep p q es))))

  pub any_keep : (p q : A → Bool) {xs : List A} → Each (λ x. p x ≡ true → q x ≡ true) xs → any p (keep q xs) ≡ any p xs
  any_keep p q none_left = refl
  any_keep p q {xs = x ∷ xs} (e and es) =
      let ih = any_keep p q es in
      split (p x)
      (λ h. rw (e h) (rw h))
      (λ h. split (q x) (λ g. rw g (rw h ih)) (λ g. rw g (rw h ih)))

  pub find_keep_none : (p q : A → Bool) (xs : List A) → find p xs ≡ none → find p (keep q xs) ≡ none
  find_keep_none p q [] h = refl
  find_keep_none p q (x ∷ xs) h =
      split (p x) (λ i. nothing_there {o = some x} refl (rw i at h))
      (λ i. split (q x) (λ g. rw g (rw i (find_keep_none p q xs (rw i at h))))
      (λ g. rw g (find_keep_none p q xs (rw i at h))))

  pub find_keep_some : (p q : A → Bool) (xs : List A) {y : A} → find p xs ≡ some y → q y ≡ true
      → find p (keep q xs) ≡ some y
  find_keep_some p q [] h g = h
  find_keep_some p q (x ∷ xs) {y} h g =
      split (p x)
      (λ i. let e : x ≡ y = one_there {o = some x} refl (rw i at h) in rw (ap q e ∙ g) (rw i (ap {B = Option A} some e)))
      (λ i. split (q x) (λ k. rw k (rw i (find_keep_some p q xs (rw i at h) g)))
      (λ k. rw k (find_keep_some p q xs (rw i at h) g)))

  -- two tests that tell the same of what q keeps
  pub keep_agree : (q p p' : A → Bool) {xs : List A} → Each (λ x. q x ≡ true → p x ≡ p' x) xs
      → keep p' (keep q xs) ≡ keep q (keep p xs)
  keep_agree q p p' none_left = refl
  keep_agree q p p' {xs = x ∷ xs} (e and es) =
      let ih = keep_agree q p p' es in
      split (q x)
      (λ h. split (p x)
      (λ g. rw h (rw (sym (e h) ∙ g) (rw g (rw h (ap {B = List A} (λ l. x ∷ l) ih)))))
      (λ g. rw h (rw (sym (e h) ∙ g) (rw g ih))))
      (λ h. split (p x) (λ g. rw h (rw g (rw h ih))) (λ g. rw h (rw g ih)))

  pub keep_through : (p q : A → Bool) {xs : List A} → Each (λ x. q x ≡ true → p x ≡ true) xs
      → keep q (keep p xs) ≡ keep q xs
  keep_through p q none_left = refl
  keep_through p q {xs = x ∷ xs} (e and es) =
      let ih = keep_through p q es in
      split (q x)
      (λ h. rw (e h) (rw h (ap {B = List A} (λ l. x ∷ l) ih)))
      (λ h. split (p x) (λ g. rw g (rw h ih)) (λ g. rw g (rw h ih)))

  pub keep_all : (p : A → Bool) {xs : List A} → Each (λ x. p x ≡ true) xs → keep p xs ≡ xs
  keep_all p none_left = refl
  keep_all p {xs = x ∷ xs} (h and hs) = rw h (ap {B = List A} (λ l. x ∷ l) (keep_all p hs))

  pub length_keep : (p : A → Bool) (xs : List A) → length (keep p xs) ≤ length xs
  length_keep p [] = omega arith
  length_keep p (x ∷ xs) =
      split (p x) (λ h. rw h (omega (arith, length_keep p xs))) (λ h. rw h (omega (arith, length_keep p xs)))

  pub total_agree : (f g : A → ℕ) {xs : List A} → Each (λ x. f x ≡ g x) xs → total f xs ≡ total g xs
  total_agree f g none_left = refl
  total_agree f g {xs = x ∷ xs} (e and es) = rw e (ap (λ n. g x + n) (total_agree f g es))

  pub total_le : (f g : A → ℕ) → ((x : A) → f x ≤ g x) → (xs : List A) → total f xs ≤ total g xs
  total_le f g l [] = omega arith
  total_le f g l (x ∷ xs) = omega (arith, l x, total_le f g l xs)

  -- an element that weighs less makes the total less
  pub total_lt : (f g : A → ℕ) → ((x : A) → f x ≤ g x) → (p : A → Bool) (xs : List A) {y : A} → find p xs ≡ some y
      → f y < g y
      → total f xs < total g xs
  total_lt f g l p [] h s = nothing_there h refl
  total_lt f g l p (x ∷ xs) {y} h s =
      split (p x)
      (λ i. let e : x ≡ y = one_there {o = some x} refl (rw i at h) in
      let less : f x < g x = rw e s in
      omega (arith, total_le f g l xs))
      (λ i. omega (arith, l x, total_lt f g l p xs (rw i at h) s))

  pub total_ones : (xs : List A) → total (λ x. 1) xs ≡ length xs
  total_ones [] = refl
  total_ones (x ∷ xs) = omega (arith, total_ones xs)

  -- x put in its place stands in the list beside the others
  pub each_place : {P : A → Type 0} (before : A → A → Bool) (x : A) {ys : List A} → P x → Each P ys
      → Each P (put_in before x ys)
  each_place before x h none_left = h and none_left
  each_place before x {ys = y ∷ ys} h (p and ps) =
      split (before x y) (λ b. rw b (h and (p and ps))) (λ b. rw b (p and each_place before x h ps))

  pub each_placed : {P : A → Type 0} (before : A → A → Bool) (x : A) (ys : List A) → Each P (put_in before x ys)
      → P x × Each P ys
  each_placed before x [] (p and none_left) = (p, none_left)
  each_placed {P} before x (y ∷ ys) e =
      split (before x y)
      (λ b. let both : Each P (x ∷ y ∷ ys) = rw b at e in (each_first both, each_rest both))
      (λ b. let both : Each P (y ∷ put_in before x ys) = rw b at e in
      let more = each_placed before x ys (each_rest both) in
      (more.0, each_first both and more.1))

  pub any_place : (p : A → Bool) (before : A → A → Bool) (x : A) (ys : List A)
      → any p (put_in before x ys) ≡ p x || any p ys
  any_place p before x [] = refl
  any_place p before x (y ∷ ys) =
      split (before x y) (λ b. rw b) (λ b. rw b (rw (any_place p before x ys) (or_swap (p y) (p x) (any p ys))))

  pub each_sorted : {P : A → Type 0} (before : A → A → Bool) {xs : List A} → Each P xs → Each P (sorted before xs)
  each_sorted before none_left = none_left
  each_sorted before {xs = x ∷ xs} (h and hs) = each_place before x h (each_sorted before hs)

  pub sorted_each : {P : A → Type 0} (before : A → A → Bool) (xs : List A) → Each P (sorted before xs) → Each P xs
  sorted_each before [] e = none_left
  sorted_each before (x ∷ xs) e =
      let parts = each_placed before x (sorted before xs) e in parts.0 and sorted_each before xs parts.1

module _ {A B : Type 0} where
  pub each_unmap : {P : B → Type 0} (f : A → B) (xs : List A) → Each P (map f xs) → Each (λ x. P (f x)) xs
  each_unmap f [] e = none_left
  each_unmap f (x ∷ xs) (p and ps) = p and each_unmap f xs ps

  pub map_agree : (q : A → Bool) (f g : A → B) {xs : List A} → Each (λ x. q x ≡ true → f x ≡ g x) xs
      → map g (keep q xs) ≡ map f (keep q xs)
  map_agree q f g none_left = refl
  map_agree q f g {xs = x ∷ xs} (e and es) =
      split (q x)
      (λ h. rw h (rw (e h) (ap {B = List B} (λ l. g x ∷ l) (map_agree q f g es))))
      (λ h. rw h (map_agree q f g es))

  pub keep_map : (q : B → Bool) (f : A → B) (xs : List A) → keep q (map f xs) ≡ map f (keep (λ x. q (f x)) xs)
  keep_map q f [] = refl
  keep_map q f (x ∷ xs) =
      split (q (f x)) (λ h. rw h (ap {B = List B} (λ l. f x ∷ l) (keep_map q f xs))) (λ h. rw h (keep_map q f xs))

  pub length-map : (f : A → B) (xs : List A) → length (map f xs) ≡ length xs
  length-map f [] = refl
  length-map f (x ∷ xs) = ap suc (length-map f xs)

  pub any_map : (p : B → Bool) (f : A → B) (xs : List A) → any p (map f xs) ≡ any (λ x. p (f x)) xs
  any_map p f [] = refl
  any_map p f (x ∷ xs) = rw (any_map p f xs)
