-- The two orders of the rules are one. A rank is a ratio and a number; it goes rather than another if its ratio is less or,
-- among equals, its number greater. A ring loses the rank that goes rather than all others, and turns are taken so that
-- none goes rather than one behind it. Ratios over positive numbers are compared by multiplying out. Assumes nothing.
use mathlib.Core.Bool.{Bool, true, false, not, ◌&&◌, ◌||◌}
use mathlib.Core.List.{List, [], ◌∷◌}
use mathlib.Core.Logic.{◌⊎◌, inl, inr, ⊎_elim}
use mathlib.Core.Path.{◌≡◌, refl, sym, ap, ◌∙◌}
use Prim.Native.Nat.{ℕ, ◌*◌, ◌<◌, ◌≤◌}
use native.Mathlib.Nat.{le_of_mul-le-mul_right, lt_of_mul-lt-mul_right, mul-le-mul_right, mul-lt-mul_of_pos_right, mul_right_comm}
use native.Mathlib.Omega.{arith}
use borrow.Author.Tests.{eq-eqb, eqb-false, eqb-true, le-leb, le-ltb, leb-false, leb-true, lt-ltb, ltb-false, ltb-true, ne_eqb}
use lib.Dec.{eqb, leb, ltb}
use Rattle.laws.proofs.Choices.{clash, split}
use Rattle.laws.proofs.Lookups.{each_both}
use Rattle.rules.specs.Lists.{Each, none_left, ◌and◌}
use Rattle.rules.specs.Plan.{Ratio, equal, less}

-- fractions c / d, a / b, e / f, multiplied out
module _ (a b c d e f : ℕ) where
  fraction_lt : c * b < a * d → e * d ≤ c * f → 0 < f → e * b < a * f
  fraction_lt h g p =
      lt_of_mul-lt-mul_right d
      (omega (
        arith,
        mul_right_comm e b d,
        mul-le-mul_right b g,
        mul_right_comm c f b,
        mul-lt-mul_of_pos_right h p,
        mul_right_comm a d f,
      ))

  fraction_le : c * b ≤ a * d → e * d < c * f → 0 < b → e * b < a * f
  fraction_le h g p =
      lt_of_mul-lt-mul_right d
      (omega (
        arith,
        mul_right_comm e b d,
        mul-lt-mul_of_pos_right g p,
        mul_right_comm c f b,
        mul-le-mul_right f h,
        mul_right_comm a d f,
      ))

  fraction_eq : c * b ≡ a * d → c * f ≡ e * d → 0 < d → e * b ≡ a * f
  fraction_eq h g p =
      let q : e * b * d ≡ a * f * d =
      mul_right_comm e b d ∙ ap (λ n. n * b) (sym g) ∙ mul_right_comm c f b ∙ ap (λ n. n * f) h ∙ mul_right_comm a d f in
      let l : e * b ≤ a * f = le_of_mul-le-mul_right {k = d} (omega arith) p in
      let m : a * f ≤ e * b = le_of_mul-le-mul_right {k = d} (omega arith) p in
      omega arith

pub record Rank : Type 0 where
  pub ratio : Ratio
  pub number : ℕ

-- a goes rather than b, or has b's rank
unfoldable pub rather : Rank → Rank → Bool
rather a b = less a.ratio b.ratio || (equal a.ratio b.ratio && leb b.number a.number)

abbrev Rather : Rank → Rank → Type 0
Rather a b =
    (a.ratio.over * b.ratio.under < b.ratio.over * a.ratio.under)
    ⊎ ((a.ratio.over * b.ratio.under ≡ b.ratio.over * a.ratio.under) × (b.number ≤ a.number))

-- on any numbers
lex_told : (m n i k : ℕ) → ltb m n || (eqb m n && leb k i) ≡ true → (m < n) ⊎ ((m ≡ n) × (k ≤ i))
lex_told m n i k h =
    split (ltb m n) (λ l. inl (ltb-true m n l))
    (λ l. split (eqb m n)
    (λ q. inr (eqb-true m n q, leb-true k i (sym (rw l (rw q)) ∙ h)))
    (λ q. clash h (rw l (rw q))))

lex_holds : (m n i k : ℕ) → (m < n) ⊎ ((m ≡ n) × (k ≤ i)) → ltb m n || (eqb m n && leb k i) ≡ true
lex_holds m n i k =
    ⊎_elim (λ l. rw (lt-ltb m n l))
    (λ q. rw (le-ltb m n (let e = q.0 in omega arith)) (rw (eq-eqb m n q.0) (le-leb k i q.1)))

-- the order of turns is its denial
lex_denied : (m n i k : ℕ) → ltb n m || (eqb n m && ltb i k) ≡ not (ltb m n || (eqb m n && leb k i))
lex_denied m n i k =
    split (ltb m n)
    (λ l. let h = ltb-true m n l in rw l (rw (le-ltb n m (omega arith)) (rw (ne_eqb n m (omega arith)))))
    (λ l. let h = ltb-false m n l in
    split (eqb m n)
    (λ q. let e = eqb-true m n q in
    rw l (rw q (rw (le-ltb n m (omega arith)) (rw (eq-eqb n m (sym e))
    (split (leb k i)
    (λ s. let r = leb-true k i s in rw s (le-ltb i k r))
    (λ s. rw s (lt-ltb i k (leb-false k i s))))))))
    (λ q. let d = eqb-false m n q in rw l (rw q (rw (lt-ltb n m (omega arith))))))

rather_told : (a b : Rank) → rather a b ≡ true → Rather a b
unfolding rather less equal
rather_told a b h = lex_told (a.ratio.over * b.ratio.under) (b.ratio.over * a.ratio.under) a.number b.number h

rather_holds : (a b : Rank) → Rather a b → rather a b ≡ true
unfolding rather less equal
rather_holds a b r = lex_holds (a.ratio.over * b.ratio.under) (b.ratio.over * a.ratio.under) a.number b.number r

-- a comes before b in the order of turns
pub not_rather : (a b : Rank)
    → less b.ratio a.ratio || (equal b.ratio a.ratio && ltb a.number b.number) ≡ not (rather a b)
unfolding rather less equal
not_rather a b = lex_denied (a.ratio.over * b.ratio.under) (b.ratio.over * a.ratio.under) a.number b.number

pub rather_self : (a : Rank) → rather a a ≡ true
rather_self a = rather_holds a a (inr (refl, omega arith))

pub rather_else : (a b : Rank) → rather a b ≡ false → rather b a ≡ true
unfolding rather less equal
rather_else a b h =
    let m = a.ratio.over * b.ratio.under in
    let n = b.ratio.over * a.ratio.under in
    split (ltb m n)
    (λ l. clash (rw l) h)
    (λ l. rather_holds b a
    (split (eqb m n)
    (λ q. inr (
      sym (eqb-true m n q),
      split (leb a.number b.number)
          (λ s. leb-true a.number b.number s)
          (λ s. let f = leb-false a.number b.number s in
          clash (lex_holds m n a.number b.number (inr (eqb-true m n q, omega arith))) h),
    ))
    (λ q. inl (let g = ltb-false m n l in let d = eqb-false m n q in omega arith))))

pub rather_via : (a b c : Rank) → 0 < a.ratio.under → 0 < b.ratio.under → 0 < c.ratio.under
    → rather a b ≡ true → rather b c ≡ true → rather a c ≡ true
rather_via a b c pa pb pc h g =
    let p = a.ratio in
    let q = b.ratio in
    let r = c.ratio in
    rather_holds a c
    (⊎_elim
    (λ l. inl (⊎_elim
    (λ m. fraction_lt r.over r.under q.over q.under p.over p.under l (omega arith) pa)
    (λ m. fraction_lt r.over r.under q.over q.under p.over p.under l (let e = m.0 in omega arith) pa)
    (rather_told a b h)))
    (λ l. ⊎_elim
    (λ m. inl (fraction_le r.over r.under q.over q.under p.over p.under (let e = l.0 in omega arith) m pc))
    (λ m. inr (
      fraction_eq r.over r.under q.over q.under p.over p.under l.0 (sym m.0) pb,
      (let x = l.1 in let y = m.1 in omega arith),
    ))
    (rather_told a b h))
    (rather_told b c g))

-- each goes rather than the other: they have one number
pub rather_both : (a b : Rank) → rather a b ≡ true → rather b a ≡ true → a.number ≡ b.number
rather_both a b h g =
    ⊎_elim
    (λ l. ⊎_elim (λ m. absurd (omega arith)) (λ m. absurd (let e = m.0 in omega arith)) (rather_told b a g))
    (λ l. ⊎_elim (λ m. absurd (let e = l.0 in omega arith)) (λ m. let x = l.1 in let y = m.1 in omega arith)
    (rather_told b a g))
    (rather_told a b h)

-- one of the list goes rather than all of it
module _ {A : Type 0} (rank : A → Rank) (P : A → Type 0) (positive : (x : A) → P x → 0 < (rank x).ratio.under) where
  pub one_goes_rather : (x : A) (xs : List A) → Each P (x ∷ xs)
      → (w : A) × P w × Each (λ y. rather (rank w) (rank y) ≡ true) (x ∷ xs)
  one_goes_rather x [] (p and none_left) = (x, p, rather_self (rank x) and none_left)
  one_goes_rather x (y ∷ ys) (p and ps) =
      let r = one_goes_rather y ys ps in
      split (rather (rank x) (rank r.0))
      (λ h. (
        x,
        p,
        rather_self (rank x)
            and each_both
            (λ z q s. rather_via (rank x) (rank r.0) (rank z) (positive x p) (positive r.0 r.1) (positive z q) h s)
            ps r.2,
      ))
      (λ h. (r.0, r.1, rather_else (rank x) (rank r.0) h and r.2))
