-- A test is true or false, and an option is empty or holds something: a proof may go on in the two cases, and a test of
-- two tests is known by its parts. Assumes nothing.
use mathlib.Core.Bool.{Bool, true, false, ◌||◌, true≢false}
use mathlib.Core.Logic.{◌⊎◌, inl, inr}
use mathlib.Core.Option.{Option, none, some, some-injective, some-ne-none}
use mathlib.Core.Path.{◌≡◌, refl, sym, ◌∙◌}
use Prim.Native.Nat.{ℕ}
use borrow.Author.Tests.{eqb-false, eqb-true, eq-eqb, ne_eqb}
use lib.Dec.{eqb}

module _ {C : Type 0} where
  pub split : (b : Bool) → (b ≡ true → C) → (b ≡ false → C) → C
  split true f g = f refl
  split false f g = g refl

  pub split_option : {A : Type 0} (o : Option A) → (o ≡ none → C) → ((x : A) → o ≡ some x → C) → C
  split_option none f g = f refl
  split_option (some x) f g = g x refl

  pub clash : {b : Bool} → b ≡ true → b ≡ false → C
  clash h g = absurd (true≢false (sym h ∙ g))

  pub nothing_there : {A : Type 0} {o : Option A} {x : A} → o ≡ some x → o ≡ none → C
  nothing_there {x = x} h g = absurd (some-ne-none x (sym h ∙ g))

  -- two numbers that differ are not one
  pub two_numbers : (n a b : ℕ) → eqb a b ≡ false → n ≡ a → n ≡ b → C
  two_numbers n a b d e f = absurd (eqb-false a b d (sym e ∙ f))

pub one_there : {A : Type 0} {o : Option A} {x y : A} → o ≡ some x → o ≡ some y → x ≡ y
one_there {x = x} {y = y} h g = some-injective x y (sym h ∙ g)

pub both_ways : (a b : Bool) → (a ≡ true → b ≡ true) → (b ≡ true → a ≡ true) → a ≡ b
both_ways true b f g = sym (f refl)
both_ways false b f g = split b (λ h. absurd (true≢false (sym (g h)))) (λ h. sym h)

pub or_front : (a b c : Bool) → a || (b || c) ≡ (b || a) || c
or_front true true c = refl
or_front true false c = refl
or_front false true c = refl
or_front false false c = refl

pub or_absorb : (a b : Bool) → (a ≡ true → b ≡ true) → a || b ≡ b
or_absorb true b h = sym (h refl)
or_absorb false b h = refl

pub or_split : (a b : Bool) → a || b ≡ true → (a ≡ true) ⊎ (b ≡ true)
or_split true b h = inl refl
or_split false b h = inr h

pub or_left : (a b : Bool) → a ≡ true → a || b ≡ true
or_left a b h = rw h

pub or_right : (a b : Bool) → b ≡ true → a || b ≡ true
or_right true b h = refl
or_right false b h = h

pub neither : (a b : Bool) → a || b ≡ false → (a ≡ false) × (b ≡ false)
neither true b h = absurd (true≢false h)
neither false b h = (refl, h)

pub eqb_swap : (a b : ℕ) → eqb a b ≡ eqb b a
eqb_swap a b =
    split (eqb a b) (λ h. h ∙ sym (eq-eqb b a (sym (eqb-true a b h))))
    (λ h. h ∙ sym (ne_eqb b a (λ e. eqb-false a b h (sym e))))

pub or_swap : (a b c : Bool) → a || (b || c) ≡ b || (a || c)
or_swap true true c = refl
or_swap true false c = refl
or_swap false b c = refl
