-- Both loops over the digits of a number divide by ten: what is left then is the number of the digits not yet passed.
-- Divided once more it is that of one digit fewer, and it is below ten where one digit is left. Assumes nothing.
use mathlib.Core.Path.{◌≡◌, refl, sym}
use mathlib.Core.Bool.{Bool, true, false}
use mathlib.Core.List.{List}
use Prim.Native.Nat.{ℕ, suc, ◌+◌, ◌*◌, ◌/◌, ◌%◌, ◌^◌, ◌≤◌, ◌<◌}
use native.Mathlib.Nat.{pow-le-pow_right, pow-suc}
use native.Mathlib.Omega.{arith}
use borrow.Author.Tests.{ltb-false, ltb-true}
use lib.Dec.{ltb}
use lib.ListN.{length, take, drop, get_or, set, length-set}
use lib.Seq.{take-length, drop-cons, drop-set-lt, get_or-set_same}
use Rattle.grammar.proofs.Decimal.{digits_of_digits, digits_of_length, value_digits_of}
use Rattle.grammar.proofs.DecimalBack.{value_below, value_last_digit, value_tenth}
use Rattle.rules.specs.Lists.{all}
use Rattle.rules.specs.TableText.{digit_zero, digits_of, digits_within, is_digit, value_from}

-- the number of the first k digits
abbrev pub number_left : List ℕ → ℕ → ℕ
number_left ds k = value_from 0 (take k ds)

pub all_left : (n : ℕ) → n < 10 ^ 20 → n ≡ number_left (digits_of n) (length (digits_of n))
all_left n small = sym (rw (take-length (digits_of n)) (value_digits_of n small))

-- from 10 ^ k on, and below ten times as much, a number has one digit more than k
pub digits_between : (n k : ℕ) → k < 20 → 10 ^ k ≤ n → n < 10 * 10 ^ k → n < 10 ^ 20 → k + 1 ≡ length (digits_of n)
digits_between n k few from below small = go (ltb (length ds) (suc k)) refl
  where
    ds : List ℕ
    ds = digits_of n

    fits : length ds ≤ suc k
    fits = digits_of_length (suc k) n (omega arith) (omega arith) (omega (arith, pow-suc 10 k))

    go : (t : Bool) → ltb (length ds) (suc k) ≡ t → k + 1 ≡ length ds
    go false q = omega (arith, fits, ltb-false (length ds) (suc k) q)
    go true q =
        let least : length ds ≤ k = omega (arith, ltb-true (length ds) (suc k) q) in
        let value : value_from 0 (take (length ds) ds) < 10 ^ length ds = value_below ds (digits_of_digits n) (length ds) (omega arith) in
        let same = all_left n small in
        absurd (omega (arith, same, value, pow-le-pow_right {n = 10} (omega arith) {i = length ds} {j = k} least))

pub digits_of_0 : 1 ≡ length (digits_of 0)
unfolding digits_of digits_within
digits_of_0 = refl

module _ (ds : List ℕ) (digits : all is_digit ds ≡ true) where
  -- the last digit of what is left, stored before the digits that are written
  pub digit_stored : (k rest : ℕ) (part : List ℕ) → k < length ds → k < length part → rest ≡ number_left ds (suc k) → drop (suc k) part ≡ drop (suc k) ds
      → (rest / 10 ≡ number_left ds k) × (drop k (set part k (digit_zero + rest % 10)) ≡ drop k ds)
  digit_stored k rest part fits room e behind =
      let d = digit_zero + rest % 10 in
      let same : d ≡ get_or ds k 0 = rw e (value_last_digit ds digits k fits) in
      let long : k < length (set part k d) = rw (length-set part k d) room in (
        rw e (value_tenth ds digits k fits),
        rw (drop-cons (set part k d) k 0 long, get_or-set_same part k d 0 room, drop-set-lt (suc k) part k d (omega arith), drop-cons ds k 0 fits, behind, same),
      )
