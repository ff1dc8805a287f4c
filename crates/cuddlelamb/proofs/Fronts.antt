-- What was read is a front part of its buffer, and of the input. Where a buffer has room for the lines of all rooms, and no listing
-- is longer, nothing that is asked for is refused, and the front of the buffer is the whole of it. A word of the command line is a
-- budget where it is a number. Assumes nothing.
use Rattle.std.proofs.Common.{◌≡◌, ◌<◌, ◌≤◌, ℕ, Bool, true, false, List, [], ◌∷◌, ◌++◌, length, take, drop, refl, sym, ap, subst, ◌∙◌, arith, eqb, ltb, ltb-true, ltb-false, append-nil, length-take-le, take_all, IfSome, OnOk, is_ok, Result, Ok, Err, Option as Answered, None, Some}
use Rattle.std.specs.Result.{result_ok, result_unwrap_or}
use Rattle.std.specs.Bool.{OnTrue}
use mathlib.Core.Bool.{false≢true}
use Rattle.std.proofs.Math.Option.{Option, none, some}
use Rattle.std.specs.Io.KnownBytes.{Appends}
use borrow.Author.Tests.{le-leb}
use lib.ListN.{length-append}
use lib.Seq.{take_at}
use Rattle.beside.specs.Listed.{wrote}
use Rattle.caller.proofs.Counting.{prefix_len_of_le}
use Rattle.caller.specs.Promises.{FrontOf, IsPrefixLen, Taken}
use Rattle.cuddlelamb.specs.Program.{BudgetIn, ListedAs, PrintedOf, asks, lines_asked}
use Rattle.laws.proofs.Unique.{refusal_not_0}
use Rattle.listing.proofs.LongestListing.{longest_listing, longest_with_budget}
use Rattle.roomlines.proofs.LongestRooms.{longest_rooms, longest_rooms_with_budget, most_room_bytes}
use Rattle.rules.specs.Answers.{Answer, field_says, good}
use Rattle.rules.specs.Lists.{any}
use Rattle.rules.specs.Refusals.{AfterWriting, written}
use Rattle.rules.specs.TableText.{is_digit, nth, number_in}
use Rattle.rules.specs.declared.Refusal.{Refusal}
use Rattle.rules.specs.declared.Refused.{Refused}
use Rattle.text.proofs.FieldPlaces.{field_answered}
use Rattle.text.specs.FieldPlaces.{field_answer}
use Rattle.text.specs.Fields.{FieldsTold, number_at, taken_says}
use Rattle.text.specs.declared.FieldTaken.{FieldTaken}

pub bytes_counted : (E : Type 0) (buffer : List ℕ) (read : Result ℕ E) (count : ℕ) → read ≡ Ok count → FrontOf buffer read
    → IsPrefixLen count buffer
bytes_counted E buffer read count told front = rw told at front

-- The bytes that were read are as many of the input's first bytes as the buffer has room for, or all of it.
module _ (buffer input behind : List ℕ) (count most : ℕ) (whole : length buffer ≡ most) (e : input ≡ take count buffer ++ behind)
    (end : count < length buffer → behind ≡ []) where
  first_bytes : take most input ≡ take count buffer
  first_bytes = by (ltb count (length buffer)) refl
    where
      by : (b : Bool) → ltb count (length buffer) ≡ b → take most input ≡ take count buffer
      by true less =
          let below = ltb-true _ _ less in
          ap (take most) (e ∙ ap (λ l. take count buffer ++ l) (end below) ∙ append-nil (take count buffer))
          ∙ take_all most (take count buffer) (omega (arith, below, whole, length-take-le count buffer (omega (arith, below))))
      by false not_less =
          let all = take_all count buffer (ltb-false _ _ not_less) in
          ap (take most) e ∙ take_at (take count buffer) behind most (ap length all ∙ whole)

shown_of_input : (E : Type 0) (old new : Answered (List ℕ)) (buffer : List ℕ) (count most : ℕ) → length buffer ≡ most
    → Taken {E = E} old new buffer (Ok count) → (P : List ℕ → Type 0) → P (take count buffer)
    → IfSome old (λ input. P (take most input))
shown_of_input E None new buffer count most whole taken P p = tt
shown_of_input E (Some input) None buffer count most whole taken P p = absurd taken.0
shown_of_input E (Some input) (Some behind) buffer count most whole taken P p =
    subst P (sym (first_bytes buffer input behind count most whole taken.0 taken.1)) p

-- What is printed of them is what is asked for of the input.
pub planned : (E : Type 0) (old new : Answered (List ℕ)) (buffer : List ℕ) (count most : ℕ) → length buffer ≡ most
    → Taken {E = E} old new buffer (Ok count) → (rooms : Bool) (asked : Answered ℕ) (before after : Answered (List ℕ))
    → (printed : Result (Unit {0}) E) → OnOk printed (Appends before after (lines_asked (take count buffer) rooms asked))
    → (r : Bool) → r ≡ is_ok printed
    → OnTrue r (PrintedOf most rooms asked old before after)
planned E old new buffer count most whole taken rooms asked before after (Ok u) ok true e =
    shown_of_input E old new buffer count most whole taken (λ text. Appends before after (lines_asked text rooms asked)) ok
planned E old new buffer count most whole taken rooms asked before after (Err why) ok true e = absurd (false≢true (sym e))
planned E old new buffer count most whole taken rooms asked before after printed ok false e = tt

module _ (lines out : List ℕ) (room : length lines ≤ length out) where
  always_written : written lines out ≡ record { answer = good (length lines ∷ []); out = lines ++ drop (length lines) out }
  unfolding written
  always_written = rw (le-leb (length lines) (length out) room)

  pub listed_whole : (answer : Result ℕ Refused) (after : List ℕ) → wrote answer after ≡ written lines out
      → ListedAs lines after (result_unwrap_or answer 0)
  listed_whole (Ok count) after e =
      let told = e ∙ always_written in
      let long = ap (λ (a : AfterWriting). nth a.answer.values 0) told in
      let holds = ap (λ (a : AfterWriting). a.out) told in
      let behind = drop (length lines) out in
      record {
        counts = prefix_len_of_le count after (rw holds (omega (arith, long, length-append lines behind)));
        whole = rw holds (take_at lines behind count (sym long));
      }
  listed_whole (Err why) after e = absurd (refusal_not_0 why.why (ap (λ (a : AfterWriting). a.answer.number) (e ∙ always_written)))

-- the room that is enough for whatever is asked for
pub lines_fit : (text : List ℕ) (rooms : Bool) (asked : Answered ℕ) (out : List ℕ) → most_room_bytes ≤ length out
    → length (lines_asked text rooms asked) ≤ length out
lines_fit text true None out room = omega (arith, longest_rooms text)
lines_fit text false None out room = omega (arith, longest_listing text)
lines_fit text true (Some budget) out room = omega (arith, longest_rooms_with_budget text budget)
lines_fit text false (Some budget) out room = omega (arith, longest_with_budget text budget)

-- A word that is a number, and one that is none.
module _ (buffer : List ℕ) (taken : FieldTaken)
    (told : taken_says taken ≡ number_at buffer (record { at = 0; line = 1 }) 0) where
  word_answered : (word rest : List ℕ) → buffer ≡ word ++ 0 ∷ rest → any (λ b. eqb b 0) word ≡ false
      → field_says taken.field ≡ field_answer 1 (number_in word)
  unfolding is_digit
  word_answered word rest e without =
      ap (λ (t : FieldsTold). t.says) told
      ∙ field_answered buffer (record { at = 0; line = 1 }) word rest 0 e refl without

  pub a_budget : BudgetIn buffer (result_ok taken.field)
  a_budget = record { of_word = λ word rest q w. from taken.field (number_in word) (word_answered word rest q w) }
    where
      from : (field : Result ℕ Refused) (o : Option ℕ) → field_says field ≡ field_answer 1 o → result_ok field ≡ asks o
      from (Ok n) (some m) q = ap (λ (a : Answer). Some (nth a.values 0)) q
      from (Ok n) none q = absurd (refusal_not_0 Refusal.Shape (sym (ap (λ (a : Answer). a.number) q)))
      from (Err why) (some m) q = absurd (refusal_not_0 why.why (ap (λ (a : Answer). a.number) q))
      from (Err why) none q = refl
