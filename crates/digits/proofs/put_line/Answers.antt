-- `digits::put_line` writes a line. At each number, putting the rest of the line behind what is written gives the buffer
-- that putting all behind the letter gives, and the rest of the line has room. Assumes nothing.
use mathlib.Core.Path.{◌≡◌, refl, sym, ◌∙◌}
use mathlib.Core.List.{[], ◌∷◌}
use Prim.Native.Nat.{◌+◌, ◌≤◌}
use native.Mathlib.Omega.{arith}
use lib.ListN.{length, drop, get_or, length-set}
use Rattle.grammar.proofs.LineText.{behind_all, behind_letter, length_behind_next, line_behind_letter, put_letter, put_next}
use Rattle.grammar.proofs.Put.{put_byte}
use Rattle.rules.specs.TableText.{digits_of, line_feed}
use Rattle.digits.proofs.put_line.Goals.{After-loop-n, At-loop-n, In-loop-n, Start}
use Rattle.digits.proofs.put_line.Goals as goal

-- the room that the call requires: at the start, for the next number, and for the line feed
letter-room : (c : Start) → let a = c.args in a.at + 1 + length (behind_letter a.numbers.now) ≤ length a.out.now
letter-room c = omega (arith, rw (line_behind_letter c.args.letter c.args.numbers.now) at c.requires)

number-room : (c : In-loop-n)
    → let l = c.loop-n in
    let numbers = c.args.numbers.now in
    l.next + 1 + length (digits_of (get_or numbers l.n-index 0)) ≤ length l.out
number-room c =
    let numbers = c.args.numbers.now in
    omega (arith, length_behind_next numbers c.loop-n.n-index c.loop-n-test.true)

end-left : (c : After-loop-n)
    → behind_letter (drop c.loop-n.n-index c.args.numbers.now) ≡ line_feed ∷ []
end-left c = behind_all c.args.numbers.now c.loop-n.n-index c.loop-n-test.false

end-room : (c : After-loop-n)
    → let a = c.args in
    c.loop-n.next + 1 ≡ a.at + 1 + length (behind_letter a.numbers.now)
end-room c = rw (end-left c) at c.loop-n.invariant.behind

pub bounds-out-at : goal.bounds-out-at
bounds-out-at c = omega (arith, letter-room (goal.at.bounds-out-at c).Start)

pub loop-n-init : goal.loop-n-init
loop-n-init c =
    let a = c.args in
    record {
      room = rw (length-set a.out.now a.at a.letter) (letter-room (goal.at.loop-n-init c).Start);
      behind = refl;
      same = refl;
    }

pub bounds-out-next : goal.bounds-out-next
bounds-out-next c = omega (arith, number-room (goal.at.bounds-out-next c).In-loop-n)

pub put_number-next-requires : goal.put_number-next-requires
put_number-next-requires c =
    rw length-set (number-room (goal.at.put_number-next-requires c).In-loop-n)

pub loop-n-preserved : goal.loop-n-preserved
loop-n-preserved c =
    let put-number = c.put_number-next in
    let l = c.loop-n in
    let numbers = c.args.numbers.now in
    record {
      room = l.invariant.room;
      behind = omega (arith, length_behind_next numbers l.n-index c.loop-n-test.true);
      same =
          rw (put-number.ensures.1, put-number.ensures.0)
          (put_next l.out l.next numbers l.n-index c.loop-n-test.true (omega (arith, number-room (goal.at.loop-n-preserved c).In-loop-n))
          ∙ l.invariant.same);
    }

pub bounds-out-next-2 : goal.bounds-out-next-2
bounds-out-next-2 c = omega (arith, end-room (goal.at.bounds-out-next-2 c).After-loop-n)

pub returns : goal.returns
returns c =
    let l = c.loop-n in
    let a = c.args in
    let whole = rw (end-left (goal.at.returns c).After-loop-n) at l.invariant.same in (
      rw (line_behind_letter a.letter a.numbers.now) (omega (arith, end-room (goal.at.returns c).After-loop-n)),
      sym (put_byte l.out l.next line_feed (omega (arith, end-room (goal.at.returns c).After-loop-n)))
          ∙ whole
          ∙ put_letter a.out.now a.at a.letter a.numbers.now (omega (arith, letter-room (goal.at.returns c).Start)),
    )
