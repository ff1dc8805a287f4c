-- Document 01, "The listing".
use Rattle.std.specs.Prelude.{Bool, not, List, [], ◌∷◌, ◌++◌, ℕ, ◌+◌, ◌*◌, eqb, length}
use Rattle.rules.specs.Answers.{number_of}
use Rattle.rules.specs.Costs.{rounded_up}
use Rattle.rules.specs.Lists.{joined, keep}
use Rattle.rules.specs.Plan.{Fated, Plan, Run, at_budget, fate_planned, plan_of, runs_of}
use Rattle.rules.specs.Refusals.{AfterWriting, Taken, read, refused_at, taken, written}
use Rattle.rules.specs.TableText.{line_text}

abbrev pub letter_p : ℕ
letter_p = 80

abbrev pub letter_o : ℕ
letter_o = 79

abbrev pub letter_x : ℕ
letter_x = 88

abbrev pub letter_r : ℕ
letter_r = 82

-- "absolute ms at the chosen speed: now plus the run time of all cycles up to and with this job, rounded up once"
unfoldable pub finish : ℕ → ℕ → Run → ℕ
finish clock mhz r = clock + rounded_up (r.cycles_by_end * 1000) mhz

-- "P speed energy count"
unfoldable pub plan_line : Plan → List ℕ
plan_line p = line_text letter_p (p.speed.mhz ∷ p.energy ∷ length p.jobs ∷ [])

-- "O job finish .., in plan order"
unfoldable pub order_line : ℕ → ℕ → Run → List ℕ
order_line clock mhz r = line_text letter_o (r.job.number ∷ finish clock mhz r ∷ [])

-- "X job fate, for each unplanned job in table order"
unfoldable pub unplanned : Fated → Bool
unplanned i = not (eqb i.fate fate_planned)

unfoldable pub fate_line : Fated → List ℕ
fate_line i = line_text letter_x (i.job.number ∷ i.fate ∷ [])

unfoldable pub plan_lines : ℕ → Plan → List ℕ
plan_lines clock p =
    plan_line p ++ (joined (order_line clock p.speed.mhz) (runs_of p.jobs) ++ joined fate_line (keep unplanned p.fates))

-- "A refusal prints only R number line."
unfoldable pub lines_for : Taken → List ℕ
lines_for (taken t) = plan_lines t.clock (plan_of t)
lines_for (refused_at why line) = line_text letter_r (number_of why ∷ line ∷ [])

-- What the program prints for a text.
unfoldable pub listing_of : List ℕ → List ℕ
listing_of text = lines_for (read text)

-- The same with a budget beside the text (document 02, A5): the text is read first, then its table is planned with that budget.
unfoldable pub listed_with : List ℕ → ℕ → List ℕ
listed_with text budget = lines_for (at_budget budget (read text))

-- The listing written to the front of a lent buffer. Document 01 leaves room open here: as for the writer, 8, line 0.
unfoldable pub listing : List ℕ → List ℕ → AfterWriting
listing text out = written (listing_of text) out

unfoldable pub listing_with : List ℕ → ℕ → List ℕ → AfterWriting
listing_with text budget out = written (listed_with text budget) out
