-- Document 01, "Sheet of examples": the fourteen that are marked *, as one table of cases, each in the form of document 01,
-- and one claim about all of them that antt computes.
use Rattle.std.specs.Prelude.{List, [], ◌∷◌}
use Prim.Native.String.{String}
use Rattle.rules.specs.Answers.{good, refused}
use Rattle.rules.specs.Case.{Case, allocates, lists, lists_with}
use Rattle.rules.specs.declared.Refusal.{Refusal}

abbrev pub case_s : String
case_s = "T\t0\t2500000000\nF\t500\t700000\nF\t1000\t1000000\nJ\t1\t1000\t50\t3000\t3000\t0\nJ\t2\t1000\t90\t2000\t2000\t1\nJ\t3\t500\t10\t5000\t5000\t0\nJ\t4\t2000\t40\t4000\t4000\t0\nJ\t5\t3000\t1\t2500\t2500\t0\nH\t1\t3\n"

-- one job of 1000 cycles, termination 2000, budget 10^15
abbrev one_job : String
one_job = "T\t0\t1000000000000000\nF\t500\t700000\nF\t1000\t1000000\nJ\t1\t1000\t1\t2000\t2000\t0\n"

unfoldable pub sheet : List Case
sheet =
    -- S
    lists case_s
    "P\t1000\t2500000000\t3\nO\t3\t500\nO\t2\t1500\nO\t1\t2500\nX\t4\t5\nX\t5\t2\n"
    -- S with budget 2499999999, beside S's text (document 02, A5)
    ∷ lists_with case_s 2499999999
    "P\t1000\t1500000000\t2\nO\t3\t500\nO\t2\t1500\nX\t1\t6\nX\t4\t6\nX\t5\t2\n"
    -- one job, termination 2000: speed 500
    ∷ lists one_job
    "P\t500\t700000000\t1\nO\t1\t2000\n"
    -- termination 1999: speed 1000
    ∷ lists "T\t0\t1000000000000000\nF\t500\t700000\nF\t1000\t1000000\nJ\t1\t1000\t1\t1999\t1999\t0\n"
    "P\t1000\t1000000000\t1\nO\t1\t1000\n"
    -- termination 999: fate 2
    ∷ lists "T\t0\t1000000000000000\nF\t500\t700000\nF\t1000\t1000000\nJ\t1\t1000\t1\t999\t999\t0\n"
    "P\t500\t0\t0\nX\t1\t2\n"
    -- the same job with budget 800000000 beside it: fate 6
    ∷ lists_with one_job 800000000
    "P\t500\t0\t0\nX\t1\t6\n"
    -- model 3's speeds: speed 820, by document 02's A1
    ∷ lists "T\t0\t1200000000\nF\t360\t1453689\nF\t550\t1060341\nF\t640\t986050\nF\t730\t951382\nF\t820\t945957\nF\t910\t963501\nF\t1000\t1000000\nJ\t1\t1000\t1\t3000\t3000\t0\n"
    "P\t820\t945957000\t1\nO\t1\t1220\n"
    -- a ring of two
    ∷ lists "T\t0\t2500000000\nF\t500\t700000\nF\t1000\t1000000\nJ\t1\t100\t10\t5000\t5000\t2\nJ\t2\t100\t10\t5000\t5000\t1\nH\t1\t1\nH\t2\t2\n"
    "P\t500\t70000000\t1\nO\t1\t200\nX\t2\t3\n"
    -- worth 0
    ∷ lists "T\t0\t2500000000\nF\t500\t700000\nF\t1000\t1000000\nJ\t1\t100\t0\t5000\t5000\t0\n"
    "P\t500\t0\t0\nX\t1\t4\n"
    -- the empty text, and T alone
    ∷ lists "" "R\t3\t1\n"
    ∷ lists "T\t0\t0\n" "R\t3\t2\n"
    -- allocations
    ∷ allocates 100 100 900 (good (130 ∷ []))
    ∷ allocates 100 101 900 (good (131 ∷ []))
    ∷ allocates 1000000 1 500 (refused Refusal.Allocation 0 (0 ∷ []))
    ∷ []
