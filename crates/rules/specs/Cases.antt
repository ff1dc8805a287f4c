-- Our own cases: a second table and claim. They refuse readings of documents 01 and 02 that the sheet lets pass.
use Rattle.std.specs.Prelude.{List, [], ◌∷◌, ◌++◌, map, Ok, ℕ, zero, suc, ◌+◌, ◌-◌, ◌*◌, replicate}
use Prim.Native.String.{String}
use Rattle.rules.specs.Answers.{decision_says, panel_says, refuses, written_says}
use Rattle.rules.specs.Bytes.{bytes}
use Rattle.rules.specs.Case.{Case, Checking, Judging, Planning, Telling, checks, judges, lists, lists_rooms, lists_with, plans, reads, tells, writes}
use Rattle.rules.specs.Refusals.{reading}
use Rattle.rules.specs.Sheet.{case_s}
use Rattle.rules.specs.TableText.{Record, Records, most_budget, most_jobs, no_records, record_text, table_of, table_with_budget, with_clock, with_counts, with_holds, with_jobs, with_speeds}
use Rattle.rules.specs.declared.Job.{Job}
use Rattle.rules.specs.declared.Hold.{Hold}
use Rattle.rules.specs.declared.Refusal.{Refusal}
use Rattle.rules.specs.declared.Speed.{Speed}
use Rattle.rules.specs.declared.Table.{Table}

-- a line, and the number that it gets
abbrev line : String → ℕ → Judging
line s n = record { line = bytes s; number = n }

-- the numbers from n on, count of them
abbrev from : ℕ → ℕ → List ℕ
from n zero = []
from n (suc count) = n ∷ from (suc n) count

-- a short job of a number
abbrev short : ℕ → Job
short n = record { number = n; cycles = 1; worth = 0; critical = 0; termination = 0; request = 0 }

-- a job of six different numbers
abbrev one : Job
one = record { number = 1; cycles = 2; worth = 3; critical = 4; termination = 5; request = 6 }

-- a slow speed
abbrev slow : ℕ → Speed
slow n = record { mhz = n; cost = 1 }

-- job 1 holds a resource
abbrev held : ℕ → Hold
held n = record { resource = n; holder = 1 }

-- the lines of some good records
abbrev good_lines : List Record → List Judging
good_lines rs = map (λ r. record { line = record_text r; number = 0 }) rs

-- records, letter by letter
abbrev records : ℕ → ℕ → List Speed → List Job → List Hold → Records
records clock budget fs js hs = with_holds (with_jobs (with_speeds (with_clock no_records clock budget) fs) js) hs

-- the table of so many short records, and counts that may be others
abbrev counted : ℕ → ℕ → ℕ → ℕ → ℕ → ℕ → Table
counted fs js hs f j h =
    with_counts (table_of (records 7 9 (map slow (from 1 fs)) (map short (from 1 js)) (map held (from 1 hs)))) f j h

abbrev checking : Table → ℕ → ℕ → Checking
checking t n l = record { table = t; number = n; line = l }

abbrev five : String
five = "T\t700\t5000\nF\t500\t12\nF\t800\t9\nF\t1000\t10\nJ\t1\t400\t1\t900\t900\t4\nJ\t2\t300\t10\t500\t1000\t2\nJ\t3\t500\t5\t1000\t1200\t0\nJ\t4\t200\t5\t3000\t3000\t2\nJ\t5\t300\t40\t3000\t3200\t0\nH\t1\t4\nH\t2\t5\nH\t3\t1\n"

-- two chains that give nothing; members that lower the limit and are moved; a job that comes in after its own turn failed
abbrev gives_nothing : String
gives_nothing = "T\t100\t10000\nF\t500\t12\nF\t800\t9\nF\t1000\t10\nJ\t1\t500\t20\t0\t800\t3\nJ\t2\t400\t1\t0\t200\t3\nJ\t3\t300\t0\t200\t1200\t2\nH\t1\t3\nH\t2\t2\nH\t3\t3\nH\t4\t3\n"

abbrev member_moved : String
member_moved = "T\t700\t12000\nF\t500\t7\nF\t1000\t10\nJ\t1\t200\t0\t700\t1700\t4\nJ\t2\t100\t20\t2600\t2800\t1\nJ\t3\t200\t1\t100\t1100\t4\nJ\t4\t100\t2\t1400\t1400\t2\nJ\t5\t100\t20\t900\t900\t0\nH\t1\t3\nH\t2\t3\nH\t3\t1\nH\t4\t5\n"

abbrev came_in_later : String
came_in_later = "T\t1000\t10000\nF\t500\t12\nF\t800\t9\nF\t1000\t10\nJ\t1\t100\t5\t2200\t3200\t0\nJ\t2\t500\t10\t1600\t1600\t4\nJ\t3\t100\t5\t1300\t2300\t1\nJ\t4\t300\t0\t1000\t2000\t3\nH\t1\t1\nH\t2\t1\nH\t3\t2\n"

-- the table of `five`, with a budget in the T
abbrev five_at : ℕ → Table
five_at budget = table_with_budget (reading (bytes five)).table budget

-- a table and a budget that planning refuses, and two buffers of so many places, which stay as they are
abbrev turned_away : Table → ℕ → ℕ → ℕ → Refusal → ℕ → Planning
turned_away t budget orders fates why line = record {
  table = t;
  budget = budget;
  order = replicate orders 8;
  fates = replicate fates 9;
  part = [];
  after = record { answer = decision_says (refuses why line); order = replicate orders 8; fates = replicate fates 9 };
}

-- what the panel's call leaves of two buffers of so many places: some turns' jobs and rooms, and 0 behind them
abbrev told : Table → ℕ → List ℕ → List ℕ → ℕ → ℕ → Telling
told t budget turns rooms count room = record {
  table = t;
  budget = budget;
  turns = replicate most_jobs 8;
  rooms = replicate (most_jobs + 2) 9;
  after =
      record {
        answer = panel_says (Ok (record { turns = count; room = room }));
        turns = turns ++ replicate (most_jobs - count) 0;
        rooms = rooms ++ replicate (most_jobs + 2 - count) 0;
      };
}

-- a table and a budget of which it tells nothing, and leaves both buffers as they are
abbrev untold : Table → ℕ → ℕ → ℕ → Refusal → ℕ → Telling
untold t budget turns rooms why line = record {
  table = t;
  budget = budget;
  turns = replicate turns 8;
  rooms = replicate rooms 9;
  after = record { answer = panel_says (refuses why line); turns = replicate turns 8; rooms = replicate rooms 9 };
}

unfoldable pub cases : List Case
cases =
    -- Clock above 0. Job 1 is late alone; job 2's trial moves 5 and is dropped for time, job 3's for the budget; 500 MHz
    -- would break the budget.
    lists five "P\t800\t4500\t2\nO\t5\t1075\nO\t4\t1325\nX\t1\t2\nX\t2\t5\nX\t3\t6\n"
    -- Jobs 1, 3 and 4 on a ring, and 2 waits for it: 4 goes, of equal worth / cycles with 3. The walk of job 2 goes past the
    -- planned 3 to 1.
    ∷ lists "T\t1000\t15000\nF\t500\t7\nF\t1000\t10\nJ\t1\t300\t20\t1900\t2100\t4\nJ\t2\t500\t0\t1600\t2600\t2\nJ\t3\t300\t10\t2800\t3000\t1\nJ\t4\t300\t10\t1200\t2200\t2\nH\t1\t1\nH\t2\t3\nH\t3\t2\nH\t4\t4\n"
    "P\t1000\t11000\t3\nO\t1\t1300\nO\t3\t1600\nO\t2\t2100\nX\t4\t3\n"
    -- Job 1 ends late after 3, so that its chain gives nothing. The late job 2 holds what 3 asks for: 3 waits for nobody.
    ∷ lists gives_nothing
    "P\t500\t0\t0\nX\t1\t4\nX\t2\t2\nX\t3\t4\n"
    -- A ring of 1 and 3: 1 has more worth and far more cycles, and goes. Then 2 and 3 have equal ratios. 500 MHz would do and
    -- costs more.
    ∷ lists "T\t1000\t8000\nF\t500\t12\nF\t800\t9\nF\t1000\t10\nJ\t1\t500\t5\t800000\t800000\t2\nJ\t2\t400\t200\t2900\t3100\t3\nJ\t3\t2\t1\t2900\t2900\t1\nH\t1\t1\nH\t2\t3\n"
    "P\t800\t3618\t2\nO\t3\t1003\nO\t2\t1503\nX\t1\t3\n"
    -- A new member lowers the limit to its critical time; a member that is moved takes the limit as its key.
    ∷ lists member_moved
    "P\t1000\t7000\t5\nO\t5\t800\nO\t3\t1000\nO\t1\t1200\nO\t4\t1300\nO\t2\t1400\n"
    -- A job whose own turn failed comes in with another's chain: planned.
    ∷ lists came_in_later
    "P\t1000\t10000\t4\nO\t2\t1500\nO\t4\t1800\nO\t1\t1900\nO\t3\t2000\n"
    -- A member that stays lowers the limit for the next.
    ∷ lists "T\t700\t1000000\nF\t500\t12\nF\t800\t9\nF\t1000\t10\nJ\t1\t200\t5\t2600\t3100\t0\nJ\t2\t300\t40\t1700\t1700\t1\nJ\t3\t500\t2\t2300\t2800\t3\nJ\t4\t400\t20\t1700\t1900\t0\nJ\t5\t100\t20\t1600\t1600\t0\nH\t1\t1\nH\t2\t3\nH\t3\t2\nH\t4\t2\n"
    "P\t1000\t15000\t5\nO\t5\t800\nO\t1\t1000\nO\t4\t1400\nO\t2\t1700\nO\t3\t2200\n"
    -- 400 MHz is the cheapest and late by 500 ms; 500 MHz ends in time exactly, and costs most; 800 and 900 MHz cost the same.
    ∷ lists "T\t0\t12000\nF\t400\t5\nF\t500\t12\nF\t800\t9\nF\t900\t9\nF\t1000\t10\nJ\t1\t1000\t1\t2000\t2000\t0\n"
    "P\t800\t9000\t1\nO\t1\t1250\n"
    -- Every condition of a line, at the ends of its range.
    ∷ judges
    (line "\n" 1
    ∷ line "T\t0\n" 1
    ∷ line "T\t0\t0\t0\n" 1
    ∷ line "T\t\t0\n" 1
    ∷ line "T\t0\t00\n" 1
    ∷ line "T\t0\t/\n" 1
    ∷ line "T\t0\t:\n" 1
    ∷ line "T\t0\t10000000000000000\n" 1
    ∷ line "A\t0\t0\n" 1
    ∷ line "X\t0\t0\n" 1
    ∷ line "A\t1\t1\t0\t0\t0\t0\n" 1
    ∷ line "TT\t0\t0\n" 1
    ∷ line "T\t0\t1000000000000001\n" 2
    ∷ line "T\t1000000001\t0\n" 2
    ∷ line "F\t1\t1\n" 3
    ∷ line "T\t1000000000\t1000000000000000\n" 0
    ∷ line "T\t0\t0\n" 3
    ∷ line "J\t1\t1\t0\t0\t0\t0\n" 3
    ∷ line "F\t0\t1\n" 2
    ∷ line "F\t1\t0\n" 2
    ∷ line "F\t1\t4000001\n" 2
    ∷ line "F\t1\t4000000\n" 0
    ∷ line "F\t1\t1\n" 3
    ∷ line "F\t4001\t1\n" 2
    ∷ (good_lines (map (λ n. Record.F (slow n)) (from 2 15)) ++ (line "F\t4000\t1\n" 4
    ∷ line "H\t1\t1\n" 3
    ∷ line "J\t0\t1\t0\t0\t0\t0\n" 2
    ∷ line "J\t10000\t1\t0\t0\t0\t0\n" 2
    ∷ line "J\t1\t0\t0\t0\t0\t0\n" 2
    ∷ line "J\t1\t1000001\t0\t0\t0\t0\n" 2
    ∷ line "J\t1\t1\t1000001\t0\t0\t0\n" 2
    ∷ line "J\t1\t1\t0\t1000000001\t0\t0\n" 2
    ∷ line "J\t1\t1\t0\t0\t1000000001\t0\n" 2
    ∷ line "J\t1\t1\t0\t0\t0\t33\n" 2
    ∷ line "J\t1\t1\t0\t0\t0\n" 1
    ∷ line "J\t1\t1000000\t1000000\t1000000000\t1000000000\t32\n" 0
    ∷ line "J\t1\t1\t0\t0\t0\t0\n" 3
    ∷ line "J\t2\t1\t0\t1\t0\t0\n" 5
    ∷ line "F\t4000\t1\n" 3
    ∷ line "T\t0\t0\n" 3
    ∷ (good_lines (map (λ n. Record.J (short n)) (from 2 (most_jobs - 2))) ++ (line "J\t9000\t1\t0\t0\t0\t1\n" 0
    ∷ line "J\t9000\t1\t0\t1\t0\t1\n" 3
    ∷ line "J\t9999\t1\t0\t1\t0\t1\n" 4
    ∷ line "H\t0\t1\n" 2
    ∷ line "H\t33\t1\n" 2
    ∷ line "H\t1\t0\n" 2
    ∷ line "H\t1\t10000\n" 2
    ∷ line "H\t1\t9001\n" 6
    ∷ line "H\t1\t9000\n" 7
    ∷ line "H\t2\t9000\n" 0
    ∷ line "H\t2\t1\n" 3
    ∷ line "H\t32\t1\n" 7
    ∷ line "J\t9001\t1\t0\t0\t0\t0\n" 3
    ∷ line "H\t32\t9999\n" 6
    ∷ line "H\t32\t9000" 1
    ∷ [])))))
    -- The writer's check: counts at and beyond the places, no F, H without J. The 65th J is named by its number here, once, so
    -- that no other limit passes.
    ∷ checks
    (checking (counted 16 most_jobs 32 16 most_jobs 32) 0 0
    ∷ checking (counted 16 most_jobs 32 17 most_jobs 32) 4 18
    ∷ checking (counted 2 64 32 2 65 32) 4 68
    ∷ checking (counted 2 1 32 2 1 33) 3 37
    ∷ checking (counted 16 most_jobs 32 0 1 1) 3 2
    ∷ checking (counted 0 0 0 0 1 0) 3 2
    ∷ checking (counted 2 0 1 2 0 1) 3 4
    ∷ checking (table_of (records 1000000001 0 [] [] [])) 2 1
    ∷ [])
    -- The text is the front of the buffer; room for it exactly, and a byte too little.
    ∷ writes
    (record { table = counted 1 0 0 1 0 0; out = "xxxxxxxxxxxxxx"; answer = written_says (Ok 12); after = "T\t7\t9\nF\t1\t1\nxx" }
    ∷ record {
      table = table_of (records 7 9 (record { mhz = 3; cost = 4 } ∷ []) (one ∷ []) (held 7 ∷ []));
      out = "xxxxxxxxxxxxxxxxxxxxxxxxxxxxxxxx";
      answer = written_says (Ok 32);
      after = "T\t7\t9\nF\t3\t4\nJ\t1\t2\t3\t4\t5\t6\nH\t7\t1\n";
    }
    ∷ record { table = counted 1 0 0 1 0 0; out = "xxxxxxxxxxx"; answer = written_says (refuses Refusal.Room 0); after = "xxxxxxxxxxx" }
    ∷ record { table = counted 1 0 0 0 0 0; out = "x"; answer = written_says (refuses Refusal.Order 2); after = "x" }
    ∷ [])
    -- The buffers: zeros to the end, of long ones too; refused: as they were.
    ∷ plans
    (record {
      table = five_at most_budget;
      budget = 5000;
      order = replicate most_jobs 8;
      fates = replicate (most_jobs + 2) 9;
      part = 5 ∷ 4 ∷ [];
      after =
          record {
            answer = decision_says (Ok (record { count = 2; speed = 800; energy = 4500 }));
            order = 5 ∷ 4 ∷ replicate (most_jobs - 2) 0;
            fates = 2 ∷ 5 ∷ 6 ∷ 1 ∷ 1 ∷ replicate (most_jobs - 3) 0;
          };
    }
    -- The budget beside counts, not the table's own, which is greater above and less here.
    ∷ record {
      table = five_at 5000;
      budget = most_budget;
      order = replicate most_jobs 8;
      fates = replicate most_jobs 9;
      part = 3 ∷ 5 ∷ 4 ∷ [];
      after =
          record {
            answer = decision_says (Ok (record { count = 3; speed = 1000; energy = 10000 }));
            order = 3 ∷ 5 ∷ 4 ∷ replicate (most_jobs - 3) 0;
            fates = 2 ∷ 5 ∷ 1 ∷ 1 ∷ 1 ∷ replicate (most_jobs - 5) 0;
          };
    }
    -- A buffer too small comes first, then the budget beside, then the table: its own T, and its other records with their lines.
    ∷ turned_away (five_at 5000) (most_budget + 1) (most_jobs - 1) most_jobs Refusal.Room 0
    ∷ turned_away (five_at 5000) (most_budget + 1) most_jobs (most_jobs - 1) Refusal.Room 0
    ∷ turned_away (counted 0 0 0 0 0 0) (most_budget + 1) most_jobs most_jobs Refusal.Range 1
    ∷ turned_away (five_at (most_budget + 1)) 5000 most_jobs most_jobs Refusal.Range 1
    ∷ turned_away (counted 0 0 0 0 0 0) most_budget most_jobs most_jobs Refusal.Order 2
    ∷ turned_away (counted 2 64 32 2 65 32) 0 most_jobs most_jobs Refusal.TooMany 68
    ∷ [])
    -- A budget beside a text: the text's own refusal comes first, also that of its own budget; then the budget's.
    ∷ lists_with five most_budget "P\t1000\t10000\t3\nO\t3\t1200\nO\t5\t1500\nO\t4\t1700\nX\t1\t2\nX\t2\t5\n"
    ∷ lists_with five 0 "P\t500\t0\t0\nX\t1\t2\nX\t2\t5\nX\t3\t6\nX\t4\t6\nX\t5\t6\n"
    ∷ lists_with five (most_budget + 1) "R\t2\t1\n"
    ∷ lists_with "T\t0\t0\nF\t1\t0\n" (most_budget + 1) "R\t2\t2\n"
    ∷ lists_with "T\t0\t1000000000000001\nF\t1\t1\n" 0 "R\t2\t1\n"
    -- The rooms, at the cost of the last F, which is neither the first nor the least. Jobs 5 and 4 are taken in their own turns, 2 ends
    -- late and takes nothing, and 3 is too dear but for a budget of 10001. A budget beside counts, also where the table's own is more.
    ∷ tells
    (told (five_at most_budget) 5000 (5 ∷ 4 ∷ 2 ∷ 3 ∷ []) (2000 ∷ 0 ∷ 0 ∷ 0 ∷ []) 4 0
    ∷ told (five_at 5000) 10001 (5 ∷ 4 ∷ 2 ∷ 3 ∷ []) (7001 ∷ 5001 ∷ 5001 ∷ 1 ∷ []) 4 1
    ∷ told (five_at 5000) 0 (5 ∷ 4 ∷ 2 ∷ 3 ∷ []) (0 ∷ 0 ∷ 0 ∷ 0 ∷ []) 4 0
    ∷ told (counted 1 0 0 1 0 0) 7 [] [] 0 7
    ∷ untold (five_at 5000) (most_budget + 1) (most_jobs - 1) most_jobs Refusal.Room 0
    ∷ untold (five_at 5000) (most_budget + 1) most_jobs (most_jobs - 1) Refusal.Room 0
    ∷ untold (counted 0 0 0 0 0 0) (most_budget + 1) most_jobs most_jobs Refusal.Range 1
    ∷ untold (counted 0 0 0 0 0 0) most_budget most_jobs most_jobs Refusal.Order 2
    ∷ [])
    -- The lines of the rooms. Job 3 came in with 2 and is passed over; 4 gets a 5 and not a 6, though no room is left either; and 5,
    -- which is late alone, has no turn. Then members that are moved, each counted once; chains of ratio 0; and a job whose own turn gave 5.
    ∷ lists_rooms case_s 2500000000 "1\t2\t1000000000\t1\n2\t1\t0\t1\n3\t3\t0\t1\n4\t4\t0\t5\n"
    ∷ lists_rooms member_moved 12000 "1\t5\t11000\t1\n2\t2\t8000\t1\n3\t3\t8000\t1\n4\t1\t6000\t1\n5\t4\t5000\t1\n"
    ∷ lists_rooms gives_nothing 10000 "1\t1\t10000\t4\n2\t3\t10000\t4\n"
    ∷ lists_rooms came_in_later 10500 "1\t1\t9500\t1\n2\t3\t8500\t1\n3\t2\t8500\t5\n4\t4\t500\t1\n"
    ∷ lists_rooms five (most_budget + 1) "R\t2\t1\n"
    -- The reader's table: 0 in every unused place; refused, 0 in every place.
    ∷ reads
    (record {
      text = "T\t7\t9\nF\t3\t4\nJ\t1\t2\t3\t4\t5\t6\nH\t7\t1\n";
      number = 0;
      line = 0;
      table =
          7 ∷ 9 ∷ 1 ∷ 1 ∷ 1 ∷ 3 ∷ 4
          ∷ (replicate (15 * 2) 0 ++ (1 ∷ 2 ∷ 3 ∷ 4 ∷ 5 ∷ 6 ∷ (replicate ((most_jobs - 1) * 6) 0 ++ (7 ∷ 1 ∷ replicate (31 * 2) 0))));
    }
    ∷ record { text = "T\t7\t9\nF\t3\t0\n"; number = 2; line = 2; table = replicate (5 + 16 * 2 + most_jobs * 6 + 32 * 2) 0 }
    ∷ [])
    ∷ []
