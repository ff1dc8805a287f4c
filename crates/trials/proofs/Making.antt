-- One change made: behind the entries of the front, whose keys are not above its own, it goes before the first entry whose key is its
-- own or more, and where it stood it stands no more. The front grows up to it; the changes that are left are merged with what is
-- left of the plan, as before. Assumes nothing.
use mathlib.Core.Bool.{Bool, false}
use mathlib.Core.List.{List, [], ◌∷◌, ◌++◌, append_assoc}
use mathlib.Core.Path.{◌≡◌, refl, sym, ap, ◌∙◌}
use Prim.Native.Nat.{ℕ, zero, suc, ◌+◌, ◌≤◌, ◌<◌}
use native.Mathlib.Numerals.{add-one}
use native.Mathlib.Omega.{arith}
use borrow.Author.Tests.{eqb-true, leb-false, leb-true}
use lib.Dec.{eqb, leb}
use lib.ListN.{drop, get_or, length, length-drop, set, take, take-append-drop}
use lib.Seq.{drop-drop, length-take-le, take-add}
use Rattle.changes.proofs.Merging.{OnceEach, merged_next}
use Rattle.changes.specs.Changes.{merged, staying}
use Rattle.columns.specs.Columns.{AllBelow, entries_in, entry_at}
use Rattle.entries.proofs.Entries.{entries_stay}
use Rattle.entries.proofs.Found.{removed_at_index}
use Rattle.entries.proofs.Searches.{first_at_most_length}
use Rattle.entries.specs.Places.{Sorted, first_where, index_of, place_for, with_at, without_at}
use Rattle.judgements.specs.Changes.{Change, WellNoted, entries_of}
use Rattle.laws.proofs.Choices.{eqb_swap, neither, split}
use Rattle.laws.proofs.Elements.{each_append, each_at_place, each_map, each_too, map_append}
use Rattle.laws.proofs.Lookups.{each_both, each_first, each_rest, none_any}
use Rattle.laws.proofs.Numbered.{same_place}
use Rattle.laws.specs.Pairs.{Distinct, Pairwise, among, no_pair, ◌then◌}
use Rattle.rules.specs.Lists.{Each, Rising, none_left, ◌and◌}
use Rattle.rules.specs.Plan.{Entry, in_plan, is_of, remove}
use Rattle.rules.specs.TableText.{most_jobs, no_job}
use Rattle.rules.specs.declared.Job.{Job}
use Rattle.trials.proofs.Once.{each_dropped, each_taken, each_without, kept, pairs_dropped, stored, taken_out_is_gone}

-- before the first that passes none does
before_first : {A : Type 0} (p : A → Bool) (xs : List A) → Each (λ x. p x ≡ false) (take (first_where p xs) xs)
unfolding first_where
before_first p [] = none_left
before_first p (x ∷ xs) = split (p x) (λ g. rw g none_left) (λ g. rw g (g and before_first p xs))

module _ (key : ℕ) (keys : List ℕ) where
  -- the keys before the key's place are lower
  pub lower_before : (ps : List ℕ) → Each (λ p. get_or keys p 0 < key) (take (place_for key keys ps) ps)
  lower_before ps =
      each_too (λ p f. leb-false key (get_or keys p 0) f) (before_first (λ p. leb key (get_or keys p 0)) ps)

  -- those behind it are not
  pub not_lower_behind : {ps : List ℕ} → Sorted keys ps → Each (λ p. key ≤ get_or keys p 0) (drop (place_for key keys ps) ps)
  unfolding first_where
  not_lower_behind no_pair = none_left
  not_lower_behind {ps = p ∷ ps} (r then rs) =
      split (leb key (get_or keys p 0))
      (λ g. let l = leb-true key (get_or keys p 0) g in rw g (l and each_too (λ q m. omega arith) r))
      (λ g. rw g (not_lower_behind rs))

-- a place that is none of the first r is taken out behind them
without_front : (place r : ℕ) (ps : List ℕ) → Each (λ p. eqb place p ≡ false) (take r ps)
    → take r (without_at (index_of place ps) ps) ≡ take r ps
unfolding first_where without_at
without_front place zero ps none = refl
without_front place (suc r) [] none = refl
without_front place (suc r) (p ∷ ps) (d and ds) = rw d (ap {B = List ℕ} (λ l. p ∷ l) (without_front place r ps ds))

without_behind : (place r : ℕ) (ps : List ℕ) → Each (λ p. eqb place p ≡ false) (take r ps)
    → drop r (without_at (index_of place ps) ps) ≡ without_at (index_of place (drop r ps)) (drop r ps)
unfolding first_where without_at
without_behind place zero ps none = refl
without_behind place (suc r) [] none = refl
without_behind place (suc r) (p ∷ ps) (d and ds) = rw d (without_behind place r ps ds)

-- a place that is not there leaves nothing out
pub nothing_out : (place : ℕ) (ps : List ℕ) → among ps place ≡ false → without_at (index_of place ps) ps ≡ ps
unfolding first_where without_at
nothing_out place [] none = refl
nothing_out place (p ∷ ps) none =
    let both = neither (eqb place p) (among ps place) none in
    rw both.0 (ap {B = List ℕ} (λ l. p ∷ l) (nothing_out place ps both.1))

taken_one_more : (xs : List ℕ) (x : ℕ) (ys : List ℕ) (n : ℕ) → length xs ≡ n → take (suc n) (xs ++ (x ∷ ys)) ≡ xs ++ (x ∷ [])
taken_one_more [] x ys zero e = refl
taken_one_more [] x ys (suc n) e = absurd (omega arith)
taken_one_more (y ∷ xs) x ys zero e = absurd (omega arith)
taken_one_more (y ∷ xs) x ys (suc n) e = ap {B = List ℕ} (λ l. y ∷ l) (taken_one_more xs x ys n (omega arith))

dropped_one_more : (xs : List ℕ) (x : ℕ) (ys : List ℕ) (n : ℕ) → length xs ≡ n → drop (suc n) (xs ++ (x ∷ ys)) ≡ ys
dropped_one_more [] x ys zero e = refl
dropped_one_more [] x ys (suc n) e = absurd (omega arith)
dropped_one_more (y ∷ xs) x ys zero e = absurd (omega arith)
dropped_one_more (y ∷ xs) x ys (suc n) e = dropped_one_more xs x ys n (omega arith)

-- places by index, and one by one
pub each_below : (n : ℕ) (ps : List ℕ) → AllBelow n ps → Each (λ p. p < n) ps
each_below n [] below = none_left
each_below n (p ∷ ps) below = below 0 (omega arith) and each_below n ps (λ i h. below (suc i) (omega arith))

pub below_each : (n : ℕ) {ps : List ℕ} → Each (λ p. p < n) ps → AllBelow n ps
below_each n es i h = each_at_place 0 es i h

-- where numbers rise, places apart are of jobs apart
module _ (js : List Job) (rising : Rising (λ j. j.number) js) where
  pub out_of_changes : (p : ℕ) → p < length js → {ds : List Change} → Each (λ (d : Change). d.place < length js) ds
      → Each (λ (d : Change). eqb d.place p ≡ false) ds → in_plan (get_or js p no_job) (entries_of js ds) ≡ false
  unfolding in_plan is_of
  out_of_changes p h none_left none_left = refl
  out_of_changes p h {ds = d ∷ ds} (l and ls) (a and more) =
      rw (same_place js rising p d.place h l ∙ eqb_swap p d.place ∙ a, out_of_changes p h ls more)

  pub once_entries : (keys : List ℕ) {ps : List ℕ} → Each (λ p. p < length js) ps → Distinct ps → OnceEach (entries_in js keys ps)
  once_entries keys none_left no_pair = no_pair
  once_entries keys (h and hs) (r then rs) =
      each_map (entry_at js keys) (each_both (λ q l d. same_place js rising _ q h l ∙ d) hs r) then once_entries keys hs rs

-- the front of a plan in mid-trial: no key is above those of the changes that are left, and none of these is there
abbrev pub Behind : ℕ → List ℕ → Change → Type 0
Behind p keys c = (get_or keys p 0 ≤ c.key) × (eqb c.place p ≡ false)

abbrev pub FrontBelow : ℕ → List ℕ → List ℕ → List Change → Type 0
FrontBelow b ps keys ds = Each (λ p. Each (Behind p keys) ds) (take b ps)

module _ (c : Change) (ds : List Change) (b : ℕ) (ps keys : List ℕ) (noted : WellNoted (c ∷ ds) keys)
    (front : FrontBelow b ps keys (c ∷ ds)) (sorted : Sorted keys ps) (keys_length : length keys ≡ most_jobs)
    (b_inside : b ≤ length ps) where
  -- where it goes
  abbrev pub k : ℕ
  k = place_for c.key keys (drop b ps)

  abbrev pub r : ℕ
  r = b + k

  -- the plan without it, and with it there
  abbrev pub without : List ℕ
  without = without_at (index_of c.place ps) ps

  abbrev pub made : List ℕ
  made = with_at r c.place without

  abbrev pub keys' : List ℕ
  keys' = set keys c.place c.key

  abbrev low : List ℕ
  low = take k (drop b ps)

  abbrev high : List ℕ
  high = drop k (drop b ps)

  front_and_low : take r ps ≡ take b ps ++ low
  front_and_low = take-add b k ps

  lows : Each (λ p. get_or keys p 0 < c.key) low
  lows = lower_before c.key keys (drop b ps)

  sorted_behind : Sorted keys (drop b ps)
  sorted_behind = pairs_dropped b sorted

  highs : Each (λ p. c.key ≤ get_or keys p 0) high
  highs = not_lower_behind c.key keys sorted_behind

  -- none of the changes is among the entries with lower keys, since none moves back
  low_apart : Each (λ p. Each (λ (d : Change). eqb d.place p ≡ false) (c ∷ ds)) low
  low_apart =
      each_too (λ p l. each_both (λ (d : Change) f m. split (eqb d.place p)
      (λ e. absurd (omega (arith, ap (λ n. get_or keys n 0) (eqb-true d.place p e))))
      (λ e. e)) noted.forward (no_less noted.no_fall)) lows
    where
      no_less : Pairwise (λ (x y : Change). x.key ≤ y.key) (c ∷ ds) → Each (λ (d : Change). c.key ≤ d.key) (c ∷ ds)
      no_less (l then ls) = let here : c.key ≤ c.key = omega arith in here and l

  -- so its own place is none of those before where it goes
  before_apart : Each (λ p. eqb c.place p ≡ false) (take r ps)
  before_apart =
      rw front_and_low
      (each_append (each_too (λ p f. let own : Behind p keys c = each_first f in own.1) front)
      (each_too (λ p f. each_first f) low_apart))

  taken : take r without ≡ take r ps
  taken = without_front c.place r ps before_apart

  dropped : drop r without ≡ without_at (index_of c.place high) high
  dropped = without_behind c.place r ps before_apart ∙ rw (sym (drop-drop k b ps))

  -- what is made: what was before where it goes, and it, moved to the front of what was behind
  pub made_of : made ≡ take r ps ++ (c.place ∷ without_at (index_of c.place (drop r ps)) (drop r ps))
  made_of =
      ap (λ l. l ++ (c.place ∷ drop r without)) taken
      ∙ ap (λ l. take r ps ++ (c.place ∷ l)) (without_behind c.place r ps before_apart)

  -- the keys before and behind
  pub lower : Each (λ p. get_or keys p 0 ≤ c.key) (take r without)
  lower =
      rw (taken ∙ front_and_low)
      (each_append (each_too (λ p f. let own : Behind p keys c = each_first f in own.0) front)
      (each_too (λ p l. omega arith) lows))

  pub higher : Each (λ p. c.key ≤ get_or keys p 0) (drop r without)
  higher = rw dropped (each_without (index_of c.place high) highs)

  at_where_it_goes : length (take r without) ≡ r
  at_where_it_goes =
      ap length taken
      ∙ length-take-le r ps (omega (arith, first_at_most_length (λ p. leb c.key (get_or keys p 0)) (drop b ps), length-drop b ps))

  -- the front up to it, and what is left behind it
  pub front_made : take (r + 1) made ≡ take r ps ++ (c.place ∷ [])
  front_made =
      rw (add-one r)
      (taken_one_more (take r without) c.place (drop r without) r at_where_it_goes ∙ ap (λ l. l ++ (c.place ∷ [])) taken)

  pub behind_made : drop (r + 1) made ≡ without_at (index_of c.place high) high
  behind_made =
      rw (add-one r) (dropped_one_more (take r without) c.place (drop r without) r at_where_it_goes ∙ dropped)

  place_there : c.place < length keys
  place_there = omega (arith, keys_length, each_first {P = λ (d : Change). d.place < most_jobs} noted.below)

  others_apart : Each (λ (d : Change). eqb c.place d.place ≡ false) ds
  others_apart = from noted.apart
    where
      from : Pairwise (λ (x y : Change). eqb x.place y.place ≡ false) (c ∷ ds)
          → Each (λ (d : Change). eqb c.place d.place ≡ false) ds
      from (a then more) = a

  others_no_less : Each (λ (d : Change). c.key ≤ d.key) ds
  others_no_less = from noted.no_fall
    where
      from : Pairwise (λ (x y : Change). x.key ≤ y.key) (c ∷ ds) → Each (λ (d : Change). c.key ≤ d.key) ds
      from (l then ls) = l

  -- the others are noted as well as before
  pub others_noted : WellNoted ds keys'
  others_noted = record {
    below = each_rest noted.below;
    apart = rest noted.apart;
    no_fall = rest noted.no_fall;
    times = each_rest noted.times;
    forward = each_both (λ (d : Change) a f. rw (kept keys c.place c.key place_there d.place a) f) others_apart
        (each_rest noted.forward);
  }
    where
      rest : {R : Change → Change → Type 0} → Pairwise R (c ∷ ds) → Pairwise R ds
      rest (x then xs) = xs

  -- and the front is below them
  pub front_grown : FrontBelow (r + 1) made keys' ds
  front_grown =
      rw front_made
      (each_append
      (each_both (λ p d f. each_too (λ (e : Change) h. rw (kept keys c.place c.key place_there p d) h) f) before_apart
      (rw front_and_low
      (each_append (each_too (λ p f. each_rest f) front)
      (each_both (λ p l a. each_both (λ (d : Change) m x. let h : Behind p keys d = (omega arith, x) in h) others_no_less (each_rest a))
      lows low_apart))))
      (own and none_left))
    where
      own : Each (Behind c.place keys') ds
      own = each_both (λ (d : Change) m a.
          let low : get_or keys' c.place 0 ≤ d.key = rw (stored keys c.place c.key place_there) m in
          let h : Behind c.place keys' d = (low, eqb_swap d.place c.place ∙ a) in h) others_no_less others_apart

  -- what the changes that are left make of what is left is what they all made of the plan
  module _ (js : List Job) (rising : Rising (λ j. j.number) js) (of_jobs : AllBelow (length js) ps)
      (changes_of_jobs : Each (λ (d : Change). d.place < length js) (c ∷ ds)) (once : Distinct ps) where
    abbrev own : Entry
    own = record { job = get_or js c.place no_job; key = c.key }

    abbrev others : List Entry
    others = entries_of js ds

    split_up : entries_in js keys (drop b ps) ≡ entries_in js keys low ++ entries_in js keys high
    split_up = ap (entries_in js keys) (sym (take-append-drop k (drop b ps))) ∙ map_append (entry_at js keys) low high

    low_of_jobs : Each (λ p. p < length js) low
    low_of_jobs = each_taken k (each_dropped b (each_below (length js) ps of_jobs))

    high_of_jobs : AllBelow (length js) high
    high_of_jobs = below_each (length js) (each_dropped k (each_dropped b (each_below (length js) ps of_jobs)))

    low_stays : Each (λ e. in_plan e.job (own ∷ others) ≡ false) (entries_in js keys low)
    low_stays =
        each_map (entry_at js keys)
        (each_both (λ p h a. out_of_changes js rising p h changes_of_jobs a) low_of_jobs low_apart)

    once_high : OnceEach (entries_in js keys high)
    once_high = once_entries js rising keys (each_dropped k (each_dropped b (each_below (length js) ps of_jobs)))
        (pairs_dropped k (pairs_dropped b once))

    removed : remove own.job (entries_in js keys high) ≡ entries_in js keys (drop (r + 1) made)
    removed =
        removed_at_index js rising keys c.place (each_first changes_of_jobs) high high_of_jobs
        ∙ ap (entries_in js keys) (sym behind_made)

    -- no other key has changed
    low_keys : entries_in js keys' (take r ps) ≡ entries_in js keys (take r ps)
    low_keys = entries_stay js keys c.place c.key (take r ps) (none_any (eqb c.place) before_apart)

    gone_behind : among (drop (r + 1) made) c.place ≡ false
    gone_behind = rw behind_made (taken_out_is_gone c.place (pairs_dropped k (pairs_dropped b once)))

    high_keys : entries_in js keys' (drop (r + 1) made) ≡ entries_in js keys (drop (r + 1) made)
    high_keys = entries_stay js keys c.place c.key (drop (r + 1) made) gone_behind

    front_entries : entries_in js keys' (take (r + 1) made) ≡ entries_in js keys (take b ps) ++ (entries_in js keys low ++ (own ∷ []))
    front_entries =
        ap (entries_in js keys') front_made
        ∙ map_append (entry_at js keys') (take r ps) (c.place ∷ [])
        ∙ ap (λ (l : List Entry). l ++ (entry_at js keys' c.place ∷ [])) (low_keys ∙ ap (entries_in js keys) front_and_low
        ∙ map_append (entry_at js keys) (take b ps) low)
        ∙ rw (stored keys c.place c.key place_there)
        (append_assoc (entries_in js keys (take b ps)) (entries_in js keys low) (own ∷ []))

    abbrev left_merged : List Entry
    left_merged = merged others (staying others (entries_in js keys (drop (r + 1) made)))

    pub merge_goes_on : entries_in js keys (take b ps) ++ merged (own ∷ others) (staying (own ∷ others) (entries_in js keys (drop b ps)))
        ≡ entries_in js keys' (take (r + 1) made) ++ merged others (staying others (entries_in js keys' (drop (r + 1) made)))
    merge_goes_on =
        let step : merged (own ∷ others) (staying (own ∷ others) (entries_in js keys low ++ entries_in js keys high))
        ≡ entries_in js keys low ++ (own ∷ merged others (staying others (remove own.job (entries_in js keys high)))) =
        merged_next own others (entries_in js keys low)
        (each_map (λ (d : Change). record { job = get_or js d.place no_job; key = d.key }) others_no_less)
        (each_map (entry_at js keys) lows) (each_map (entry_at js keys) highs) low_stays once_high in
        ap (λ l. entries_in js keys (take b ps) ++ merged (own ∷ others) (staying (own ∷ others) l)) split_up
        ∙ ap (λ l. entries_in js keys (take b ps) ++ l)
        (step ∙ ap (λ l. entries_in js keys low ++ (own ∷ merged others (staying others l))) removed)
        ∙ sym (ap (λ l. l ++ merged others (staying others (entries_in js keys' (drop (r + 1) made)))) front_entries
        ∙ ap (λ l. (entries_in js keys (take b ps) ++ (entries_in js keys low ++ (own ∷ []))) ++ merged others (staying others l)) high_keys
        ∙ append_assoc (entries_in js keys (take b ps)) (entries_in js keys low ++ (own ∷ [])) left_merged
        ∙ ap (λ l. entries_in js keys (take b ps) ++ l) (append_assoc (entries_in js keys low) (own ∷ []) left_merged))
