-- What a trial finds settled and what is then left of it: entries below all changes stand first, entries that stand already where
-- the changes put them stand next, job for job, and the changes behind these are merged with what is left of the plan. The places
-- that are then still to leave the plan are those of the changes that are left. Assumes nothing.
use mathlib.Core.Bool.{Bool, true, false}
use mathlib.Core.List.{List, [], ◌∷◌, ◌++◌}
use mathlib.Core.Path.{◌≡◌, refl, sym, ap, ◌∙◌}
use Prim.Native.Nat.{ℕ, zero, suc, ◌+◌, ◌-◌, ◌≤◌, ◌<◌}
use native.Mathlib.Omega.{arith}
use borrow.Author.Tests.{eq-eqb, eqb-true}
use lib.Dec.{eqb}
use lib.ListN.{drop, get_or, length, take, take-append-drop}
use lib.Seq.{drop_at, drop-drop, length-take-le, take-add}
use Rattle.changes.proofs.Merging.{merged_front, merged_next, staying_all, staying_parts}
use Rattle.changes.specs.Changes.{merged, staying}
use Rattle.columns.specs.Columns.{entries_in, entry_at, jobs_at}
use Rattle.entries.specs.Places.{Sorted}
use Rattle.judgements.specs.Changes.{Change, WellNoted, entries_of, far_first, places_of}
use Rattle.laws.proofs.Choices.{eqb_swap, neither, or_left, or_right, split}
use Rattle.laws.proofs.Elements.{each_map, each_too, map_append}
use Rattle.laws.proofs.Lookups.{each_always, each_both, each_first, each_rest, keep_all, none_any}
use Rattle.laws.proofs.Numbered.{same_place}
use Rattle.laws.specs.Pairs.{Distinct, Pairwise, among, no_pair, ◌then◌}
use Rattle.rules.specs.Lists.{Each, Rising, keep, none_left, ◌and◌}
use Rattle.rules.specs.Plan.{Entry, in_plan, is_of, jobs_of, remove, same}
use Rattle.rules.specs.TableText.{no_job}
use Rattle.rules.specs.declared.Job.{Job}
use Rattle.trials.proofs.Making.{once_entries, out_of_changes}
use Rattle.trials.proofs.Once.{each_dropped, each_taken, pairs_dropped}

-- Changes noted well, without the first s, are noted as well.
pub noted_rest : (s : ℕ) {ds : List Change} (keys : List ℕ) → WellNoted ds keys → WellNoted (drop s ds) keys
noted_rest s keys noted = record {
  below = each_dropped s noted.below;
  apart = pairs_dropped s noted.apart;
  no_fall = pairs_dropped s noted.no_fall;
  times = each_dropped s noted.times;
  forward = each_dropped s noted.forward;
}

-- The changes from the far end on, without the first s, are those noted before the last s.
pub far_first_rest : (changed fresh : List ℕ) (n s : ℕ) → s ≤ n
    → drop s (far_first n changed fresh) ≡ far_first (n - s) changed fresh
far_first_rest changed fresh n zero h = let none : n ≡ n - 0 = omega arith in ap (λ k. far_first k changed fresh) none
far_first_rest changed fresh zero (suc s) h = absurd (omega arith)
far_first_rest changed fresh (suc n) (suc s) h =
    let one : n - s ≡ suc n - suc s = omega arith in
    far_first_rest changed fresh n s (omega arith) ∙ ap (λ k. far_first k changed fresh) one

-- The places of the changes behind the first s are the places behind the first s.
pub places_rest : (s : ℕ) (ds : List Change) → places_of (drop s ds) ≡ drop s (places_of ds)
places_rest zero ds = refl
places_rest (suc s) [] = refl
places_rest (suc s) (d ∷ ds) = places_rest s ds

-- a job's entry that stands first is the one removed
first_removed : (k : Job) (e : Entry) (es : List Entry) → same k e.job ≡ true → remove k (e ∷ es) ≡ es
unfolding remove is_of
first_removed k e es h = rw h

-- the jobs of entries, one at a time
jobs_next : (e : Entry) (es : List Entry) → jobs_of (e ∷ es) ≡ e.job ∷ jobs_of es
unfolding jobs_of
jobs_next e es = refl

-- what the first is to each behind it
pairs_first : {A : Type 0} {R : A → A → Type 0} {x : A} {xs : List A} → Pairwise R (x ∷ xs) → Each (R x) xs
pairs_first (r then rs) = r

-- a change of the first place, which it does not move back: its job stands first, and the others are merged with what is behind
module _ (js : List Job) (rising : Rising (λ j. j.number) js) (keys : List ℕ) (c : Change) (ds : List Change) (q : ℕ)
    (qs : List ℕ) (noted : WellNoted (c ∷ ds) keys) (sorted : Sorted keys (q ∷ qs)) (once : Distinct (q ∷ qs))
    (of_jobs : Each (λ p. p < length js) (q ∷ qs)) (changes_of_jobs : Each (λ (d : Change). d.place < length js) (c ∷ ds))
    (one : q ≡ c.place) where
  abbrev own : Entry
  own = record { job = get_or js c.place no_job; key = c.key }

  abbrev others : List Entry
  others = entries_of js ds

  -- its key is not above that of the place, nor above those behind
  not_above : c.key ≤ get_or keys q 0
  not_above = rw one (each_first {P = λ (d : Change). d.key ≤ get_or keys d.place 0} noted.forward)

  none_above : Each (λ p. c.key ≤ get_or keys p 0) (q ∷ qs)
  none_above = let l = not_above in l and each_too (λ p h. omega arith) (pairs_first sorted)

  -- what it takes out is the first
  removed : remove own.job (entries_in js keys (q ∷ qs)) ≡ entries_in js keys qs
  removed =
      first_removed own.job (entry_at js keys q) (entries_in js keys qs)
      (same_place js rising c.place q (each_first changes_of_jobs) (each_first of_jobs) ∙ eq-eqb c.place q (sym one))

  -- so its job stands first
  settled_next : jobs_of (merged (own ∷ others) (staying (own ∷ others) (entries_in js keys (q ∷ qs))))
      ≡ get_or js q no_job ∷ jobs_of (merged others (staying others (entries_in js keys qs)))
  settled_next =
      let step : merged (own ∷ others) (staying (own ∷ others) (entries_in js keys (q ∷ qs)))
      ≡ own ∷ merged others (staying others (remove own.job (entries_in js keys (q ∷ qs)))) =
      merged_next own others []
      (each_map (λ (d : Change). record { job = get_or js d.place no_job; key = d.key }) (pairs_first noted.no_fall))
      none_left (each_map (entry_at js keys) none_above) none_left (once_entries js rising keys of_jobs once) in
      ap jobs_of (step ∙ ap (λ l. own ∷ merged others (staying others l)) removed)
      ∙ jobs_next own (merged others (staying others (entries_in js keys qs)))
      ∙ ap {B = List Job} (λ n. get_or js n no_job ∷ jobs_of (merged others (staying others (entries_in js keys qs)))) (sym one)

-- Where the first s places are those of the first s changes, their jobs stand first, and the other changes are merged with the
-- places behind.
pub settled_jobs : (js : List Job) → Rising (λ j. j.number) js → (keys : List ℕ) (s : ℕ) (ds : List Change) (qs : List ℕ)
    → WellNoted ds keys → Sorted keys qs → Distinct qs → Each (λ p. p < length js) qs
    → Each (λ (d : Change). d.place < length js) ds → s ≤ length ds → s ≤ length qs → take s qs ≡ take s (places_of ds)
    → jobs_of (merged (entries_of js ds) (staying (entries_of js ds) (entries_in js keys qs)))
    ≡ jobs_at js (take s qs)
    ++ jobs_of (merged (entries_of js (drop s ds)) (staying (entries_of js (drop s ds)) (entries_in js keys (drop s qs))))
settled_jobs js rising keys zero ds qs noted sorted once of ofc l m e = refl
settled_jobs js rising keys (suc s) [] qs noted sorted once of ofc l m e = absurd (omega arith)
settled_jobs js rising keys (suc s) (c ∷ ds) [] noted sorted once of ofc l m e = absurd (omega arith)
settled_jobs js rising keys (suc s) (c ∷ ds) (q ∷ qs) noted sorted once of ofc l m e =
    settled_next js rising keys c ds q qs noted sorted once of ofc (ap (λ r. get_or r 0 0) e)
    ∙ ap {B = List Job} (λ r. get_or js q no_job ∷ r)
    (settled_jobs js rising keys s ds qs (noted_rest 1 keys noted) (pairs_dropped 1 sorted) (pairs_dropped 1 once)
    (each_rest of) (each_rest ofc) (omega arith) (omega arith) (ap (drop 1) e))

-- changes that move nobody back are not of a place with a lower key
lower_apart : (keys : List ℕ) (p : ℕ) {ds : List Change} → Each (λ (d : Change). d.key ≤ get_or keys d.place 0) ds
    → Each (λ (d : Change). get_or keys p 0 < d.key) ds → Each (λ (d : Change). eqb d.place p ≡ false) ds
lower_apart keys p forward lower =
    each_both (λ (d : Change) f l. split (eqb d.place p)
    (λ e. absurd (omega (arith, ap (λ n. get_or keys n 0) (eqb-true d.place p e))))
    (λ e. e)) forward lower

-- So none of the places in front, with keys below all changes, is among those of the changes.
pub front_none_among : (keys : List ℕ) (b : ℕ) (ds : List Change) (ps : List ℕ)
    → Each (λ (d : Change). d.key ≤ get_or keys d.place 0) ds
    → Each (λ p. Each (λ (d : Change). get_or keys p 0 < d.key) ds) (take b ps)
    → Each (λ p. among (places_of ds) p ≡ false) (take b ps)
front_none_among keys b ds ps forward lower =
    each_too (λ p l. none_any (eqb p)
    (each_map (λ (c : Change). c.place)
    (each_too (λ (d : Change) a. eqb_swap p d.place ∙ a) (lower_apart keys p forward l)))) lower

-- And they stand first, as they stood, before the changes merged with what is behind.
pub front_apart : (js : List Job) → Rising (λ j. j.number) js → (keys : List ℕ) (b : ℕ) (ds : List Change) (ps : List ℕ)
    → Each (λ (d : Change). d.key ≤ get_or keys d.place 0) ds → Each (λ p. p < length js) ps
    → Each (λ (d : Change). d.place < length js) ds
    → Each (λ p. Each (λ (d : Change). get_or keys p 0 < d.key) ds) (take b ps)
    → merged (entries_of js ds) (staying (entries_of js ds) (entries_in js keys ps))
    ≡ entries_in js keys (take b ps) ++ merged (entries_of js ds) (staying (entries_of js ds) (entries_in js keys (drop b ps)))
front_apart js rising keys b ds ps forward of ofc lower =
    ap (λ l. merged cs (staying cs l))
    (ap (entries_in js keys) (sym (take-append-drop b ps)) ∙ map_append (entry_at js keys) (take b ps) (drop b ps))
    ∙ ap (merged cs) (staying_parts cs front behind ∙ ap (λ l. l ++ staying cs behind) (staying_all cs stays))
    ∙ merged_front cs (staying cs behind)
    (each_map (entry_at js keys)
    (each_too (λ p l. each_map (λ (d : Change). record { job = get_or js d.place no_job; key = d.key }) l) lower))
  where
    cs : List Entry
    cs = entries_of js ds

    front : List Entry
    front = entries_in js keys (take b ps)

    behind : List Entry
    behind = entries_in js keys (drop b ps)

    stays : Each (λ e. in_plan e.job cs ≡ false) front
    stays =
        each_map (entry_at js keys)
        (each_both (λ p h l. out_of_changes js rising p h ofc (lower_apart keys p forward l)) (each_taken b of) lower)

-- what is kept of two parts is what is kept of the one and then of the other
keep_parts : (f : ℕ → Bool) (xs ys : List ℕ) → keep f (xs ++ ys) ≡ keep f xs ++ keep f ys
keep_parts f [] ys = refl
keep_parts f (x ∷ xs) ys =
    split (f x) (λ h. rw h (ap {B = List ℕ} (λ l. x ∷ l) (keep_parts f xs ys))) (λ h. rw h (keep_parts f xs ys))

-- where none passes, nothing is kept
keep_none : (f : ℕ → Bool) {xs : List ℕ} → Each (λ x. f x ≡ false) xs → keep f xs ≡ []
keep_none f none_left = refl
keep_none f (h and hs) = rw h (keep_none f hs)

-- two tests that agree keep the same
keep_alike : (f g : ℕ → Bool) {xs : List ℕ} → Each (λ x. f x ≡ g x) xs → keep f xs ≡ keep g xs
keep_alike f g none_left = refl
keep_alike f g {xs = x ∷ xs} (h and hs) = rw (h, keep_alike f g hs)

-- the first s are among all
taken_among : (s : ℕ) (ns : List ℕ) → Each (λ n. among ns n ≡ true) (take s ns)
taken_among zero ns = none_left
taken_among (suc s) [] = none_left
taken_among (suc s) (n ∷ ns) =
    or_left (eqb n n) (among ns n) (eq-eqb n n refl)
    and each_too (λ m h. or_right (eqb m n) (among ns m) h) (taken_among s ns)

-- who is none of the first s is among all exactly where it is among the others
among_behind : (s : ℕ) (ns : List ℕ) (n : ℕ) → among (take s ns) n ≡ false → among ns n ≡ among (drop s ns) n
among_behind zero ns n h = refl
among_behind (suc s) [] n h = refl
among_behind (suc s) (m ∷ ns) n h =
    let both = neither (eqb n m) (among (take s ns) n) h in rw both.0 (among_behind s ns n both.1)

-- where nothing stands twice, what is behind the first s is none of them
behind_apart : (s : ℕ) {ns : List ℕ} → Distinct ns → Each (λ n. among (take s ns) n ≡ false) (drop s ns)
behind_apart zero {ns} once = each_always ns (λ n. refl)
behind_apart (suc s) no_pair = none_left
behind_apart (suc s) {ns = m ∷ ns} (r then rs) =
    each_both (λ n d h. let other : eqb n m ≡ false = eqb_swap n m ∙ d in rw other h) (each_dropped s r) (behind_apart s rs)

-- Where the first `moved` of the changes' places are those of the plan, of which none stands in front and the first s stand next,
-- those of them that are left are those of the plan behind.
pub still_to_go : (moved s b : ℕ) (far ps : List ℕ) → take moved far ≡ keep (among far) ps
    → Each (λ p. among far p ≡ false) (take b ps) → take s (drop b ps) ≡ take s far → s ≤ moved → moved ≤ length far
    → b + s ≤ length ps → Distinct ps
    → take (moved - s) (drop s far) ≡ keep (among (drop s far)) (drop (b + s) ps)
still_to_go moved s b far ps go none settle few short inside once =
    sym (drop_at first (take (moved - s) (drop s far)) s long)
    ∙ ap (drop s) (sym (take-add s (moved - s) far) ∙ ap (λ n. take n far) whole ∙ go ∙ parted)
    ∙ drop_at first (keep (among far) (drop (b + s) ps)) s long
    ∙ keep_alike (among far) (among (drop s far)) alike
  where
    first : List ℕ
    first = take s far

    long : length first ≡ s
    long = length-take-le s far (omega arith)

    whole : s + (moved - s) ≡ moved
    whole = omega arith

    behind : drop s (drop b ps) ≡ drop (b + s) ps
    behind = drop-drop s b ps

    next : keep (among far) (drop b ps) ≡ first ++ keep (among far) (drop (b + s) ps)
    next =
        ap (keep (among far)) (sym (take-append-drop s (drop b ps)))
        ∙ keep_parts (among far) (take s (drop b ps)) (drop s (drop b ps))
        ∙ rw (settle, behind) (ap (λ l. l ++ keep (among far) (drop (b + s) ps)) (keep_all (among far) (taken_among s far)))

    parted : keep (among far) ps ≡ first ++ keep (among far) (drop (b + s) ps)
    parted =
        ap (keep (among far)) (sym (take-append-drop b ps))
        ∙ keep_parts (among far) (take b ps) (drop b ps)
        ∙ ap (λ l. l ++ keep (among far) (drop b ps)) (keep_none (among far) none)
        ∙ next

    alike : Each (λ p. among far p ≡ among (drop s far) p) (drop (b + s) ps)
    alike =
        rw (sym behind)
        (each_too (λ p h. among_behind s far p (ap (λ l. among l p) (sym settle) ∙ h)) (behind_apart s (pairs_dropped b once)))
