-- The changes of a trial made one after the other, from the far end on: in mid-trial the entries stand as a plan does, the front is
-- below the changes that are left, and these, merged with what is behind the front, make what all changes made of the plan.
-- Assumes nothing.
use mathlib.Core.Bool.{true, false}
use mathlib.Core.List.{List, [], ◌∷◌, ◌++◌}
use mathlib.Core.Path.{◌≡◌, sym, ap, ◌∙◌}
use Prim.Native.Nat.{ℕ, zero, suc, ◌+◌, ◌-◌, ◌≤◌, ◌<◌}
use native.Mathlib.Omega.{arith}
use borrow.Author.Tests.{eqb-true}
use lib.Dec.{eqb}
use lib.ListN.{drop, get_or, length, set, take, take-append-drop}
use lib.Seq.{get_or-take, length-take-le, take-take}
use Rattle.changes.proofs.Merging.{no_change_merged, staying_of_none}
use Rattle.changes.specs.Changes.{merged, staying}
use Rattle.columns.specs.Columns.{AllBelow, entries_in, entry_at}
use Rattle.entries.proofs.Entries.{below_with, below_without}
use Rattle.entries.proofs.Parts.{dropped_front, length_part}
use Rattle.entries.proofs.Searches.{index_inside}
use Rattle.entries.specs.Places.{index_of, moved_first, not_planned, part, place_for, with_at, without_at}
use Rattle.entries.specs.Promises.{Insertable, Inserted, Movable, MovedUp}
use Rattle.judgements.specs.Changes.{Change, WellNoted, entries_of, far_first}
use Rattle.laws.proofs.Choices.{split}
use Rattle.laws.proofs.Elements.{each_too, map_append}
use Rattle.laws.proofs.Lookups.{each_both, each_first}
use Rattle.laws.specs.Pairs.{among}
use Rattle.rules.specs.Lists.{Each, Rising, none_left, ◌and◌}
use Rattle.rules.specs.Plan.{Entry}
use Rattle.rules.specs.TableText.{most_jobs}
use Rattle.rules.specs.declared.Job.{Job}
use Rattle.trials.proofs.Making.{Behind, FrontBelow, front_grown, higher, lower, made_of, merge_goes_on, nothing_out, others_noted}
use Rattle.trials.proofs.Once.{apart_without, length_planned, not_among, pairs_dropped, planned_among, put_in_stands, room_for_one_more}
use Rattle.trials.specs.Promises.{Acceptable, Accepted, EntriesStand}

pub each_by_index : {P : ℕ → Type 0} (xs : List ℕ) → ((i : ℕ) → i < length xs → P (get_or xs i 0)) → Each P xs
each_by_index [] h = none_left
each_by_index (x ∷ xs) h = h 0 (omega arith) and each_by_index xs (λ i l. h (suc i) (omega arith))

-- who is there and not in front is behind
behind_front : (place b : ℕ) (ps : List ℕ) → Each (λ p. eqb place p ≡ false) (take b ps) → among ps place ≡ true
    → among (drop b ps) place ≡ true
behind_front place zero ps none h = h
behind_front place (suc b) [] none h = h
behind_front place (suc b) (p ∷ ps) (d and ds) h = behind_front place b ps ds (rw d at h)

pub each_change_of : (js : List Job) (changed fresh : List ℕ) (n : ℕ) → ((i : ℕ) → i < n → get_or changed i 0 < length js)
    → Each (λ (c : Change). c.place < length js) (far_first n changed fresh)
each_change_of js changed fresh zero of = none_left
each_change_of js changed fresh (suc n) of =
    of n (omega arith) and each_change_of js changed fresh n (λ i h. of i (omega arith))

module _ (count : ℕ) (places keys changed fresh : List ℕ) (changes from : ℕ) where
  -- the jobs of the plan and of the changes
  abbrev OfChanges : List Job → Type 0
  OfChanges js = (i : ℕ) → i < changes → get_or changed i 0 < length js

  -- what all changes make of the plan
  abbrev whole : List Job → List Entry
  whole js =
      entries_in js keys (take from places)
      ++ merged (entries_of js (far_first changes changed fresh))
      (staying (entries_of js (far_first changes changed fresh)) (entries_in js keys (part from count places)))

  -- in mid-trial, with i changes left
  pub record Accepting (places' keys' : List ℕ) (behind entries i : ℕ) : Type 0 where
    pub left_few : i ≤ changes
    pub no_fewer : count ≤ entries
    pub behind_inside : behind ≤ entries
    pub stand : EntriesStand entries places' keys'
    pub noted : WellNoted (far_first i changed fresh) keys'
    pub front : FrontBelow behind (take entries places') keys' (far_first i changed fresh)
    pub merge : (js : List Job) → Rising (λ j. j.number) js → AllBelow (length js) (take count places) → OfChanges js
        → whole js
        ≡ entries_in js keys' (take behind (take entries places'))
        ++ merged (entries_of js (far_first i changed fresh))
        (staying (entries_of js (far_first i changed fresh)) (entries_in js keys' (drop behind (take entries places'))))
    pub of_jobs : (js : List Job) → AllBelow (length js) (take count places) → OfChanges js
        → AllBelow (length js) (take entries places')

  pub accepting_begins : Acceptable count places keys changed fresh changes from → Accepting places keys from count changes
  accepting_begins ok = record {
    left_few = omega arith;
    no_fewer = omega arith;
    behind_inside = ok.from_inside;
    stand = ok.stand;
    noted = ok.well_noted;
    front = each_by_index (take from (take count places)) lowers;
    merge = λ js rising of ofc.
        ap (λ l. entries_in js keys l ++ merged (entries_of js (far_first changes changed fresh))
        (staying (entries_of js (far_first changes changed fresh)) (entries_in js keys (part from count places))))
        (sym (take-take from count places ok.from_inside))
        ∙ ap (λ l. entries_in js keys (take from (take count places)) ++ merged (entries_of js (far_first changes changed fresh))
        (staying (entries_of js (far_first changes changed fresh)) (entries_in js keys l)))
        (sym (dropped_front from count places));
    of_jobs = λ js of ofc. of;
  }
    where
      behind_one : (p : ℕ) {ds : List Change} → Each (λ (c : Change). get_or keys p 0 < c.key) ds
          → Each (λ (c : Change). c.key ≤ get_or keys c.place 0) ds → Each (Behind p keys) ds
      behind_one p l f =
          each_both (λ (c : Change) m n.
          let apart : eqb c.place p ≡ false =
          split (eqb c.place p) (λ e. absurd (omega (arith, ap (λ q. get_or keys q 0) (eqb-true c.place p e)))) (λ e. e) in
          let here : Behind p keys c = (omega arith, apart) in here) l f

      lowers : (i : ℕ) → i < length (take from (take count places))
          → Each (Behind (get_or (take from (take count places)) i 0) keys) (far_first changes changed fresh)
      lowers i h =
          let short : i < from =
          omega (arith, length-take-le from (take count places) (omega (arith, length_planned count places keys ok.stand, ok.from_inside))) in
          let same : get_or (take from (take count places)) i 0 ≡ get_or places i 0 =
          get_or-take from (take count places) i 0 short ∙ get_or-take count places i 0 (omega (arith, ok.from_inside)) in
          rw same (behind_one (get_or places i 0) (ok.lower i short) ok.well_noted.forward)

  -- one change more is made
  pub one_more_made : (places₁ keys₁ : List ℕ) (behind entries i : ℕ) → Accepting places₁ keys₁ behind entries (suc i)
      → (places₂ keys₂ : List ℕ) (r entries₂ : ℕ)
      → let ps = take entries places₁ in
      let place = get_or changed i 0 in
      r ≡ behind + place_for (get_or fresh i 0) keys₁ (drop behind ps)
      → take entries₂ places₂ ≡ with_at r place (without_at (index_of place ps) ps)
      → keys₂ ≡ set keys₁ place (get_or fresh i 0) → length places₂ ≡ most_jobs → entries ≤ entries₂ → entries₂ ≤ most_jobs
      → r + 1 ≤ entries₂ → Accepting places₂ keys₂ (r + 1) entries₂ i
  one_more_made places₁ keys₁ behind entries i on places₂ keys₂ r entries₂ at front key_stored long more few room =
      let ps = take entries places₁ in
      let c : Change = record { place = get_or changed i 0; key = get_or fresh i 0 } in
      let ds = far_first i changed fresh in
      let stand = on.stand in
      let inside : behind ≤ length ps = omega (arith, length_planned entries places₁ keys₁ stand, on.behind_inside) in
      let below : c.place < most_jobs = each_first {P = λ (d : Change). d.place < most_jobs} on.noted.below in
      let time : c.key ≤ _ = each_first {P = λ (d : Change). d.key ≤ _} on.noted.times in
      record {
        left_few = omega (arith, on.left_few);
        no_fewer = omega (arith, on.no_fewer);
        behind_inside = room;
        stand = put_in_stands c.place (without_at (index_of c.place ps) ps) keys₁
            (apart_without entries places₁ keys₁ stand c.place below) r c.key entries₂ places₂ keys₂ front key_stored long few
            (omega arith)
            (rw at (lower c ds behind ps keys₁ on.noted on.front stand.sorted stand.keys_length inside))
            (rw at (higher c ds behind ps keys₁ on.noted on.front stand.sorted stand.keys_length inside));
        noted = rw key_stored (others_noted c ds behind ps keys₁ on.noted on.front stand.sorted stand.keys_length inside);
        front = rw (front, key_stored, at)
            (front_grown c ds behind ps keys₁ on.noted on.front stand.sorted stand.keys_length inside);
        merge = λ js rising of ofc.
            on.merge js rising of ofc
            ∙ rw (front, key_stored, at)
            (merge_goes_on c ds behind ps keys₁ on.noted on.front stand.sorted stand.keys_length inside js rising
            (on.of_jobs js of ofc) (each_change_of js changed fresh (suc i) (λ n h. ofc n (omega (arith, on.left_few)))) stand.once);
        of_jobs = λ js of ofc.
            rw front (below_with (length js) r c.place (without_at (index_of c.place ps) ps)
            (below_without (length js) (index_of c.place ps) ps (on.of_jobs js of ofc)) (ofc i (omega (arith, on.left_few))));
      }

module _ {count : ℕ} {places keys changed fresh : List ℕ} {changes from : ℕ} where
  module _ {places₁ keys₁ : List ℕ} {behind entries i : ℕ}
      (on : Accepting count places keys changed fresh changes from places₁ keys₁ behind entries (suc i)) where
    abbrev ps : List ℕ
    ps = take entries places₁

    abbrev change : Change
    change = record { place = get_or changed i 0; key = get_or fresh i 0 }

    pub place_below : change.place < most_jobs
    place_below = each_first {P = λ (d : Change). d.place < most_jobs} on.noted.below

    part_behind : drop behind ps ≡ part behind entries places₁
    part_behind = dropped_front behind entries places₁

    pub insertable : Insertable behind entries change.place places₁ keys₁
    insertable = record {
      from_inside = on.behind_inside;
      inside = omega (arith, on.stand.few, on.stand.places_length);
      below = on.stand.below;
      sorted = rw (sym part_behind) (pairs_dropped behind on.stand.sorted);
      place_below = place_below;
    }

    -- one that is planned stands behind the front
    pub movable : get_or keys₁ change.place 0 < not_planned → Movable behind entries change.place change.key places₁ keys₁
    movable l = record {
      stands = rw (sym part_behind)
          (behind_front change.place behind ps (each_too (λ p f. let own : Behind p keys₁ change = each_first f in own.1) on.front)
          (planned_among entries places₁ keys₁ on.stand change.place place_below l));
      forward = each_first {P = λ (d : Change). d.key ≤ get_or keys₁ d.place 0} on.noted.forward;
    }

    -- there is room for one that is not
    pub room : not_planned ≤ get_or keys₁ change.place 0 → entries < length places₁
    room l =
        let none = not_among entries places₁ keys₁ on.stand change.place place_below l in
        let apart = apart_without entries places₁ keys₁ on.stand change.place place_below in
        let less = room_for_one_more change.place (without_at (index_of change.place ps) ps) keys₁ apart in
        omega (arith, ap length (nothing_out change.place ps none), length_planned entries places₁ keys₁ on.stand, on.stand.places_length)

    module _ {places₂ keys₂ : List ℕ} {r : ℕ} where
      pub moved_there : MovedUp behind entries change.place change.key places₁ keys₁ places₂ keys₂ r
          → Accepting count places keys changed fresh changes from places₂ keys₂ (r + 1) entries i
      moved_there moved =
          let part_r : drop r ps ≡ part r entries places₁ = dropped_front r entries places₁ in
          let short : r ≤ entries = moved.index.not_behind in
          let front_r : take r ps ≡ take r places₁ = take-take r entries places₁ short in
          let at : r ≡ behind + place_for change.key keys₁ (drop behind ps) = moved.index.first ∙ rw (sym part_behind) in
          let long : length (part r entries places₁) ≡ entries - r =
          length_part r entries places₁ short insertable.inside in
          let some = index_inside change.place (part r entries places₁) moved.stands in
          one_more_made count places keys changed fresh changes from places₁ keys₁ behind entries i on places₂ keys₂ r entries at
          (moved.front ∙ made-up r part_r front_r at)
          moved.key_stored (moved.whole ∙ on.stand.places_length) (omega arith) on.stand.few (omega arith)
        where
          made-up : (r : ℕ) → drop r ps ≡ part r entries places₁ → take r ps ≡ take r places₁
              → r ≡ behind + place_for change.key keys₁ (drop behind ps)
              → take r places₁ ++ moved_first change.place (part r entries places₁)
              ≡ with_at r change.place (without_at (index_of change.place ps) ps)
          made-up r part_r front_r at =
              let inside : behind ≤ length ps = omega (arith, length_planned entries places₁ keys₁ on.stand, on.behind_inside) in
              rw (sym part_r, sym front_r, at)
              (sym (made_of change (far_first i changed fresh) behind ps keys₁ on.noted on.front on.stand.sorted
              on.stand.keys_length inside))

      pub inserted_there : not_planned ≤ get_or keys₁ change.place 0
          → Inserted behind entries change.place change.key places₁ keys₁ places₂ keys₂ r
          → Accepting count places keys changed fresh changes from places₂ keys₂ (r + 1) (entries + 1) i
      inserted_there l inserted =
          let none = not_among entries places₁ keys₁ on.stand change.place place_below l in
          one_more_made count places keys changed fresh changes from places₁ keys₁ behind entries i on places₂ keys₂ r (entries + 1)
          (inserted.index.first ∙ rw (sym part_behind))
          (inserted.fronted.front ∙ ap (with_at r change.place) (sym (nothing_out change.place ps none)))
          inserted.key_stored (inserted.fronted.whole ∙ on.stand.places_length) (omega arith)
          (omega (arith, room l, on.stand.places_length)) (omega (arith, inserted.index.not_behind))

  -- all changes are made
  pub all-made : {places' keys' : List ℕ} {behind entries i : ℕ} → i ≡ 0
      → Accepting count places keys changed fresh changes from places' keys' behind entries i
      → Accepted count places keys changed fresh changes from places' keys' entries
  all-made {places'} {keys'} {behind} {entries} none on = record {
    stand = on.stand;
    no_fewer = on.no_fewer;
    merge = λ js rising of ofc. sym (on.merge js rising of ofc ∙ rw none (finished js));
    of_jobs = on.of_jobs;
  }
    where
      finished : (js : List Job) → entries_in js keys' (take behind (take entries places'))
          ++ merged [] (staying [] (entries_in js keys' (drop behind (take entries places'))))
          ≡ entries_in js keys' (take entries places')
      finished js =
          rw (
            no_change_merged (staying [] (entries_in js keys' (drop behind (take entries places')))),
            staying_of_none (entries_in js keys' (drop behind (take entries places'))),
          )
          (sym (map_append (entry_at js keys') (take behind (take entries places')) (drop behind (take entries places')))
          ∙ ap (entries_in js keys') (take-append-drop behind (take entries places')))
