-- A walk along the column of places that notes changes. The members that are left, with the limit as it is, make the rest of the
-- rules' changes: a member's step takes one from the chain and notes what it changes, and a chain without members changes nothing.
-- No place is noted twice, since the walk meets none twice, and no key falls, since the limit never rises. Assumes nothing.
use mathlib.Core.Bool.{cond, false}
use mathlib.Core.List.{List, [], ◌∷◌, reverse, reverse_aux}
use mathlib.Core.Option.{Option, none, some}
use mathlib.Core.Path.{◌≡◌, refl, sym, ap, ◌∙◌}
use Prim.Native.Nat.{ℕ, zero, suc, min, ◌+◌, ◌*◌, ◌≤◌, ◌<◌}
use native.Mathlib.Omega.{arith}
use borrow.Author.Tests.{le-ltb, lt-ltb}
use lib.Dec.{eqb}
use lib.ListN.{get_or, length, length-set, set}
use Rattle.chains.proofs.Walks.{is_place, job-at, next_met, nobody_at}
use Rattle.chains.specs.Promises.{most_members}
use Rattle.chains.specs.Waits.{PlaceOrNobody, Waits, at_place, places_from}
use Rattle.changes.proofs.Walk.{comes_in, moves, nobody_left, stays}
use Rattle.changes.specs.Changes.{changes_along}
use Rattle.columns.specs.Columns.{AtMost, Column}
use Rattle.entries.specs.Places.{not_planned}
use Rattle.judgements.specs.Changes.{Change, WellNoted, entries_of, far_first, most_changes, places_of}
use Rattle.judgements.specs.declared.Noted.{Noted}
use Rattle.laws.proofs.Choices.{eqb_swap, neither}
use Rattle.laws.proofs.Elements.{each_too}
use Rattle.laws.proofs.Lookups.{none_any}
use Rattle.laws.specs.Pairs.{Distinct, among, no_pair, ◌then◌}
use Rattle.rules.specs.Lists.{Each, keep, none_left, only_if, total, ◌and◌}
use Rattle.rules.specs.Plan.{awaited, follow}
use Rattle.rules.specs.TableText.{most_cycles, most_holds, most_jobs, most_time, no_job}
use Rattle.rules.specs.declared.Job.{Job}
use Rattle.steps.proofs.Entries.{entry}
use Rattle.trials.proofs.FarFirst.{change, each_noted, noted_next}
use Rattle.trials.specs.Promises.{KeysTell, Walkable, WalkNoted, is_planned}

-- the members that are left, one at a time
module _ (next : Job → Option Job) where
  no_step_left : (n : ℕ) (o : Option Job) → n ≡ 0 → follow next n o ≡ []
  unfolding follow
  no_step_left n o e = rw e

  nobody_follows : (n : ℕ) → follow next n none ≡ []
  unfolding follow
  nobody_follows zero = refl
  nobody_follows (suc n) = refl

  module _ (js : List Job) (waits : List ℕ) (column : Waits js next waits) where
    next_follows : (n m at : ℕ) → n ≡ suc m → at < length js
        → follow next n (at_place js at) ≡ get_or js at no_job ∷ follow next m (at_place js (get_or waits at 0))
    unfolding follow
    next_follows n m at e h =
        rw (e, job-at js at h)
        (ap {B = List Job} (λ o. get_or js at no_job ∷ follow next m o) (sym (column.whom at h)))

-- the chain is at its end
abbrev Over : List ℕ → ℕ → ℕ → Type 0
Over waits left at =
    (js : List Job) (next : Job → Option Job) → Waits js next waits → follow next left (at_place js at) ≡ []

pub over_at_nobody : (waits : List ℕ) (left at : ℕ) → most_jobs ≤ at → Over waits left at
over_at_nobody waits left at h js next column =
    ap (follow next left) (nobody_at js at (omega (arith, column.few))) ∙ nobody_follows next left

pub over_after_all : (waits : List ℕ) (left at : ℕ) → left ≡ 0 → Over waits left at
over_after_all waits left at e js next column = no_step_left next left (at_place js at) e

at_limit : (n : ℕ) → n ≤ n
at_limit n = omega arith

first_and_rest : (n : ℕ) (ns : List ℕ) → Distinct (n ∷ ns) → (among ns n ≡ false) × Distinct ns
first_and_rest n ns (r then rs) = (none_any (eqb n) r, rs)

module _ (place : ℕ) (keys waits critical cycles : List ℕ) where
  -- the rules' changes, of the job at the place and of the members of its chain, are noted up to a member
  abbrev RestOf : List Change → ℕ → ℕ → ℕ → Type 0
  RestOf ds limit at left =
      (js : List Job) (next : Job → Option Job) (key : Job → Option ℕ) → Waits js next waits
      → Column (λ j. j.critical) js critical → KeysTell js keys key → place < length js
      → let job = get_or js place no_job in
      reverse (entry job job.critical ∷ changes_along key job.critical (awaited next job))
      ≡ reverse_aux (changes_along key limit (follow next left (at_place js at))) (entries_of js ds)

  -- in mid-walk, with so many steps left: what is noted, and the member that comes next
  pub record Walking (ds : List Change) (limit moved added at left : ℕ) : Type 0 where
    pub limit_small : limit ≤ most_time
    pub well_noted : WellNoted ds keys
    pub limit_low : Each (λ c. limit ≤ c.key) ds
    pub moved_of : moved ≡ length (keep (is_planned keys) (places_of ds))
    pub added_of : added ≡ total (λ p. cond (is_planned keys p) 0 (get_or cycles p 0)) (places_of ds)
    pub once_ahead : Distinct (places_from waits left at)
    pub not_ahead : Each (λ c. among (places_from waits left at) c.place ≡ false) ds
    pub rest : RestOf ds limit at left
    pub at-place : (js : List Job) (next : Job → Option Job) → Waits js next waits → place < length js → PlaceOrNobody js at
    pub of_jobs : (js : List Job) (next : Job → Option Job) → Waits js next waits → place < length js
        → Each (λ c. c.place < length js) ds

  module _ (critical_small : AtMost most_time critical) where
    own_first : place < most_jobs → not_planned ≤ get_or keys place 0
        → WellNoted (change place (get_or critical place 0) ∷ []) keys
    own_first h n = record {
      below = h and none_left;
      apart = none_left then no_pair;
      no_fall = none_left then no_pair;
      times = critical_small place and none_left;
      forward = forward and none_left;
    }
      where
        forward : get_or critical place 0 ≤ get_or keys place 0
        forward = omega (arith, critical_small place)

    ahead_of_own : place < most_jobs → Distinct (places_from waits most_members place)
        → Distinct (place ∷ places_from waits most_holds (get_or waits place 0))
    ahead_of_own h d = rw (next_met waits most_members most_holds place refl h) at d

    module _ (js : List Job) (next : Job → Option Job) (key : Job → Option ℕ) (column : Waits js next waits)
        (critical_of : Column (λ j. j.critical) js critical) (h : place < length js) where
      rest_at_first : let job = get_or js place no_job in
          reverse (entry job job.critical ∷ changes_along key job.critical (awaited next job))
          ≡ reverse_aux (changes_along key (get_or critical place 0) (follow next most_holds (at_place js (get_or waits place 0))))
          (entries_of js (change place (get_or critical place 0) ∷ []))
      unfolding awaited
      rest_at_first = rw (column.whom place h, critical_of place)

    -- The job itself is noted at its critical time, and the walk goes on at the one it waits for.
    pub walk_begins : place < most_jobs → not_planned ≤ get_or keys place 0 → Distinct (places_from waits most_members place)
        → Walking (change place (get_or critical place 0) ∷ []) (get_or critical place 0) 0 (get_or cycles place 0)
        (get_or waits place 0) most_holds
    walk_begins h n d =
        let parts = first_and_rest place (places_from waits most_holds (get_or waits place 0)) (ahead_of_own h d) in
        record {
          limit_small = critical_small place;
          well_noted = own_first h n;
          limit_low = at_limit (get_or critical place 0) and none_left;
          moved_of = rw (le-ltb (get_or keys place 0) not_planned n);
          added_of = rw (le-ltb (get_or keys place 0) not_planned n) (omega arith);
          once_ahead = parts.1;
          not_ahead = parts.0 and none_left;
          rest = λ js next key column critical_of tell l. rest_at_first js next key column critical_of l;
          at-place = λ js next column l. column.place_or_nobody place l;
          of_jobs = λ js next column l. l and none_left;
        }

  module _ (ds : List Change) (limit moved added at left : ℕ) (w : Walking ds limit moved added at left) (left' : ℕ)
      (h : at < most_jobs) (e : left ≡ suc left') where
    abbrev ahead : List ℕ
    ahead = places_from waits left' (get_or waits at 0)

    once_met : (among ahead at ≡ false) × Distinct ahead
    once_met = first_and_rest at ahead (rw (next_met waits left left' at e h) at w.once_ahead)

    not_met : Each (λ c. among (at ∷ ahead) c.place ≡ false) ds
    not_met = rw (next_met waits left left' at e h) at w.not_ahead

    not_here : Each (λ c. eqb at c.place ≡ false) ds
    not_here = each_too (λ c n. eqb_swap at c.place ∙ (neither (eqb c.place at) (among ahead c.place) n).0) not_met

    not_behind : Each (λ c. among ahead c.place ≡ false) ds
    not_behind = each_too (λ c n. (neither (eqb c.place at) (among ahead c.place) n).1) not_met

    here : (js : List Job) (next : Job → Option Job) → Waits js next waits → place < length js → at < length js
    here js next column l = is_place js at (w.at-place js next column l) h

    behind : (js : List Job) (next : Job → Option Job) → Waits js next waits → place < length js
        → PlaceOrNobody js (get_or waits at 0)
    behind js next column l = column.place_or_nobody at (here js next column l)

    low_too : (key : ℕ) → key ≤ limit → Each (λ c. key ≤ c.key) ds
    low_too key l = each_too (λ c g. omega arith) w.limit_low

    noted : (key : ℕ) → key ≤ limit → key ≤ get_or keys at 0 → WellNoted (change at key ∷ ds) keys
    noted key l m = record {
      below = h and w.well_noted.below;
      apart = not_here then w.well_noted.apart;
      no_fall = low_too key l then w.well_noted.no_fall;
      times = time and w.well_noted.times;
      forward = m and w.well_noted.forward;
    }
      where
        time : key ≤ most_time
        time = omega (arith, w.limit_small)

    of_jobs_too : (key : ℕ) (js : List Job) (next : Job → Option Job) → Waits js next waits → place < length js
        → Each (λ c. c.place < length js) (change at key ∷ ds)
    of_jobs_too key js next column l = here js next column l and w.of_jobs js next column l

    module _ (js : List Job) (next : Job → Option Job) (key : Job → Option ℕ) (column : Waits js next waits)
        (critical_of : Column (λ j. j.critical) js critical) (tell : KeysTell js keys key) (l : place < length js) where
      abbrev job : Job
      job = get_or js place no_job

      abbrev member : Job
      member = get_or js at no_job

      abbrev others : List Job
      others = follow next left' (at_place js (get_or waits at 0))

      rest_here : reverse (entry job job.critical ∷ changes_along key job.critical (awaited next job))
          ≡ reverse_aux (changes_along key limit (member ∷ others)) (entries_of js ds)
      rest_here =
          w.rest js next key column critical_of tell l
          ∙ ap (λ ks. reverse_aux (changes_along key limit ks) (entries_of js ds))
          (next_follows next js waits column left left' at e (here js next column l))

      key_there : get_or keys at 0 < not_planned → key member ≡ some (get_or keys at 0)
      key_there g =
          tell at (here js next column l) ∙ ap (λ b. only_if b (get_or keys at 0)) (lt-ltb (get_or keys at 0) not_planned g)

      no_key_there : not_planned ≤ get_or keys at 0 → key member ≡ none
      no_key_there g =
          tell at (here js next column l) ∙ ap (λ b. only_if b (get_or keys at 0)) (le-ltb (get_or keys at 0) not_planned g)

      rest_staying : get_or keys at 0 < limit
          → reverse (entry job job.critical ∷ changes_along key job.critical (awaited next job))
          ≡ reverse_aux (changes_along key (get_or keys at 0) others) (entries_of js ds)
      rest_staying g =
          rest_here
          ∙ ap (λ es. reverse_aux es (entries_of js ds))
          (stays key limit member others (get_or keys at 0) (key_there (omega (arith, w.limit_small))) g)

      rest_moving : get_or keys at 0 < not_planned → limit ≤ get_or keys at 0
          → reverse (entry job job.critical ∷ changes_along key job.critical (awaited next job))
          ≡ reverse_aux (changes_along key limit others) (entries_of js (change at limit ∷ ds))
      rest_moving g m =
          rest_here
          ∙ ap (λ es. reverse_aux es (entries_of js ds)) (moves key limit member others (get_or keys at 0) (key_there g) m)

      rest_coming_in : not_planned ≤ get_or keys at 0
          → let lowered = min limit (get_or critical at 0) in
          reverse (entry job job.critical ∷ changes_along key job.critical (awaited next job))
          ≡ reverse_aux (changes_along key lowered others) (entries_of js (change at lowered ∷ ds))
      rest_coming_in g =
          rest_here
          ∙ ap (λ es. reverse_aux es (entries_of js ds)) (comes_in key limit member others (no_key_there g))
          ∙ ap (λ m. reverse_aux (changes_along key (min limit m) others) (entries_of js (change at (min limit m) ∷ ds)))
          (sym (critical_of at))

    -- A member with a key below the limit stays, and its key is then the limit.
    pub member_stays : get_or keys at 0 < limit → Walking ds (get_or keys at 0) moved added (get_or waits at 0) left'
    member_stays g = record {
      limit_small = omega (arith, w.limit_small);
      well_noted = w.well_noted;
      limit_low = low_too (get_or keys at 0) (omega arith);
      moved_of = w.moved_of;
      added_of = w.added_of;
      once_ahead = once_met.1;
      not_ahead = not_behind;
      rest = λ js next key column critical_of tell l. rest_staying js next key column critical_of tell l g;
      at-place = behind;
      of_jobs = w.of_jobs;
    }

    -- A member with a key at or above the limit is noted, to move there.
    pub member_moves : get_or keys at 0 < not_planned → limit ≤ get_or keys at 0
        → Walking (change at limit ∷ ds) limit (moved + 1) added (get_or waits at 0) left'
    member_moves g m = record {
      limit_small = w.limit_small;
      well_noted = noted limit (omega arith) m;
      limit_low = at_limit limit and w.limit_low;
      moved_of = rw (lt-ltb (get_or keys at 0) not_planned g) (omega (arith, w.moved_of));
      added_of = rw (lt-ltb (get_or keys at 0) not_planned g) (omega (arith, w.added_of));
      once_ahead = once_met.1;
      not_ahead = once_met.0 and not_behind;
      rest = λ js next key column critical_of tell l. rest_moving js next key column critical_of tell l g m;
      at-place = behind;
      of_jobs = of_jobs_too limit;
    }

    -- A member that is not in the plan lowers the limit to its critical time, if that is less, and is noted, to come in there.
    pub member_comes_in : not_planned ≤ get_or keys at 0
        → let lowered = min limit (get_or critical at 0) in
        Walking (change at lowered ∷ ds) lowered moved (added + get_or cycles at 0) (get_or waits at 0) left'
    member_comes_in g =
        let lowered = min limit (get_or critical at 0) in
        record {
          limit_small = omega (arith, w.limit_small);
          well_noted = noted lowered (omega arith) (omega (arith, w.limit_small));
          limit_low = at_limit lowered and low_too lowered (omega arith);
          moved_of = rw (le-ltb (get_or keys at 0) not_planned g) w.moved_of;
          added_of = rw (le-ltb (get_or keys at 0) not_planned g) (omega (arith, w.added_of));
          once_ahead = once_met.1;
          not_ahead = once_met.0 and not_behind;
          rest = λ js next key column critical_of tell l. rest_coming_in js next key column critical_of tell l g;
          at-place = behind;
          of_jobs = of_jobs_too lowered;
        }

  -- At the chain's end all changes of the rules are noted.
  pub walk_ends : (changed fresh : List ℕ) (changes limit moved added at left : ℕ)
      → Walking (far_first changes changed fresh) limit moved added at left
      → length changed ≡ most_changes → length fresh ≡ most_changes → 1 ≤ changes → changes ≤ most_changes → Over waits left at
      → WalkNoted place keys waits critical cycles changed fresh
      (record { noted = record { changes = changes; moved = moved }; added = added })
  walk_ends changed fresh changes limit moved added at left w l m any few over = record {
    changed_length = l;
    fresh_length = m;
    some = any;
    few = few;
    well_noted = w.well_noted;
    moved_of = w.moved_of;
    added_of = w.added_of;
    changes-of = λ js next key column critical_of tell h.
        sym
        (w.rest js next key column critical_of tell h
        ∙ ap (λ es. reverse_aux es (entries_of js (far_first changes changed fresh)))
        (ap (changes_along key limit) (over js next column) ∙ nobody_left key limit));
    of_jobs = λ js next column h. each_noted changed fresh changes (w.of_jobs js next column h);
  }

-- In mid-walk, with the columns in which the changes are noted: so many steps are left, and a place for what each may note.
pub record InWalk (place : ℕ) (keys waits critical cycles changed fresh : List ℕ) (noted : Noted) (limit added at left : ℕ)
    : Type 0 where
  pub some : 1 ≤ noted.changes
  pub few : noted.changes + left ≤ most_changes
  pub moved_few : noted.moved ≤ noted.changes
  pub added_small : added ≤ most_cycles * noted.changes
  pub changed_length : length changed ≡ most_changes
  pub fresh_length : length fresh ≡ most_changes
  pub walking : Walking place keys waits critical cycles (far_first noted.changes changed fresh) limit noted.moved added at left

module _ {place : ℕ} {keys waits critical cycles changed fresh : List ℕ} where
  -- The job itself is noted.
  pub begins : (pre : Walkable place keys waits critical cycles changed fresh)
      → InWalk place keys waits critical cycles (set changed 0 place) (set fresh 0 (get_or critical place 0))
      (record { changes = 1; moved = 0 }) (get_or critical place 0) (get_or cycles place 0) (get_or waits place 0) most_holds
  begins pre = record {
    some = omega arith;
    few = omega arith;
    moved_few = omega arith;
    added_small = omega (arith, pre.cycles_small place);
    changed_length = length-set changed 0 place ∙ pre.changed_length;
    fresh_length = length-set fresh 0 (get_or critical place 0) ∙ pre.fresh_length;
    walking = rw
        (noted_next changed fresh 0 place (get_or critical place 0) (omega (arith, pre.changed_length))
        (omega (arith, pre.fresh_length)))
        (walk_begins place keys waits critical cycles pre.critical_small pre.place_below pre.not-planned pre.apart);
  }

  module _ {noted : Noted} {limit added at left : ℕ}
      (on : InWalk place keys waits critical cycles changed fresh noted limit added at left) where
    -- It is over.
    pub ends : Over waits left at → WalkNoted place keys waits critical cycles changed fresh (record { noted = noted; added = added })
    ends over =
        walk_ends place keys waits critical cycles changed fresh noted.changes limit noted.moved added at left on.walking
        on.changed_length on.fresh_length on.some (omega (arith, on.few)) over

    module _ (here : at < most_jobs) (left' : ℕ) (e : left ≡ suc left') where
      -- A member stays.
      pub stays_there : get_or keys at 0 < limit
          → InWalk place keys waits critical cycles changed fresh noted (get_or keys at 0) added (get_or waits at 0) left'
      stays_there g = record {
        some = on.some;
        few = omega (arith, on.few);
        moved_few = on.moved_few;
        added_small = on.added_small;
        changed_length = on.changed_length;
        fresh_length = on.fresh_length;
        walking =
            member_stays place keys waits critical cycles (far_first noted.changes changed fresh) limit noted.moved added at left
            on.walking left' here e g;
      }

      -- A member moves.
      pub moves_to_limit : get_or keys at 0 < not_planned → limit ≤ get_or keys at 0
          → InWalk place keys waits critical cycles (set changed noted.changes at) (set fresh noted.changes limit)
          (record { changes = noted.changes + 1; moved = noted.moved + 1 }) limit added (get_or waits at 0) left'
      moves_to_limit g m = record {
        some = omega arith;
        few = omega (arith, on.few);
        moved_few = omega (arith, on.moved_few);
        added_small = omega (arith, on.added_small);
        changed_length = length-set changed noted.changes at ∙ on.changed_length;
        fresh_length = length-set fresh noted.changes limit ∙ on.fresh_length;
        walking = rw
            (noted_next changed fresh noted.changes at limit (omega (arith, on.few, on.changed_length))
            (omega (arith, on.few, on.fresh_length)))
            (member_moves place keys waits critical cycles (far_first noted.changes changed fresh) limit noted.moved added at left
            on.walking left' here e g m);
      }

      -- A member comes in.
      pub comes_in_there : AtMost most_cycles cycles → not_planned ≤ get_or keys at 0
          → let lowered = min limit (get_or critical at 0) in
          InWalk place keys waits critical cycles (set changed noted.changes at) (set fresh noted.changes lowered)
          (record { changes = noted.changes + 1; moved = noted.moved }) lowered (added + get_or cycles at 0) (get_or waits at 0) left'
      comes_in_there small g =
          let lowered = min limit (get_or critical at 0) in
          record {
            some = omega arith;
            few = omega (arith, on.few);
            moved_few = omega (arith, on.moved_few);
            added_small = omega (arith, on.added_small, small at);
            changed_length = length-set changed noted.changes at ∙ on.changed_length;
            fresh_length = length-set fresh noted.changes lowered ∙ on.fresh_length;
            walking = rw
                (noted_next changed fresh noted.changes at lowered (omega (arith, on.few, on.changed_length))
                (omega (arith, on.few, on.fresh_length)))
                (member_comes_in place keys waits critical cycles (far_first noted.changes changed fresh) limit noted.moved added
                at left on.walking left' here e g);
          }
