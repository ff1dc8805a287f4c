-- A trial keeps a plan in order: keys never fall along it and are no later than critical, no job stands twice, whom a
-- planned job waits for is planned, and not behind it. In mid-trial one job is exempt from the last two, the member put in
-- last, whose key is not below the limit; the chain's last member waits for nobody and closes the plan. Assumes nothing.
use mathlib.Core.Bool.{Bool, true, false, false≢true}
use mathlib.Core.List.{List, [], ◌∷◌}
use mathlib.Core.Option.{Option, none, some}
use mathlib.Core.Path.{◌≡◌, refl, sym, ap, ◌∙◌}
use Prim.Native.Nat.{ℕ, zero, suc, min, ◌≤◌, ◌<◌}
use native.Mathlib.Omega.{arith}
use borrow.Author.Tests.{ltb-false, ltb-true}
use Rattle.laws.proofs.Choices.{clash, nothing_there, one_there, or_right, split, split_option}
use Rattle.laws.proofs.Elements.{each_too}
use Rattle.steps.proofs.Entries.{each_insert, each_remove, has_entry, is-of, no_entry, not-planned, pairs_insert, pairs_remove, planned_as, planned_insert, planned_moved}
use Rattle.steps.proofs.Jobs.{Listed, one-job, same_as, same_self, same_swap, same_to}
use Rattle.laws.proofs.Lookups.{each_both, found_each, found_passes}
use Rattle.laws.specs.Pairs.{Pairwise, no_pair, ◌then◌}
use Rattle.laws.proofs.Pairs.{pairs_too}
use Rattle.steps.proofs.Walks.{stands_after}
use Rattle.rules.specs.Lists.{Each, find, none_left, ◌and◌}
use Rattle.rules.specs.Plan.{Entry, Limited, Turn, begin, follow, in_plan, insert, is_of, member, member_found, member_new, member_planned, members, remove, same, stays_below, trial}
use Rattle.rules.specs.declared.Job.{Job}

-- no job is exempt
abbrev pub nobody : Job → Bool
nobody j = false

module _ (next : Job → Option Job) where
  -- k is not whom the entry's job waits for
  abbrev pub WaitsNotFor : Entry → Job → Type 0
  WaitsNotFor e k = (i : Job) → next e.job ≡ some i → same i k ≡ false

  -- e may stand before f, but for who is exempt
  pub record Stand (exempt : Job → Bool) (e f : Entry) : Type 0 where
    pub keys : e.key ≤ f.key
    pub apart : same e.job f.job ≡ false
    pub waits_not : exempt e.job ≡ false → WaitsNotFor e f.job

  -- whom the entry's job waits for is in the plan, but for who is exempt
  abbrev pub Closed : (Job → Bool) → List Entry → Entry → Type 0
  Closed exempt p e = exempt e.job ≡ false → (i : Job) → next e.job ≡ some i → in_plan i p ≡ true

  module _ (js : List Job) where
    pub record Lined (exempt : Job → Bool) (p : List Entry) : Type 0 where
      pub pairs : Pairwise (Stand exempt) p
      pub listed : Each (λ e. Listed js e.job) p
      pub by_critical : Each (λ e. e.key ≤ e.job.critical) p

    pub record Ordered (exempt : Job → Bool) (p : List Entry) : Type 0 where
      pub lined : Lined exempt p
      pub closed : Each (Closed exempt p) p

    -- the exempt job's key is not below the limit
    abbrev NotBelow : (Job → Bool) → ℕ → List Entry → Type 0
    NotBelow exempt limit p = Each (λ e. exempt e.job ≡ true → limit ≤ e.key) p

    -- the exempt job waits for k
    abbrev WaitFor : (Job → Bool) → Job → List Entry → Type 0
    WaitFor exempt k p = Each (λ e. exempt e.job ≡ true → next e.job ≡ some k) p

    -- where k is not behind who waits for it, k becomes the exempt one
    pass-on : (exempt : Job → Bool) (k : Job) {p : List Entry} → WaitFor exempt k p
        → Pairwise (λ e f. exempt e.job ≡ true → same k f.job ≡ false) p → Pairwise (Stand exempt) p
        → Pairwise (Stand (same k)) p
    pass-on exempt k none_left no_pair no_pair = no_pair
    pass-on exempt k {p = e ∷ es} (w and ws) (a then more) (r then rs) =
        each_both
        (λ f b s. record {
          keys = s.keys;
          apart = s.apart;
          waits_not = λ o i n. split (exempt e.job) (λ h. rw (one_there (w h) n) at (b h)) (λ h. s.waits_not h i n);
        }) a r
        then pass-on exempt k ws more rs

    -- k, which is not in the plan, put in at a key no greater than the limit
    insert_new : (exempt : Job → Bool) (k : Job) (key limit : ℕ) (p : List Entry) → key ≤ limit → key ≤ k.critical → Listed js k
        → Lined exempt p → NotBelow exempt limit p → WaitFor exempt k p → Each (λ e. same k e.job ≡ false) p
        → Each (λ e. e.key < key → exempt e.job ≡ false → WaitsNotFor e k) p
        → Each (Closed exempt (insert k key p)) p
        → Ordered (same k) (insert k key p) × NotBelow (same k) key (insert k key p)
    insert_new exempt k key limit p below critical known l near for out early closed =
        let all_out : Pairwise (λ e f. exempt e.job ≡ true → same k f.job ≡ false) p =
        pairs_too (λ e f a b s o. b) out l.pairs in
        let lesser : Each (λ e. e.key < key → WaitsNotFor e k) p =
        each_both (λ e n q m. split (exempt e.job) (λ h. absurd (let a = n h in omega arith)) (λ h. q m h)) near early in (
          record {
            lined = record {
              pairs = pairs_insert (λ e f s. s.keys) k key (pass-on exempt k for all_out l.pairs)
                  (each_both (λ e o q m. record {
                    keys = omega arith;
                    apart = same_swap e.job k ∙ o;
                    waits_not = λ c. q m;
                  }) out
                  lesser)
                  (each_too (λ e o m. record { keys = m; apart = o; waits_not = λ c. clash (same_self k) c }) out);
              listed = each_insert k key known l.listed;
              by_critical = each_insert k key critical l.by_critical;
            };
            closed = each_insert k key (λ c. clash (same_self k) c)
                (each_both (λ e w q c i n. split (exempt e.job)
                (λ h. ap (λ x. in_plan x (insert k key p)) (sym (one_there (w h) n))
                ∙ planned_insert k k key p ∙ rw (same_self k))
                (λ h. q h i n)) for closed);
          },
          each_insert k key (λ h. omega arith) (each_too (λ e o h. clash h o) out),
        )

    -- all entries of a job have the key of the one that is found
    only_entry : (exempt : Job → Bool) (k : Job) (p : List Entry) (e : Entry) → Pairwise (Stand exempt) p
        → find (is_of k) p ≡ some e
        → Each (λ f. same k f.job ≡ true → f.key ≡ e.key) p
    unfolding is_of
    only_entry exempt k [] e r h = none_left
    only_entry exempt k (f ∷ fs) e (r then rs) h =
        split (same k f.job)
        (λ g. let q : f ≡ e = one_there {o = some f} refl (rw g at h) in
        (λ o. ap (λ (x : Entry). x.key) q) and each_too (λ x s o. clash o (same_as k f.job x.job g ∙ s.apart)) r)
        (λ g. (λ o. clash o g) and only_entry exempt k fs e rs (rw g at h))

    -- removal leaves no entry of the job
    removed_is_out : (exempt : Job → Bool) (k : Job) {p : List Entry} → Pairwise (Stand exempt) p
        → Each (λ e. same k e.job ≡ false) (remove k p)
    unfolding remove is_of
    removed_is_out exempt k no_pair = none_left
    removed_is_out exempt k {p = f ∷ fs} (r then rs) =
        split (same k f.job)
        (λ g. rw g (each_too (λ x s. same_as k f.job x.job g ∙ s.apart) r))
        (λ g. rw g (g and removed_is_out exempt k rs))

    -- an entry with a key below k's comes before k, so its job does not wait for k
    below_waits_not : (exempt : Job → Bool) (k : Job) (key : ℕ) (p : List Entry) (e : Entry) → Pairwise (Stand exempt) p
        → find (is_of k) p ≡ some e → key ≤ e.key → Each (λ f. f.key < key → exempt f.job ≡ false → WaitsNotFor f k) p
    unfolding is_of
    below_waits_not exempt k key [] e r h l = none_left
    below_waits_not exempt k key (f ∷ fs) e (r then rs) h l =
        split (same k f.job)
        (λ g. let q : f.key ≡ e.key = ap (λ (x : Entry). x.key) (one_there {o = some f} refl (rw g at h)) in
        (λ m. absurd (omega arith)) and each_too (λ x s m. absurd (let a = s.keys in omega arith)) r)
        (λ g. let rest : find (is_of k) fs ≡ some e = rw g at h in
        (λ m o i n. same_to i k e.job (found_passes (is_of k) fs rest) ∙ (found_each (is_of k) r rest).waits_not o i n)
        and below_waits_not exempt k key fs e rs rest l)

    module _ (next_listed : (u y : Job) → next u ≡ some y → Listed js y) where
      -- the exempt job is x, by its number
      exempt_is : (x k : Job) {p : List Entry} → Listed js x → next x ≡ some k → Each (λ e. Listed js e.job) p
          → WaitFor (same x) k p
      exempt_is x k lx n e = each_too (λ f q o. ap next (sym (one-job js x f.job lx q o)) ∙ n) e

      -- the three things that can happen to a member of the chain
      new_member : (x k : Job) (limit : ℕ) (p : List Entry) → Listed js x → next x ≡ some k → Ordered (same x) p
          → NotBelow (same x) limit p → find (is_of k) p ≡ none
          → let key = min limit k.critical in Ordered (same k) (insert k key p) × NotBelow (same k) key (insert k key p)
      new_member x k limit p lx n s near h =
          let key = min limit k.critical in
          insert_new (same x) k key limit p (omega arith) (omega arith) (next_listed x k n) s.lined near
          (exempt_is x k lx n s.lined.listed) (not-planned k p (no_entry k p h))
          (each_too (λ e q l o i m. split (same i k) (λ g. clash (q o i m) (planned_as i k p g ∙ no_entry k p h))
          (λ g. g)) s.closed)
          (each_too (λ e q o i m. planned_insert i k key p ∙ or_right (same i k) (in_plan i p) (q o i m)) s.closed)

      moved_member : (x k : Job) (limit : ℕ) (p : List Entry) (e : Entry) → Listed js x → next x ≡ some k
          → Ordered (same x) p
          → NotBelow (same x) limit p → find (is_of k) p ≡ some e → limit ≤ e.key
          → Ordered (same k) (insert k limit (remove k p)) × NotBelow (same k) limit (insert k limit (remove k p))
      moved_member x k limit p e lx n s near h l =
          let lk = next_listed x k n in
          let own : k ≡ e.job =
          one-job js k e.job lk (found_each (is_of k) s.lined.listed h) (is-of k e (found_passes (is_of k) p h)) in
          let critical : e.key ≤ k.critical =
          rw own (found_each {P = λ (f : Entry). f.key ≤ f.job.critical} (is_of k) s.lined.by_critical h) in
          insert_new (same x) k limit limit (remove k p) (omega arith) (omega arith) lk
          (record {
            pairs = pairs_remove k s.lined.pairs;
            listed = each_remove k s.lined.listed;
            by_critical = each_remove k s.lined.by_critical;
          })
          (each_remove k near) (each_remove k (exempt_is x k lx n s.lined.listed))
          (removed_is_out (same x) k s.lined.pairs)
          (each_remove k (below_waits_not (same x) k limit p e s.lined.pairs h l))
          (each_remove k (each_too (λ f q o i m. planned_moved i k limit p ∙ or_right (same i k) (in_plan i p) (q o i m))
          s.closed))

      staying_member : (x k : Job) (limit : ℕ) (p : List Entry) (e : Entry) → Listed js x → next x ≡ some k
          → Ordered (same x) p
          → NotBelow (same x) limit p → find (is_of k) p ≡ some e → e.key < limit
          → Ordered (same k) p × NotBelow (same k) e.key p
      staying_member x k limit p e lx n s near h l =
          let one = only_entry (same x) k p e s.lined.pairs h in
          let keys_known : Each (λ f. (same x f.job ≡ true → limit ≤ f.key) × (same k f.job ≡ true → f.key ≡ e.key)) p =
          each_both (λ f a b. (a, b)) near one in
          let for = exempt_is x k lx n s.lined.listed in (
            record {
              lined = record {
                pairs = pass-on (same x) k for
                    (pairs_too
                    (λ f g a b r c. split (same k g.job)
                    (λ d. absurd (let u = a.0 c in let w = b.1 d in let z = r.keys in omega arith))
                    (λ d. d))
                    keys_known
                    s.lined.pairs)
                    s.lined.pairs;
                listed = s.lined.listed;
                by_critical = s.lined.by_critical;
              };
              closed = each_both
                  (λ f w q c i m. split (same x f.job)
                  (λ d. ap (λ y. in_plan y p) (sym (one_there (w d) m)) ∙ has_entry k p h)
                  (λ d. q d i m)) for s.closed;
            },
            each_too (λ f q c. let u = q c in omega arith) one,
          )

      -- after a member of the chain, it is the exempt one
      member_ordered : (x k : Job) (s : Limited) → Listed js x → next x ≡ some k → Ordered (same x) s.plan
          → NotBelow (same x) s.limit s.plan
          → Ordered (same k) (member k s).plan × NotBelow (same k) (member k s).limit (member k s).plan
      unfolding member member_found member_new member_planned stays_below
      member_ordered x k s lx n o near =
          split_option (find (is_of k) s.plan)
          (λ h. rw h (new_member x k s.limit s.plan lx n o near h))
          (λ e h. rw h
          (split (stays_below s.limit e)
          (λ g. rw g (staying_member x k s.limit s.plan e lx n o near h (ltb-true e.key s.limit g)))
          (λ g. rw g (moved_member x k s.limit s.plan e lx n o near h (ltb-false e.key s.limit g)))))

      -- a member that waits for nobody needs no exemption
      closed_by : (x : Job) (p : List Entry) → Listed js x → next x ≡ none → Ordered (same x) p → Ordered nobody p
      closed_by x p lx n s =
          let idle : Each (λ e. same x e.job ≡ true → next e.job ≡ none) p =
          each_too (λ e q o. ap next (sym (one-job js x e.job lx q o)) ∙ n) s.lined.listed in
          record {
            lined = record {
              pairs = pairs_too
                  (λ e f a b r. record {
                    keys = r.keys;
                    apart = r.apart;
                    waits_not = λ c i m. split (same x e.job) (λ h. nothing_there m (a h)) (λ h. r.waits_not h i m);
                  })
                  idle s.lined.pairs;
              listed = s.lined.listed;
              by_critical = s.lined.by_critical;
            };
            closed = each_both
                (λ e a q c i m. split (same x e.job) (λ h. nothing_there m (a h)) (λ h. q h i m)) idle s.closed;
          }

      -- member after member, as far as the chain goes
      members_ordered : (n : ℕ) (x : Job) (s : Limited) → stands_after next n (next x) ≡ none → Listed js x
          → Ordered (same x) s.plan
          → NotBelow (same x) s.limit s.plan → Ordered nobody (members (follow next n (next x)) s).plan
      unfolding members follow
      members_ordered zero x s a lx o near = closed_by x s.plan lx a o
      members_ordered (suc n) x s a lx o near =
          split_option (next x)
          (λ h. rw h (closed_by x s.plan lx h o))
          (λ k h. let r = member_ordered x k s lx h o near in
          rw h (members_ordered n k (member k s) (rw h at a) (next_listed x k h) r.0 r.1))

      -- A trial of a job that is not planned leaves the plan in order.
      pub trial_ordered : (n : ℕ) (i : Turn) (p : List Entry) → i.awaited ≡ follow next n (next i.job)
          → stands_after next n (next i.job) ≡ none → Listed js i.job → in_plan i.job p ≡ false → Ordered nobody p
          → Ordered nobody (trial i p)
      unfolding trial begin
      trial_ordered n i p b a li h s =
          let j = i.job in
          let r = insert_new nobody j j.critical j.critical p (omega arith) (omega arith) li s.lined
          (each_too (λ e q o. absurd (false≢true o)) s.lined.listed)
          (each_too (λ e q o. absurd (false≢true o)) s.lined.listed)
          (not-planned j p h)
          (each_too (λ e q l o k m. split (same k j) (λ g. clash (q o k m) (planned_as k j p g ∙ h)) (λ g. g)) s.closed)
          (each_too (λ e q o k m. planned_insert k j j.critical p ∙ or_right (same k j) (in_plan k p) (q o k m))
          s.closed) in
          rw b (members_ordered n j (begin j p) a li r.0 r.1)

    pub empty_ordered : Ordered nobody []
    empty_ordered =
        record { lined = record { pairs = no_pair; listed = none_left; by_critical = none_left }; closed = none_left }
