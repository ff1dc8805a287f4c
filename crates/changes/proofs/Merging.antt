-- The merge of changes and entries that stay: who goes first of the two, what of a plan stays, and the merge as one change after
-- the other takes its place in it. Each law goes along the lists. Assumes nothing.
use mathlib.Core.Bool.{Bool, true, false, cond, not, ◌||◌, or-false}
use mathlib.Core.List.{List, [], ◌∷◌, ◌++◌, reverse, reverse_aux}
use mathlib.Core.Path.{◌≡◌, refl, sym, ap, ◌∙◌}
use Prim.Native.Nat.{ℕ, ◌+◌, ◌≤◌, ◌<◌}
use native.Mathlib.Omega.{arith}
use borrow.Author.Tests.{le-leb, lt-leb}
use Rattle.laws.proofs.Choices.{or_front, split}
use Rattle.laws.proofs.Elements.{each_too}
use Rattle.laws.proofs.Lookups.{each_always, each_both, each_keep, keep_all}
use Rattle.laws.specs.Pairs.{Pairwise, no_pair, ◌then◌}
use Rattle.changes.specs.Changes.{merged, staying}
use Rattle.rules.specs.Lists.{Each, any, keep, none_left, total, ◌and◌}
use Rattle.rules.specs.Plan.{Entry, in_plan, is_of, remove, same}
use Rattle.rules.specs.declared.Job.{Job}
use Rattle.steps.proofs.Jobs.{same_as, same_swap}

-- keys never fall along the plan
abbrev pub NeverFall : List Entry → Type 0
NeverFall p = Pairwise (λ e f. e.key ≤ f.key) p

-- no job stands twice in the plan
abbrev pub OnceEach : List Entry → Type 0
OnceEach p = Pairwise (λ e f. same e.job f.job ≡ false) p

-- no job stands twice among these
abbrev pub Apart : List Job → Type 0
Apart ks = Pairwise (λ x y. same x y ≡ false) ks

-- Where nothing stays, the merge is the changes.
pub merged_nothing : (cs : List Entry) → merged cs [] ≡ cs
unfolding merged
merged_nothing [] = refl
merged_nothing (c ∷ cs) = refl

-- Where nothing is changed, the merge is what stays.
pub no_change_merged : (p : List Entry) → merged [] p ≡ p
unfolding merged
no_change_merged p = refl

-- A change with a key no greater than any that stays goes first.
pub merged_first : (c : Entry) (cs : List Entry) {q : List Entry} → Each (λ e. c.key ≤ e.key) q
    → merged (c ∷ cs) q ≡ c ∷ merged cs q
unfolding merged
merged_first c cs none_left = ap {B = List Entry} (λ l. c ∷ l) (sym (merged_nothing cs))
merged_first c cs {q = e ∷ es} (h and hs) = rw (le-leb c.key e.key h)

-- An entry with a key below all changes goes first.
pub merged_later : (e : Entry) (es : List Entry) {ds : List Entry} → Each (λ d. e.key < d.key) ds
    → merged ds (e ∷ es) ≡ e ∷ merged ds es
unfolding merged
merged_later e es none_left = refl
merged_later e es {ds = d ∷ ds} (h and hs) = rw (lt-leb d.key e.key h)

-- So do any number of them.
pub merged_front : (ds : List Entry) {front : List Entry} (q : List Entry)
    → Each (λ e. Each (λ d. e.key < d.key) ds) front
    → merged ds (front ++ q) ≡ front ++ merged ds q
merged_front ds q none_left = refl
merged_front ds {front = e ∷ front} q (h and hs) =
    merged_later e (front ++ q) h ∙ ap {B = List Entry} (λ l. e ∷ l) (merged_front ds q hs)

-- An entry that a change names does not stay.
pub staying_goes : (cs : List Entry) (e : Entry) (es : List Entry) → in_plan e.job cs ≡ true
    → staying cs (e ∷ es) ≡ staying cs es
unfolding staying
staying_goes cs e es h = rw h

-- An entry that no change names stays.
pub staying_stays : (cs : List Entry) (e : Entry) (es : List Entry) → in_plan e.job cs ≡ false
    → staying cs (e ∷ es) ≡ e ∷ staying cs es
unfolding staying
staying_stays cs e es h = rw h

-- What stays of two parts is what stays of the one and then of the other.
pub staying_parts : (cs xs ys : List Entry) → staying cs (xs ++ ys) ≡ staying cs xs ++ staying cs ys
unfolding staying
staying_parts cs [] ys = refl
staying_parts cs (x ∷ xs) ys =
    split (in_plan x.job cs)
    (λ h. rw h (staying_parts cs xs ys))
    (λ h. rw h (ap {B = List Entry} (λ l. x ∷ l) (staying_parts cs xs ys)))

-- Where no change names an entry, all stay.
pub staying_all : (cs : List Entry) {p : List Entry} → Each (λ e. in_plan e.job cs ≡ false) p → staying cs p ≡ p
unfolding staying
staying_all cs h = keep_all (λ (e : Entry). not (in_plan e.job cs)) (each_too (λ e g. rw g) h)

nobody_named : (j : Job) → in_plan j [] ≡ false
unfolding in_plan
nobody_named j = refl

-- Where nothing is changed, all stay.
pub staying_of_none : (p : List Entry) → staying [] p ≡ p
staying_of_none p = staying_all [] (each_always p (λ e. nobody_named e.job))

-- What each entry has, each that stays has.
pub each_staying : {P : Entry → Type 0} (cs : List Entry) {p : List Entry} → Each P p → Each P (staying cs p)
unfolding staying
each_staying cs h = each_keep (λ (e : Entry). not (in_plan e.job cs)) h

-- two tests that agree keep the same
keep_alike : (f g : Entry → Bool) {p : List Entry} → Each (λ e. f e ≡ g e) p → keep f p ≡ keep g p
keep_alike f g none_left = refl
keep_alike f g {p = e ∷ es} (h and hs) = rw (h, keep_alike f g hs)

-- a change of another job names it or not, the same
named_by_others : (x : Job) (c : Entry) (cs : List Entry) → same x c.job ≡ false → in_plan x (c ∷ cs) ≡ in_plan x cs
unfolding in_plan is_of
named_by_others x c cs h = rw h

named_here : (x : Job) (c : Entry) (cs : List Entry) → same x c.job ≡ true → in_plan x (c ∷ cs) ≡ true
unfolding in_plan is_of
named_here x c cs h = rw h

-- What one change more leaves is what the others leave of the plan without its job.
pub staying_one_more : (c : Entry) (cs : List Entry) {p : List Entry} → OnceEach p
    → staying (c ∷ cs) p ≡ staying cs (remove c.job p)
unfolding staying remove is_of
staying_one_more c cs no_pair = refl
staying_one_more c cs {p = e ∷ es} (r then rs) =
    split (same c.job e.job)
    (λ g. rw g (rw (named_here e.job c cs (same_swap e.job c.job ∙ g))
    (keep_alike (λ (x : Entry). not (in_plan x.job (c ∷ cs))) (λ (x : Entry). not (in_plan x.job cs))
    (each_too
    (λ x h. ap not (named_by_others x.job c cs (same_swap x.job c.job ∙ same_as c.job e.job x.job g ∙ h)))
    r))))
    (λ g. rw g (rw (named_by_others e.job c cs (same_swap e.job c.job ∙ g))
    (ap (λ l. cond (not (in_plan e.job cs)) (e ∷ l) l) (staying_one_more c cs rs))))

-- One change taken: the entries below it stand first, then it, and behind it the others are merged with what is left.
pub merged_next : (c : Entry) (cs low : List Entry) {high : List Entry} → Each (λ d. c.key ≤ d.key) cs
    → Each (λ e. e.key < c.key) low
    → Each (λ e. c.key ≤ e.key) high
    → Each (λ e. in_plan e.job (c ∷ cs) ≡ false) low
    → OnceEach high
    → merged (c ∷ cs) (staying (c ∷ cs) (low ++ high)) ≡ low ++ (c ∷ merged cs (staying cs (remove c.job high)))
merged_next c cs low {high} least below above stay once =
    ap (merged (c ∷ cs)) (staying_parts (c ∷ cs) low high ∙ ap (λ l. l ++ staying (c ∷ cs) high) (staying_all (c ∷ cs) stay))
    ∙ merged_front (c ∷ cs) (staying (c ∷ cs) high) (each_too (λ e l. l and each_too (λ d m. omega arith) least) below)
    ∙ ap (λ l. low ++ l)
    (merged_first c cs (each_staying (c ∷ cs) above) ∙ ap (λ l. c ∷ merged cs l) (staying_one_more c cs once))

-- what each has, each has in any order
each_turned : {P : Entry → Type 0} {xs ys : List Entry} → Each P xs → Each P ys → Each P (reverse_aux xs ys)
each_turned none_left q = q
each_turned (p and ps) q = each_turned ps (p and q)

pairs_turned : {R : Entry → Entry → Type 0} {xs ys : List Entry} → Pairwise R xs → Each (λ x. Each (λ y. R y x) ys) xs
    → Pairwise (λ x y. R y x) ys
    → Pairwise (λ x y. R y x) (reverse_aux xs ys)
pairs_turned no_pair none_left q = q
pairs_turned (r then rs) (b and bs) q = pairs_turned rs (each_both (λ x w ws. w and ws) r bs) (b then q)

any_turned : (f : Entry → Bool) (xs ys : List Entry) → any f (reverse_aux xs ys) ≡ any f xs || any f ys
any_turned f [] ys = refl
any_turned f (x ∷ xs) ys = any_turned f xs (x ∷ ys) ∙ or_front (any f xs) (f x) (any f ys)

total_turned : (w : Entry → ℕ) (xs ys : List Entry) → total w (reverse_aux xs ys) ≡ total w xs + total w ys
total_turned w [] ys = omega arith
total_turned w (x ∷ xs) ys = omega (arith, total_turned w xs (x ∷ ys))

-- What holds of any two, the earlier first, holds in the reverse order with the later first.
pub pairs_reversed : {R : Entry → Entry → Type 0} {xs : List Entry} → Pairwise R xs → Pairwise (λ x y. R y x) (reverse xs)
pairs_reversed {xs = xs} r = pairs_turned r (each_always xs (λ x. none_left)) no_pair

-- The reverse order names the same jobs.
pub planned_reversed : (k : Job) (cs : List Entry) → in_plan k (reverse cs) ≡ in_plan k cs
unfolding in_plan
planned_reversed k cs = any_turned (is_of k) cs [] ∙ or-false (any (is_of k) cs)

-- The reverse order adds up to the same.
pub total_reversed : (w : Entry → ℕ) (cs : List Entry) → total w (reverse cs) ≡ total w cs
total_reversed w cs = omega (arith, total_turned w cs [])

-- The reverse order lets the same entries stay.
pub staying_reversed : (cs p : List Entry) → staying (reverse cs) p ≡ staying cs p
unfolding staying
staying_reversed cs p =
    keep_alike (λ (e : Entry). not (in_plan e.job (reverse cs))) (λ (e : Entry). not (in_plan e.job cs))
    (each_always p (λ e. ap not (planned_reversed e.job cs)))
