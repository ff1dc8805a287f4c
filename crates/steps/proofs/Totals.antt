-- What a plan adds up to, weighed over the table: no job stands twice in it, so its total is that of the table's jobs that
-- it has. A plan that has more jobs therefore weighs more, by what it has more. Assumes nothing.
use mathlib.Core.Bool.{Bool, true, false, cond, not, ◌&&◌, ◌||◌}
use mathlib.Core.List.{List, [], ◌∷◌}
use mathlib.Core.Path.{◌≡◌, refl, sym, ap, ◌∙◌}
use Prim.Native.Nat.{ℕ, ◌+◌, ◌≤◌, ◌<◌}
use native.Mathlib.Omega.{arith}
use borrow.Author.Tests.{ne_eqb}
use Rattle.laws.proofs.Choices.{nothing_there, one_there, split}
use Rattle.laws.proofs.Elements.{each_too}
use Rattle.steps.proofs.Entries.{out_of_plan}
use Rattle.steps.proofs.Jobs.{InOrder, Listed, same_self, same_swap}
use Rattle.laws.proofs.Lookups.{total_agree, total_le, total_lt}
use Rattle.laws.specs.Pairs.{Pairwise, no_pair, ◌then◌}
use Rattle.rules.specs.Lists.{Each, keep, none_left, total, ◌and◌}
use Rattle.rules.specs.Plan.{Entry, in_plan, is_of, jobs_of, same}
use Rattle.rules.specs.declared.Job.{Job}

module _ (w : Job → ℕ) where
  -- what the list's jobs that pass weigh
  unfoldable pub weight : (Job → Bool) → List Job → ℕ
  weight has js = total (λ j. cond (has j) (w j) 0) js

  pub weight_kept : (has : Job → Bool) (js : List Job) → weight has js ≡ total w (keep has js)
  unfolding weight
  weight_kept has [] = refl
  weight_kept has (j ∷ js) =
      split (has j) (λ h. rw h (ap (λ n. w j + n) (weight_kept has js))) (λ h. rw h (omega (arith, weight_kept has js)))

  pub weight_agree : (has has' : Job → Bool) {js : List Job} → Each (λ j. has j ≡ has' j) js → weight has js ≡ weight has' js
  unfolding weight
  weight_agree has has' e =
      total_agree (λ j. cond (has j) (w j) 0) (λ j. cond (has' j) (w j) 0) (each_too (λ j h. ap (λ b. cond b (w j) 0) h) e)

  share_le : (a b : Bool) (n : ℕ) → (a ≡ true → b ≡ true) → cond a n 0 ≤ cond b n 0
  share_le true b n h = rw (h refl) (omega arith)
  share_le false b n h = omega arith

  pub weight_le : (has has' : Job → Bool) (js : List Job) → ((j : Job) → has j ≡ true → has' j ≡ true)
      → weight has js ≤ weight has' js
  unfolding weight
  weight_le has has' js h =
      total_le (λ j. cond (has j) (w j) 0) (λ j. cond (has' j) (w j) 0) (λ j. share_le (has j) (has' j) (w j) (h j)) js

  pub weight_lt : (has has' : Job → Bool) (js : List Job) (k : Job) → ((j : Job) → has j ≡ true → has' j ≡ true)
      → Listed js k
      → 0 < w k → has k ≡ false → has' k ≡ true → weight has js < weight has' js
  unfolding weight
  weight_lt has has' js k h l c n y =
      total_lt (λ j. cond (has j) (w j) 0) (λ j. cond (has' j) (w j) 0) (λ j. share_le (has j) (has' j) (w j) (h j))
      (same k) js l
      (rw n (rw y c))

  -- those of one kind or another are those of the other, and those of the one that are not of the other
  pub weight_parts : (one other : Job → Bool) (js : List Job)
      → weight (λ j. one j || other j) js ≡ weight other js + weight (λ j. one j && not (other j)) js
  unfolding weight
  weight_parts one other [] = refl
  weight_parts one other (j ∷ js) = omega (arith, parts (one j) (other j) (w j), weight_parts one other js)
    where
      parts : (a b : Bool) (n : ℕ) → cond (a || b) n 0 ≡ cond b n 0 + cond (a && not b) n 0
      parts true true n = omega arith
      parts true false n = omega arith
      parts false true n = omega arith
      parts false false n = refl

  lesser_differs : (y z : Job) → y.number < z.number → same z y ≡ false
  unfolding same
  lesser_differs y z l = ne_eqb z.number y.number (omega arith)

  -- with one job more, its share more
  weight_one_more : (has : Job → Bool) (k : Job) {js : List Job} → InOrder js → Listed js k → has k ≡ false
      → weight (λ x. same x k || has x) js ≡ w k + weight has js
  unfolding weight
  weight_one_more has k no_pair l n = nothing_there l refl
  weight_one_more has k {js = y ∷ ys} (r then rs) l n =
      split (same k y)
      (λ h. let e : y ≡ k = one_there refl (rw h at l) in
      let rest : total (λ x. cond (same x k || has x) (w x) 0) ys ≡ total (λ x. cond (has x) (w x) 0) ys =
      total_agree (λ x. cond (same x k || has x) (w x) 0) (λ x. cond (has x) (w x) 0)
      (each_too (λ z m. rw (lesser_differs k z (rw e at m))) r) in
      rw e (rw (same_self k) (rw n (omega arith))))
      (λ h. rw (same_swap y k) (rw h (omega (arith, weight_one_more has k rs (rw h at l) n))))

  nothing_weighs : (js : List Job) → total (λ (j : Job). 0) js ≡ 0
  nothing_weighs [] = refl
  nothing_weighs (j ∷ js) = omega (arith, nothing_weighs js)

  -- A plan of listed jobs, none twice, weighs what the listed jobs weigh that it has.
  pub plan_weight : {js : List Job} → InOrder js → {p : List Entry} → Pairwise (λ e f. same e.job f.job ≡ false) p
      → Each (λ e. Listed js e.job) p → total w (jobs_of p) ≡ weight (λ x. in_plan x p) js
  unfolding jobs_of weight in_plan is_of
  plan_weight {js = js} r no_pair none_left = sym (nothing_weighs js)
  plan_weight {js = js} r {p = e ∷ es} (a then more) (l and ls) =
      ap (λ n. w e.job + n) (plan_weight r more ls)
      ∙ sym (weight_one_more (λ x. in_plan x es) e.job r l (out_of_plan e.job a))
