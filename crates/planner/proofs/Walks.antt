-- What a walk of `plan`, and of a caller that passes its parameters on to `plan`, stands on: each takes the table, the budget,
-- the order buffer and the fate buffer, in this order, and each buffer has a lifetime of its own. At the return nothing is had of
-- the table and of the budget; the order buffer is spent, since the part names its lifetime; and of the fate buffer, which was
-- passed on for good, there is what says its last list.
-- Assumes what `Logic` holds.
use mathlib.Core.List.{List, [], ◌∷◌}
use mathlib.Core.Path.{refl}
use Prim.Native.Nat.{ℕ, ◌<◌, ◌^◌}
use base.Fml.{Fml, flft, ftrue}
use base.Logic.{SProp, comm∗, emp, emp∗, ent, sep, via}
use contract.Lifetimes.{Lfts, Shares}
use denote.Builtin.{u64}
use denote.Exit.{no, yes}
use denote.Laws.{Is, Ises, Spells, Tellss}
use denote.Plain.{uint_Tells, uint_vals}
use denote.RattleType.{RattleType, owns}
use denote.Ref.{MutBor}
use denote.Signature.{mut_slice_of, plain}
use denote.Slice.{MutSlice, mut_slice_Tells, slice_val, mut_slice_vals}
use denote.Struct.Laws as LL
use denote.Triple.Walked.{AllGo, Stays, gave_slice, Goes-dropped, Goes-gave_slice, Goes-spent_slice, stay_dropped}
use types.Logic.{Logic}
use seplogic.Ra.Ura.{Ura}
use lib.ListN.{length}
use mir.Syntax.{named, ty_int, w64}
use mir.Val.{Val, vint}
use types.Kit.{Item, ‵, ◌⊛◌}
use Rattle.lending.proofs.Steps.{Fits}
use Rattle.planner.specs.contracts.plan as plan
use Rattle.rules.specs.contracts.Table as P
use Rattle.rules.proofs.Table.TheLaws as P'
use Rattle.rules.specs.declared.Table.{Table}

-- the parameters as they are passed, and their machine values
abbrev pub Passed : Type 0
Passed = Table × (ℕ × (MutBor (List ℕ) × (MutBor (List ℕ) × Unit {0})))

abbrev pub table_val : Table → Val
table_val t = LL.val P.the_type P'.the_laws t

abbrev pub machine : MutBor (List ℕ) → Val
machine r = slice_val r.ref_ptr (length r.now)

abbrev pub values : Passed → List Val × (List Val × (List Val × (List Val × Unit {0})))
values a = (
  table_val a.0 ∷ [],
  (vint w64 a.1.0 ∷ [], (machine a.1.1.0 ∷ [], (machine a.1.1.1.0 ∷ [], tt))),
)

abbrev pub arguments : Passed → List Val
arguments a = table_val a.0 ∷ vint w64 a.1.0 ∷ machine a.1.1.0 ∷ machine a.1.1.1.0 ∷ []

-- what stands at the entry: a share of each lifetime's token, and what the parameters own
abbrev pub tokens : {M : Type 1} (𝓤 : Ura M) → Lfts 2 → Shares 2 → Item 𝓤
tokens 𝓤 κs qs = ‵ (flft κs.0 qs.0) ⊛ ‵ (flft κs.1.0 qs.1.0) ⊛ ‵ ftrue

abbrev pub kinds : Lfts 2 → List RattleType
kinds κs = P.the_row ∷ u64 ∷ MutSlice (named 0) κs.0 u64 ∷ MutSlice (named 1) κs.1.0 u64 ∷ []

abbrev pub owned : Lfts 2 → Passed → Fml
owned κs a = owns (kinds κs) a (values a)

-- the machine values are told by the parameters
abbrev pub spelled : (κs : Lfts 2) → Spells (kinds κs)
spelled κs = (LL.vals P.the_type P'.the_laws, (uint_vals w64, (mut_slice_vals, (mut_slice_vals, tt))))

pub told : (κs : Lfts 2) → Tellss (kinds κs) (Ises (kinds κs)) (spelled κs)
told κs = (
  LL.tells P.the_type P'.the_laws,
  (uint_Tells w64, (mut_slice_Tells (named 0) κs.0 u64, (mut_slice_Tells (named 1) κs.1.0 u64, tt))),
)

-- those of a table and of a number may lie in locals of their types
abbrev pub IsTable : Table → Type 0
IsTable t = Is P.the_row t (table_val t ∷ [])

pub table_fits : {M : Type 1} {𝓤 : Ura M} (𝓛 : Logic 𝓤) (t : Table) → IsTable t
    → Fits P'.mir (table_val t)
table_fits 𝓛 t is = ((LL.lawful P.the_type P'.the_laws 𝓛).typed t (table_val t ∷ []) is).0

pub number_fits : {n : ℕ} → n < 2 ^ 64 → Fits (ty_int w64) (vint w64 n)
number_fits h = (tt, record { fits = h })

-- what is had of the parameters at the return, and that it is what the contracts say of them
abbrev pub stayed : Stays (plan.ended).signature.params (plan.ended).kept
stayed = (
  stay_dropped (plain (λ _. P.the_row)) yes,
  (
    stay_dropped (plain (λ _. u64)) yes,
    (stay_dropped (mut_slice_of (0 ∷ []) tt (plain (λ _. u64))) no, (gave_slice (1 ∷ []) tt (plain (λ _. u64)), tt)),
  ),
)

module _ {M : Type 1} {𝓤 : Ura M} (𝓛 : Logic 𝓤) where
  pub all_go : AllGo 𝓛 2 (plan.ended).signature.params (plan.ended).kept stayed
  all_go = (
    Goes-dropped 𝓛 2 (plain (λ _. P.the_row)) yes (λ κs x f. refl),
    (
      Goes-dropped 𝓛 2 (plain (λ _. u64)) yes (λ κs x f. refl),
      (
        Goes-spent_slice 𝓛 2 (0 ∷ []) tt (plain (λ _. u64)),
        (Goes-gave_slice 𝓛 2 1 tt (plain (λ _. u64)), tt),
      ),
    ),
  )

-- a callee that requires nothing asks for what stands at its entry alone
pub asked : {M : Type 1} (𝓤 : Ura M) (P : SProp 𝓤) → ent 𝓤 P (sep 𝓤 P (emp 𝓤))
asked 𝓤 P = via 𝓤 (sep 𝓤 (emp 𝓤) P) (emp∗ 𝓤 P) (comm∗ 𝓤 (emp 𝓤) P)
