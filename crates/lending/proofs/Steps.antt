-- Steps that walks by hand share, as laws over any context: a local is copied, the pointer and the length of the slice in a
-- local are read, and a local is let go at the return. A position counts the entries of the context from 0; an equation says
-- what stands there, and in a walk `refl` shows it. Assumes what `Logic` holds.
use mathlib.Core.Bool.{true}
use mathlib.Core.List.{List, [], ◌∷◌}
use mathlib.Core.Path.{◌≡◌, refl, sym, subst}
use Prim.Native.Nat.{ℕ, zero, ◌<◌, ◌^◌}
use base.Fml.{Share, fat, fdies, froom}
use base.Logic.{assoc', ent, mono_l, mono_r, sep, via}
use denote.Slice.{slice_ty, slice_val}
use types.Logic.{Logic}
use base.Fraction.{full_share}
use seplogic.Ra.Ura.{Ura}
use lib.Dec.{T as Holds}
use mir.Syntax.{Lifetime, Mutability, Ty, addr_of, copy, deref, field, place, ty_int, ty_ref}
use mir.Syntax.{w64}
use mir.Val.{Val, WT, has_ty, vint, vptr}
use prog.Wp.{Env, Spot, spot_of}
use types.Kit.{Goal, Item, Step, ‵, del, frees, mean, nth, pull, put, step, ⋆}
use types.Part.{Part, look_in, sub, whole}
use types.Run.{Opd, Rv, Walks, addr, fld, from, hop, load, look, stop}

-- what a value must be to lie at a type
abbrev pub Fits : Ty → Val → Type 0
Fits τ v = Holds (has_ty τ v) × WT v

-- the machine value of a slice of n elements may lie in a local of its type, wherever it points
pub slice_fits : {n : ℕ} → n < 2 ^ 64 → Holds true × WT (slice_val (0, 0) n)
slice_fits h = (tt, (tt, (record { fits = h }, tt)))

module _ {M : Type 1} {𝓤 : Ura M} (𝓛 : Logic 𝓤) (Γ : List (Item 𝓤)) (n : ℕ) (at : Spot 𝓤 𝓛.H) where
  -- position n has a share of the cell there, with the value v; or room for a value
  abbrev pub Lies : Share → Val → Type 2
  Lies q v = nth 𝓛 n Γ ≡ ‵ (fat q at.0 at.1 at.2 v)

  abbrev pub Free : Type 2
  Free = nth 𝓛 n Γ ≡ ‵ (froom at.0 at.1 at.2)

  -- the context once v is stored there
  abbrev pub stored : Val → List (Item 𝓤)
  stored v = put 𝓛 n (‵ (fat full_share at.0 at.1 at.2 v)) Γ

module _ {M : Type 1} {𝓤 : Ura M} {𝓛 : Logic 𝓤} {K : Type 0} where
  open 𝓛 use {H}

  cell_of : K → {i : Item 𝓤} {q : Share} {τ : Ty} {b o : ℕ} {v : Val} → i ≡ ‵ (fat q τ b o v)
      → Part K 𝓛 i q τ b o v (λ u. ‵ (fat q τ b o u))
  cell_of t {q = q} {τ} {b} {o} {v} there =
      subst (λ (j : Item 𝓤). Part K 𝓛 j q τ b o v (λ u. ‵ (fat q τ b o u))) (sym there) (whole t)

  module _ {Γ : List (Item 𝓤)} where
    -- a local is copied
    pub copied : K → {E : Env 𝓤 H} {i : ℕ} (n : ℕ) {q : Share} {v : Val} → Lies 𝓛 Γ n (spot_of 𝓤 H E i) q v
        → Opd K 𝓛 Γ E (copy (place i [])) v
    copied t n there = load t (from t (stop t)) (look t n there)

    -- a local is let go: its cell, and the right to end it
    pub lets_go : K → (n : ℕ) {τ : Ty} {b : ℕ} {v : Val} {E : Env 𝓤 H} {g : Goal 𝓤 H}
        → nth 𝓛 n Γ ≡ ‵ (fat full_share τ b zero v) → nth 𝓛 n (del 𝓛 n Γ) ≡ ‵ (fdies τ b)
        → Step K 𝓛 (del 𝓛 n (del 𝓛 n Γ)) (frees E g) Γ (frees ((τ, b) ∷ E) g)
    lets_go t n {τ} {b} {v} cell dies = step (λ s. record {
      prf =
          let Δ : List (Item 𝓤) = del 𝓛 n Γ in
          let Ω : List (Item 𝓤) = del 𝓛 n Δ in
          via 𝓤 _ (subst (λ (i : Item 𝓤). ent 𝓤 (⋆ 𝓛 Γ) (sep 𝓤 (mean 𝓛 i) (⋆ 𝓛 Δ))) cell (pull 𝓛 n Γ))
          (via 𝓤 (sep 𝓤 (H.room τ b zero) (⋆ 𝓛 Δ)) (mono_l 𝓤 (⋆ 𝓛 Δ) (𝓛.laws.at_room τ b zero v))
          (via 𝓤 (sep 𝓤 (H.room τ b zero) (sep 𝓤 (H.dies τ b) (⋆ 𝓛 Ω)))
          (mono_r 𝓤 (H.room τ b zero)
          (subst (λ (i : Item 𝓤). ent 𝓤 (⋆ 𝓛 Δ) (sep 𝓤 (mean 𝓛 i) (⋆ 𝓛 Ω))) dies (pull 𝓛 n Δ)))
          (via 𝓤 (sep 𝓤 (sep 𝓤 (H.room τ b zero) (H.dies τ b)) (⋆ 𝓛 Ω))
          (assoc' 𝓤 (H.room τ b zero) (H.dies τ b) (⋆ 𝓛 Ω))
          (mono_r 𝓤 (sep 𝓤 (H.room τ b zero) (H.dies τ b)) s.prf))));
    })

    -- a slice in a local i, at position n: its pointer, and its length
    module _ {E : Env 𝓤 H} {i : ℕ} (n : ℕ) {q : Share} {ℓ : Lifetime} {m : Mutability} {τ : Ty} {c : ℕ} {at : ℕ × ℕ}
        {len : ℕ} (local : spot_of 𝓤 H E i ≡ (slice_ty (ty_ref ℓ m τ), c, zero))
        (there : Lies 𝓛 Γ n (slice_ty (ty_ref ℓ m τ), c, zero) q (slice_val at len)) where
      pub pointer_of : K → Rv K 𝓛 Γ E (addr_of (place i (field 0 ∷ deref τ ∷ []))) (vptr at.0 at.1)
      pointer_of t =
          addr t (from t (subst (λ (sp : Spot 𝓤 H). Walks K 𝓛 Γ E sp (field 0 ∷ deref τ ∷ []) (τ, at.0, at.1))
          (sym local) (fld t refl (hop t (look_in t n (sub t 0 refl (cell_of t there))) (stop t)))))

      pub length_of : K → Opd K 𝓛 Γ E (copy (place i (field 1 ∷ []))) (vint w64 len)
      length_of t =
          load t (from t (subst (λ (sp : Spot 𝓤 H). Walks K 𝓛 Γ E sp (field 1 ∷ []) (ty_int w64, c, 8)) (sym local)
          (fld t refl (stop t)))) (look_in t n (sub t 1 refl (cell_of t there)))
