-- A step that walks by hand share, as a law over any context, in the words of `Steps`: the slice in a local is borrowed into
-- another local. Assumes what `Logic` holds.
use mathlib.Core.List.{List, [], ◌∷◌}
use mathlib.Core.Path.{◌≡◌}
use Prim.Native.Nat.{ℕ, zero}
use base.Fml.{Share}
use base.Fraction.{full_share}
use denote.Slice.{slice_ty, slice_val}
use types.Logic.{Logic}
use seplogic.Ra.Ura.{Ura}
use mir.Syntax.{Body, Lifetime, Mutability, Ty, addr_of, aggregate, assign, copy, deref, field, place, seq, ty_ref}
use mir.Val.{vptr}
use prog.Wp.{Calls, Env, Loops, spot_of}
use types.Kit.{Item, Post, Step, ◌$◌, runs, step}
use types.Part.{agg}
use types.Run.{and_then, assigns, from, init, no_more, stop}
use Rattle.lending.proofs.Steps.{Fits, Free, Lies, copied, length_of, pointer_of, stored}

module _ {M : Type 1} {𝓤 : Ura M} {𝓛 : Logic 𝓤} {K : Type 0} {Γ : List (Item 𝓤)} where
  -- the slice in local i, at position n, is borrowed into local k, at z, by way of its pointer in local j, at y
  open 𝓛 use {H}

  module _ {C : Calls 𝓤 H} {Λ : Loops 𝓤 H} {E : Env 𝓤 H} {p : Post 𝓤 H} {i j k : ℕ} {rest : Body} where
    pub borrows : K → (n y z : ℕ) {q : Share} {ℓ : Lifetime} {m : Mutability} {τ : Ty} {c : ℕ} {at : ℕ × ℕ} {len : ℕ}
        → spot_of 𝓤 H E i ≡ (slice_ty (ty_ref ℓ m τ), c, zero)
        → Lies 𝓛 Γ n (slice_ty (ty_ref ℓ m τ), c, zero) q (slice_val at len)
        → Free 𝓛 Γ y (spot_of 𝓤 H E j) → Fits (spot_of 𝓤 H E j).0 (vptr at.0 at.1)
        → (let Δ = stored 𝓛 Γ y (spot_of 𝓤 H E j) (vptr at.0 at.1) in
        Lies 𝓛 Δ y (spot_of 𝓤 H E j) full_share (vptr at.0 at.1)
        → Lies 𝓛 Δ n (slice_ty (ty_ref ℓ m τ), c, zero) q (slice_val at len)
        → Free 𝓛 Δ z (spot_of 𝓤 H E k) → Fits (spot_of 𝓤 H E k).0 (slice_val at len)
        → Step K 𝓛 (stored 𝓛 Δ z (spot_of 𝓤 H E k) (slice_val at len)) (runs C Λ E rest p) Γ
        (runs C Λ E (seq (assign (place j []) (addr_of (place i (field 0 ∷ deref τ ∷ []))))
        (seq (assign (place k []) (aggregate (copy (place j []) ∷ copy (place i (field 1 ∷ [])) ∷ []))) rest)) p))
    borrows t n y z local there free_y fits_y at_y still free_z fits_z = step (λ s.
        assigns t (pointer_of n local there t) (from t (stop t)) (init t y free_y fits_y)
        $ assigns t (agg t (and_then t (copied t y at_y) (and_then t (length_of n local still t) (no_more t))))
        (from t (stop t)) (init t z free_z fits_z) $ s)
