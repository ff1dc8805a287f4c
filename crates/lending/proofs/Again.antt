-- A `&mut` slice that is lent again for the time of a call, and comes back.
-- The holder has the slice at the lifetime κ, under the name γ, with the list ys, and a share q of κ's token. It opens
-- its own borrow, lends the places anew for κ', under a new name γ', and keeps `LentAgain`. When κ' has ended and the last
-- list zs under γ' is known, it takes the places back and shuts its borrow at zs. Assumes what `Logic` holds.
use mathlib.Core.List.{List, [], ◌∷◌}
use mathlib.Core.Path.{◌≡◌, sym, ap, subst}
use Prim.Native.Nat.{ℕ}
use base.Fml.{Fml, GName, Lft, Share, fauth, fdead, flent, flft, fobor, fobs, fsep}
use base.Logic.{ent, ex, sep}
use denote.Index.{closes_slice, opens_slice, row, whole_in, whole_out}
use denote.Lend.{Held, lends_slice, slice_back}
use denote.Memory.{mem}
use denote.RattleType.{RattleType}
use denote.Ref.{MutBor}
use denote.Shadow.{pure_i, pure_l}
use denote.Slice.{MutSlice, Room, mut_slice_at, coded_holeys, finally, heres, slice_val}
use types.Logic.{Logic, sem}
use base.Fraction.{full_share}
use seplogic.Ra.Ura.{Ura}
use lib.ListN.{length}
use mir.Syntax.{Lifetime}
use mir.Val.{Val}
use types.Kit.{‵, ◌⊛◌, later, some, ◌$◌, ◌∵◌, !, await, done, drop, fjoin, frame, fsplit, move, now as at_once}
use types.Kit.{pick, qed, show, split, updating, use1, use3}
use types.SemTy.{Arr, cells}

module _ (R : RattleType) (κ κ' : Lft) (q : Share) (γ : GName) (b o : ℕ) where
  abbrev Values : Type 0
  Values = List R.Denot

  abbrev slice : GName → Values → MutBor Values
  slice name ys = record { ref_ptr = (b, o); ghost_name = name; now = ys }

  -- what stays with the holder: the lender's side of the loan for κ', and its own borrow at κ, open
  abbrev pub LentAgain : GName → Values → Fml
  LentAgain γ' ys =
      let said = (coded_holeys R).code (heres R ys) in
      let loan = flent κ' (Held R (length ys) b o γ') in
      fsep loan (fsep (fobor κ q (Held R (length ys) b o γ)) (fsep (fobs γ said) (fauth γ said)))

  module _ {M : Type 1} {𝓤 : Ura M} (𝓛 : Logic 𝓤) (ℓ ℓ' : Lifetime) (ys : Values) where
    open 𝓛 use {H, A}

    abbrev vals : List Val
    vals = slice_val (b, o) (length ys) ∷ []

    -- the slice as its holder has it, and as it is lent
    abbrev own : Values → Fml
    own zs = (MutSlice ℓ κ R).own_val (slice γ zs) vals

    abbrev lent : GName → Fml
    lent γ' = (MutSlice ℓ' κ' R).own_val (slice γ' ys) vals

    pub lends_again : ent 𝓤 (sep 𝓤 (sem 𝓛 (own ys)) (A.lft κ q))
        (H.⇛ (ex 𝓤 (λ (γ' : GName). sep 𝓤 (sem 𝓛 (lent γ')) (sem 𝓛 (LentAgain γ' ys)))))
    lends_again =
        qed 𝓛 (‵ (own ys) ∷ ‵ (flft κ q) ∷ []) ∵ updating ! $ fsplit !
        $ pure_l ! (mut_slice_at R (slice γ ys) vals) (λ p. fsplit ! $ opens_slice ! tt R ys b o
        $ use1 𝓛 (‵ (cells (mem R) ys b o)) (whole_in 𝓛 R ys b o)
        $ use1 𝓛 (later (some (λ (γ' : GName). ‵ (lent γ') ⊛ ‵ (flent κ' (Held R (length ys) b o γ')))))
        (lends_slice 𝓛 R ℓ' κ' ys b o p.1)
        $ await ! tt $ pick ! (λ γ'. split !
        -- [the slice that is lent; the loan for κ'; the open borrow; both halves of what γ says]
        $ at_once ! $ show ! (λ (γ'' : GName). sep 𝓤 (sem 𝓛 (lent γ'')) (sem 𝓛 (LentAgain γ'' ys))) γ' $ frame !
        $ move ! (2 ∷ 3 ∷ []) $ fjoin ! $ move ! (2 ∷ 0 ∷ []) $ fjoin ! $ move ! (1 ∷ 0 ∷ []) $ fjoin ! $ done !))

    pub comes_back : (γ' : GName) (zs : Values) → Room R (length ys) → length zs ≡ length ys
        → ent 𝓤 (sep 𝓤 (A.dead κ') (sep 𝓤 (sem 𝓛 (LentAgain γ' ys)) (sem 𝓛 (finally R γ' zs))))
        (H.⇛ (sep 𝓤 (sem 𝓛 (own zs)) (A.lft κ q)))
    comes_back γ' zs room as_long =
        qed 𝓛 (‵ (fdead κ') ∷ ‵ (LentAgain γ' ys) ∷ ‵ (finally R γ' zs) ∷ []) ∵ updating !
        $ move ! (1 ∷ []) $ fsplit ! $ move ! (2 ∷ 0 ∷ 3 ∷ [])
        $ use3 𝓛 (later (‵ ((Arr (mem R) (length ys)).own_at zs b o))) (slice_back 𝓛 R κ' γ' zs (length ys) b o)
        $ await ! tt $ fsplit ! $ drop ! $ use1 𝓛 (‵ (row R full_share zs b o)) (whole_out 𝓛 R zs b o)
        -- [the places; the open borrow and what γ says]
        $ move ! (1 ∷ []) $ fsplit ! $ move ! (1 ∷ []) $ fsplit ! $ move ! (3 ∷ 2 ∷ 0 ∷ 1 ∷ [])
        $ closes_slice ! tt R ys zs as_long b o $ at_once ! $ fjoin !
        $ pure_i ! (mut_slice_at R (slice γ zs) vals) (tt, (tt, tt))
        (ap (λ (n : ℕ). slice_val (b, o) n ∷ []) (sym as_long), subst (Room R) (sym as_long) room)
        $ fjoin ! $ done !
