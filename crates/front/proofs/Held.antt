-- What a reader owns: what its text owns, and the facts of its place. It is Copy, so what it owns is had twice; its text's
-- part can be taken out of it; a reader is made of a text's part and the facts of a place; and with a kind, which owns only
-- facts, it is taken apart for a function that asks for the text, the place and the kind. Laws for a walk by hand over a
-- function that is passed a reader or hands one back; those of this crate need none. Assumes what `Logic` holds.
use mathlib.Core.List.{List, [], ◌∷◌}
use mathlib.Core.Path.{◌≡◌}
use Prim.Native.Nat.{ℕ}
use base.Fml.{Fml, Lft}
use base.Logic.{ent, sep}
use contract.Lifetimes.{Lfts}
use denote.Builtin.{u8}
use denote.Enum.Laws as EL
use denote.Laws.{Is, Tells}
use denote.RattleType.{RattleType, owns}
use denote.Ref.{NamedLft, Bor}
use denote.Signature.{named_lft}
use denote.Slice.{ShrSlice, slice_val}
use denote.Steps.{nothing, owned}
use denote.Struct.Declared.{Declared}
use denote.Struct.Laws as LL
use denote.Struct.Rest.{all_own, own_open, own_out, own_shut, field_own, rest}
use denote.Struct.Values.{Values}
use types.Logic.{Logic, sem}
use seplogic.Ra.Ura.{Ura}
use lib.ListN.{length}
use mir.Syntax.{named}
use mir.Val.{Val}
use types.Kit.{‵, ◌⊛◌, given, ◌$◌, ◌∵◌, !, by, done, drop, fjoin, frame, learn, move, qed, split, use1}
use Rattle.lending.proofs.Steps.{Fits}
use Rattle.text.specs.declared.Cursor.{Cursor}
use Rattle.text.specs.contracts.Cursor as P
use Rattle.text.proofs.Cursor.TheLaws as P'
use Rattle.front.specs.Reading.{reader_at}
use Rattle.front.specs.declared.Kind.{Kind}
use Rattle.front.specs.declared.Reader.{Reader}
use Rattle.front.specs.contracts.Kind as K
use Rattle.front.proofs.Kind.TheLaws as K'
use Rattle.front.specs.contracts.Reader as T
use Rattle.front.proofs.Reader.TheLaws as T'

-- the type of a reader, over a signature's one lifetime
abbrev pub OfReader : Lfts 1 → RattleType
OfReader κs = T.the_row (named_lft 1 0 tt κs)

-- the machine value of a text
abbrev pub text_val : Bor (List ℕ) → Val
text_val text = slice_val text.ref_ptr (length text.now)

-- the facts of a place
abbrev pub IsPlace : Cursor → Type 0
IsPlace place = Is P.the_row place (P'.lowered place ∷ [])

-- the machine value of a kind, and its facts
abbrev pub kind_val : Kind → Val
kind_val kind = EL.val K.the_type K'.the_laws kind

abbrev pub IsKind : Kind → Type 0
IsKind kind = Is K.the_row kind (kind_val kind ∷ [])

-- the machine values of a place and of a kind lie at their types
module _ {M : Type 1} {𝓤 : Ura M} (𝓛 : Logic 𝓤) where
  pub place_fits : (place : Cursor) (v : Val) → Is P.the_row place (v ∷ []) → Fits P'.mir v
  place_fits place v is = ((LL.lawful P.the_type P'.the_laws 𝓛).typed place (v ∷ []) is).0

  pub kind_fits : (kind : Kind) → IsKind kind → Fits K'.mir (kind_val kind)
  kind_fits kind is = ((EL.lawful K.the_type K'.the_laws 𝓛 tt).typed kind (kind_val kind ∷ []) is).0

-- how a reader's machine value is spelled, and that its type tells it
abbrev pub reader_vals : Lfts 1 → Reader → List Val
reader_vals κs = LL.vals (T.the_type (named_lft 1 0 tt κs)) (T'.the_laws (named_lft 1 0 tt κs))

pub reader_tells : (κs : Lfts 1) → Tells (OfReader κs) (Is (OfReader κs)) (reader_vals κs)
reader_tells κs = LL.tells (T.the_type (named_lft 1 0 tt κs)) (T'.the_laws (named_lft 1 0 tt κs))

module _ (κ : Lft) where
  abbrev α : NamedLft
  α = named_lft 1 0 tt (κ, tt)

  abbrev D : Declared
  D = T.the_type α

  abbrev L : LL.Laws D
  L = T'.the_laws α

  abbrev values : Reader → Values D.parts
  values d = (d.text, (d.place, tt))

  abbrev pub Own : Reader → Fml
  Own d = (OfReader (κ, tt)).own_val d (T'.lowered d ∷ [])

  abbrev pub OwnText : Bor (List ℕ) → Fml
  OwnText text = (ShrSlice (named 0) κ u8).own_val text (text_val text ∷ [])

  -- what a reader, and a text and a place, own beside a kind
  abbrev pub OwnPassed : Reader → Kind → Fml
  OwnPassed d kind = owns (OfReader (κ, tt) ∷ K.the_row ∷ []) (d, (kind, tt)) (T'.lowered d ∷ [], (kind_val kind ∷ [], tt))

  abbrev pub OwnApart : Reader → Kind → Fml
  OwnApart d kind =
      owns (ShrSlice (named 0) κ u8 ∷ P.the_row ∷ K.the_row ∷ []) (d.text, (d.place, (kind, tt)))
      (text_val d.text ∷ [], (P'.lowered d.place ∷ [], (kind_val kind ∷ [], tt)))

  -- the facts of a reader
  abbrev pub IsReader : Reader → Type 0
  IsReader d = Is (OfReader (κ, tt)) d (T'.lowered d ∷ [])

  pub place_is : (d : Reader) → IsReader d → IsPlace d.place
  place_is d p = (LL.owed D L d (T'.lowered d ∷ []) p).1.0

  module _ {M : Type 1} {𝓤 : Ura M} (𝓛 : Logic 𝓤) where
    -- its machine value lies at its type
    pub reader_fits : (d : Reader) → IsReader d → Fits (T'.mir (named 0)) (T'.lowered d)
    reader_fits d is = ((LL.lawful D L 𝓛).typed d (T'.lowered d ∷ []) is).0

    pub twice : (d : Reader) → ent 𝓤 (sem 𝓛 (Own d)) (sep 𝓤 (sem 𝓛 (Own d)) (sem 𝓛 (Own d)))
    twice d = (LL.copy D (T'.the_copy α) 𝓛).twice d (T'.lowered d ∷ [])

    pub text_out : (d : Reader) → ent 𝓤 (sem 𝓛 (Own d)) (sem 𝓛 (OwnText d.text))
    text_out d =
        qed 𝓛 (‵ (Own d) ∷ []) ∵
        use1 𝓛 (given (T'.lowered d ∷ [] ≡ T'.lowered d ∷ []) (‵ (all_own D.parts L (values d))))
        (own_open 𝓛 D L (values d) (T'.lowered d))
        $ learn ! (λ _. use1 𝓛 (‵ (field_own D.parts L 0 d.text) ⊛ ‵ (rest D.parts L 0 (values d)))
        (own_out 𝓛 D.parts L 0 (values d)) $ split ! $ move ! (1 ∷ []) $ drop ! $ done !)

    pub reader_in : (text : Bor (List ℕ)) (place : Cursor) → IsPlace place
        → ent 𝓤 (sem 𝓛 (OwnText text)) (sem 𝓛 (Own (reader_at text place)))
    reader_in text place is =
        qed 𝓛 (‵ (OwnText text) ∷ []) ∵ nothing !
        $ owned ! P.the_row (Is P.the_row) (LL.makes P.the_type P'.the_plain 𝓛) place _ is
        $ fjoin ! $ move ! (1 ∷ 0 ∷ []) $ fjoin ! $ by ! (own_shut 𝓛 D L (values (reader_at text place)))

    module _ (d : Reader) (kind : Kind) (is_kind : IsKind kind) where
      -- a reader and a kind are lent, part by part, and the reader is kept whole
      pub lends : IsPlace d.place → ent 𝓤 (sem 𝓛 (Own d)) (sep 𝓤 (sem 𝓛 (OwnApart d kind)) (sem 𝓛 (Own d)))
      lends is =
          qed 𝓛 (‵ (Own d) ∷ []) ∵ use1 𝓛 (‵ (Own d) ⊛ ‵ (Own d)) (twice d) $ split !
          $ use1 𝓛 (‵ (OwnText d.text)) (text_out d)
          $ nothing ! $ owned ! K.the_row (Is K.the_row) (EL.makes K.the_type K'.the_plain 𝓛) kind _ is_kind $ fjoin !
          $ owned ! P.the_row (Is P.the_row) (LL.makes P.the_type P'.the_plain 𝓛) d.place _ is $ fjoin !
          $ move ! (1 ∷ 0 ∷ []) $ fjoin ! $ frame ! $ done !

      -- a reader and a kind as they were passed
      pub as_passed : ent 𝓤 (sem 𝓛 (Own d)) (sem 𝓛 (OwnPassed d kind))
      as_passed =
          qed 𝓛 (‵ (Own d) ∷ []) ∵ nothing !
          $ owned ! K.the_row (Is K.the_row) (EL.makes K.the_type K'.the_plain 𝓛) kind _ is_kind $ fjoin !
          $ move ! (1 ∷ 0 ∷ []) $ fjoin ! $ done !
