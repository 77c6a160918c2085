-- The machine value of a `Held`, a pointer alone, and what it owns. It is put together and taken apart here.
use Rattle.std.proofs.Common.{◌≡◌, ℕ, List, [], ◌∷◌, ◌++◌, refl, sym, subst}
use mathlib.Core.Bool.{Bool, true, false}
use lib.Dec.{T}
use seplogic.Ra.Ura.{Ura}
use mir.Raw.{raw as bare}
use mir.Val.{Val, vstruct, vcons, vnil, of_list}
use base.Logic.{never, fst∗}
use types.Logic.{Logic, sem}
use types.Kit.{Item, Goal, Seq, Step, step, ‵, ◌$◌, drop, fsplit, fjoin, fpick, fpack, feq_i, feq_l}
use denote.RattleType.{RattleType, Valss}
use denote.Builtin.{RawPtr}
use denote.Memory.{lone}
use denote.RawPtr.{Ptr, block_ptr, null_ptr, ptr_val, in_a_block}
use denote.Steps.{nothing}
use denote.Struct.Struct.{within}
use denote.Struct.Owning.{shape}
use Rattle.std.specs.Prelude.{Option, Some, None, is_some}
use Rattle.std.specs.Box.Ownership.{box_owns}
use Rattle.libc.specs.Heap.{chunk}
use Rattle.embedding.specs.contracts.owning.OwningTranscoder as transcoder
use Rattle.transcoder_handle.specs.Held.{held_owns}
use Rattle.transcoder_handle.specs.contracts.held.Held as held

-- a struct of one field, a pointer
abbrev pub word : Ptr → Val
word p = vstruct (vcons (ptr_val p) vnil)

abbrev pub R : RattleType
R = transcoder.the_row

false-true {ℓ} : {X : Type ℓ} → false ≡ true → X
false-true e = absurd (subst (λ (y : Bool). T y) (sym e) tt)

module _ {M : Type 1} {𝓤 : Ura M} {𝓛 : Logic 𝓤} {K : Type 0} {Γ : List (Item 𝓤)} {G : Goal 𝓤 𝓛.H} where
  -- put together of a pointer and what it then owns
  pub held_in : K → (p : Ptr) (x : Option R.Denot)
      → Step K 𝓛 (‵ ((held.the_row).own_val (record { at = p; value = x }) (word p ∷ [])) ∷ Γ) G
      (‵ (held_owns p x) ∷ Γ) G
  held_in t p x = step (λ s.
      nothing t $ feq_i t (List Val) (ptr_val p ∷ []) (ptr_val p ∷ []) refl $ fjoin t $
      feq_i t (List Val) (word p ∷ []) (word p ∷ []) refl $ fjoin t $
      fpack t (Valss (RawPtr ∷ [])) (within (shape held.the_type) (p, tt) (word p ∷ [])) (ptr_val p ∷ [], tt) $
      fjoin t $ s)

  -- and taken apart
  pub held_out : K → (d : (held.the_row).Denot) (vs : List Val)
      → (vs ≡ word d.at ∷ [] → Seq K 𝓛 (‵ (held_owns d.at d.value) ∷ Γ) G)
      → Seq K 𝓛 (‵ ((held.the_row).own_val d vs) ∷ Γ) G
  held_out t d vs k =
      fsplit t $ fpick t (λ vss. fsplit t $ feq_l t (λ ev. fsplit t $ feq_l t (λ ep. drop t $
      k (subst (λ (ps : List Val). vs ≡ vstruct (of_list (ps ++ [])) ∷ []) ep ev))))

  -- what one that holds a value owns is a box, whose pointer leads to a block
  pub held_box : K → (p : Ptr) (x : Option R.Denot) → is_some x ≡ true
      → ((b o : ℕ) (z : R.Denot) → p ≡ block_ptr b o → Some z ≡ x
      → Seq K 𝓛 (‵ (box_owns (λ ty q. chunk ty q) R (block_ptr b o) z) ∷ Γ) G)
      → Seq K 𝓛 (‵ (held_owns p x) ∷ Γ) G
  held_box t p (Some z) e k =
      in_a_block t p (λ q. box_owns (λ ty r. chunk ty r) R q z)
      (fst∗ 𝓤 (never 𝓤) (sem 𝓛 (chunk (bare (lone R.mir)) null_ptr))) (λ b o e'. k b o z e' refl)
  held_box t p None e k = false-true e
