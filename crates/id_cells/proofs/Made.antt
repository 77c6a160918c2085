-- A `KeptNote` as a value. Assumes `Logic`.
use Rattle.std.proofs.Common.{ℕ, [], ◌∷◌, refl, Option}
use seplogic.Ra.Ura.{Ura}
use mir.Val.{Val, vstruct, vcons, vnil}
use base.Logic.{ent}
use types.Logic.{Logic, sem}
use types.Kit.{‵, ◌$◌, ◌∵◌, !, qed, use0, done}
use denote.RattleType.{RattleType}
use denote.Shadow.{makes_shadow}
use denote.Struct.Struct.{Struct}
use denote.Struct.Owning.{shape}
use Rattle.once_cell.specs.Once.{noted}
use Rattle.id_cells.specs.contracts.kept_note.KeptNote as Kept

abbrev pub token_val : Val
token_val = vstruct (vcons (vstruct vnil) vnil)

pub kept_made : {M : Type 1} {𝓤 : Ura M} (𝓛 : Logic 𝓤) (R : RattleType) (γ : ℕ) (k : Option R.Denot)
    → ent 𝓤 (sem 𝓛 (noted R γ k)) (sem 𝓛 ((Kept.the_row R).own_val (record { marker = record {}; cell = γ; known = k }) (token_val ∷ [])))
kept_made 𝓛 R γ k = let F = (Struct (shape (Kept.the_type R))).own_val (tt, tt) (token_val ∷ []) in
    qed 𝓛 (‵ (noted R γ k) ∷ []) ∵ use0 𝓛 (‵ F) (makes_shadow 𝓛 F (λ vss. (tt, ((λ uss. (tt, tt)), tt))) ((vstruct vnil ∷ [], tt), (refl, ((tt, (refl, tt)), tt)))) $ done !
