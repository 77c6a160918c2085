-- What is kept holds a name alone, so it may be given to another thread, and shared.
use Prim.Native.Nat.{ℕ}
use base.Shift.{Keyless}
use denote.RattleType.{RattleType}
use denote.Param.Send.{IsSend, IsSync, sendable}
use denote.Struct.Owning
use denote.Struct.Struct
use Rattle.std.specs.declared.option.Option.{Option}
use Rattle.std.specs.declared.option.Option.TheVariants.{None, Some}
use Rattle.once_cell.specs.Once.{noted}
use Rattle.id_cells.specs.contracts.kept_note.KeptNote as Kept

noted_keyless : (R : RattleType) (γ : ℕ) (k : Option R.Denot) → Keyless (noted R γ k)
noted_keyless R γ None = tt
noted_keyless R γ (Some x) = tt

pub kept_send : (T : RattleType) → IsSend (Kept.the_row T)
kept_send T = record { owned = λ n vs. ((λ vss. (tt, ((λ uss. (tt, tt)), tt))), noted_keyless T n.cell n.known); leaving = λ k d w. tt }

pub kept_sync : (T : RattleType) → IsSync (Kept.the_row T)
kept_sync T = let fields : IsSync (denote.Struct.Struct.Struct (denote.Struct.Owning.shape (Kept.the_type T))) = search sendable depth 20 in
    record { shared = λ d b o κ. (fields.shared (tt, tt) b o κ, noted_keyless T d.cell d.known) }
