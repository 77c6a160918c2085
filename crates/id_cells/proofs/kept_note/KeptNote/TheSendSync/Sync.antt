use denote.RattleType.{RattleType}
use denote.Param.Send.{IsSync}
use Rattle.id_cells.proofs.Sent.{kept_sync}
use Rattle.id_cells.specs.contracts.kept_note.KeptNote.{the_row}

pub sync : (T : RattleType) → IsSync (the_row T)
sync = kept_sync
