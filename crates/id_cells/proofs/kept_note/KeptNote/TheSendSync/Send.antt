use denote.RattleType.{RattleType}
use denote.Param.Send.{IsSend}
use Rattle.id_cells.proofs.Sent.{kept_send}
use Rattle.id_cells.specs.contracts.kept_note.KeptNote.{the_row}

pub send : (T : RattleType) → IsSend (the_row T)
send = kept_send
