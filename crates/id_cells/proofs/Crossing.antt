-- That threads may share one table (`IdTable` is `Sync`), and give one another tables and notes of it, level by level.
use denote.Param.Send.{IsSend, IsSync, sendable}
use denote.RattleType.{RattleType}
use Rattle.std.proofs.Crossing.{crosses}
use Rattle.once_cell.proofs.race.note.Note.TheSendSync as note
use Rattle.once_cell.proofs.race.once_box.OnceBox.TheSendSync as cell
use Rattle.id_cells.proofs.kept_note.KeptNote.TheSendSync as kept
use Rattle.id_cells.specs.contracts.kept_id_note.KeptIdNote as kept_note
use Rattle.id_cells.specs.contracts.note.IdNote as id_note
use Rattle.id_cells.specs.contracts.row.Row as row
use Rattle.id_cells.specs.contracts.table.IdTable as table

row-send : (T : RattleType) → IsSend T → IsSend (row.the_row T)
row-send T goes = search (cell.the_send, crosses, sendable) depth 60 fits 20000

row-sync : (T : RattleType) → IsSend T → IsSync T → IsSync (row.the_row T)
row-sync T goes shared = search (cell.the_sync, crosses, sendable) depth 60 fits 20000

pub table-send : (T : RattleType) → IsSend T → IsSend (table.the_row T)
table-send T goes = search (row-send, crosses, sendable) depth 60 fits 20000

pub table-sync : (T : RattleType) → IsSend T → IsSync T → IsSync (table.the_row T)
table-sync T goes shared = search (row-send, row-sync, crosses, sendable) depth 60 fits 20000

pub note-send : (T : RattleType) → IsSend (id_note.the_row T)
note-send T = search (note.the_send, crosses, sendable) depth 60 fits 20000

pub kept-send : (T : RattleType) → IsSend (kept_note.the_row T)
kept-send T = search (kept.the_send, crosses, sendable) depth 60 fits 20000

pub kept-sync : (T : RattleType) → IsSync (kept_note.the_row T)
kept-sync T = search (kept.the_sync, crosses, sendable) depth 60 fits 20000
