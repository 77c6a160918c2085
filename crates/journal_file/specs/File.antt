-- What an open file is as a `Disk`. This project's own.
use Rattle.std.specs.Prelude.{◌≡◌, Bool, [], ◌∷◌}
use Rattle.sqlite_disk.specs.declared.modelled.Modelled.{Modelled}
use Rattle.sqlite_disk.specs.declared.calls.Calls as calls
use Rattle.sqlite_disk.specs.declared.start.Start.{Ghosts}
use Rattle.sqlite_disk.specs.Modelled.{start_of}
use Rattle.sqlite_disk.specs.Events.{settled, replay}
use Rattle.journal_file.specs.declared.host.Host.{Host}

module _ {S : Type 0} {g : calls.Ghosts Host} where
  -- no sync of it has failed
  abbrev pub file_is_usable : (start : Ghosts S) → Modelled Host S g start → Bool
  file_is_usable start f = (replay (start_of start f) f.calls.log.events).is_usable

  -- it holds the contents that `Start` names `log` or `db`, was settled, and no call was made since
  abbrev pub IsFresh : {start : Ghosts S} → Bool → Modelled Host S g start → Type 0
  IsFresh is_log f = (f.is_log ≡ is_log) × (f.calls.log.events ≡ settled f.key ∷ [])
