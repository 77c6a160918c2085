-- That threads may use one cache of programs (`ProgramCache` is `Sync`), level by level, and what it shows.
use denote.Param.Send.{IsSend, IsSync, enum_send, enum_sync, recorded_send, recorded_sync, sendable, view_sync}
use denote.Param.SendFields.{FieldsHave, declared_sync}
use denote.Enum.Declared.{shape}
use denote.RattleType.{RattleType}
use denote.Ref.{NamedLft}
use Rattle.std.proofs.Crossing.{crosses, sync}
use Rattle.boxcar.proofs.slot.OnceSlot.TheSendSync as slot
use Rattle.once_cell.proofs.race.once_box.OnceBox.TheSendSync as cell
use Rattle.avro_schema.proofs.Crossing.{schema-send, schema-sync}
use Rattle.machine.proofs.Crossing.{pair-send, pair-sync}
use Rattle.schema_registry.proofs.Crossing.{kept-send, kept-sync, shared-sync}
use Rattle.program_cache.specs.contracts.cache.ProgramCache as cache
use Rattle.program_cache.specs.contracts.cache.ProgramCache.TheInside as inside
use Rattle.program_cache.specs.contracts.compiled.Cells as cells
use Rattle.program_cache.specs.contracts.compiled.Compiled as compiled
use Rattle.program_cache.specs.contracts.compiled.LargePair as large
use Rattle.program_cache.specs.contracts.cache.KnownPair as known
use Rattle.program_cache.specs.contracts.cache.KnownPairs as table

large-send : IsSend large.the_row
large-send = search (schema-send, crosses, sendable) depth 60 fits 20000

large-sync : IsSync large.the_row
large-sync = search (schema-sync, crosses, sendable) depth 60 fits 20000

compiled-send : IsSend compiled.the_row
compiled-send = recorded_send _ _ compiled.the_type.to compiled.the_type.to_one
    (enum_send (shape compiled.the_type) ((search (pair-send, crosses, sendable) depth 60 fits 20000, tt), ((search (schema-send, crosses, sendable) depth 60 fits 20000, tt), tt)))

pub compiled-sync : IsSync compiled.the_row
compiled-sync = recorded_sync _ _ compiled.the_type.to compiled.the_type.to_one
    (enum_sync (shape compiled.the_type) ((search (pair-sync, crosses, sendable) depth 60 fits 20000, tt), ((search (schema-sync, crosses, sendable) depth 60 fits 20000, tt), tt)))

known-send : IsSend known.the_row
known-send = search (kept-send, compiled-send, crosses, sendable) depth 60 fits 20000

known-sync : IsSync known.the_row
known-sync = search (kept-sync, compiled-sync, crosses, sendable) depth 60 fits 20000

table-sync : IsSync table.the_row
table-sync = search (known-send, known-sync, slot.the_sync, crosses, sendable) depth 60 fits 20000

-- the cells, level by level

abbrev block : RattleType
block = cells.the_row compiled.the_row

abbrev row : RattleType
row = cells.the_row block

abbrev rows : RattleType
rows = cells.the_row row

block-send : IsSend block
block-send = search (compiled-send, cell.the_send, crosses, sendable) depth 60 fits 20000

block-sync : IsSync block
block-sync = search (compiled-send, compiled-sync, cell.the_sync, crosses, sendable) depth 60 fits 20000

row-send : IsSend row
row-send = search (block-send, cell.the_send, crosses, sendable) depth 60 fits 20000

row-sync : IsSync row
row-sync = search (block-send, block-sync, cell.the_sync, crosses, sendable) depth 60 fits 20000

rows-send : IsSend rows
rows-send = search (row-send, cell.the_send, crosses, sendable) depth 60 fits 20000

rows-sync : IsSync rows
rows-sync = search (row-send, row-sync, cell.the_sync, crosses, sendable) depth 60 fits 20000

all-sync : IsSync (cells.the_row rows)
all-sync = search (rows-send, rows-sync, cell.the_sync, crosses, sendable) depth 60 fits 20000

fields-sync : (κ : NamedLft) → FieldsHave IsSync (inside.the_type κ).parts
fields-sync κ = (sync, (search (shared-sync, sendable) depth 30, (table-sync, (all-sync, tt))))

pub cache-sync : (κ : NamedLft) → IsSync (cache.the_row κ)
cache-sync κ = view_sync _ _ _ _ _ (declared_sync (inside.the_type κ) (fields-sync κ))
