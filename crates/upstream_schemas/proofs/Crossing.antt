-- That threads may share the schemas of an upstream registry (`UpstreamSchemas` is `Sync`).
use denote.Param.Send.{IsSend, IsSync, sendable, shr_sync, view_sync}
use denote.Param.SendFields.{FieldsHave, declared_sync}
use denote.Ref.{NamedLft}
use denote.RattleType.{RattleType}
use Rattle.std.proofs.Crossing.{crosses}
use Rattle.avro_schema.proofs.Crossing.{schema-send, schema-sync}
use Rattle.boxcar.proofs.slot.OnceSlot.TheSendSync as slot
use Rattle.id_cells.proofs.Crossing as ids
use Rattle.id_cells.proofs.Crossing.{table-sync}
use Rattle.schema_registry.proofs.Crossing.{kept-send, kept-sync, shared-sync}
use Rattle.upstream_schemas.specs.contracts.cells.SharedCells as cells
use Rattle.upstream_schemas.specs.contracts.held.Held as held
use Rattle.upstream_schemas.specs.contracts.known.KnownNaming as known
use Rattle.upstream_schemas.specs.contracts.known.KnownNamings as namings
use Rattle.upstream_schemas.specs.contracts.schemas.UpstreamSchemas as schemas
use Rattle.upstream_schemas.specs.contracts.schemas.UpstreamSchemas.TheInside as inside
use Rattle.upstream_schemas.specs.declared.upstream.Upstream as upstream

module _ (U : RattleType) (g : upstream.Ghosts U.Denot) where
  held-send : IsSend (held.the_row U g)
  held-send = search (schema-send, crosses, sendable) depth 60 fits 20000

  held-sync : IsSync (held.the_row U g)
  held-sync = search (schema-sync, crosses, sendable) depth 60 fits 20000

  known-send : IsSend (known.the_row U g)
  known-send = search (ids.kept-send, kept-send, crosses, sendable) depth 60 fits 20000

  known-sync : IsSync (known.the_row U g)
  known-sync = search (ids.kept-sync, kept-sync, crosses, sendable) depth 60 fits 20000

  namings-sync : IsSync (namings.the_row U g)
  namings-sync = search (known-send, known-sync, slot.the_sync, crosses, sendable) depth 60 fits 20000

  cells-sync : (κ : NamedLft) → IsSync (cells.the_row κ U g)
  cells-sync κ = search (held-send, held-sync, table-sync, shared-sync, shr_sync, crosses, sendable) depth 60 fits 20000

  fields-sync : (κ : NamedLft) → FieldsHave IsSync (inside.the_type κ U g).parts
  fields-sync κ = (search (crosses, sendable) depth 60, (search (crosses, sendable) depth 60, (cells-sync κ, (namings-sync, (search (crosses, sendable) depth 60, tt)))))

  pub schemas-sync : (κ : NamedLft) → IsSync (schemas.the_row κ U g)
  schemas-sync κ = view_sync _ _ _ _ _ (declared_sync (inside.the_type κ U g) (fields-sync κ))
