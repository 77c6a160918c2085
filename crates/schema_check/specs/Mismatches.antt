-- What the bad pairs say of data: each mismatch that a datum of the writer meets is at one of them.
use Rattle.std.specs.Prelude.{◌≡◌, ◌⊎◌, List, Some, Ok, Err, slice_get}
use Rattle.spec_avro.specs.Conforming.{Conforms}
use Rattle.spec_avro.specs.Datum.{Datum}
use Rattle.spec_avro.specs.Node.{Node, FieldNode}
use Rattle.spec_avro.specs.WellFormed.{IsWellFormed}
use Rattle.spec_avro.specs.declared.mismatch.Mismatch.{Mismatch}
use Rattle.spec_avro.specs.declared.mismatch.MismatchKind.TheVariants.{BytesNotText}
use Rattle.spec_avro.specs.Resolution.{Resolved, field_lists, lacking, resolved}
use Rattle.spec_avro.specs.Safety.{Pair, Reached}
use Rattle.schema_check.specs.BadKinds.{IsBadBy}

-- A reached bad pair that a mismatch is of: its kind is the mismatch's, and so are its nodes, but that the mismatch
-- names the node of the first field that lacks in place of its record's.
pub record IsMismatchOf (W R : List Node) (m : Mismatch) : Type 0 where
  pub p : Pair
  pub reached : Reached W R p
  pub bad : IsBadBy W R m.kind p
  pub writer : m.writer_node ≡ p.0
  pub reader : (m.reader_node ≡ p.1) ⊎ ((ws : List FieldNode) × (rs : List FieldNode) × (g : FieldNode)
      × (field_lists (slice_get W p.0) (slice_get R p.1) ≡ Some (ws, rs)) × (lacking ws rs ≡ Some g)
      × (m.reader_node ≡ g.node))

-- a value, or a mismatch that is of bytes or of a reached bad pair
abbrev pub HasBadPair : {A : Type 0} → List Node → List Node → Resolved A → Type 0
HasBadPair W R (Ok a) = Unit {0}
HasBadPair W R (Err m) = (m.kind ≡ BytesNotText) ⊎ IsMismatchOf W R m

-- each mismatch of a writer's datum, but of bytes, is at a bad pair that is reached
abbrev pub MismatchesHaveBadPairs : Type 0
MismatchesHaveBadPairs = (W R : List Node) (d : Datum) → IsWellFormed R → Conforms W 0 d
    → HasBadPair W R (resolved W R 0 0 d)
