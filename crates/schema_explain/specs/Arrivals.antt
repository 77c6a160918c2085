-- Where a datum of a writer's node arrives with a reader's node, and what becomes of it there (Avro 1.11, "Schema
-- Resolution").
use Rattle.std.specs.Prelude.{ℕ, List, Option, Some, None, slice_get}
use Rattle.spec_avro.specs.Node.{Node, IntNode, LongNode, BytesNode, TextNode, EnumNode, ArrayNode, MapNode, UnionNode, RecordNode}
use Rattle.spec_avro.specs.declared.mismatch.MismatchKind.TheVariants.{NoMatch, NoBranch}
use Rattle.spec_avro.specs.Matching.{place}
use Rattle.spec_avro.specs.declared.place.Destination.{Destination}
use Rattle.spec_avro.specs.declared.place.Destination.TheVariants.{Straight, IntoMember, Nowhere, Unmatched}
use Rattle.schema_explain.specs.declared.arrivals.Arrival.{Arrival}
use Rattle.schema_explain.specs.declared.line.Fate.{Fate}
use Rattle.schema_explain.specs.declared.line.Fate.TheVariants.{Copied, Promoted, PromotedIfText, Parts, Mismatch}

-- what becomes of a datum of one node in another that it matches
abbrev pub fate_in : Option Node → Option Node → Fate
-- "int is promotable to long"
fate_in (Some IntNode) (Some LongNode) = Promoted
-- "string is promotable to bytes"
fate_in (Some TextNode) (Some BytesNode) = Promoted
-- "bytes is promotable to string", where they are UTF-8 (this project's own rule)
fate_in (Some BytesNode) (Some TextNode) = PromotedIfText
-- arrays, maps, enums and records are explained by their items, values, symbols and fields
fate_in (Some (ArrayNode item)) (Some (ArrayNode other)) = Parts
fate_in (Some (MapNode value)) (Some (MapNode other)) = Parts
fate_in (Some (EnumNode names symbols default)) (Some (EnumNode others theirs fallback)) = Parts
fate_in (Some (RecordNode names fields)) (Some (RecordNode others theirs)) = Parts
-- "both schemas have same primitive type", or are fixed
fate_in _ _ = Copied

-- in the reader's node itself
abbrev pub straight : ℕ → Fate → Arrival
straight r fate = record { branch = None; node = r; fate = fate }

module _ (R : List Node) where
  -- a datum of a writer's node of that kind, by its place with the reader's node r
  abbrev pub placed_at : Destination → Option Node → ℕ → Arrival
  placed_at Straight kind r = straight r (fate_in kind (slice_get R r))
  -- "the first schema in the reader's union that matches"
  placed_at (IntoMember position member) kind r =
      record { branch = Some position; node = member; fate = fate_in kind (slice_get R member) }
  placed_at Nowhere kind r = straight r (Mismatch NoBranch)
  placed_at Unmatched kind r = straight r (Mismatch NoMatch)

  -- the writer's union goes first, and is explained by its branches
  abbrev pub arrival_at : Destination → Option Node → ℕ → Arrival
  arrival_at place (Some (UnionNode members)) r = straight r Parts
  arrival_at place kind r = placed_at place kind r

-- a datum of the writer's node w, with the reader's node r
abbrev pub arrival : List Node → List Node → ℕ → ℕ → Arrival
arrival W R w r = arrival_at R (place W R w r) (slice_get W w) r
