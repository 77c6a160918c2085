use Rattle.std.proofs.Common.{◌≡◌, ◌<◌, ◌≤◌, ◌-◌, ◌+◌, ◌*◌, length}
use Rattle.avro_types.specs.Node.{fields_of}
use Rattle.avro_datum.specs.declared.parts.Parts.TheVariants.{Fields}
use Rattle.avro_datum.specs.Decoding.{record_at}
use Rattle.avro_datum.specs.ItemDecoding.{blocks_at}
use Rattle.avro_datum.specs.Walking.{part_at}
use Rattle.avro_datum.proofs.ByKind.{deeper}
use Rattle.avro_datum.proofs.Fields as fields
use Rattle.avro_datum.proofs.Items as items
use Rattle.avro_datum.proofs.walking.+walk.Given as goal
use Rattle.spec_avro.specs.declared.limits.TheConstants.{MOST_DEPTH, MOST_UNITS}

-- a union's member lies no deeper, a record's, array's or map's parts do

abbrev pub decreases-walk_node : goal.decreases-walk_node
decreases-walk_node g l = 3 * (MOST_DEPTH - l.meter.depth) + 2

abbrev pub decreases-walk_plain : goal.decreases-walk_plain
decreases-walk_plain g l = 3 * (MOST_DEPTH - l.meter.depth) + 1

abbrev pub decreases-walk_record : goal.decreases-walk_record
decreases-walk_record g l = 3 * (MOST_DEPTH - l.meter.depth)

abbrev pub decreases-walk_blocks : goal.decreases-walk_blocks
decreases-walk_blocks g l = 3 * (MOST_DEPTH - l.meter.depth)

abbrev pub invariant-walk_record-loop-field : goal.invariant-walk_record-loop-field
invariant-walk_record-loop-field g l =
    let decoder = deeper l.fn.meter l.nodes l.bytes in
    record {
      within : l.to ≤ length l.bytes;
      shallow : l.fn.meter.depth < MOST_DEPTH;
      depth : l.so_far.depth ≡ l.fn.meter.depth + 1;
      units : l.fn.meter.units ≤ l.so_far.units;
      fields : fields.SoFar (g.S.Sink.holds Fields) decoder l.fields l.fn.meter.depth (record_at decoder (fields_of l.fields) l.fn.at l.fn.meter) l.field-index l.group l.to l.so_far;
    }

abbrev pub invariant-walk_blocks-parts : goal.invariant-walk_blocks-parts
invariant-walk_blocks-parts g l =
    let reader = part_at l.blocks.parts (deeper l.fn.meter l.nodes l.bytes) l.bytes l.blocks.inner in
    record {
      within : l.to ≤ length l.bytes;
      shallow : l.fn.meter.depth < MOST_DEPTH;
      depth : l.so_far.depth ≡ l.fn.meter.depth + 1;
      units : l.fn.meter.units ≤ l.so_far.units;
      items : items.SoFar (g.S.Sink.holds l.blocks.parts) reader l.bytes (blocks_at reader l.bytes l.fn.at l.fn.meter) l.walk l.group l.to l.so_far;
    }

abbrev pub decreases-walk_blocks-parts : goal.decreases-walk_blocks-parts
decreases-walk_blocks-parts g l = MOST_UNITS - l.so_far.units
