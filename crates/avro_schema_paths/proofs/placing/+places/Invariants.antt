-- Each level of the value takes eight steps: an element, its object, a record, its list of fields, an attribute.
use Rattle.std.proofs.Common.{◌+◌, ◌*◌, map}
use Rattle.serde_json.specs.Data.{depth, items_depth}
use Rattle.serde_json.specs.View.{view, items_view}
use Rattle.avro_types.specs.Node.{fields_of}
use Rattle.avro_schema_names.specs.Draft.{data_at}
use Rattle.avro_schema_names.proofs.Depths.{option_depth}
use Rattle.avro_schema_paths.specs.Parts.{InField, InMember}
use Rattle.avro_schema_paths.specs.Adds.{Adds}
use Rattle.avro_schema_paths.proofs.placing.+places.Given as goal

abbrev pub decreases-add_places : goal.decreases-add_places
decreases-add_places l = 8 * depth (view l.value.now) + 5

abbrev pub decreases-add_object : goal.decreases-add_object
decreases-add_object l = 8 * depth (view l.value.now) + 4

abbrev pub decreases-add_record : goal.decreases-add_record
decreases-add_record l = 8 * option_depth (data_at l.value) + 3

abbrev pub decreases-add_fields : goal.decreases-add_fields
decreases-add_fields l = 8 * option_depth (data_at l.value) + 2

abbrev pub decreases-add_array : goal.decreases-add_array
decreases-add_array l = 8 * option_depth (data_at l.value) + 2

abbrev pub decreases-add_map : goal.decreases-add_map
decreases-add_map l = 8 * option_depth (data_at l.value) + 2

abbrev pub decreases-add_held : goal.decreases-add_held
decreases-add_held l = 8 * option_depth (data_at l.value) + 1

abbrev pub decreases-add_wrapped : goal.decreases-add_wrapped
decreases-add_wrapped l = 8 * option_depth (data_at l.value) + 1

abbrev pub decreases-add_union : goal.decreases-add_union
decreases-add_union l = 8 * items_depth (items_view l.items.now) + 11

abbrev pub decreases-add_members : goal.decreases-add_members
decreases-add_members l = 8 * items_depth (items_view l.items.now) + 10

abbrev pub decreases-add_listed : goal.decreases-add_listed
decreases-add_listed l = 8 * items_depth (items_view l.items.now) + 10

abbrev pub invariant-add_members-loop-i : goal.invariant-add_members-loop-i
invariant-add_members-loop-i l = Adds (InMember l.nodes l.i (items_view l.items) l.members l.path) l.fn.out.items l.out.items

abbrev pub invariant-add_listed-loop-i : goal.invariant-add_listed-loop-i
invariant-add_listed-loop-i l = Adds (InField l.nodes l.i (items_view l.items) (map (λ f. f.node) (fields_of l.fields)) l.path) l.fn.out.items l.out.items
