use Rattle.std.proofs.Common.{◌≡◌, ◌+◌, ◌*◌, drop, []}
use Rattle.std.specs.Arc.{arc_str_bytes}
use Rattle.serde_json.specs.Data.{depth, items_depth}
use Rattle.serde_json.specs.View.{view, items_view}
use Rattle.avro_schema_names.specs.Draft.{field_names, data_at}
use Rattle.avro_schema.specs.Contract.{run}
use Rattle.avro_schema_names.specs.Index.{IsNamespaceOf}
use Rattle.spec_schema.specs.Walk.{fields_after, members}
use Rattle.avro_schema.proofs.FieldList.{behind}
use Rattle.avro_schema_names.proofs.Depths.{option_depth}
use Rattle.avro_schema.proofs.walking.+walk.Given as goal

-- Each level of the value takes eight steps: a field, its type, an object, a record, its list of fields.
abbrev pub decreases-walk : goal.decreases-walk
decreases-walk l = 8 * depth (view l.value.now) + 5

abbrev pub decreases-walk_at : goal.decreases-walk_at
decreases-walk_at l = 8 * option_depth (data_at l.value)

abbrev pub decreases-walk_union : goal.decreases-walk_union
decreases-walk_union l = 8 * items_depth (items_view l.items.now) + 7

abbrev pub decreases-walk_members : goal.decreases-walk_members
decreases-walk_members l = 8 * items_depth (items_view l.items.now) + 6

abbrev pub decreases-walk_object : goal.decreases-walk_object
decreases-walk_object l = 8 * depth (view l.value.now) + 4

abbrev pub decreases-walk_holder : goal.decreases-walk_holder
decreases-walk_holder l = 8 * option_depth (data_at l.value) + 1

abbrev pub decreases-walk_record : goal.decreases-walk_record
decreases-walk_record l = 8 * depth (view l.value.now) + 3

abbrev pub decreases-walk_fields : goal.decreases-walk_fields
decreases-walk_fields l = 8 * option_depth (data_at l.value) + 2

abbrev pub decreases-walk_listed : goal.decreases-walk_listed
decreases-walk_listed l = 8 * items_depth (items_view l.items.now) + 8

abbrev pub decreases-walk_field : goal.decreases-walk_field
decreases-walk_field l = 8 * depth (view l.value.now) + 7

abbrev pub invariant-walk_members-loop-item : goal.invariant-walk_members-loop-item
invariant-walk_members-loop-item l =
    IsNamespaceOf l.enclosing l.drafts
    × (behind l.members.items (run (members (items_view (drop l.item-index l.items))) (arc_str_bytes l.enclosing.text) l.drafts)
    ≡ run (members (items_view l.items)) (arc_str_bytes l.enclosing.text) l.initial.drafts)

abbrev pub invariant-walk_listed-loop-item : goal.invariant-walk_listed-loop-item
invariant-walk_listed-loop-item l =
    IsNamespaceOf l.enclosing l.drafts
    × (behind l.list (run (fields_after (items_view (drop l.item-index l.items)) (field_names l.list)) (arc_str_bytes l.enclosing.text) l.drafts)
    ≡ run (fields_after (items_view l.items) []) (arc_str_bytes l.enclosing.text) l.initial.drafts)
