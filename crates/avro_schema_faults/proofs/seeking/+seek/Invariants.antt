use Rattle.std.proofs.Common.{◌≡◌, ◌+◌, ◌*◌, ℕ, Option, drop}
use Rattle.serde_json.specs.Data.{depth, items_depth}
use Rattle.serde_json.specs.View.{view, items_view}
use Rattle.avro_schema_paths.specs.Places.{Path}
use Rattle.avro_schema_faults.specs.Searching.{SoughtInFields, SoughtInMembers}
use Rattle.avro_schema_faults.proofs.seeking.+seek.Given as goal

-- Each level of the value takes eight steps: a field, its type, an object, a record, its list of fields.
abbrev pub decreases-seek : goal.decreases-seek
decreases-seek l = 8 * depth (view l.value.now) + 5

abbrev pub decreases-seek_in_part : goal.decreases-seek_in_part
decreases-seek_in_part l = 8 * depth (view l.value.now) + 6

abbrev pub decreases-seek_in_union : goal.decreases-seek_in_union
decreases-seek_in_union l = 8 * items_depth (items_view l.items.now) + 8

abbrev pub decreases-seek_in_members : goal.decreases-seek_in_members
decreases-seek_in_members l = 8 * items_depth (items_view l.items.now) + 7

abbrev pub decreases-seek_in_object : goal.decreases-seek_in_object
decreases-seek_in_object l = 8 * depth (view l.value.now) + 4

abbrev pub decreases-seek_in_wrapper : goal.decreases-seek_in_wrapper
decreases-seek_in_wrapper l = 8 * depth (view l.value.now) + 3

abbrev pub decreases-seek_in_array : goal.decreases-seek_in_array
decreases-seek_in_array l = 8 * depth (view l.value.now) + 3

abbrev pub decreases-seek_in_map : goal.decreases-seek_in_map
decreases-seek_in_map l = 8 * depth (view l.value.now) + 3

abbrev pub decreases-seek_in_record : goal.decreases-seek_in_record
decreases-seek_in_record l = 8 * depth (view l.value.now) + 3

abbrev pub decreases-seek_in_fields : goal.decreases-seek_in_fields
decreases-seek_in_fields l = 8 * depth (view l.value.now) + 2

abbrev pub decreases-seek_in_listed : goal.decreases-seek_in_listed
decreases-seek_in_listed l = 8 * items_depth (items_view l.items.now) + 9

abbrev pub decreases-seek_in_field : goal.decreases-seek_in_field
decreases-seek_in_field l = 8 * depth (view l.value.now) + 7

abbrev pub invariant-seek_in_members-loop-i : goal.invariant-seek_in_members-loop-i
invariant-seek_in_members-loop-i l =
    (l.trail.items ≡ l.fn.trail.items)
    × ((r : Option ℕ) (p : Path) → SoughtInMembers (items_view (drop l.i l.items)) l.i l.rest r p → SoughtInMembers (items_view l.items) 0 l.left r p)

abbrev pub invariant-seek_in_listed-loop-i : goal.invariant-seek_in_listed-loop-i
invariant-seek_in_listed-loop-i l =
    (l.trail.items ≡ l.fn.trail.items)
    × ((r : Option ℕ) (p : Path) → SoughtInFields (items_view (drop l.i l.items)) l.i l.rest r p → SoughtInFields (items_view l.items) 0 l.left r p)
