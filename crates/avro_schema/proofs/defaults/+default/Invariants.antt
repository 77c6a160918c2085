use Rattle.std.proofs.Common.{◌≡◌, ◌≤◌, ◌+◌, ◌*◌, drop, option_map, map}
use Rattle.serde_json.specs.Data.{depth, items_depth, members_depth}
use Rattle.serde_json.specs.Find.{get}
use Rattle.serde_json.specs.View.{view, items_view, members_view}
use Rattle.spec_schema.specs.Defaults.{fields_value, items_value, pairs_value, value_of}
use Rattle.avro_schema_names.specs.Draft.{draft_field_of, drafts_of}
use Rattle.avro_schema.proofs.DefaultValues.{first_datum, first_pair}
use Rattle.avro_schema.proofs.OneByOne.{before}
use Rattle.avro_schema.proofs.defaults.+default.Given as goal

-- Each level of the value takes eight steps: an item, a union, its first member, a kind, its items.
abbrev pub decreases-default_at : goal.decreases-default_at
decreases-default_at l = 8 * depth (view l.value.now) + 4

abbrev pub decreases-union_default : goal.decreases-union_default
decreases-union_default l = 8 * depth (view l.value.now) + 3

abbrev pub decreases-plain_default : goal.decreases-plain_default
decreases-plain_default l = 8 * depth (view l.value.now) + 2

abbrev pub decreases-whole_default : goal.decreases-whole_default
decreases-whole_default l = 8 * depth (view l.value.now) + 1

abbrev pub decreases-fields_default : goal.decreases-fields_default
decreases-fields_default l = 8 * depth (view l.value.now)

abbrev pub decreases-items_default : goal.decreases-items_default
decreases-items_default l = 8 * items_depth (items_view l.items.now) + 5

abbrev pub decreases-pairs_default : goal.decreases-pairs_default
decreases-pairs_default l = 8 * members_depth (members_view l.members.now.entries) + 5

abbrev pub invariant-items_default-loop-item : goal.invariant-items_default-loop-item
invariant-items_default-loop-item l =
    option_map (before first_datum l.data.items) (items_value (items_view (drop l.item-index l.items)) (drafts_of l.drafts) l.node)
    ≡ items_value (items_view l.items) (drafts_of l.drafts) l.node

abbrev pub invariant-pairs_default-loop-key : goal.invariant-pairs_default-loop-key
invariant-pairs_default-loop-key l =
    (members_depth (members_view l.key-iterator) ≤ members_depth (members_view l.members.entries)) ×
    option_map (before first_pair l.pairs.items) (pairs_value (members_view l.key-iterator) (drafts_of l.drafts) l.node)
    ≡ pairs_value (members_view l.members.entries) (drafts_of l.drafts) l.node

abbrev pub invariant-fields_default-loop-field : goal.invariant-fields_default-loop-field
invariant-fields_default-loop-field l =
    option_map (before first_datum l.data.items) (fields_value (drafts_of l.drafts) (λ k. option_map (λ d. value_of d (drafts_of l.drafts)) (get k (view l.value))) (map draft_field_of (drop l.field-index l.fields)))
    ≡ fields_value (drafts_of l.drafts) (λ k. option_map (λ d. value_of d (drafts_of l.drafts)) (get k (view l.value))) (map draft_field_of l.fields)
