use Rattle.std.proofs.Common.{◌≡◌, ◌≤◌, ◌∙◌, ◌++◌, ◌∷◌, [], sym, ap, subst, codes, option_map, arith, inl, inr, map, slice_get, List, Some}
use Rattle.serde_json.specs.Data.{array, depth, items_depth}
use Rattle.serde_json.specs.View.{view, items_view}
use Rattle.serde_json.proofs.Views.{view-Object}
use Rattle.avro_schema_names.proofs.Depths.{found-depth, item-depth}
use Rattle.avro_types.specs.Node.{fields_of}
use Rattle.avro_schema_names.specs.Draft.{data_at}
use Rattle.serde_json.specs.declared.value.Value.{Value}
use Rattle.avro_schema_paths.specs.Parts.{InForm, InHeld, field_steps, member_steps, type_in}
use Rattle.avro_schema_paths.specs.Places.{Path, types_at, item_at, value_at}
use Rattle.spec_schema.specs.Word.{form_of}
use Rattle.spec_schema.specs.declared.word.Form.TheVariants as forms
use Rattle.avro_schema_paths.specs.declared.step.Step.{Step}
use Rattle.avro_schema_paths.specs.Adds.{IsThis, Adds}
use Rattle.avro_schema_paths.proofs.Parting.{wrapped_added, array_added, field_more, fields_added, form_added, held_added, map_added, member_more, no_fields, no_members, object_added, other_added, record_added, scalar_none, union_added}
use Rattle.avro_schema_paths.proofs.Inverting.{all_within, array_is, item_seen, types_within}
use Rattle.avro_schema_paths.proofs.Adding.{on_ok, adds_both, adds_none, adds_same}
use Rattle.avro_schema_paths.proofs.placing.+places.Goals as goal

-- ---- a value

pub add_places-returns-in-Null : goal.add_places-returns-in-Null
add_places-returns-in-Null t c = adds_none _ c.args.out.now.items (scalar_none c.args.nodes.now c.args.value.now c.in-Null.is c.args.node c.args.place.now.outer.now c.args.place.now.path.now)

pub add_places-returns-in-Null-2 : goal.add_places-returns-in-Null-2
add_places-returns-in-Null-2 t c = adds_none _ c.args.out.now.items (scalar_none c.args.nodes.now c.args.value.now c.in-Null.is c.args.node c.args.place.now.outer.now c.args.place.now.path.now)

pub add_places-returns-in-Null-3 : goal.add_places-returns-in-Null-3
add_places-returns-in-Null-3 t c = adds_none _ c.args.out.now.items (scalar_none c.args.nodes.now c.args.value.now c.in-Null.is c.args.node c.args.place.now.outer.now c.args.place.now.path.now)

pub add_places-returns-in-Object : goal.add_places-returns-in-Object
add_places-returns-in-Object t c =
    let seen = ap view c.in-Object.is ∙ view-Object c.in-Object.field-0 in
    on_ok c.add_object.result (object_added c.args.nodes.now (view c.args.value.now) _ c.args.node c.args.place.now.outer.now c.args.place.now.path.now c.args.out.now.items c.add_object.new.out.items seen) c.add_object.ensures

-- ---- an object

pub add_object-add_record-requires : goal.add_object-add_record-requires
add_object-add_record-requires t c =
    let found = found-depth (codes "fields") (option_map (λ v. view v.now) c.get-in-Record.result) (view c.args.value.now) c.get-in-Record.ensures in
    (omega (arith, found), c.requires.node)

pub add_object-add_array-requires : goal.add_object-add_array-requires
add_object-add_array-requires t c =
    let found = found-depth (codes "items") (option_map (λ v. view v.now) c.get-in-Array.result) (view c.args.value.now) c.get-in-Array.ensures in
    (omega (arith, found), c.requires.node)

pub add_object-add_map-requires : goal.add_object-add_map-requires
add_object-add_map-requires t c =
    let found = found-depth (codes "values") (option_map (λ v. view v.now) c.get-in-Map.result) (view c.args.value.now) c.get-in-Map.ensures in
    (omega (arith, found), c.requires.node)

pub add_object-add_wrapped-requires : goal.add_object-add_wrapped-requires
add_object-add_wrapped-requires t c =
    let found = found-depth (codes "type") (option_map (λ v. view v.now) c.get-in-Other.result) (view c.args.value.now) c.get-in-Other.ensures in
    (omega (arith, found), c.requires.node)

pub add_object-returns-in-Record : goal.add_object-returns-in-Record
add_object-returns-in-Record t c =
    let form = sym (ap form_of c.get.ensures) ∙ sym c.form_of_type.ensures ∙ c.in-Record.is in
    on_ok c.add_record.result (λ p. form_added c.args.nodes.now forms.Record (view c.args.value.now) c.args.node c.args.place.now.outer.now c.args.place.now.path.now c.args.out.now.items c.add_record.new.out.items form (record_added c.args.nodes.now (view c.args.value.now) _ c.args.node c.args.place.now.outer.now c.args.place.now.path.now c.args.out.now.items c.add_record.new.out.items c.get-in-Record.ensures p)) c.add_record.ensures

pub add_object-returns-in-Array : goal.add_object-returns-in-Array
add_object-returns-in-Array t c =
    let form = sym (ap form_of c.get.ensures) ∙ sym c.form_of_type.ensures ∙ c.in-Array.is in
    on_ok c.add_array.result (λ p. form_added c.args.nodes.now forms.Array (view c.args.value.now) c.args.node c.args.place.now.outer.now c.args.place.now.path.now c.args.out.now.items c.add_array.new.out.items form (array_added c.args.nodes.now (view c.args.value.now) _ c.args.node c.args.place.now.outer.now c.args.place.now.path.now c.args.out.now.items c.add_array.new.out.items c.get-in-Array.ensures p)) c.add_array.ensures

pub add_object-returns-in-Map : goal.add_object-returns-in-Map
add_object-returns-in-Map t c =
    let form = sym (ap form_of c.get.ensures) ∙ sym c.form_of_type.ensures ∙ c.in-Map.is in
    on_ok c.add_map.result (λ p. form_added c.args.nodes.now forms.Map (view c.args.value.now) c.args.node c.args.place.now.outer.now c.args.place.now.path.now c.args.out.now.items c.add_map.new.out.items form (map_added c.args.nodes.now (view c.args.value.now) _ c.args.node c.args.place.now.outer.now c.args.place.now.path.now c.args.out.now.items c.add_map.new.out.items c.get-in-Map.ensures p)) c.add_map.ensures

pub add_object-returns-in-Other : goal.add_object-returns-in-Other
add_object-returns-in-Other t c =
    let form = sym (ap form_of c.get.ensures) ∙ sym c.form_of_type.ensures ∙ c.in-Other.is in
    on_ok c.add_wrapped.result (λ p. form_added c.args.nodes.now forms.Other (view c.args.value.now) c.args.node c.args.place.now.outer.now c.args.place.now.path.now c.args.out.now.items c.add_wrapped.new.out.items form (other_added c.args.nodes.now (view c.args.value.now) _ c.args.node c.args.place.now.outer.now c.args.place.now.path.now c.args.out.now.items c.add_wrapped.new.out.items c.get-in-Other.ensures p)) c.add_wrapped.ensures

pub add_object-returns-in-Enum : goal.add_object-returns-in-Enum
add_object-returns-in-Enum t c =
    let form = sym (ap form_of c.get.ensures) ∙ sym c.form_of_type.ensures ∙ c.in-Enum.is in
    on_ok c.add_node.result (λ p. form_added c.args.nodes.now forms.Enum (view c.args.value.now) c.args.node c.args.place.now.outer.now c.args.place.now.path.now c.args.out.now.items c.add_node.new.out.items form (adds_same _ (InForm c.args.nodes.now forms.Enum (view c.args.value.now) c.args.node c.args.place.now.outer.now c.args.place.now.path.now) _ _ (λ m q h. h) (λ m q h. h) p)) c.add_node.ensures

pub add_object-returns-in-Fixed : goal.add_object-returns-in-Fixed
add_object-returns-in-Fixed t c =
    let form = sym (ap form_of c.get.ensures) ∙ sym c.form_of_type.ensures ∙ c.in-Fixed.is in
    on_ok c.add_node-in-Fixed.result (λ p. form_added c.args.nodes.now forms.Fixed (view c.args.value.now) c.args.node c.args.place.now.outer.now c.args.place.now.path.now c.args.out.now.items c.add_node-in-Fixed.new.out.items form (adds_same _ (InForm c.args.nodes.now forms.Fixed (view c.args.value.now) c.args.node c.args.place.now.outer.now c.args.place.now.path.now) _ _ (λ m q h. h) (λ m q h. h) p)) c.add_node-in-Fixed.ensures

pub add_wrapped-returns-in_ok-path-in-Some : goal.add_wrapped-returns-in_ok-path-in-Some
add_wrapped-returns-in_ok-path-in-Some t c = rw c.in-Some.is (on_ok c.add_places.result (wrapped_added c.args.nodes.now (view c.in-Some.value.now) c.args.node c.args.place.now.outer.now c.args.place.now.path.now c.deref.result.now c.args.out.now.items c.add_places.new.out.items (c.deref.ensures.value ∙ c.in_ok-path-in-Some.ensures)) c.add_places.ensures)

pub add_held-returns : goal.add_held-returns
add_held-returns t c = rw (c.in-Some.is, c.in-Some-node.is) (on_ok c.add_places.result (held_added c.args.nodes.now (view c.in-Some.value.now) c.in-Some-node.node c.args.path.now c.args.out.now.items c.add_places.new.out.items) c.add_places.ensures)

-- ---- arrays, maps and records

pub add_array-returns : goal.add_array-returns
add_array-returns t c =
    let here : c.deref.result.now ≡ c.args.place.now.path.now ++ Step.Items ∷ [] = c.deref.ensures.value ∙ c.in_ok-here.ensures in
    on_ok c.add_held.result (λ p. adds_both (IsThis c.args.node c.args.place.now.outer.now) _ _ c.args.out.now.items c.add_node.new.out.items c.add_held.new.out.items (λ m q h. inl h) (λ m q h. inr h) (λ m q h. h) c.in_ok-add_node.ensures
    (subst (λ (h : Path). Adds (InHeld c.args.nodes.now (data_at c.args.value) (item_at (slice_get c.args.nodes.now c.args.node)) h) c.add_node.new.out.items c.add_held.new.out.items) here p)) (rw c.item_of-item.ensures.item at c.add_held.ensures)

pub add_map-returns : goal.add_map-returns
add_map-returns t c =
    let here : c.deref.result.now ≡ c.args.place.now.path.now ++ Step.Values ∷ [] = c.deref.ensures.value ∙ c.in_ok-here.ensures in
    on_ok c.add_held.result (λ p. adds_both (IsThis c.args.node c.args.place.now.outer.now) _ _ c.args.out.now.items c.add_node.new.out.items c.add_held.new.out.items (λ m q h. inl h) (λ m q h. inr h) (λ m q h. h) c.in_ok-add_node.ensures
    (subst (λ (h : Path). Adds (InHeld c.args.nodes.now (data_at c.args.value) (value_at (slice_get c.args.nodes.now c.args.node)) h) c.add_node.new.out.items c.add_held.new.out.items) here p)) (rw c.value_of-inner.ensures.value at c.add_held.ensures)

pub add_record-returns : goal.add_record-returns
add_record-returns t c = on_ok c.add_fields.result (adds_both (IsThis c.args.node c.args.place.now.outer.now) _ _ c.args.out.now.items c.add_node.new.out.items c.add_fields.new.out.items (λ m q p. inl p) (λ m q p. inr p) (λ m q p. p) c.in_ok-add_node.ensures) c.add_fields.ensures

pub add_fields-returns : goal.add_fields-returns
add_fields-returns t c =
    let items = c.in-Some-as_array.items.now.items in
    let is : data_at c.args.value ≡ Some (array (items_view c.deref.result.now)) = ap data_at c.in-Some.is ∙ array_is (view c.in-Some.list.now) (items_view c.deref.result.now) (ap (λ (vs : List Value). Some (items_view vs)) c.deref.ensures.value ∙ c.in-Some-as_array.ensures) in
    on_ok c.add_listed.result (λ p. fields_added c.args.nodes.now (data_at c.args.value) c.deref.result.now (types_at (slice_get c.args.nodes.now c.args.node)) c.args.path.now c.args.out.now.items c.add_listed.new.out.items is p) (rw c.fields_of-fields.ensures.fields at c.add_listed.ensures)

-- ---- unions

pub add_union-returns : goal.add_union-returns
add_union-returns t c = on_ok c.add_members.result (union_added c.args.nodes.now c.args.items.now c.args.node c.args.place.now.outer.now c.args.place.now.path.now c.args.out.now.items c.add_node.new.out.items c.add_members.new.out.items c.in_ok-add_node.ensures) (rw c.members_of-members.ensures.members at c.add_members.ensures)

pub add_members-loop-i-init : goal.add_members-loop-i-init
add_members-loop-i-init t c = no_members _ _ _ _ _

pub add_members-add_held-requires : goal.add_members-add_held-requires
add_members-add_held-requires t c =
    let here : depth (view c.index-items-i.result) ≤ items_depth (items_view c.args.items.now) = rw c.index-items-i.is (item-depth c.args.items.now c.loop-i.i c.index-items-i.result (omega arith)) in
    (omega (arith, here), rw c.member_at-member.ensures (all_within _ c.args.members.now c.loop-i.i c.requires.members))

pub add_members-loop-i-preserved : goal.add_members-loop-i-preserved
add_members-loop-i-preserved t c =
    let seen = item_seen c.args.items.now c.loop-i.i c.index-items-i.result c.loop-i-test.true c.index-items-i.is in
    let here : c.deref.result.now ≡ c.args.path.now ++ member_steps c.loop-i.i = c.deref.ensures.value ∙ c.in_ok-here.ensures in
    member_more c.args.nodes.now (items_view c.args.items.now) c.args.members.now c.args.path.now c.loop-i.i _ _ c.args.out.now.items c.loop-i.out.items c.add_held.new.out.items seen (sym c.member_at-member.ensures) c.loop-i.invariant
    (subst (λ (h : Path). Adds (InHeld c.args.nodes.now (Some (view c.index-items-i.result)) c.member_at-member.result h) c.loop-i.out.items c.add_held.new.out.items) here c.in_ok-add_held.ensures)

pub add_listed-loop-i-init : goal.add_listed-loop-i-init
add_listed-loop-i-init t c = no_fields _ _ _ _ _

pub add_listed-add_held-requires : goal.add_listed-add_held-requires
add_listed-add_held-requires t c =
    let here : depth (view c.index-items-i.result) ≤ items_depth (items_view c.args.items.now) = rw c.index-items-i.is (item-depth c.args.items.now c.loop-i.i c.index-items-i.result (omega arith)) in
    let found = found-depth (codes "type") (data_at c.get.result) (view c.index-items-i.result) c.get.ensures in
    (omega (arith, here, found), rw c.type_of-of_type.ensures (all_within _ _ c.loop-i.i (types_within _ (fields_of c.args.fields.now) c.requires.fields)))

pub add_listed-loop-i-preserved : goal.add_listed-loop-i-preserved
add_listed-loop-i-preserved t c =
    let seen = ap type_in (item_seen c.args.items.now c.loop-i.i c.index-items-i.result c.loop-i-test.true c.index-items-i.is) ∙ sym c.get.ensures in
    let here : c.deref.result.now ≡ c.args.path.now ++ field_steps c.loop-i.i = c.deref.ensures.value ∙ c.in_ok-here.ensures in
    field_more c.args.nodes.now (items_view c.args.items.now) (map (λ f. f.node) (fields_of c.args.fields.now)) c.args.path.now c.loop-i.i (data_at c.get.result) c.type_of-of_type.result c.args.out.now.items c.loop-i.out.items c.add_held.new.out.items seen (sym c.type_of-of_type.ensures) c.loop-i.invariant
    (subst (λ (h : Path). Adds (InHeld c.args.nodes.now (data_at c.get.result) c.type_of-of_type.result h) c.loop-i.out.items c.add_held.new.out.items) here c.in_ok-add_held.ensures)
