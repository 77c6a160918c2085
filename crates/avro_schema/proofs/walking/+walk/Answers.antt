use Rattle.std.proofs.Common.{rules, codes, ◌≤◌, ◌<◌, ◌≡◌, ◌∙◌, sym, ap, refl, arith, option_map, length, map, [], string_bytes}
use Rattle.avro_schema_names.specs.Draft.{field_names, draft_field_of}
use Rattle.spec_schema.specs.Draft.{Whole, RecordDraft}
use Rattle.std.specs.Arc.{arc_str_bytes}
use Rattle.std.proofs.lemmas.Result.{err_from_is_err_and}
use Rattle.serde_json.specs.Data.{string, depth, items_depth}
use Rattle.serde_json.specs.View.{view, items_view}
use Rattle.serde_json.specs.declared.value.Value.{the_lemmas}
use Rattle.serde_json.proofs.Views.{view-Array, view-Object}
use Rattle.spec_avro.specs.declared.limits.TheConstants.{MOST_FIELDS, MOST_NODES}
use Rattle.avro_schema.specs.Contract.{holder_walk, object_walk}
use Rattle.spec_schema.specs.Head.{Named}
use Rattle.spec_avro.specs.Aliases.{full_names}
use Rattle.spec_avro.specs.Node.{UnionNode, names_of}
use Rattle.spec_schema.specs.Walk.{walk}
use Rattle.avro_schema_names.specs.Laws.Plain.{map-push}
use Rattle.avro_schema.proofs.FieldList.{fields-on, fields-fail, fields-end, run-field, run-many}
use Rattle.avro_schema.proofs.MemberList.{members-on, members-fail, members-end, union-failed, union-bad, union-done, pushed_union}
use Rattle.avro_schema_names.proofs.Depths.{found-depth, item-depth}
use Rattle.avro_schema.specs.Holder.{holder_node}
use Rattle.avro_schema.proofs.Holders.{holder-head, holder-unnamed}
use Rattle.avro_schema.proofs.Members.{walk-scalar, walk-object, field-other, fields-none, fields-some}
use Rattle.avro_schema.proofs.Records.{run-record, record-done, record-failed, pushed-record}
use Rattle.avro_schema.proofs.Runs.{run-if_room, run-no_room, run-keeps, run-fault, closed, unclosed}
use Rattle.avro_schema.proofs.NamespaceKept.{enclosing-pushed, enclosing-walked}
use Rattle.avro_schema.proofs.walking.+walk.Goals as goal

-- ---- a value

pub walk-returns-in-Null : goal.walk-returns-in-Null
walk-returns-in-Null t c = λ _. rw (walk-scalar c.args.value.now c.in-Null.is) (run-fault _ _ _)

pub walk-returns-in-Null-2 : goal.walk-returns-in-Null-2
walk-returns-in-Null-2 t c = λ _. rw (walk-scalar c.args.value.now c.in-Null.is) (run-fault _ _ _)

pub walk-returns-in-Null-3 : goal.walk-returns-in-Null-3
walk-returns-in-Null-3 t c = λ _. rw (walk-scalar c.args.value.now c.in-Null.is) (run-fault _ _ _)

pub walk-returns-in-String : goal.walk-returns-in-String
unfolding walk
walk-returns-in-String t c =
    let seen : string c.as_str.result.now ≡ view c.args.value.now = rw c.in-String.is (search (rules, the_lemmas)) in
    rw (← seen) c.walk_text.ensures

pub walk-returns-in-Array : goal.walk-returns-in-Array
unfolding walk
walk-returns-in-Array t c = rw (c.in-Array.is, view-Array c.in-Array.items, ← c.deref.ensures.value) c.walk_union.ensures

pub walk-returns-in-Object : goal.walk-returns-in-Object
walk-returns-in-Object t c =
    let seen = ap view c.in-Object.is ∙ view-Object c.in-Object.field-0 in
    rw (seen, walk-object _, ← seen) c.walk_object.ensures

pub walk_at-returns-in-None : goal.walk_at-returns-in-None
walk_at-returns-in-None t c = λ _. rw c.in-None.is (run-fault _ _ _)

-- ---- an object

pub walk_object-returns-in-Record : goal.walk_object-returns-in-Record
unfolding object_walk
walk_object-returns-in-Record t c = rw (← c.get.ensures, ← c.form_of_type.ensures, c.in-Record.is) c.walk_record.ensures

pub walk_object-returns-in-Enum : goal.walk_object-returns-in-Enum
unfolding object_walk
walk_object-returns-in-Enum t c = rw (← c.get.ensures, ← c.form_of_type.ensures, c.in-Enum.is) c.walk_enum.ensures

pub walk_object-returns-in-Fixed : goal.walk_object-returns-in-Fixed
unfolding object_walk
walk_object-returns-in-Fixed t c = rw (← c.get.ensures, ← c.form_of_type.ensures, c.in-Fixed.is) c.walk_fixed.ensures

pub walk_object-walk_holder-requires : goal.walk_object-walk_holder-requires
walk_object-walk_holder-requires t c =
    let found = found-depth (codes "items") (option_map (λ v. view v.now) c.get-in-Array.result) (view c.args.value.now) c.get-in-Array.ensures in
    (omega (arith, found), c.requires.known)

pub walk_object-returns-in-Array : goal.walk_object-returns-in-Array
unfolding object_walk holder_walk
walk_object-returns-in-Array t c = rw (← c.get.ensures, ← c.form_of_type.ensures, c.in-Array.is, ← c.get-in-Array.ensures) c.walk_holder.ensures

pub walk_object-walk_holder-requires-in-Map : goal.walk_object-walk_holder-requires-in-Map
walk_object-walk_holder-requires-in-Map t c =
    let found = found-depth (codes "values") (option_map (λ v. view v.now) c.get-in-Map.result) (view c.args.value.now) c.get-in-Map.ensures in
    (omega (arith, found), c.requires.known)

pub walk_object-returns-in-Map : goal.walk_object-returns-in-Map
unfolding object_walk holder_walk
walk_object-returns-in-Map t c = rw (← c.get.ensures, ← c.form_of_type.ensures, c.in-Map.is, ← c.get-in-Map.ensures) c.walk_holder-in-Map.ensures

pub walk_object-returns-in-Error : goal.walk_object-returns-in-Error
unfolding object_walk
walk_object-returns-in-Error t c = λ _. rw (← c.get.ensures, ← c.form_of_type.ensures, c.in-Error.is) (run-fault _ _ _)

pub walk_object-walk_at-requires : goal.walk_object-walk_at-requires
walk_object-walk_at-requires t c =
    let found = found-depth (codes "type") (option_map (λ v. view v.now) c.get-in-Other.result) (view c.args.value.now) c.get-in-Other.ensures in
    (omega (arith, found), c.requires.known)

pub walk_object-returns-in-Other : goal.walk_object-returns-in-Other
unfolding object_walk
walk_object-returns-in-Other t c = rw (← c.get.ensures, ← c.form_of_type.ensures, c.in-Other.is, ← c.get-in-Other.ensures) c.walk_at.ensures

-- ---- an array or a map

pub walk_holder-returns-in_err-node : goal.walk_holder-returns-in_err-node
unfolding holder_walk
walk_holder-returns-in_err-node t c =
    let p = err_from_is_err_and c.from_residual.result c.from_residual.ensures.1 in
    rw (p.1, p.2, c.in_err-node.ensures.full) (λ _. run-no_room _ (arc_str_bytes c.args.enclosing.now.text) c.args.drafts.now c.in_err-node.ensures.none)

pub walk_holder-push-requires : goal.walk_holder-push-requires
walk_holder-push-requires t c = rw c.kind.ensures (holder-unnamed c.args.holder 0)

pub walk_holder-walk_at-requires : goal.walk_holder-walk_at-requires
walk_holder-walk_at-requires t c = (omega arith, enclosing-pushed c.args.enclosing.now c.args.drafts.now c.push.new.self _ c.requires.known c.in_ok-push.ensures.nodes)

pub walk_holder-returns-in_err-inner : goal.walk_holder-returns-in_err-inner
unfolding holder_walk
walk_holder-returns-in_err-inner t c =
    let p = err_from_is_err_and c.from_residual-in_err-inner.result c.from_residual-in_err-inner.ensures.1 in
    let there = rw c.kind.ensures at c.in_ok-push.ensures.nodes in
    let room : length c.args.drafts.now < MOST_NODES = omega (arith, c.in_ok-node.ensures.node, c.in_ok-node.ensures.room) in
    rw (p.1, p.2)
    (λ known. run-if_room _ (arc_str_bytes c.args.enclosing.now.text) c.args.drafts.now room ∙ unclosed (λ n. Whole (holder_node c.args.holder n)) (Whole (holder_node c.args.holder 0)) _ (arc_str_bytes c.args.enclosing.now.text) c.args.drafts.now _ (rw there at (c.in_err-inner.ensures known)))

pub walk_holder-set-requires : goal.walk_holder-set-requires
walk_holder-set-requires t c =
    let there = rw c.kind.ensures at c.in_ok-push.ensures.nodes in
    let n : c.in_ok-node.node ≡ length c.args.drafts.now = c.in_ok-node.ensures.node in
    rw (n, c.kind-2.ensures, holder-head c.args.holder c.in_ok-inner.inner 0) (run-keeps _ (arc_str_bytes c.args.enclosing.now.text) c.args.drafts.now (Whole (holder_node c.args.holder 0)) _ _ (rw there at c.in_ok-inner.ensures))

pub walk_holder-returns : goal.walk_holder-returns
unfolding holder_walk
walk_holder-returns t c =
    let there = rw c.kind.ensures at c.in_ok-push.ensures.nodes in
    let room : length c.args.drafts.now < MOST_NODES = omega (arith, c.in_ok-node.ensures.node, c.in_ok-node.ensures.room) in
    let n : c.in_ok-node.node ≡ length c.args.drafts.now = c.in_ok-node.ensures.node in
    rw (c.set.ensures, n, c.kind-2.ensures)
    (run-if_room _ (arc_str_bytes c.args.enclosing.now.text) c.args.drafts.now room ∙ closed (λ n. Whole (holder_node c.args.holder n)) (Whole (holder_node c.args.holder 0)) _ (arc_str_bytes c.args.enclosing.now.text) c.args.drafts.now _ _ (rw there at c.in_ok-inner.ensures))

-- ---- a union

pub walk_union-returns-in_err-node : goal.walk_union-returns-in_err-node
walk_union-returns-in_err-node t c =
    let p = err_from_is_err_and c.from_residual.result c.from_residual.ensures.1 in
    rw (p.1, p.2, c.in_err-node.ensures.full) (λ _. run-no_room _ (arc_str_bytes c.args.enclosing.now.text) c.args.drafts.now c.in_err-node.ensures.none)

pub walk_union-walk_members-requires : goal.walk_union-walk_members-requires
walk_union-walk_members-requires t c = (omega arith, enclosing-pushed c.args.enclosing.now c.args.drafts.now c.push.new.self _ c.requires.known c.in_ok-push.ensures.nodes)

pub walk_union-returns-in_err-members : goal.walk_union-returns-in_err-members
walk_union-returns-in_err-members t c =
    let p = err_from_is_err_and c.from_residual-in_err-members.result c.from_residual-in_err-members.ensures.1 in
    let there = pushed_union c.args.drafts.now c.push.new.self c.new.result.items c.in_ok-push.ensures.nodes c.new.ensures.items in
    let room : length c.args.drafts.now < MOST_NODES = omega (arith, c.in_ok-node.ensures.node, c.in_ok-node.ensures.room) in
    rw (p.1, p.2) (λ known. union-failed _ (arc_str_bytes c.args.enclosing.now.text) c.args.drafts.now room _ (rw there at (c.in_err-members.ensures known)))

pub walk_union-returns-then-not-branch : goal.walk_union-returns-then-not-branch
walk_union-returns-then-not-branch t c =
    let there = pushed_union c.args.drafts.now c.push.new.self c.new.result.items c.in_ok-push.ensures.nodes c.new.ensures.items in
    let room : length c.args.drafts.now < MOST_NODES = omega (arith, c.in_ok-node.ensures.node, c.in_ok-node.ensures.room) in
    let bad = rw c.deref.ensures.value at (sym c.if-not-branch.true ∙ c.in_ok-are_apart.ensures) in
    λ _. union-bad _ (arc_str_bytes c.args.enclosing.now.text) c.args.drafts.now room _ _ (rw there at c.in_ok-members.ensures) bad

pub walk_union-set-requires : goal.walk_union-set-requires
walk_union-set-requires t c =
    let there = pushed_union c.args.drafts.now c.push.new.self c.new.result.items c.in_ok-push.ensures.nodes c.new.ensures.items in
    let n : c.in_ok-node.node ≡ length c.args.drafts.now = c.in_ok-node.ensures.node in
    rw n (run-keeps _ (arc_str_bytes c.args.enclosing.now.text) c.args.drafts.now (Whole (UnionNode [])) _ _ (rw there at c.in_ok-members.ensures))

pub walk_union-returns : goal.walk_union-returns
walk_union-returns t c =
    let there = pushed_union c.args.drafts.now c.push.new.self c.new.result.items c.in_ok-push.ensures.nodes c.new.ensures.items in
    let room : length c.args.drafts.now < MOST_NODES = omega (arith, c.in_ok-node.ensures.node, c.in_ok-node.ensures.room) in
    let good = rw c.deref.ensures.value at (sym c.if-not-branch.false ∙ c.in_ok-are_apart.ensures) in
    let n : c.in_ok-node.node ≡ length c.args.drafts.now = c.in_ok-node.ensures.node in
    rw (c.set.ensures, n)
    (union-done _ (arc_str_bytes c.args.enclosing.now.text) c.args.drafts.now room _ _ (rw there at c.in_ok-members.ensures) good)

pub walk_members-walk-requires : goal.walk_members-walk-requires
walk_members-walk-requires t c =
    let here : depth (view c.item-item.result) ≤ items_depth (items_view c.args.items.now) = rw c.item-item.is (item-depth c.args.items.now c.loop-item.item-index c.item-item.result (omega arith)) in
    (omega (arith, here), c.loop-item.invariant.0)

pub walk_members-returns-in_err-member : goal.walk_members-returns-in_err-member
walk_members-returns-in_err-member t c =
    let p = err_from_is_err_and c.from_residual.result c.from_residual.ensures.1 in
    let l = c.loop-item in
    rw (p.1, p.2) (λ known. sym l.invariant.1 ∙ members-fail (arc_str_bytes c.args.enclosing.now.text) c.args.items.now l.item-index c.item-item.result (omega arith) c.item-item.is l.members.items l.drafts _ (c.in_err-member.ensures known))

pub walk_members-loop-item-preserved : goal.walk_members-loop-item-preserved
walk_members-loop-item-preserved t c =
    let l = c.loop-item in (
      enclosing-walked _ _ c.args.enclosing.now l.drafts _ _ l.invariant.0 c.in_ok-member.ensures,
      rw c.in_ok-push.ensures.items
          (sym (members-on (arc_str_bytes c.args.enclosing.now.text) c.args.items.now l.item-index c.item-item.result (omega arith) c.item-item.is l.members.items l.drafts _ _ c.in_ok-member.ensures) ∙ l.invariant.1),
    )

pub walk_members-returns : goal.walk_members-returns
walk_members-returns t c =
    let l = c.loop-item in
    sym l.invariant.1 ∙ members-end (arc_str_bytes c.args.enclosing.now.text) c.args.items.now l.item-index (omega arith) l.members.items l.drafts

-- ---- a record

pub walk_record-returns-in_err-node : goal.walk_record-returns-in_err-node
walk_record-returns-in_err-node t c =
    let p = err_from_is_err_and c.from_residual.result c.from_residual.ensures.1 in
    rw (p.1, p.2, c.in_err-node.ensures.full) (λ _. run-no_room _ (arc_str_bytes c.args.enclosing.now.text) c.args.drafts.now c.in_err-node.ensures.none)

pub walk_record-returns-in_err-new : goal.walk_record-returns-in_err-new
walk_record-returns-in_err-new t c =
    let p = err_from_is_err_and c.from_residual-in_err-new.result c.from_residual-in_err-new.ensures.1 in
    let room : length c.args.drafts.now < MOST_NODES = omega (arith, c.in_ok-node.ensures.node, c.in_ok-node.ensures.room) in
    rw (p.1, p.2) (λ known. run-record _ _ _ _ (arc_str_bytes c.args.enclosing.now.text) c.args.drafts.now room ∙ rw (c.in_err-new.ensures.names known) refl)

pub walk_record-walk_fields-requires : goal.walk_record-walk_fields-requires
walk_record-walk_fields-requires t c =
    let found = found-depth (codes "fields") (option_map (λ v. view v.now) c.get.result) (view c.args.value.now) c.get.ensures in
    (omega (arith, found), rw (c.in_ok-own.ensures.text, c.in_ok-own.ensures.number) c.in_ok-number.ensures.number)

pub walk_record-returns-in_err-fields : goal.walk_record-returns-in_err-fields
walk_record-returns-in_err-fields t c =
    let p = err_from_is_err_and c.from_residual-in_err-fields.result c.from_residual-in_err-fields.ensures.1 in
    let there = pushed-record c.args.drafts.now c.define.new.self c.in_ok-new.new.name c.in_ok-copy.field-0 c.in_ok-of_texts.field-0 (map draft_field_of c.new-2.result.items) c.in_ok-number.ensures.nodes c.in_ok-copy.ensures (c.in_ok-of_texts.ensures ∙ ap (λ ts. full_names (arc_str_bytes c.in_ok-shared_namespace.field-0) (map string_bytes ts)) c.new.ensures.items) (ap (map draft_field_of) c.new-2.ensures.items) in
    let room : length c.args.drafts.now < MOST_NODES = omega (arith, c.in_ok-node.ensures.node, c.in_ok-node.ensures.room) in
    let named = c.in_ok-new.ensures.names in
    rw (p.1, p.2, ← c.get.ensures)
    (λ known. record-failed _ _ _ _ (arc_str_bytes c.args.enclosing.now.text) c.args.drafts.now room _ named _ (rw (c.in_ok-own.ensures.text, there) at (c.in_err-fields.ensures known)))

pub walk_record-define-requires : goal.walk_record-define-requires
walk_record-define-requires t c = record {
  new = c.in_ok-new.ensures.new;
  named = ap Named c.in_ok-copy.ensures;
  numbered = c.in_ok-new.ensures.numbered;
}

pub walk_record-set-requires : goal.walk_record-set-requires
walk_record-set-requires t c =
    let there = pushed-record c.args.drafts.now c.define.new.self c.in_ok-new.new.name c.in_ok-copy.field-0 c.in_ok-of_texts.field-0 (map draft_field_of c.new-2.result.items) c.in_ok-number.ensures.nodes c.in_ok-copy.ensures (c.in_ok-of_texts.ensures ∙ ap (λ ts. full_names (arc_str_bytes c.in_ok-shared_namespace.field-0) (map string_bytes ts)) c.new.ensures.items) (ap (map draft_field_of) c.new-2.ensures.items) in
    let n : c.in_ok-node.node ≡ length c.args.drafts.now = c.in_ok-node.ensures.node in
    rw n (run-keeps _ _ c.args.drafts.now (RecordDraft (names_of c.in_ok-new.new.name []) []) _ _ (rw (c.in_ok-own.ensures.text, there) at c.in_ok-fields.ensures))

pub walk_record-returns : goal.walk_record-returns
walk_record-returns t c =
    let there = pushed-record c.args.drafts.now c.define.new.self c.in_ok-new.new.name c.in_ok-copy.field-0 c.in_ok-of_texts.field-0 (map draft_field_of c.new-2.result.items) c.in_ok-number.ensures.nodes c.in_ok-copy.ensures (c.in_ok-of_texts.ensures ∙ ap (λ ts. full_names (arc_str_bytes c.in_ok-shared_namespace.field-0) (map string_bytes ts)) c.new.ensures.items) (ap (map draft_field_of) c.new-2.ensures.items) in
    let room : length c.args.drafts.now < MOST_NODES = omega (arith, c.in_ok-node.ensures.node, c.in_ok-node.ensures.room) in
    let named = c.in_ok-new.ensures.names in
    let n : c.in_ok-node.node ≡ length c.args.drafts.now = c.in_ok-node.ensures.node in
    rw (c.set.ensures, n, ← c.get.ensures)
    (record-done _ _ _ _ (arc_str_bytes c.args.enclosing.now.text) c.args.drafts.now room _ named _ _ (rw (c.in_ok-own.ensures.text, there) at c.in_ok-fields.ensures))

-- ---- its fields

pub walk_fields-returns-in-None : goal.walk_fields-returns-in-None
walk_fields-returns-in-None t c = λ _. rw c.in-None.is (run-fault _ _ _)

pub walk_fields-returns-in-None-as_array : goal.walk_fields-returns-in-None-as_array
walk_fields-returns-in-None-as_array t c = λ _. rw (c.in-Some.is, fields-none (view c.in-Some.value.now) c.in-None-as_array.ensures) (run-fault _ _ _)

pub walk_fields-returns-in-Some-as_array : goal.walk_fields-returns-in-Some-as_array
walk_fields-returns-in-Some-as_array t c =
    rw (c.in-Some.is, fields-some (view c.in-Some.value.now) (items_view c.in-Some-as_array.items.now.items) c.in-Some-as_array.ensures, ← c.deref.ensures.value) c.walk_listed.ensures

pub walk_listed-walk_field-requires : goal.walk_listed-walk_field-requires
walk_listed-walk_field-requires t c =
    let here : depth (view c.item-item.result) ≤ items_depth (items_view c.args.items.now) = rw c.item-item.is (item-depth c.args.items.now c.loop-item.item-index c.item-item.result (omega arith)) in
    (omega (arith, here), c.loop-item.invariant.0)

pub walk_listed-returns-in_err-field : goal.walk_listed-returns-in_err-field
walk_listed-returns-in_err-field t c =
    let p = err_from_is_err_and c.from_residual.result c.from_residual.ensures.1 in
    let l = c.loop-item in
    rw (p.1, p.2) (λ known. sym l.invariant.1 ∙ fields-fail (arc_str_bytes c.args.enclosing.now.text) c.args.items.now l.item-index c.item-item.result (omega arith) c.item-item.is l.list (field_names l.list) l.drafts _
    (c.in_err-field.ensures known))

pub walk_listed-loop-item-preserved : goal.walk_listed-loop-item-preserved
walk_listed-loop-item-preserved t c =
    let l = c.loop-item in
    let f = c.in_ok-field.field in (
      enclosing-walked _ _ c.args.enclosing.now l.drafts _ _ l.invariant.0 c.in_ok-field.ensures,
      rw (c.in_ok-push.ensures.fields, map-push (λ g. g.name) l.list (draft_field_of f))
          (sym (fields-on (arc_str_bytes c.args.enclosing.now.text) c.args.items.now l.item-index c.item-item.result (omega arith) c.item-item.is l.list (field_names l.list) l.drafts _ _ c.in_ok-field.ensures) ∙ l.invariant.1),
    )

pub walk_listed-returns : goal.walk_listed-returns
walk_listed-returns t c =
    let l = c.loop-item in
    rw c.into_fields.ensures (sym l.invariant.1 ∙ fields-end (arc_str_bytes c.args.enclosing.now.text) c.args.items.now l.item-index (omega arith) l.list (field_names l.list) l.drafts)

-- ---- a field

pub walk_field-returns-then-not-is_object : goal.walk_field-returns-then-not-is_object
walk_field-returns-then-not-is_object t c = λ _. rw (field-other (view c.args.value.now) (field_names c.args.before.now) c.if-not-is_object.ensures) (run-fault _ _ _)

pub walk_field-returns-then-len-ge-MOST_FIELDS : goal.walk_field-returns-then-len-ge-MOST_FIELDS
walk_field-returns-then-len-ge-MOST_FIELDS t c = λ _. run-many (view c.args.value.now) c.args.before.now (arc_str_bytes c.args.enclosing.now.text) _ c.if-not-is_object.ensures (let many : MOST_FIELDS ≤ length c.args.before.now = omega arith in many)

pub walk_field-returns-in_err-name : goal.walk_field-returns-in_err-name
walk_field-returns-in_err-name t c =
    let p = err_from_is_err_and c.from_residual.result c.from_residual.ensures.1 in
    let room : length c.args.before.now < MOST_FIELDS = omega arith in
    rw (p.1, p.2) (λ known. run-field (view c.args.value.now) c.args.before.now (arc_str_bytes c.args.enclosing.now.text) _ c.if-not-is_object.ensures room ∙ rw (← c.get.ensures, c.in_err-name.ensures known) refl)

pub walk_field-returns-in_err-aliases : goal.walk_field-returns-in_err-aliases
walk_field-returns-in_err-aliases t c =
    let p = err_from_is_err_and c.from_residual-in_err-aliases.result c.from_residual-in_err-aliases.ensures.1 in
    let room : length c.args.before.now < MOST_FIELDS = omega arith in
    rw (p.1, p.2) (λ known. run-field (view c.args.value.now) c.args.before.now (arc_str_bytes c.args.enclosing.now.text) _ c.if-not-is_object.ensures room ∙ rw (← c.get.ensures, c.in_ok-name.ensures, ← c.get-2.ensures, c.in_err-aliases.ensures known) refl)

pub walk_field-walk_at-requires : goal.walk_field-walk_at-requires
walk_field-walk_at-requires t c =
    let found = found-depth (codes "type") (option_map (λ v. view v.now) c.get-3.result) (view c.args.value.now) c.get-3.ensures in
    (omega (arith, found), c.requires.known)

pub walk_field-returns-in_err-node : goal.walk_field-returns-in_err-node
walk_field-returns-in_err-node t c =
    let p = err_from_is_err_and c.from_residual-in_err-node.result c.from_residual-in_err-node.ensures.1 in
    let room : length c.args.before.now < MOST_FIELDS = omega arith in
    rw (p.1, p.2) (λ known. run-field (view c.args.value.now) c.args.before.now (arc_str_bytes c.args.enclosing.now.text) _ c.if-not-is_object.ensures room ∙ rw (← c.get.ensures, c.in_ok-name.ensures, ← c.get-2.ensures, c.in_ok-aliases.ensures, ← c.get-3.ensures, c.in_err-node.ensures known) refl)

pub walk_field-returns : goal.walk_field-returns
walk_field-returns t c =
    let room : length c.args.before.now < MOST_FIELDS = omega arith in
    run-field (view c.args.value.now) c.args.before.now (arc_str_bytes c.args.enclosing.now.text) _ c.if-not-is_object.ensures room
    ∙ rw (← c.get.ensures, c.in_ok-name.ensures, ← c.get-2.ensures, c.in_ok-aliases.ensures, ← c.get-3.ensures, c.in_ok-node.ensures, ← c.get-4.ensures) refl
