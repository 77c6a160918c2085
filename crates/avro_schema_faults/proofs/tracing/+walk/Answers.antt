use Rattle.std.proofs.Common.{rules, codes, ◌≤◌, ◌<◌, ◌≡◌, ◌∙◌, ◌++◌, ◌∷◌, sym, ap, refl, arith, length, map, [], string_bytes, false, is_some, None}
use Rattle.std.specs.Arc.{arc_str_bytes}
use Rattle.std.specs.Vec.{vec_len}
use Rattle.std.proofs.lemmas.Result.{err_from_is_err_and}
use Rattle.serde_json.specs.Data.{array, string, depth, items_depth}
use Rattle.serde_json.specs.Find.{as_array, as_object}
use Rattle.serde_json.specs.View.{view, items_view}
use Rattle.serde_json.specs.declared.value.Value.{the_lemmas}
use Rattle.serde_json.proofs.Views.{view-Array, view-Object}
use Rattle.spec_avro.specs.Aliases.{full_names}
use Rattle.spec_avro.specs.Node.{ArrayNode, MapNode, UnionNode, names_of}
use Rattle.spec_avro.specs.declared.limits.TheConstants.{MOST_FIELDS, MOST_NODES}
use Rattle.spec_schema.specs.Draft.{RecordDraft, Whole}
use Rattle.avro_schema_names.specs.Draft.{draft_field_of, field_names}
use Rattle.spec_schema.specs.Head.{heads_of}
use Rattle.avro_schema_names.proofs.Depths.{item-depth}
use Rattle.avro_schema_names.specs.Laws.Plain.{map-push}
use Rattle.spec_schema.specs.Word.{form_of}
use Rattle.spec_schema.specs.declared.schema_error.SchemaError.TheVariants.{BadUnion, OutOfProfile, TooLarge, Unknown}
use Rattle.spec_schema.specs.declared.word.Form.TheVariants as forms
use Rattle.avro_schema_paths.specs.declared.step.Step.TheVariants as steps
use Rattle.avro_schema.specs.Contract.{object_walk, run}
use Rattle.spec_schema.specs.Walk.{field, fields, walk}
use Rattle.avro_schema.proofs.FieldList.{fields-on, fields-fail, fields-end, run-field, run-many}
use Rattle.avro_schema.proofs.MemberList.{members-on, members-fail, members-end, union-failed, union-bad, union-done, pushed_union}
use Rattle.avro_schema.proofs.Members.{walk-scalar, walk-object, field-other, fields-none, fields-some}
use Rattle.avro_schema.proofs.NamespaceKept.{enclosing-pushed, enclosing-walked}
use Rattle.avro_schema.proofs.Records.{pushed-record, run-record}
use Rattle.avro_schema.proofs.Runs.{run-no_room, run-keeps, run-fault}
use Rattle.avro_schema_faults.specs.Faults.{IsOfForm, field_after, listing, schema, to_type, to_wrapped}
use Rattle.avro_schema_faults.proofs.Bounds.{fails-after}
use Rattle.avro_schema_faults.proofs.Ending.{ends-here, ends-within, popped}
use Rattle.avro_schema_faults.proofs.Leaving.{array-done, array-failed, array-none, array-within, fields-done, fields-failed, fields-missing, fields-within, form-fails, full-heads, inner-depth, leaves-formed, leaves-plain, leaves-within, listed-depth, listed-within, map-done, map-failed, map-none, map-within, names-length, nothing-there, scalar-plain, union-fails, union-walked, union-within, wrapped-none}
use Rattle.avro_schema_faults.proofs.Reaching.{reaches-next, reaches-this, reaches_field-next, reaches_field-this}
use Rattle.avro_schema_faults.proofs.Sound.{array-sound, enum-sound, error-sound, field-sound, fixed-sound, full-sound, listing-sound, map-sound, nothing-in, other-sound, plain-sound, record-sound}
use Rattle.avro_schema_faults.proofs.tracing.+walk.Goals as goal

-- ---- a value

pub walk-returns-in-Null-clause-nodes : goal.walk-returns-in-Null-clause-nodes
walk-returns-in-Null-clause-nodes t c = λ _. rw (walk-scalar c.args.value.now c.in-Null.is) (run-fault Unknown (arc_str_bytes c.args.enclosing.now.text) c.args.drafts.now)

pub walk-returns-in-Null-clause-place : goal.walk-returns-in-Null-clause-place
walk-returns-in-Null-clause-place t c =
    let plain = scalar-plain c.args.value.now c.in-Null.is in
    λ known. ends-here Unknown (schema (view c.args.value.now) (arc_str_bytes c.args.enclosing.now.text) (heads_of c.args.drafts.now)) c.args.trail.now.items c.args.trail.now.items refl (fails-after (walk (view c.args.value.now)) (arc_str_bytes c.args.enclosing.now.text) c.args.drafts.now Unknown (walk-returns-in-Null-clause-nodes t c known)) (plain-sound (view c.args.value.now) (arc_str_bytes c.args.enclosing.now.text) (heads_of c.args.drafts.now) plain.0 plain.1)

pub walk-returns-in-Null-2-clause-nodes : goal.walk-returns-in-Null-2-clause-nodes
walk-returns-in-Null-2-clause-nodes t c = λ _. rw (walk-scalar c.args.value.now c.in-Null.is) (run-fault Unknown (arc_str_bytes c.args.enclosing.now.text) c.args.drafts.now)

pub walk-returns-in-Null-2-clause-place : goal.walk-returns-in-Null-2-clause-place
walk-returns-in-Null-2-clause-place t c =
    let plain = scalar-plain c.args.value.now c.in-Null.is in
    λ known. ends-here Unknown (schema (view c.args.value.now) (arc_str_bytes c.args.enclosing.now.text) (heads_of c.args.drafts.now)) c.args.trail.now.items c.args.trail.now.items refl (fails-after (walk (view c.args.value.now)) (arc_str_bytes c.args.enclosing.now.text) c.args.drafts.now Unknown (walk-returns-in-Null-2-clause-nodes t c known)) (plain-sound (view c.args.value.now) (arc_str_bytes c.args.enclosing.now.text) (heads_of c.args.drafts.now) plain.0 plain.1)

pub walk-returns-in-Null-3-clause-nodes : goal.walk-returns-in-Null-3-clause-nodes
walk-returns-in-Null-3-clause-nodes t c = λ _. rw (walk-scalar c.args.value.now c.in-Null.is) (run-fault Unknown (arc_str_bytes c.args.enclosing.now.text) c.args.drafts.now)

pub walk-returns-in-Null-3-clause-place : goal.walk-returns-in-Null-3-clause-place
walk-returns-in-Null-3-clause-place t c =
    let plain = scalar-plain c.args.value.now c.in-Null.is in
    λ known. ends-here Unknown (schema (view c.args.value.now) (arc_str_bytes c.args.enclosing.now.text) (heads_of c.args.drafts.now)) c.args.trail.now.items c.args.trail.now.items refl (fails-after (walk (view c.args.value.now)) (arc_str_bytes c.args.enclosing.now.text) c.args.drafts.now Unknown (walk-returns-in-Null-3-clause-nodes t c known)) (plain-sound (view c.args.value.now) (arc_str_bytes c.args.enclosing.now.text) (heads_of c.args.drafts.now) plain.0 plain.1)

pub walk-returns-in-String-clause-nodes : goal.walk-returns-in-String-clause-nodes
unfolding walk
walk-returns-in-String-clause-nodes t c =
    let seen : string c.as_str.result.now ≡ (view c.args.value.now) = rw c.in-String.is (search (rules, the_lemmas)) in
    rw (← seen) c.walk_text.ensures

pub walk-returns-in-String-clause-place : goal.walk-returns-in-String-clause-place
walk-returns-in-String-clause-place t c =
    let seen : string c.as_str.result.now ≡ (view c.args.value.now) = rw c.in-String.is (search (rules, the_lemmas)) in
    let no : false ≡ is_some (as_object (view c.args.value.now)) = ap (λ d. is_some (as_object d)) seen in
    let none : None ≡ as_array (view c.args.value.now) = ap as_array seen in
    leaves-plain (λ n. n) c.walk_text.result (view c.args.value.now) (arc_str_bytes c.args.enclosing.now.text) c.args.drafts.now c.walk_text.new.drafts c.args.trail.now.items (walk-returns-in-String-clause-nodes t c) (plain-sound (view c.args.value.now) (arc_str_bytes c.args.enclosing.now.text) (heads_of c.args.drafts.now) no none)

pub walk-returns-in-Array-clause-nodes : goal.walk-returns-in-Array-clause-nodes
unfolding walk
walk-returns-in-Array-clause-nodes t c = rw (c.in-Array.is, view-Array c.in-Array.items, ← c.deref.ensures.value) c.walk_union.ensures.nodes

pub walk-returns-in-Object-clause-nodes : goal.walk-returns-in-Object-clause-nodes
walk-returns-in-Object-clause-nodes t c =
    let seen = ap view c.in-Object.is ∙ view-Object c.in-Object.field-0 in
    rw (seen, walk-object _, ← seen) c.walk_object.ensures.nodes

-- ---- an object

pub walk_object-returns-in-Record-clause-nodes : goal.walk_object-returns-in-Record-clause-nodes
unfolding object_walk
walk_object-returns-in-Record-clause-nodes t c = rw (← c.get.ensures, ← c.form_of_type.ensures, c.in-Record.is) c.walk_record.ensures.nodes

pub walk_object-returns-in-Enum-clause-nodes : goal.walk_object-returns-in-Enum-clause-nodes
unfolding object_walk
walk_object-returns-in-Enum-clause-nodes t c = rw (← c.get.ensures, ← c.form_of_type.ensures, c.in-Enum.is) c.walk_enum.ensures

pub walk_object-returns-in-Fixed-clause-nodes : goal.walk_object-returns-in-Fixed-clause-nodes
unfolding object_walk
walk_object-returns-in-Fixed-clause-nodes t c = rw (← c.get.ensures, ← c.form_of_type.ensures, c.in-Fixed.is) c.walk_fixed.ensures

pub walk_object-returns-in-Array-clause-nodes : goal.walk_object-returns-in-Array-clause-nodes
unfolding object_walk
walk_object-returns-in-Array-clause-nodes t c = rw (← c.get.ensures, ← c.form_of_type.ensures, c.in-Array.is) c.walk_array.ensures.nodes

pub walk_object-returns-in-Map-clause-nodes : goal.walk_object-returns-in-Map-clause-nodes
unfolding object_walk
walk_object-returns-in-Map-clause-nodes t c = rw (← c.get.ensures, ← c.form_of_type.ensures, c.in-Map.is) c.walk_map.ensures.nodes

pub walk_object-returns-in-Other-clause-nodes : goal.walk_object-returns-in-Other-clause-nodes
unfolding object_walk
walk_object-returns-in-Other-clause-nodes t c = rw (← c.get.ensures, ← c.form_of_type.ensures, c.in-Other.is) c.walk_wrapped.ensures.nodes

pub walk_object-returns-in-Error-clause-nodes : goal.walk_object-returns-in-Error-clause-nodes
unfolding object_walk
walk_object-returns-in-Error-clause-nodes t c = λ _. rw (← c.get.ensures, ← c.form_of_type.ensures, c.in-Error.is) (run-fault OutOfProfile (arc_str_bytes c.args.enclosing.now.text) c.args.drafts.now)

pub walk_object-returns-in-Enum-clause-place : goal.walk_object-returns-in-Enum-clause-place
walk_object-returns-in-Enum-clause-place t c =
    let form : IsOfForm forms.Enum (view c.args.value.now) = record { object = c.requires.object; form = ap form_of (sym c.get.ensures) ∙ sym c.form_of_type.ensures ∙ c.in-Enum.is } in
    leaves-formed (λ n. n) c.walk_enum.result forms.Enum (view c.args.value.now) (arc_str_bytes c.args.enclosing.now.text) c.args.drafts.now c.walk_enum.new.drafts c.args.trail.now.items form c.walk_enum.ensures (enum-sound (view c.args.value.now) (arc_str_bytes c.args.enclosing.now.text) (heads_of c.args.drafts.now) form)

pub walk_object-returns-in-Fixed-clause-place : goal.walk_object-returns-in-Fixed-clause-place
walk_object-returns-in-Fixed-clause-place t c =
    let form : IsOfForm forms.Fixed (view c.args.value.now) = record { object = c.requires.object; form = ap form_of (sym c.get.ensures) ∙ sym c.form_of_type.ensures ∙ c.in-Fixed.is } in
    leaves-formed (λ n. n) c.walk_fixed.result forms.Fixed (view c.args.value.now) (arc_str_bytes c.args.enclosing.now.text) c.args.drafts.now c.walk_fixed.new.drafts c.args.trail.now.items form c.walk_fixed.ensures (fixed-sound (view c.args.value.now) (arc_str_bytes c.args.enclosing.now.text) (heads_of c.args.drafts.now) form)

pub walk_object-returns-in-Error-clause-place : goal.walk_object-returns-in-Error-clause-place
walk_object-returns-in-Error-clause-place t c =
    let form : IsOfForm forms.Error (view c.args.value.now) = record { object = c.requires.object; form = ap form_of (sym c.get.ensures) ∙ sym c.form_of_type.ensures ∙ c.in-Error.is } in
    λ known. ends-here OutOfProfile (schema (view c.args.value.now) (arc_str_bytes c.args.enclosing.now.text) (heads_of c.args.drafts.now)) c.args.trail.now.items c.args.trail.now.items refl (form-fails forms.Error (view c.args.value.now) (arc_str_bytes c.args.enclosing.now.text) c.args.drafts.now OutOfProfile form (run-fault OutOfProfile (arc_str_bytes c.args.enclosing.now.text) c.args.drafts.now)) (error-sound (view c.args.value.now) (arc_str_bytes c.args.enclosing.now.text) (heads_of c.args.drafts.now) form)

-- ---- a value that an object wraps

pub walk_wrapped-walk_part-requires : goal.walk_wrapped-walk_part-requires
walk_wrapped-walk_part-requires t c = (let less = inner-depth (codes "type") (view c.args.value.now) (view c.in-Some.inner.now) c.in-Some.ensures in omega (arith, less), c.requires.known)

pub walk_wrapped-returns-in-Some-clause-place : goal.walk_wrapped-returns-in-Some-clause-place
walk_wrapped-returns-in-Some-clause-place t c = leaves-within c.walk_part.result (schema (view c.args.value.now) (arc_str_bytes c.args.enclosing.now.text) (heads_of c.args.drafts.now)) (schema (view c.in-Some.inner.now) (arc_str_bytes c.args.enclosing.now.text) (heads_of c.args.drafts.now)) steps.Type c.args.trail.now.items c.walk_part.new.trail.items (to_wrapped c.requires.form (sym c.in-Some.ensures)) c.walk_part.ensures.place

pub walk_wrapped-returns-in-None-clause-nodes : goal.walk_wrapped-returns-in-None-clause-nodes
walk_wrapped-returns-in-None-clause-nodes t c = λ _. wrapped-none (view c.args.value.now) (arc_str_bytes c.args.enclosing.now.text) c.args.drafts.now c.in-None.ensures

pub walk_wrapped-returns-in-None-clause-place : goal.walk_wrapped-returns-in-None-clause-place
walk_wrapped-returns-in-None-clause-place t c = λ known. ends-here Unknown (schema (view c.args.value.now) (arc_str_bytes c.args.enclosing.now.text) (heads_of c.args.drafts.now)) c.args.trail.now.items c.args.trail.now.items refl (form-fails forms.Other (view c.args.value.now) (arc_str_bytes c.args.enclosing.now.text) c.args.drafts.now Unknown c.requires.form (wrapped-none (view c.args.value.now) (arc_str_bytes c.args.enclosing.now.text) c.args.drafts.now c.in-None.ensures)) (other-sound (view c.args.value.now) (arc_str_bytes c.args.enclosing.now.text) (heads_of c.args.drafts.now) c.requires.form (λ x found. nothing-there _ x c.in-None.ensures found))

-- ---- an array

pub walk_array-returns-in_err-node-clause-nodes : goal.walk_array-returns-in_err-node-clause-nodes
walk_array-returns-in_err-node-clause-nodes t c =
    let p = err_from_is_err_and c.from_residual.result c.from_residual.ensures.1 in
    rw (p.1, p.2, c.in_err-node.ensures.full) (λ _. run-no_room _ (arc_str_bytes c.args.enclosing.now.text) c.args.drafts.now c.in_err-node.ensures.none)

pub walk_array-returns-in_err-node-clause-place : goal.walk_array-returns-in_err-node-clause-place
walk_array-returns-in_err-node-clause-place t c =
    let p = err_from_is_err_and c.from_residual.result c.from_residual.ensures.1 in
    let full = full-heads c.args.drafts.now c.in_err-node.ensures.none in
    rw (p.1, p.2, c.in_err-node.ensures.full) (λ _. ends-here TooLarge (schema (view c.args.value.now) (arc_str_bytes c.args.enclosing.now.text) (heads_of c.args.drafts.now)) c.args.trail.now.items c.args.trail.now.items refl (form-fails forms.Array (view c.args.value.now) (arc_str_bytes c.args.enclosing.now.text) c.args.drafts.now TooLarge c.requires.form (run-no_room _ (arc_str_bytes c.args.enclosing.now.text) c.args.drafts.now c.in_err-node.ensures.none)) (array-sound (view c.args.value.now) (arc_str_bytes c.args.enclosing.now.text) (heads_of c.args.drafts.now) c.requires.form (λ room x found. omega (arith, room, full))))

pub walk_array-walk_part-requires : goal.walk_array-walk_part-requires
walk_array-walk_part-requires t c = (let less = inner-depth (codes "items") (view c.args.value.now) (view c.in-Some.items.now) c.in-Some.ensures in omega (arith, less), enclosing-pushed c.args.enclosing.now c.args.drafts.now c.push.new.self _ c.requires.known c.in_ok-push.ensures.nodes)

pub walk_array-returns-in_err-inner-in-Some-clause-nodes : goal.walk_array-returns-in_err-inner-in-Some-clause-nodes
walk_array-returns-in_err-inner-in-Some-clause-nodes t c =
    let p = err_from_is_err_and c.from_residual-in_err-inner-in-Some.result c.from_residual-in_err-inner-in-Some.ensures.1 in
    let room : length c.args.drafts.now < MOST_NODES = omega (arith, c.in_ok-node.ensures.node, c.in_ok-node.ensures.room) in
    rw (p.1, p.2) (λ known. array-failed (view c.args.value.now) (arc_str_bytes c.args.enclosing.now.text) c.args.drafts.now room (view c.in-Some.items.now) _ c.in-Some.ensures (rw c.in_ok-push.ensures.nodes at (c.in_err-inner-in-Some.ensures.nodes known)))

pub walk_array-returns-in_err-inner-in-Some-clause-place : goal.walk_array-returns-in_err-inner-in-Some-clause-place
walk_array-returns-in_err-inner-in-Some-clause-place t c =
    let p = err_from_is_err_and c.from_residual-in_err-inner-in-Some.result c.from_residual-in_err-inner-in-Some.ensures.1 in
    let room : length c.args.drafts.now < MOST_NODES = omega (arith, c.in_ok-node.ensures.node, c.in_ok-node.ensures.room) in
    rw (p.1, p.2) (λ known. array-within (view c.args.value.now) (arc_str_bytes c.args.enclosing.now.text) c.args.drafts.now room c.push.new.self (view c.in-Some.items.now) _ c.args.trail.now.items c.walk_part.new.trail.items c.requires.form c.in-Some.ensures c.in_ok-push.ensures.nodes (c.in_err-inner-in-Some.ensures.place known))

pub walk_array-set-requires : goal.walk_array-set-requires
walk_array-set-requires t c =
    let n : c.in_ok-node.node ≡ length c.args.drafts.now = c.in_ok-node.ensures.node in
    rw n (run-keeps (walk (view c.in-Some.items.now)) (arc_str_bytes c.args.enclosing.now.text) c.args.drafts.now (Whole (ArrayNode 0)) _ _ (rw c.in_ok-push.ensures.nodes at c.in_ok-inner-in-Some.ensures.nodes))

pub walk_array-returns-in_ok-inner-in-Some-clause-nodes : goal.walk_array-returns-in_ok-inner-in-Some-clause-nodes
walk_array-returns-in_ok-inner-in-Some-clause-nodes t c =
    let room : length c.args.drafts.now < MOST_NODES = omega (arith, c.in_ok-node.ensures.node, c.in_ok-node.ensures.room) in
    let n : c.in_ok-node.node ≡ length c.args.drafts.now = c.in_ok-node.ensures.node in
    rw (c.set.ensures, n) (array-done (view c.args.value.now) (arc_str_bytes c.args.enclosing.now.text) c.args.drafts.now room (view c.in-Some.items.now) _ _ c.in-Some.ensures (rw c.in_ok-push.ensures.nodes at c.in_ok-inner-in-Some.ensures.nodes))

pub walk_array-returns-in-None-clause-nodes : goal.walk_array-returns-in-None-clause-nodes
walk_array-returns-in-None-clause-nodes t c =
    let room : length c.args.drafts.now < MOST_NODES = omega (arith, c.in_ok-node.ensures.node, c.in_ok-node.ensures.room) in
    λ _. array-none (view c.args.value.now) (arc_str_bytes c.args.enclosing.now.text) c.args.drafts.now room c.in-None.ensures

pub walk_array-returns-in-None-clause-place : goal.walk_array-returns-in-None-clause-place
walk_array-returns-in-None-clause-place t c =
    let room : length c.args.drafts.now < MOST_NODES = omega (arith, c.in_ok-node.ensures.node, c.in_ok-node.ensures.room) in
    λ _. ends-here Unknown (schema (view c.args.value.now) (arc_str_bytes c.args.enclosing.now.text) (heads_of c.args.drafts.now)) c.args.trail.now.items c.args.trail.now.items refl (form-fails forms.Array (view c.args.value.now) (arc_str_bytes c.args.enclosing.now.text) c.args.drafts.now Unknown c.requires.form (array-none (view c.args.value.now) (arc_str_bytes c.args.enclosing.now.text) c.args.drafts.now room c.in-None.ensures)) (array-sound (view c.args.value.now) (arc_str_bytes c.args.enclosing.now.text) (heads_of c.args.drafts.now) c.requires.form (λ there x found. nothing-there _ x c.in-None.ensures found))

-- ---- a map

pub walk_map-returns-in_err-node-clause-nodes : goal.walk_map-returns-in_err-node-clause-nodes
walk_map-returns-in_err-node-clause-nodes t c =
    let p = err_from_is_err_and c.from_residual.result c.from_residual.ensures.1 in
    rw (p.1, p.2, c.in_err-node.ensures.full) (λ _. run-no_room _ (arc_str_bytes c.args.enclosing.now.text) c.args.drafts.now c.in_err-node.ensures.none)

pub walk_map-returns-in_err-node-clause-place : goal.walk_map-returns-in_err-node-clause-place
walk_map-returns-in_err-node-clause-place t c =
    let p = err_from_is_err_and c.from_residual.result c.from_residual.ensures.1 in
    let full = full-heads c.args.drafts.now c.in_err-node.ensures.none in
    rw (p.1, p.2, c.in_err-node.ensures.full) (λ _. ends-here TooLarge (schema (view c.args.value.now) (arc_str_bytes c.args.enclosing.now.text) (heads_of c.args.drafts.now)) c.args.trail.now.items c.args.trail.now.items refl (form-fails forms.Map (view c.args.value.now) (arc_str_bytes c.args.enclosing.now.text) c.args.drafts.now TooLarge c.requires.form (run-no_room _ (arc_str_bytes c.args.enclosing.now.text) c.args.drafts.now c.in_err-node.ensures.none)) (map-sound (view c.args.value.now) (arc_str_bytes c.args.enclosing.now.text) (heads_of c.args.drafts.now) c.requires.form (λ room x found. omega (arith, room, full))))

pub walk_map-walk_part-requires : goal.walk_map-walk_part-requires
walk_map-walk_part-requires t c = (let less = inner-depth (codes "values") (view c.args.value.now) (view c.in-Some.values.now) c.in-Some.ensures in omega (arith, less), enclosing-pushed c.args.enclosing.now c.args.drafts.now c.push.new.self _ c.requires.known c.in_ok-push.ensures.nodes)

pub walk_map-returns-in_err-inner-in-Some-clause-nodes : goal.walk_map-returns-in_err-inner-in-Some-clause-nodes
walk_map-returns-in_err-inner-in-Some-clause-nodes t c =
    let p = err_from_is_err_and c.from_residual-in_err-inner-in-Some.result c.from_residual-in_err-inner-in-Some.ensures.1 in
    let room : length c.args.drafts.now < MOST_NODES = omega (arith, c.in_ok-node.ensures.node, c.in_ok-node.ensures.room) in
    rw (p.1, p.2) (λ known. map-failed (view c.args.value.now) (arc_str_bytes c.args.enclosing.now.text) c.args.drafts.now room (view c.in-Some.values.now) _ c.in-Some.ensures (rw c.in_ok-push.ensures.nodes at (c.in_err-inner-in-Some.ensures.nodes known)))

pub walk_map-returns-in_err-inner-in-Some-clause-place : goal.walk_map-returns-in_err-inner-in-Some-clause-place
walk_map-returns-in_err-inner-in-Some-clause-place t c =
    let p = err_from_is_err_and c.from_residual-in_err-inner-in-Some.result c.from_residual-in_err-inner-in-Some.ensures.1 in
    let room : length c.args.drafts.now < MOST_NODES = omega (arith, c.in_ok-node.ensures.node, c.in_ok-node.ensures.room) in
    rw (p.1, p.2) (λ known. map-within (view c.args.value.now) (arc_str_bytes c.args.enclosing.now.text) c.args.drafts.now room c.push.new.self (view c.in-Some.values.now) _ c.args.trail.now.items c.walk_part.new.trail.items c.requires.form c.in-Some.ensures c.in_ok-push.ensures.nodes (c.in_err-inner-in-Some.ensures.place known))

pub walk_map-set-requires : goal.walk_map-set-requires
walk_map-set-requires t c =
    let n : c.in_ok-node.node ≡ length c.args.drafts.now = c.in_ok-node.ensures.node in
    rw n (run-keeps (walk (view c.in-Some.values.now)) (arc_str_bytes c.args.enclosing.now.text) c.args.drafts.now (Whole (MapNode 0)) _ _ (rw c.in_ok-push.ensures.nodes at c.in_ok-inner-in-Some.ensures.nodes))

pub walk_map-returns-in_ok-inner-in-Some-clause-nodes : goal.walk_map-returns-in_ok-inner-in-Some-clause-nodes
walk_map-returns-in_ok-inner-in-Some-clause-nodes t c =
    let room : length c.args.drafts.now < MOST_NODES = omega (arith, c.in_ok-node.ensures.node, c.in_ok-node.ensures.room) in
    let n : c.in_ok-node.node ≡ length c.args.drafts.now = c.in_ok-node.ensures.node in
    rw (c.set.ensures, n) (map-done (view c.args.value.now) (arc_str_bytes c.args.enclosing.now.text) c.args.drafts.now room (view c.in-Some.values.now) _ _ c.in-Some.ensures (rw c.in_ok-push.ensures.nodes at c.in_ok-inner-in-Some.ensures.nodes))

pub walk_map-returns-in-None-clause-nodes : goal.walk_map-returns-in-None-clause-nodes
walk_map-returns-in-None-clause-nodes t c =
    let room : length c.args.drafts.now < MOST_NODES = omega (arith, c.in_ok-node.ensures.node, c.in_ok-node.ensures.room) in
    λ _. map-none (view c.args.value.now) (arc_str_bytes c.args.enclosing.now.text) c.args.drafts.now room c.in-None.ensures

pub walk_map-returns-in-None-clause-place : goal.walk_map-returns-in-None-clause-place
walk_map-returns-in-None-clause-place t c =
    let room : length c.args.drafts.now < MOST_NODES = omega (arith, c.in_ok-node.ensures.node, c.in_ok-node.ensures.room) in
    λ _. ends-here Unknown (schema (view c.args.value.now) (arc_str_bytes c.args.enclosing.now.text) (heads_of c.args.drafts.now)) c.args.trail.now.items c.args.trail.now.items refl (form-fails forms.Map (view c.args.value.now) (arc_str_bytes c.args.enclosing.now.text) c.args.drafts.now Unknown c.requires.form (map-none (view c.args.value.now) (arc_str_bytes c.args.enclosing.now.text) c.args.drafts.now room c.in-None.ensures)) (map-sound (view c.args.value.now) (arc_str_bytes c.args.enclosing.now.text) (heads_of c.args.drafts.now) c.requires.form (λ there x found. nothing-there _ x c.in-None.ensures found))

-- ---- a union

pub walk_union-returns-in_err-node-clause-nodes : goal.walk_union-returns-in_err-node-clause-nodes
walk_union-returns-in_err-node-clause-nodes t c =
    let p = err_from_is_err_and c.from_residual.result c.from_residual.ensures.1 in
    rw (p.1, p.2, c.in_err-node.ensures.full) (λ _. run-no_room _ (arc_str_bytes c.args.enclosing.now.text) c.args.drafts.now c.in_err-node.ensures.none)

pub walk_union-returns-in_err-node-clause-place : goal.walk_union-returns-in_err-node-clause-place
walk_union-returns-in_err-node-clause-place t c =
    let p = err_from_is_err_and c.from_residual.result c.from_residual.ensures.1 in
    rw (p.1, p.2, c.in_err-node.ensures.full) (λ _. ends-here TooLarge (schema (array (items_view c.args.items.now)) (arc_str_bytes c.args.enclosing.now.text) (heads_of c.args.drafts.now)) c.args.trail.now.items c.args.trail.now.items refl (union-fails (items_view c.args.items.now) (arc_str_bytes c.args.enclosing.now.text) c.args.drafts.now TooLarge (run-no_room _ (arc_str_bytes c.args.enclosing.now.text) c.args.drafts.now c.in_err-node.ensures.none)) (full-sound (items_view c.args.items.now) (arc_str_bytes c.args.enclosing.now.text) (heads_of c.args.drafts.now) (full-heads c.args.drafts.now c.in_err-node.ensures.none)))

pub walk_union-walk_members-requires : goal.walk_union-walk_members-requires
walk_union-walk_members-requires t c = (omega arith, enclosing-pushed c.args.enclosing.now c.args.drafts.now c.push.new.self _ c.requires.known c.in_ok-push.ensures.nodes)

pub walk_union-returns-in_err-members-clause-nodes : goal.walk_union-returns-in_err-members-clause-nodes
walk_union-returns-in_err-members-clause-nodes t c =
    let p = err_from_is_err_and c.from_residual-in_err-members.result c.from_residual-in_err-members.ensures.1 in
    let there = pushed_union c.args.drafts.now c.push.new.self c.new.result.items c.in_ok-push.ensures.nodes c.new.ensures.items in
    let room : length c.args.drafts.now < MOST_NODES = omega (arith, c.in_ok-node.ensures.node, c.in_ok-node.ensures.room) in
    rw (p.1, p.2) (λ known. union-failed _ (arc_str_bytes c.args.enclosing.now.text) c.args.drafts.now room _ (rw there at (c.in_err-members.ensures.nodes known)))

pub walk_union-returns-in_err-members-clause-place : goal.walk_union-returns-in_err-members-clause-place
walk_union-returns-in_err-members-clause-place t c =
    let p = err_from_is_err_and c.from_residual-in_err-members.result c.from_residual-in_err-members.ensures.1 in
    let there = pushed_union c.args.drafts.now c.push.new.self c.new.result.items c.in_ok-push.ensures.nodes c.new.ensures.items in
    let room : length c.args.drafts.now < MOST_NODES = omega (arith, c.in_ok-node.ensures.node, c.in_ok-node.ensures.room) in
    rw (p.1, p.2) (λ known. union-within (items_view c.args.items.now) (arc_str_bytes c.args.enclosing.now.text) c.args.drafts.now c.push.new.self _ c.args.trail.now.items c.walk_members.new.trail.items room there (c.in_err-members.ensures.place known))

pub walk_union-returns-then-not-branch-clause-nodes : goal.walk_union-returns-then-not-branch-clause-nodes
walk_union-returns-then-not-branch-clause-nodes t c =
    let there = pushed_union c.args.drafts.now c.push.new.self c.new.result.items c.in_ok-push.ensures.nodes c.new.ensures.items in
    let room : length c.args.drafts.now < MOST_NODES = omega (arith, c.in_ok-node.ensures.node, c.in_ok-node.ensures.room) in
    let bad = rw c.deref.ensures.value at (sym c.if-not-branch.true ∙ c.in_ok-are_apart.ensures) in
    λ _. union-bad _ (arc_str_bytes c.args.enclosing.now.text) c.args.drafts.now room _ _ (rw there at c.in_ok-members.ensures.nodes) bad

pub walk_union-returns-then-not-branch-clause-place : goal.walk_union-returns-then-not-branch-clause-place
walk_union-returns-then-not-branch-clause-place t c =
    let there = pushed_union c.args.drafts.now c.push.new.self c.new.result.items c.in_ok-push.ensures.nodes c.new.ensures.items in
    λ known. ends-here BadUnion (schema (array (items_view c.args.items.now)) (arc_str_bytes c.args.enclosing.now.text) (heads_of c.args.drafts.now)) c.args.trail.now.items c.walk_members.new.trail.items c.in_ok-members.ensures.place (union-fails (items_view c.args.items.now) (arc_str_bytes c.args.enclosing.now.text) c.args.drafts.now BadUnion (walk_union-returns-then-not-branch-clause-nodes t c known)) (union-walked (items_view c.args.items.now) (arc_str_bytes c.args.enclosing.now.text) c.args.drafts.now c.push.new.self _ _ there c.in_ok-members.ensures.nodes)

pub walk_union-set-requires : goal.walk_union-set-requires
walk_union-set-requires t c =
    let there = pushed_union c.args.drafts.now c.push.new.self c.new.result.items c.in_ok-push.ensures.nodes c.new.ensures.items in
    let n : c.in_ok-node.node ≡ length c.args.drafts.now = c.in_ok-node.ensures.node in
    rw n (run-keeps _ (arc_str_bytes c.args.enclosing.now.text) c.args.drafts.now (Whole (UnionNode [])) _ _ (rw there at c.in_ok-members.ensures.nodes))

pub walk_union-returns-clause-nodes : goal.walk_union-returns-clause-nodes
walk_union-returns-clause-nodes t c =
    let there = pushed_union c.args.drafts.now c.push.new.self c.new.result.items c.in_ok-push.ensures.nodes c.new.ensures.items in
    let room : length c.args.drafts.now < MOST_NODES = omega (arith, c.in_ok-node.ensures.node, c.in_ok-node.ensures.room) in
    let good = rw c.deref.ensures.value at (sym c.if-not-branch.false ∙ c.in_ok-are_apart.ensures) in
    let n : c.in_ok-node.node ≡ length c.args.drafts.now = c.in_ok-node.ensures.node in
    rw (c.set.ensures, n) (union-done _ (arc_str_bytes c.args.enclosing.now.text) c.args.drafts.now room _ _ (rw there at c.in_ok-members.ensures.nodes) good)

pub walk_members-walk_part-requires : goal.walk_members-walk_part-requires
walk_members-walk_part-requires t c =
    let here : depth (view c.index-items-i.result) ≤ items_depth (items_view c.args.items.now) = rw c.index-items-i.is (item-depth c.args.items.now c.loop-i.i c.index-items-i.result (omega arith)) in
    (omega (arith, here), c.loop-i.invariant.0)

pub walk_members-returns-in_err-member-clause-nodes : goal.walk_members-returns-in_err-member-clause-nodes
walk_members-returns-in_err-member-clause-nodes t c =
    let p = err_from_is_err_and c.from_residual.result c.from_residual.ensures.1 in
    let l = c.loop-i in
    rw (p.1, p.2) (λ known. sym l.invariant.1 ∙ members-fail (arc_str_bytes c.args.enclosing.now.text) c.args.items.now l.i c.index-items-i.result (omega arith) c.index-items-i.is l.members.items l.drafts _ (c.in_err-member.ensures.nodes known))

pub walk_members-returns-in_err-member-clause-place : goal.walk_members-returns-in_err-member-clause-place
walk_members-returns-in_err-member-clause-place t c =
    let p = err_from_is_err_and c.from_residual.result c.from_residual.ensures.1 in
    let l = c.loop-i in
    rw (p.1, p.2) (λ known. record {
      i = l.i;
      member = view c.index-items-i.result;
      more = heads_of l.drafts;
      comes = reaches-this (arc_str_bytes c.args.enclosing.now.text) c.args.items.now l.i c.index-items-i.result (omega arith) c.index-items-i.is (items_view c.args.items.now) (heads_of c.args.drafts.now) l.drafts l.invariant.3;
      ends = rw l.invariant.2 at (c.in_err-member.ensures.place known);
    })

pub walk_members-loop-i-preserved : goal.walk_members-loop-i-preserved
walk_members-loop-i-preserved t c =
    let l = c.loop-i in (
      enclosing-walked _ _ c.args.enclosing.now l.drafts _ _ l.invariant.0 c.in_ok-member.ensures.nodes,
      rw c.in_ok-push.ensures.items
          (sym (members-on (arc_str_bytes c.args.enclosing.now.text) c.args.items.now l.i c.index-items-i.result (omega arith) c.index-items-i.is l.members.items l.drafts _ _ c.in_ok-member.ensures.nodes) ∙ l.invariant.1),
      c.in_ok-member.ensures.place ∙ l.invariant.2,
      reaches-next (arc_str_bytes c.args.enclosing.now.text) c.args.items.now l.i c.index-items-i.result (omega arith) c.index-items-i.is (items_view c.args.items.now) (heads_of c.args.drafts.now) l.drafts _ _ c.in_ok-member.ensures.nodes l.invariant.3,
    )

pub walk_members-returns-clause-nodes : goal.walk_members-returns-clause-nodes
walk_members-returns-clause-nodes t c =
    let l = c.loop-i in
    sym l.invariant.1 ∙ members-end (arc_str_bytes c.args.enclosing.now.text) c.args.items.now l.i (omega arith) l.members.items l.drafts

-- ---- a record

pub walk_record-returns-in_err-node-clause-nodes : goal.walk_record-returns-in_err-node-clause-nodes
walk_record-returns-in_err-node-clause-nodes t c =
    let p = err_from_is_err_and c.from_residual.result c.from_residual.ensures.1 in
    rw (p.1, p.2, c.in_err-node.ensures.full) (λ _. run-no_room _ (arc_str_bytes c.args.enclosing.now.text) c.args.drafts.now c.in_err-node.ensures.none)

pub walk_record-returns-in_err-node-clause-place : goal.walk_record-returns-in_err-node-clause-place
walk_record-returns-in_err-node-clause-place t c =
    let p = err_from_is_err_and c.from_residual.result c.from_residual.ensures.1 in
    let full = full-heads c.args.drafts.now c.in_err-node.ensures.none in
    rw (p.1, p.2, c.in_err-node.ensures.full) (λ _. ends-here TooLarge (schema (view c.args.value.now) (arc_str_bytes c.args.enclosing.now.text) (heads_of c.args.drafts.now)) c.args.trail.now.items c.args.trail.now.items refl (form-fails forms.Record (view c.args.value.now) (arc_str_bytes c.args.enclosing.now.text) c.args.drafts.now TooLarge c.requires.form (run-no_room _ (arc_str_bytes c.args.enclosing.now.text) c.args.drafts.now c.in_err-node.ensures.none)) (record-sound (view c.args.value.now) (arc_str_bytes c.args.enclosing.now.text) (heads_of c.args.drafts.now) c.requires.form (λ room names named x found. omega (arith, room, full))))

pub walk_record-returns-in_err-new-clause-nodes : goal.walk_record-returns-in_err-new-clause-nodes
walk_record-returns-in_err-new-clause-nodes t c =
    let p = err_from_is_err_and c.from_residual-in_err-new.result c.from_residual-in_err-new.ensures.1 in
    let room : length c.args.drafts.now < MOST_NODES = omega (arith, c.in_ok-node.ensures.node, c.in_ok-node.ensures.room) in
    rw (p.1, p.2) (λ known. run-record _ _ _ _ (arc_str_bytes c.args.enclosing.now.text) c.args.drafts.now room ∙ rw (c.in_err-new.ensures.names known) refl)

pub walk_record-returns-in_err-new-clause-place : goal.walk_record-returns-in_err-new-clause-place
walk_record-returns-in_err-new-clause-place t c =
    let p = err_from_is_err_and c.from_residual-in_err-new.result c.from_residual-in_err-new.ensures.1 in
    let room : length c.args.drafts.now < MOST_NODES = omega (arith, c.in_ok-node.ensures.node, c.in_ok-node.ensures.room) in
    rw (p.1, p.2) (λ known. let bad = c.in_err-new.ensures.names known in ends-here _ (schema (view c.args.value.now) (arc_str_bytes c.args.enclosing.now.text) (heads_of c.args.drafts.now)) c.args.trail.now.items c.args.trail.now.items refl (form-fails forms.Record (view c.args.value.now) (arc_str_bytes c.args.enclosing.now.text) c.args.drafts.now _ c.requires.form (run-record _ _ _ _ (arc_str_bytes c.args.enclosing.now.text) c.args.drafts.now room ∙ rw bad refl)) (record-sound (view c.args.value.now) (arc_str_bytes c.args.enclosing.now.text) (heads_of c.args.drafts.now) c.requires.form (λ there names named x found. let no : ⊥ = cc in no)))

pub walk_record-walk_fields-requires : goal.walk_record-walk_fields-requires
walk_record-walk_fields-requires t c = (let less = inner-depth (codes "fields") (view c.args.value.now) (view c.in-Some.listed.now) c.in-Some.ensures in omega (arith, less), rw (c.in_ok-own.ensures.text, c.in_ok-own.ensures.number) c.in_ok-number.ensures.number)

pub walk_record-returns-in_err-fields-in-Some-clause-nodes : goal.walk_record-returns-in_err-fields-in-Some-clause-nodes
walk_record-returns-in_err-fields-in-Some-clause-nodes t c =
    let p = err_from_is_err_and c.from_residual-in_err-fields-in-Some.result c.from_residual-in_err-fields-in-Some.ensures.1 in
    let there = pushed-record c.args.drafts.now c.define.new.self c.in_ok-new.new.name c.in_ok-copy.field-0 c.in_ok-of_texts.field-0 (map draft_field_of c.new-2.result.items) c.in_ok-number.ensures.nodes c.in_ok-copy.ensures (c.in_ok-of_texts.ensures ∙ ap (λ ts. full_names (arc_str_bytes c.in_ok-shared_namespace.field-0) (map string_bytes ts)) c.new.ensures.items) (ap (map draft_field_of) c.new-2.ensures.items) in
    let room : length c.args.drafts.now < MOST_NODES = omega (arith, c.in_ok-node.ensures.node, c.in_ok-node.ensures.room) in
    let named = c.in_ok-new.ensures.names in
    rw (p.1, p.2) (λ known. fields-failed (view c.args.value.now) (arc_str_bytes c.args.enclosing.now.text) c.args.drafts.now room _ named (view c.in-Some.listed.now) _ c.in-Some.ensures (rw (c.in_ok-own.ensures.text, there) at (c.in_err-fields-in-Some.ensures.nodes known)))

pub walk_record-returns-in_err-fields-in-Some-clause-place : goal.walk_record-returns-in_err-fields-in-Some-clause-place
walk_record-returns-in_err-fields-in-Some-clause-place t c =
    let p = err_from_is_err_and c.from_residual-in_err-fields-in-Some.result c.from_residual-in_err-fields-in-Some.ensures.1 in
    let there = pushed-record c.args.drafts.now c.define.new.self c.in_ok-new.new.name c.in_ok-copy.field-0 c.in_ok-of_texts.field-0 (map draft_field_of c.new-2.result.items) c.in_ok-number.ensures.nodes c.in_ok-copy.ensures (c.in_ok-of_texts.ensures ∙ ap (λ ts. full_names (arc_str_bytes c.in_ok-shared_namespace.field-0) (map string_bytes ts)) c.new.ensures.items) (ap (map draft_field_of) c.new-2.ensures.items) in
    let room : length c.args.drafts.now < MOST_NODES = omega (arith, c.in_ok-node.ensures.node, c.in_ok-node.ensures.room) in
    let named = c.in_ok-new.ensures.names in
    rw (p.1, p.2) (λ known. fields-within (view c.args.value.now) (arc_str_bytes c.args.enclosing.now.text) c.args.drafts.now room _ named c.define.new.self (view c.in-Some.listed.now) _ c.args.trail.now.items c.walk_fields.new.trail.items c.requires.form c.in-Some.ensures there (rw c.in_ok-own.ensures.text at (c.in_err-fields-in-Some.ensures.place known)))

pub walk_record-set-requires : goal.walk_record-set-requires
walk_record-set-requires t c =
    let there = pushed-record c.args.drafts.now c.define.new.self c.in_ok-new.new.name c.in_ok-copy.field-0 c.in_ok-of_texts.field-0 (map draft_field_of c.new-2.result.items) c.in_ok-number.ensures.nodes c.in_ok-copy.ensures (c.in_ok-of_texts.ensures ∙ ap (λ ts. full_names (arc_str_bytes c.in_ok-shared_namespace.field-0) (map string_bytes ts)) c.new.ensures.items) (ap (map draft_field_of) c.new-2.ensures.items) in
    let n : c.in_ok-node.node ≡ length c.args.drafts.now = c.in_ok-node.ensures.node in
    rw n (run-keeps (fields (view c.in-Some.listed.now)) _ c.args.drafts.now (RecordDraft (names_of c.in_ok-new.new.name []) []) _ _ (rw (c.in_ok-own.ensures.text, there) at c.in_ok-fields-in-Some.ensures.nodes))

pub walk_record-returns-in_ok-fields-in-Some-clause-nodes : goal.walk_record-returns-in_ok-fields-in-Some-clause-nodes
walk_record-returns-in_ok-fields-in-Some-clause-nodes t c =
    let there = pushed-record c.args.drafts.now c.define.new.self c.in_ok-new.new.name c.in_ok-copy.field-0 c.in_ok-of_texts.field-0 (map draft_field_of c.new-2.result.items) c.in_ok-number.ensures.nodes c.in_ok-copy.ensures (c.in_ok-of_texts.ensures ∙ ap (λ ts. full_names (arc_str_bytes c.in_ok-shared_namespace.field-0) (map string_bytes ts)) c.new.ensures.items) (ap (map draft_field_of) c.new-2.ensures.items) in
    let room : length c.args.drafts.now < MOST_NODES = omega (arith, c.in_ok-node.ensures.node, c.in_ok-node.ensures.room) in
    let named = c.in_ok-new.ensures.names in
    let n : c.in_ok-node.node ≡ length c.args.drafts.now = c.in_ok-node.ensures.node in
    rw (c.set.ensures, n) (fields-done (view c.args.value.now) (arc_str_bytes c.args.enclosing.now.text) c.args.drafts.now room _ named (view c.in-Some.listed.now) _ _ c.in-Some.ensures (rw (c.in_ok-own.ensures.text, there) at c.in_ok-fields-in-Some.ensures.nodes))

pub walk_record-returns-in-None-clause-nodes : goal.walk_record-returns-in-None-clause-nodes
walk_record-returns-in-None-clause-nodes t c =
    let room : length c.args.drafts.now < MOST_NODES = omega (arith, c.in_ok-node.ensures.node, c.in_ok-node.ensures.room) in
    let named = c.in_ok-new.ensures.names in
    λ _. fields-missing (view c.args.value.now) (arc_str_bytes c.args.enclosing.now.text) c.args.drafts.now room _ named c.in-None.ensures

pub walk_record-returns-in-None-clause-place : goal.walk_record-returns-in-None-clause-place
walk_record-returns-in-None-clause-place t c =
    let room : length c.args.drafts.now < MOST_NODES = omega (arith, c.in_ok-node.ensures.node, c.in_ok-node.ensures.room) in
    let named = c.in_ok-new.ensures.names in
    λ _. ends-here Unknown (schema (view c.args.value.now) (arc_str_bytes c.args.enclosing.now.text) (heads_of c.args.drafts.now)) c.args.trail.now.items c.args.trail.now.items refl (form-fails forms.Record (view c.args.value.now) (arc_str_bytes c.args.enclosing.now.text) c.args.drafts.now Unknown c.requires.form (fields-missing (view c.args.value.now) (arc_str_bytes c.args.enclosing.now.text) c.args.drafts.now room _ named c.in-None.ensures)) (record-sound (view c.args.value.now) (arc_str_bytes c.args.enclosing.now.text) (heads_of c.args.drafts.now) c.requires.form (λ there names is x found. nothing-there _ x c.in-None.ensures found))

-- ---- its fields

pub walk_fields-returns-in-None-clause-nodes : goal.walk_fields-returns-in-None-clause-nodes
walk_fields-returns-in-None-clause-nodes t c = λ _. rw (fields-none (view c.args.value.now) c.in-None.ensures) (run-fault Unknown (arc_str_bytes c.args.enclosing.now.text) c.args.drafts.now)

pub walk_fields-returns-in-None-clause-place : goal.walk_fields-returns-in-None-clause-place
walk_fields-returns-in-None-clause-place t c = λ known. ends-here Unknown (listing (view c.args.value.now) (arc_str_bytes c.args.enclosing.now.text) (heads_of c.args.drafts.now)) (c.args.trail.now.items ++ steps.Fields ∷ []) _ c.in_ok-push.ensures.items (fails-after (fields (view c.args.value.now)) (arc_str_bytes c.args.enclosing.now.text) c.args.drafts.now Unknown (walk_fields-returns-in-None-clause-nodes t c known)) (listing-sound (view c.args.value.now) (arc_str_bytes c.args.enclosing.now.text) (heads_of c.args.drafts.now) c.in-None.ensures)

pub walk_fields-walk_listed-requires : goal.walk_fields-walk_listed-requires
walk_fields-walk_listed-requires t c = (let less = listed-depth (view c.args.value.now) (items_view c.in-Some.items.now.items) c.in-Some.ensures in rw c.deref.ensures.value (omega (arith, less)), c.requires.known)

pub walk_fields-returns-in_err-fields-in-Some-clause-nodes : goal.walk_fields-returns-in_err-fields-in-Some-clause-nodes
walk_fields-returns-in_err-fields-in-Some-clause-nodes t c =
    let p = err_from_is_err_and c.from_residual-in_err-fields-in-Some.result c.from_residual-in_err-fields-in-Some.ensures.1 in
    rw (p.1, p.2, fields-some (view c.args.value.now) (items_view c.in-Some.items.now.items) c.in-Some.ensures, ← c.deref.ensures.value) c.in_err-fields-in-Some.ensures.nodes

pub walk_fields-returns-in_err-fields-in-Some-clause-place : goal.walk_fields-returns-in_err-fields-in-Some-clause-place
walk_fields-returns-in_err-fields-in-Some-clause-place t c =
    let p = err_from_is_err_and c.from_residual-in_err-fields-in-Some.result c.from_residual-in_err-fields-in-Some.ensures.1 in
    rw (p.1, p.2) (λ known. listed-within (view c.args.value.now) (items_view c.in-Some.items.now.items) (arc_str_bytes c.args.enclosing.now.text) (heads_of c.args.drafts.now) _ (c.args.trail.now.items ++ steps.Fields ∷ []) _ c.in-Some.ensures (rw (c.in_ok-push.ensures.items, c.deref.ensures.value) at (c.in_err-fields-in-Some.ensures.place known)))

pub walk_fields-returns-in_ok-fields-in-Some-clause-nodes : goal.walk_fields-returns-in_ok-fields-in-Some-clause-nodes
walk_fields-returns-in_ok-fields-in-Some-clause-nodes t c = rw (fields-some (view c.args.value.now) (items_view c.in-Some.items.now.items) c.in-Some.ensures, ← c.deref.ensures.value) c.in_ok-fields-in-Some.ensures.nodes

pub walk_listed-walk_field-requires : goal.walk_listed-walk_field-requires
walk_listed-walk_field-requires t c =
    let here : depth (view c.index-items-i.result) ≤ items_depth (items_view c.args.items.now) = rw c.index-items-i.is (item-depth c.args.items.now c.loop-i.i c.index-items-i.result (omega arith)) in
    (omega (arith, here), c.loop-i.invariant.0)

pub walk_listed-returns-in_err-field-clause-nodes : goal.walk_listed-returns-in_err-field-clause-nodes
walk_listed-returns-in_err-field-clause-nodes t c =
    let p = err_from_is_err_and c.from_residual-in_err-field.result c.from_residual-in_err-field.ensures.1 in
    let l = c.loop-i in
    rw (p.1, p.2) (λ known. sym l.invariant.1 ∙ fields-fail (arc_str_bytes c.args.enclosing.now.text) c.args.items.now l.i c.index-items-i.result (omega arith) c.index-items-i.is l.list (field_names l.list) l.drafts _ (c.in_err-field.ensures.nodes known))

pub walk_listed-returns-in_err-field-clause-place : goal.walk_listed-returns-in_err-field-clause-place
walk_listed-returns-in_err-field-clause-place t c =
    let p = err_from_is_err_and c.from_residual-in_err-field.result c.from_residual-in_err-field.ensures.1 in
    let l = c.loop-i in
    rw (p.1, p.2) (λ known. record {
      i = l.i;
      field = field_after (field_names l.list) (view c.index-items-i.result) (arc_str_bytes c.args.enclosing.now.text) (heads_of l.drafts);
      comes = reaches_field-this (arc_str_bytes c.args.enclosing.now.text) c.args.items.now l.i c.index-items-i.result (omega arith) c.index-items-i.is (items_view c.args.items.now) (heads_of c.args.drafts.now) l.drafts (field_names l.list) l.invariant.3;
      ends = rw (c.in_ok-push.ensures.items, l.invariant.2) at (c.in_err-field.ensures.place known);
    })

pub walk_listed-loop-i-preserved : goal.walk_listed-loop-i-preserved
walk_listed-loop-i-preserved t c =
    let l = c.loop-i in
    let n : vec_len c.walk_field.new.trail ≡ length c.walk_field.new.trail.items = search rules in
    let f = c.in_ok-field.field in (
      enclosing-walked _ _ c.args.enclosing.now l.drafts _ _ l.invariant.0 c.in_ok-field.ensures.nodes,
      rw (c.in_ok-push-2.ensures.fields, map-push (λ g. g.name) l.list (draft_field_of f))
          (sym (fields-on (arc_str_bytes c.args.enclosing.now.text) c.args.items.now l.i c.index-items-i.result (omega arith) c.index-items-i.is l.list (field_names l.list) l.drafts _ _ c.in_ok-field.ensures.nodes) ∙ l.invariant.1),
      c.pop.ensures.rest ∙ popped l.trail.items c.walk_field.new.trail.items (steps.At l.i) (vec_len c.walk_field.new.trail) (c.in_ok-field.ensures.place ∙ c.in_ok-push.ensures.items) n ∙ l.invariant.2,
      rw (c.in_ok-push-2.ensures.fields, map-push (λ g. g.name) l.list (draft_field_of f))
          (reaches_field-next (arc_str_bytes c.args.enclosing.now.text) c.args.items.now l.i c.index-items-i.result (omega arith) c.index-items-i.is (items_view c.args.items.now) (heads_of c.args.drafts.now) l.drafts (field_names l.list) _ _ c.in_ok-field.ensures.nodes l.invariant.3),
    )

pub walk_listed-returns-clause-nodes : goal.walk_listed-returns-clause-nodes
walk_listed-returns-clause-nodes t c =
    let l = c.loop-i in
    rw c.into_fields.ensures (sym l.invariant.1 ∙ fields-end (arc_str_bytes c.args.enclosing.now.text) c.args.items.now l.i (omega arith) l.list (field_names l.list) l.drafts)

-- ---- a field

pub walk_field-returns-then-not-is_object-clause-nodes : goal.walk_field-returns-then-not-is_object-clause-nodes
walk_field-returns-then-not-is_object-clause-nodes t c = λ _. rw (field-other (view c.args.value.now) (field_names c.args.before.now) c.if-not-is_object.ensures) (run-fault Unknown (arc_str_bytes c.args.enclosing.now.text) c.args.drafts.now)

pub walk_field-returns-then-not-is_object-clause-place : goal.walk_field-returns-then-not-is_object-clause-place
walk_field-returns-then-not-is_object-clause-place t c = λ known. ends-here Unknown (field_after (field_names c.args.before.now) (view c.args.value.now) (arc_str_bytes c.args.enclosing.now.text) (heads_of c.args.drafts.now)) c.args.trail.now.items c.args.trail.now.items refl (fails-after (field (view c.args.value.now) (field_names c.args.before.now)) (arc_str_bytes c.args.enclosing.now.text) c.args.drafts.now Unknown (walk_field-returns-then-not-is_object-clause-nodes t c known)) (field-sound (field_names c.args.before.now) (view c.args.value.now) (arc_str_bytes c.args.enclosing.now.text) (heads_of c.args.drafts.now) (λ few name named aliases aliased x found. nothing-in (view c.args.value.now) (codes "type") c.if-not-is_object.ensures x found))

pub walk_field-returns-then-len-ge-MOST_FIELDS-clause-nodes : goal.walk_field-returns-then-len-ge-MOST_FIELDS-clause-nodes
walk_field-returns-then-len-ge-MOST_FIELDS-clause-nodes t c = λ _. run-many (view c.args.value.now) c.args.before.now (arc_str_bytes c.args.enclosing.now.text) c.args.drafts.now c.if-not-is_object.ensures (let many : MOST_FIELDS ≤ length c.args.before.now = omega arith in many)

pub walk_field-returns-then-len-ge-MOST_FIELDS-clause-place : goal.walk_field-returns-then-len-ge-MOST_FIELDS-clause-place
walk_field-returns-then-len-ge-MOST_FIELDS-clause-place t c =
    let many : MOST_FIELDS ≤ length (field_names c.args.before.now) = rw (names-length c.args.before.now) (omega arith) in
    λ known. ends-here TooLarge (field_after (field_names c.args.before.now) (view c.args.value.now) (arc_str_bytes c.args.enclosing.now.text) (heads_of c.args.drafts.now)) c.args.trail.now.items c.args.trail.now.items refl (fails-after (field (view c.args.value.now) (field_names c.args.before.now)) (arc_str_bytes c.args.enclosing.now.text) c.args.drafts.now TooLarge (walk_field-returns-then-len-ge-MOST_FIELDS-clause-nodes t c known)) (field-sound (field_names c.args.before.now) (view c.args.value.now) (arc_str_bytes c.args.enclosing.now.text) (heads_of c.args.drafts.now) (λ few name named aliases aliased x found. omega (arith, few, many)))

pub walk_field-returns-in_err-name-clause-nodes : goal.walk_field-returns-in_err-name-clause-nodes
walk_field-returns-in_err-name-clause-nodes t c =
    let p = err_from_is_err_and c.from_residual.result c.from_residual.ensures.1 in
    let room : length c.args.before.now < MOST_FIELDS = omega arith in
    rw (p.1, p.2) (λ known. run-field (view c.args.value.now) c.args.before.now (arc_str_bytes c.args.enclosing.now.text) c.args.drafts.now c.if-not-is_object.ensures room ∙ rw (← c.get.ensures, c.in_err-name.ensures known) refl)

pub walk_field-returns-in_err-name-clause-place : goal.walk_field-returns-in_err-name-clause-place
walk_field-returns-in_err-name-clause-place t c =
    let p = err_from_is_err_and c.from_residual.result c.from_residual.ensures.1 in
    let room : length c.args.before.now < MOST_FIELDS = omega arith in
    rw (p.1, p.2) (λ known. let bad = rw c.get.ensures at (c.in_err-name.ensures known) in ends-here _ (field_after (field_names c.args.before.now) (view c.args.value.now) (arc_str_bytes c.args.enclosing.now.text) (heads_of c.args.drafts.now)) c.args.trail.now.items c.args.trail.now.items refl (fails-after (field (view c.args.value.now) (field_names c.args.before.now)) (arc_str_bytes c.args.enclosing.now.text) c.args.drafts.now _ (run-field (view c.args.value.now) c.args.before.now (arc_str_bytes c.args.enclosing.now.text) c.args.drafts.now c.if-not-is_object.ensures room ∙ rw bad refl)) (field-sound (field_names c.args.before.now) (view c.args.value.now) (arc_str_bytes c.args.enclosing.now.text) (heads_of c.args.drafts.now) (λ few name named aliases aliased x found. let no : ⊥ = cc in no)))

pub walk_field-returns-in_err-aliases-clause-nodes : goal.walk_field-returns-in_err-aliases-clause-nodes
walk_field-returns-in_err-aliases-clause-nodes t c =
    let p = err_from_is_err_and c.from_residual-in_err-aliases.result c.from_residual-in_err-aliases.ensures.1 in
    let room : length c.args.before.now < MOST_FIELDS = omega arith in
    rw (p.1, p.2) (λ known. run-field (view c.args.value.now) c.args.before.now (arc_str_bytes c.args.enclosing.now.text) c.args.drafts.now c.if-not-is_object.ensures room ∙ rw (← c.get.ensures, c.in_ok-name.ensures, ← c.get-2.ensures, c.in_err-aliases.ensures known) refl)

pub walk_field-returns-in_err-aliases-clause-place : goal.walk_field-returns-in_err-aliases-clause-place
walk_field-returns-in_err-aliases-clause-place t c =
    let p = err_from_is_err_and c.from_residual-in_err-aliases.result c.from_residual-in_err-aliases.ensures.1 in
    let room : length c.args.before.now < MOST_FIELDS = omega arith in
    rw (p.1, p.2) (λ known.
    let good = rw c.get.ensures at c.in_ok-name.ensures in
    let bad = rw c.get-2.ensures at (c.in_err-aliases.ensures known) in
    ends-here _ (field_after (field_names c.args.before.now) (view c.args.value.now) (arc_str_bytes c.args.enclosing.now.text) (heads_of c.args.drafts.now)) c.args.trail.now.items c.args.trail.now.items refl (fails-after (field (view c.args.value.now) (field_names c.args.before.now)) (arc_str_bytes c.args.enclosing.now.text) c.args.drafts.now _ (run-field (view c.args.value.now) c.args.before.now (arc_str_bytes c.args.enclosing.now.text) c.args.drafts.now c.if-not-is_object.ensures room ∙ rw (good, bad) refl)) (field-sound (field_names c.args.before.now) (view c.args.value.now) (arc_str_bytes c.args.enclosing.now.text) (heads_of c.args.drafts.now) (λ few name named aliases aliased x found. let no : ⊥ = cc in no)))

pub walk_field-walk_part-requires : goal.walk_field-walk_part-requires
walk_field-walk_part-requires t c = (let less = inner-depth (codes "type") (view c.args.value.now) (view c.in-Some.inner.now) c.in-Some.ensures in omega (arith, less), c.requires.known)

pub walk_field-returns-in_err-walk_part-in-Some-clause-nodes : goal.walk_field-returns-in_err-walk_part-in-Some-clause-nodes
walk_field-returns-in_err-walk_part-in-Some-clause-nodes t c =
    let p = err_from_is_err_and c.from_residual-in_err-walk_part-in-Some.result c.from_residual-in_err-walk_part-in-Some.ensures.1 in
    let room : length c.args.before.now < MOST_FIELDS = omega arith in
    rw (p.1, p.2) (λ known. run-field (view c.args.value.now) c.args.before.now (arc_str_bytes c.args.enclosing.now.text) c.args.drafts.now c.if-not-is_object.ensures room ∙ rw (← c.get.ensures, c.in_ok-name.ensures, ← c.get-2.ensures, c.in_ok-aliases.ensures, ← c.in-Some.ensures, c.in_err-walk_part-in-Some.ensures.nodes known) refl)

pub walk_field-returns-in_err-walk_part-in-Some-clause-place : goal.walk_field-returns-in_err-walk_part-in-Some-clause-place
walk_field-returns-in_err-walk_part-in-Some-clause-place t c =
    let p = err_from_is_err_and c.from_residual-in_err-walk_part-in-Some.result c.from_residual-in_err-walk_part-in-Some.ensures.1 in
    let few : length (field_names c.args.before.now) < MOST_FIELDS = rw (names-length c.args.before.now) (omega arith) in
    rw (p.1, p.2) (λ known.
    let named = rw c.get.ensures at c.in_ok-name.ensures in
    let aliased = rw c.get-2.ensures at c.in_ok-aliases.ensures in
    ends-within _ (field_after (field_names c.args.before.now) (view c.args.value.now) (arc_str_bytes c.args.enclosing.now.text) (heads_of c.args.drafts.now)) (schema (view c.in-Some.inner.now) (arc_str_bytes c.args.enclosing.now.text) (heads_of c.args.drafts.now)) steps.Type c.args.trail.now.items c.walk_part.new.trail.items (to_type few named aliased (sym c.in-Some.ensures)) (c.in_err-walk_part-in-Some.ensures.place known))

pub walk_field-returns-in_ok-walk_part-in-Some-clause-nodes : goal.walk_field-returns-in_ok-walk_part-in-Some-clause-nodes
walk_field-returns-in_ok-walk_part-in-Some-clause-nodes t c =
    let room : length c.args.before.now < MOST_FIELDS = omega arith in
    run-field (view c.args.value.now) c.args.before.now (arc_str_bytes c.args.enclosing.now.text) c.args.drafts.now c.if-not-is_object.ensures room ∙ rw (← c.get.ensures, c.in_ok-name.ensures, ← c.get-2.ensures, c.in_ok-aliases.ensures, ← c.in-Some.ensures, c.in_ok-walk_part-in-Some.ensures.nodes, ← c.get-in-Some.ensures) refl

pub walk_field-returns-in-None-clause-nodes : goal.walk_field-returns-in-None-clause-nodes
unfolding run
walk_field-returns-in-None-clause-nodes t c =
    let room : length c.args.before.now < MOST_FIELDS = omega arith in
    λ _. run-field (view c.args.value.now) c.args.before.now (arc_str_bytes c.args.enclosing.now.text) c.args.drafts.now c.if-not-is_object.ensures room ∙ rw (← c.get.ensures, c.in_ok-name.ensures, ← c.get-2.ensures, c.in_ok-aliases.ensures, ← c.in-None.ensures) (refl)

pub walk_field-returns-in-None-clause-place : goal.walk_field-returns-in-None-clause-place
walk_field-returns-in-None-clause-place t c = λ known. ends-here Unknown (field_after (field_names c.args.before.now) (view c.args.value.now) (arc_str_bytes c.args.enclosing.now.text) (heads_of c.args.drafts.now)) c.args.trail.now.items c.args.trail.now.items refl (fails-after (field (view c.args.value.now) (field_names c.args.before.now)) (arc_str_bytes c.args.enclosing.now.text) c.args.drafts.now Unknown (walk_field-returns-in-None-clause-nodes t c known)) (field-sound (field_names c.args.before.now) (view c.args.value.now) (arc_str_bytes c.args.enclosing.now.text) (heads_of c.args.drafts.now) (λ few name named aliases aliased x found. nothing-there _ x c.in-None.ensures found))
