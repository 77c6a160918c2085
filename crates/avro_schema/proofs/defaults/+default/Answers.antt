use Rattle.std.proofs.Common.{string_bytes, ◌≤◌, ◌≡◌, ◌∙◌, sym, ap, refl, arith, option_map, map, Some, Option, Ok}
use Rattle.std.proofs.lemmas.Result.{err_from_is_err_and}
use Rattle.std.specs.Option.{ok_or}
use Rattle.serde_json.specs.Data.{depth, items_depth}
use Rattle.serde_json.specs.View.{view, items_view, members_view}
use Rattle.spec_schema.specs.declared.schema_error.SchemaError.TheVariants.{BadDefault}
use Rattle.spec_avro.specs.Datum.{Data, Pairs, Datum, ArrayDatum, MapDatum, RecordDatum, UnionDatum}
use Rattle.spec_schema.specs.Defaults.{value_of}
use Rattle.serde_json.specs.Find.{get}
use Rattle.spec_schema.specs.Draft.{Whole}
use Rattle.avro_schema_names.specs.Draft.{draft_field_of, draft_of, drafts_of}
use Rattle.avro_types.specs.Node.{node_of}
use Rattle.avro_types.specs.Laws.DatumOf.{datum_of-Array, datum_of-Map, datum_of-Record}
use Rattle.avro_schema.proofs.DefaultParts.{draft-at, few-at, items-on, items-fail, items-end, pairs-on, pairs-fail, pairs-end, members-depth, union-value, whole-plain, fault-map, told-map, fields-on, fields-fail, fields-end, record-value, record-other, array-value, array-other, map-value, map-other, whole-leaf, leaf-value}
use Rattle.avro_schema_names.proofs.Depths.{item-depth, found-depth, option_depth}
use Rattle.avro_schema.proofs.defaults.+default.Goals as goal

pub items_default-default_at-requires : goal.items_default-default_at-requires
items_default-default_at-requires t c =
    let here : depth (view c.item-item.result) ≤ items_depth (items_view c.args.items.now) = rw c.item-item.is (item-depth c.args.items.now c.loop-item.item-index c.item-item.result (omega arith)) in
    (omega (arith, here), c.requires.few)

pub items_default-returns-in_err-datum : goal.items_default-returns-in_err-datum
items_default-returns-in_err-datum t c =
    let p = err_from_is_err_and c.from_residual.result c.from_residual.ensures.1 in
    let l = c.loop-item in
    rw (p.1, p.2) (λ known. ap (λ (o : Option Data). ok_or o BadDefault) (sym l.invariant)
    ∙ items-fail (drafts_of c.args.drafts.now) c.args.node c.args.items.now l.item-index c.item-item.result (omega arith) c.item-item.is l.data.items _ (c.in_err-datum.ensures known))

pub items_default-loop-item-preserved : goal.items_default-loop-item-preserved
items_default-loop-item-preserved t c =
    let l = c.loop-item in
    rw c.in_ok-push.ensures.items (sym (items-on (drafts_of c.args.drafts.now) c.args.node c.args.items.now l.item-index c.item-item.result (omega arith) c.item-item.is l.data.items c.in_ok-datum.datum c.in_ok-datum.ensures) ∙ l.invariant)

pub items_default-returns : goal.items_default-returns
items_default-returns t c =
    let l = c.loop-item in
    ap (λ (o : Option Data). ok_or o BadDefault) (sym l.invariant ∙ items-end (drafts_of c.args.drafts.now) c.args.node c.args.items.now l.item-index (omega arith) l.data.items)

pub pairs_default-returns-in_err-datum : goal.pairs_default-returns-in_err-datum
pairs_default-returns-in_err-datum t c =
    let p = err_from_is_err_and c.from_residual.result c.from_residual.ensures.1 in
    let l = c.loop-key in
    rw (p.1, p.2) (λ known. ap (λ (o : Option Pairs). ok_or o BadDefault) (sym l.invariant.1)
    ∙ pairs-fail (drafts_of c.args.drafts.now) c.args.node (c.in-Some.key.now, c.in-Some.value.now) c.next.new.self l.key-iterator c.in-Some.ensures.steps l.pairs.items _ (c.in_err-datum.ensures known))

pub pairs_default-loop-key-preserved : goal.pairs_default-loop-key-preserved
pairs_default-loop-key-preserved t c =
    let l = c.loop-key in
    let less = members-depth l.key-iterator (c.in-Some.key.now, c.in-Some.value.now) c.next.new.self c.in-Some.ensures.steps in (
      omega (arith, less.0, l.invariant.0),
      rw c.in_ok-push.ensures.items (sym (pairs-on (drafts_of c.args.drafts.now) c.args.node (c.in-Some.key.now, c.in-Some.value.now) c.next.new.self l.key-iterator c.in-Some.ensures.steps l.pairs.items c.in_ok-key.key c.in_ok-datum.datum c.in_ok-key.ensures.cases c.in_ok-datum.ensures) ∙ l.invariant.1),
    )

pub pairs_default-returns : goal.pairs_default-returns
pairs_default-returns t c =
    let l = c.loop-key in
    let kept = rw c.in-None.ensures.steps.0 at l.invariant.1 in
    ap (λ (o : Option Pairs). ok_or o BadDefault) (sym kept ∙ pairs-end (drafts_of c.args.drafts.now) c.args.node l.pairs.items)

pub default_at-plain_default-requires : goal.default_at-plain_default-requires
default_at-plain_default-requires t c =
    let placed = draft-at c.args.drafts.now c.args.node c.in-Some.draft.now c.in-Some.ensures.lookup.3.0 c.in-Some.ensures.lookup.1 in
    (omega arith, (c.requires.few, few-at (drafts_of c.args.drafts.now) c.args.node _ c.requires.few placed))

pub default_at-returns-in-Union : goal.default_at-returns-in-Union
default_at-returns-in-Union t c =
    let placed = draft-at c.args.drafts.now c.args.node c.in-Some.draft.now c.in-Some.ensures.lookup.3.0 c.in-Some.ensures.lookup.1 in
    rw (placed, c.in-Whole.is, c.in-Union.is, ← c.deref.ensures.value) c.union_default.ensures

pub default_at-returns-in_default-kind : goal.default_at-returns-in_default-kind
default_at-returns-in_default-kind t c =
    let placed = draft-at c.args.drafts.now c.args.node c.in-Some.draft.now c.in-Some.ensures.lookup.3.0 c.in-Some.ensures.lookup.1 in
    rw (placed, c.in-Whole.is, whole-plain c.in-Whole.kind c.in_default-kind.not-Union (drafts_of c.args.drafts.now) _) (rw c.in-Whole.is at c.plain_default.ensures)

pub default_at-returns-in-Record : goal.default_at-returns-in-Record
default_at-returns-in-Record t c =
    let placed = draft-at c.args.drafts.now c.args.node c.in-Some.draft.now c.in-Some.ensures.lookup.3.0 c.in-Some.ensures.lookup.1 in
    rw (placed, c.in-Record.is) (rw c.in-Record.is at c.plain_default-in-Record.ensures)

pub union_default-plain_default-requires : goal.union_default-plain_default-requires
union_default-plain_default-requires t c =
    let placed = draft-at c.args.drafts.now c.in-Some.first c.in-Some-get.draft.now c.in-Some-get.ensures.lookup.3.0 c.in-Some-get.ensures.lookup.1 in
    (omega arith, (c.requires.few, few-at (drafts_of c.args.drafts.now) c.in-Some.first _ c.requires.few placed))

pub union_default-returns-in_err-datum : goal.union_default-returns-in_err-datum
union_default-returns-in_err-datum t c =
    let p = err_from_is_err_and c.from_residual.result c.from_residual.ensures.1 in
    let placed = draft-at c.args.drafts.now c.in-Some.first c.in-Some-get.draft.now c.in-Some-get.ensures.lookup.3.0 c.in-Some-get.ensures.lookup.1 in
    rw (p.1, p.2) (λ known. rw (union-value (drafts_of c.args.drafts.now) _ c.args.members.now c.in-Some.first _ c.in-Some.ensures placed) (fault-map (UnionDatum 0) _ _ (c.in_err-datum.ensures known)))

pub union_default-returns : goal.union_default-returns
union_default-returns t c =
    let placed = draft-at c.args.drafts.now c.in-Some.first c.in-Some-get.draft.now c.in-Some-get.ensures.lookup.3.0 c.in-Some-get.ensures.lookup.1 in
    rw (union-value (drafts_of c.args.drafts.now) (value_of (view c.args.value.now) (drafts_of c.args.drafts.now)) c.args.members.now c.in-Some.first _ c.in-Some.ensures placed, c.in_ok-new.ensures.ok) (told-map (UnionDatum 0) _ _ c.in_ok-datum.ensures)

pub fields_default-default_at-requires : goal.fields_default-default_at-requires
fields_default-default_at-requires t c =
    let found = found-depth c.as_str.result.now (option_map (λ v. view v.now) c.get.result) (view c.args.value.now) c.get.ensures in
    let here = ap (λ o. option_depth (option_map (λ v. view v.now) o)) c.in-Some.is in
    (omega (arith, found, here), c.requires.few)

pub fields_default-returns-in_err-datum : goal.fields_default-returns-in_err-datum
fields_default-returns-in_err-datum t c =
    let p = err_from_is_err_and c.from_residual.result c.from_residual.ensures.1 in
    let l = c.loop-field in
    let found : get (string_bytes c.field-item.result.name) (view c.args.value.now) ≡ Some (view c.in-Some.member.now) = rw (← c.as_str.ensures.value, ← c.get.ensures, c.in-Some.is) refl in
    rw (p.1, p.2) (λ known. ap (λ (o : Option Data). ok_or o BadDefault) (sym l.invariant)
    ∙ fields-fail (drafts_of c.args.drafts.now) (view c.args.value.now) c.args.fields.now l.field-index c.field-item.result (omega arith) c.field-item.is l.data.items (view c.in-Some.member.now) found _ (c.in_err-datum.ensures known))

pub fields_default-loop-field-preserved : goal.fields_default-loop-field-preserved
fields_default-loop-field-preserved t c =
    let l = c.loop-field in
    let found : get (string_bytes c.field-item.result.name) (view c.args.value.now) ≡ Some (view c.in-Some.member.now) = rw (← c.as_str.ensures.value, ← c.get.ensures, c.in-Some.is) refl in
    rw c.in_ok-push.ensures.items (sym (fields-on (drafts_of c.args.drafts.now) (view c.args.value.now) c.args.fields.now l.field-index c.field-item.result (omega arith) c.field-item.is l.data.items (view c.in-Some.member.now) found c.in_ok-datum.datum c.in_ok-datum.ensures) ∙ l.invariant)

pub fields_default-returns : goal.fields_default-returns
fields_default-returns t c =
    let l = c.loop-field in
    ap (λ (o : Option Data). ok_or o BadDefault) (sym l.invariant ∙ fields-end (drafts_of c.args.drafts.now) (view c.args.value.now) c.args.fields.now l.field-index (omega arith) l.data.items)

-- ---- by each kind of node

pub plain_default-returns-then-not-is_object : goal.plain_default-returns-then-not-is_object
plain_default-returns-then-not-is_object t c =
    λ _. ap (λ (o : Option Datum). ok_or o BadDefault) (ap (value_of (view c.args.value.now) (drafts_of c.args.drafts.now)) (ap draft_of c.in-Record.is)
    ∙ record-other (view c.args.value.now) c.if-not-is_object.ensures (drafts_of c.args.drafts.now) _ (map draft_field_of c.in-Record.fields.items))

pub plain_default-returns-in_err-data-in-Record : goal.plain_default-returns-in_err-data-in-Record
plain_default-returns-in_err-data-in-Record t c =
    let p = err_from_is_err_and c.from_residual.result c.from_residual.ensures.1 in
    rw (p.1, p.2) (λ known. ap (λ (o : Option Datum). ok_or o BadDefault) (ap (value_of (view c.args.value.now) (drafts_of c.args.drafts.now)) (ap draft_of c.in-Record.is)
    ∙ record-value (view c.args.value.now) c.if-not-is_object.ensures (drafts_of c.args.drafts.now) _ (map draft_field_of c.in-Record.fields.items))
    ∙ fault-map RecordDatum _ _ (rw c.deref.ensures.value at (c.in_err-data-in-Record.ensures known)))

pub plain_default-returns-in_ok-data-in-Record : goal.plain_default-returns-in_ok-data-in-Record
plain_default-returns-in_ok-data-in-Record t c =
    ap (λ (o : Option Datum). ok_or o BadDefault) (ap (value_of (view c.args.value.now) (drafts_of c.args.drafts.now)) (ap draft_of c.in-Record.is)
    ∙ record-value (view c.args.value.now) c.if-not-is_object.ensures (drafts_of c.args.drafts.now) _ (map draft_field_of c.in-Record.fields.items))
    ∙ told-map RecordDatum _ _ (rw c.deref.ensures.value at c.in_ok-data-in-Record.ensures) ∙ ap Ok (sym (datum_of-Record c.in_ok-data-in-Record.data))

pub whole_default-returns-in_default-as_array : goal.whole_default-returns-in_default-as_array
whole_default-returns-in_default-as_array t c =
    λ _. ap (λ (o : Option Datum). ok_or o BadDefault) (ap (λ k. value_of (view c.args.value.now) (drafts_of c.args.drafts.now) (Whole (node_of k))) c.in-Array.is
    ∙ array-other (view c.args.value.now) c.in_default-as_array.ensures (drafts_of c.args.drafts.now) c.in-Array.node)

pub whole_default-returns-in_err-data-in-Array : goal.whole_default-returns-in_err-data-in-Array
whole_default-returns-in_err-data-in-Array t c =
    let p = err_from_is_err_and c.from_residual.result c.from_residual.ensures.1 in
    rw (p.1, p.2) (λ known. ap (λ (o : Option Datum). ok_or o BadDefault) (ap (λ k. value_of (view c.args.value.now) (drafts_of c.args.drafts.now) (Whole (node_of k))) c.in-Array.is
    ∙ array-value (view c.args.value.now) (items_view c.in-Some.items.now.items) c.in-Some.ensures (drafts_of c.args.drafts.now) c.in-Array.node)
    ∙ fault-map ArrayDatum _ _ (rw c.deref.ensures.value at (c.in_err-data-in-Array.ensures known)))

pub whole_default-returns-in_ok-data-in-Array : goal.whole_default-returns-in_ok-data-in-Array
whole_default-returns-in_ok-data-in-Array t c =
    ap (λ (o : Option Datum). ok_or o BadDefault) (ap (λ k. value_of (view c.args.value.now) (drafts_of c.args.drafts.now) (Whole (node_of k))) c.in-Array.is
    ∙ array-value (view c.args.value.now) (items_view c.in-Some.items.now.items) c.in-Some.ensures (drafts_of c.args.drafts.now) c.in-Array.node)
    ∙ told-map ArrayDatum _ _ (rw c.deref.ensures.value at c.in_ok-data-in-Array.ensures) ∙ ap Ok (sym (datum_of-Array c.in_ok-data-in-Array.data))

pub whole_default-returns-in_default-as_object : goal.whole_default-returns-in_default-as_object
whole_default-returns-in_default-as_object t c =
    λ _. ap (λ (o : Option Datum). ok_or o BadDefault) (ap (λ k. value_of (view c.args.value.now) (drafts_of c.args.drafts.now) (Whole (node_of k))) c.in-Map.is
    ∙ map-other (view c.args.value.now) c.in_default-as_object.ensures (drafts_of c.args.drafts.now) c.in-Map.node)

pub whole_default-returns-in_err-pairs-in-Map : goal.whole_default-returns-in_err-pairs-in-Map
whole_default-returns-in_err-pairs-in-Map t c =
    let p = err_from_is_err_and c.from_residual-in_err-pairs-in-Map.result c.from_residual-in_err-pairs-in-Map.ensures.1 in
    rw (p.1, p.2) (λ known. ap (λ (o : Option Datum). ok_or o BadDefault) (ap (λ k. value_of (view c.args.value.now) (drafts_of c.args.drafts.now) (Whole (node_of k))) c.in-Map.is
    ∙ map-value (view c.args.value.now) (members_view c.in-Some-as_object.members.now.entries) c.in-Some-as_object.ensures (drafts_of c.args.drafts.now) c.in-Map.node)
    ∙ fault-map MapDatum _ _ (c.in_err-pairs-in-Map.ensures known))

pub whole_default-returns-in_ok-pairs-in-Map : goal.whole_default-returns-in_ok-pairs-in-Map
whole_default-returns-in_ok-pairs-in-Map t c =
    ap (λ (o : Option Datum). ok_or o BadDefault) (ap (λ k. value_of (view c.args.value.now) (drafts_of c.args.drafts.now) (Whole (node_of k))) c.in-Map.is
    ∙ map-value (view c.args.value.now) (members_view c.in-Some-as_object.members.now.entries) c.in-Some-as_object.ensures (drafts_of c.args.drafts.now) c.in-Map.node)
    ∙ told-map MapDatum _ _ c.in_ok-pairs-in-Map.ensures ∙ ap Ok (sym (datum_of-Map c.in_ok-pairs-in-Map.pairs))

pub whole_default-returns-in_default : goal.whole_default-returns-in_default
whole_default-returns-in_default t c =
    rw (leaf-value (view c.args.value.now) (drafts_of c.args.drafts.now) (node_of c.args.kind.now) (whole-leaf c.args.kind.now c.in_default.not-Array c.in_default.not-Map)) c.leaf_default.ensures
