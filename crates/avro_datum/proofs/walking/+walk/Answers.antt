use Rattle.std.proofs.Common.{rules, ◌≡◌, ◌<◌, [], length, ap, ◌∙◌, arith}
use Rattle.std.proofs.lemmas.Option.{slice_get_read}
use Rattle.std.proofs.lemmas.Result.{err_from_is_err_and}
use Rattle.avro_bytes.specs.Decoding.{map_decoding}
use Rattle.spec_avro.specs.Datum.{RecordDatum, UnionDatum}
use Rattle.avro_datum.specs.declared.parts.Parts.TheVariants.{Fields}
use Rattle.avro_datum.specs.Decoding.{data_from}
use Rattle.avro_datum.specs.Walking.{part, whole_of}
use Rattle.avro_datum.proofs.ByKind.{array_walked, at_depth, box_fails, datum_fails, deeper, inner_fails, key_fails, leaf_walked, map_walked, member_ends, member_fails, part_ends, position_fails, record_walked}
use Rattle.avro_datum.proofs.Fields as fields
use Rattle.avro_datum.proofs.Items as items
use Rattle.avro_datum.proofs.Walked.{fails_mapped}
use Rattle.avro_datum.proofs.walking.+walk.Goals as goal

-- ---- unions

pub walk_node-returns-in_err-n-clause-walks : goal.walk_node-returns-in_err-n-clause-walks
walk_node-returns-in_err-n-clause-walks g t c =
    let p = err_from_is_err_and c.from_residual.result c.from_residual.ensures.1 in
    let len : c.len.result ≡ length c.in-Union.members.items = search rules in
    rw (p.1, p.2) (position_fails c.args.nodes.now c.args.bytes.now c.args.node c.args.at c.args.meter _ _ (rw c.in-Union.is at c.kind.ensures.kind) len g.S.Sink.may_lack c.in_err-n.field-0.0 c.in_err-n.ensures.finds)

pub walk_node-returns-in_err-datum-clause-walks : goal.walk_node-returns-in_err-datum-clause-walks
walk_node-returns-in_err-datum-clause-walks g t c =
    let p = err_from_is_err_and c.from_residual-in_err-datum.result c.from_residual-in_err-datum.ensures.1 in
    let len : c.len.result ≡ length c.in-Union.members.items = search rules in
    let got = slice_get_read c.in-Union.members.items c.len.result c.in_ok-n.n c.index-member.result.now len c.in_ok-n.ensures.position c.index-member.ensures in
    let all = (rw c.in-Union.is at c.kind.ensures.well_formed).0 in
    rw (p.1, p.2) (member_fails c.args.nodes.now c.args.bytes.now c.args.node c.args.at c.args.meter _ _ (rw c.in-Union.is at c.kind.ensures.kind) len c.in_ok-n.n _ _ _ c.in_ok-n.ensures.finds got c.in_ok-n.ensures.depth all g.S.Sink.may_lack c.in_err-datum.field-0.0 c.in_err-datum.ensures.walks)

pub walk_node-returns-in_err-whole-clause-walks : goal.walk_node-returns-in_err-whole-clause-walks
walk_node-returns-in_err-whole-clause-walks g t c =
    let p = err_from_is_err_and c.from_residual-in_err-whole.result c.from_residual-in_err-whole.ensures.1 in
    let len : c.len.result ≡ length c.in-Union.members.items = search rules in
    let got = slice_get_read c.in-Union.members.items c.len.result c.in_ok-n.n c.index-member.result.now len c.in_ok-n.ensures.position c.index-member.ensures in
    let all = (rw c.in-Union.is at c.kind.ensures.well_formed).0 in
    let d = c.in_ok-datum.ensures.walks in
    rw (p.1, p.2) (c.in_err-whole.ensures.err, box_fails c.args.nodes.now c.args.bytes.now c.args.node c.args.at c.args.meter _ _ (rw c.in-Union.is at c.kind.ensures.kind) len c.in_ok-n.n _ _ _ c.in_ok-n.ensures.finds got c.in_ok-n.ensures.depth all d.0 _ _ d.1)

pub walk_node-returns-clause-walks : goal.walk_node-returns-clause-walks
walk_node-returns-clause-walks g t c =
    let len : c.len.result ≡ length c.in-Union.members.items = search rules in
    let got = slice_get_read c.in-Union.members.items c.len.result c.in_ok-n.n c.index-member.result.now len c.in_ok-n.ensures.position c.index-member.ensures in
    let all = (rw c.in-Union.is at c.kind.ensures.well_formed).0 in
    let d = c.in_ok-datum.ensures.walks in
    (UnionDatum c.in_ok-n.n d.0, member_ends c.args.nodes.now c.args.bytes.now c.args.node c.args.at c.args.meter _ _ (rw c.in-Union.is at c.kind.ensures.kind) len c.in_ok-n.n _ _ _ c.in_ok-n.ensures.finds got c.in_ok-n.ensures.depth all d.0 _ _ d.1, c.in_ok-whole.ensures.ok d.0 d.2)

-- ---- by the kind

pub walk_plain-returns-in-Record-clause-walks : goal.walk_plain-returns-in-Record-clause-walks
walk_plain-returns-in-Record-clause-walks g t c = record_walked g.S.Sink.sees g.S.Sink.may_lack c.walk_record.result c.args.nodes.now c.args.bytes.now c.args.node c.args.at c.args.meter _ _ (rw c.in-Record.is at c.kind-kind.ensures.kind) (rw c.deref.ensures.value at c.walk_record.ensures.walks)

pub walk_plain-returns-in-Array-clause-walks : goal.walk_plain-returns-in-Array-clause-walks
walk_plain-returns-in-Array-clause-walks g t c = array_walked g.S.Sink.sees g.S.Sink.may_lack c.walk_blocks.result c.args.nodes.now c.args.bytes.now c.args.node c.args.at c.args.meter c.in-Array.inner (rw c.in-Array.is at c.kind-kind.ensures.kind) c.walk_blocks.ensures.walks

pub walk_plain-returns-in-Map-clause-walks : goal.walk_plain-returns-in-Map-clause-walks
walk_plain-returns-in-Map-clause-walks g t c = map_walked g.S.Sink.sees g.S.Sink.may_lack c.walk_blocks-in-Map.result c.args.nodes.now c.args.bytes.now c.args.node c.args.at c.args.meter c.in-Map.inner (rw c.in-Map.is at c.kind-kind.ensures.kind) c.walk_blocks-in-Map.ensures.walks

pub walk_plain-returns-in_default : goal.walk_plain-returns-in_default
walk_plain-returns-in_default g t c = record {
  walks = leaf_walked g.S.Sink.sees g.S.Sink.may_lack c.walk_leaf.result c.args.nodes.now c.args.bytes.now c.args.node c.args.at c.args.meter _ c.kind-kind.ensures.kind (search rules) c.walk_leaf.ensures.walks;
  within = c.walk_leaf.ensures.within;
  depth = c.walk_leaf.ensures.depth;
  units = c.walk_leaf.ensures.units;
}

-- ---- records

pub walk_record-walk_node-requires : goal.walk_record-walk_node-requires
walk_record-walk_node-requires g t c =
    let below : c.field-item.result.node < length c.args.nodes.now = fields.field_below _ _ _ _ c.requires.fields c.loop-field-test.true c.field-item.is in
    search rules

pub walk_record-returns-in_err-datum-clause-walks : goal.walk_record-returns-in_err-datum-clause-walks
walk_record-returns-in_err-datum-clause-walks g t c =
    let p = err_from_is_err_and c.from_residual-in_err-datum.result c.from_residual-in_err-datum.ensures.1 in
    let f = inner_fails g.S.Sink.may_lack _ _ _ _ _ _ c.in_err-datum.field-0.0 c.loop-field.invariant.depth c.in_err-datum.ensures.walks in
    rw (p.1, p.2) (fields.fails _ _ _ _ _ _ _ _ _ c.loop-field.invariant.fields c.field-item.result c.loop-field-test.true c.field-item.is g.S.Sink.may_lack c.in_err-datum.field-0.0 f)

pub walk_record-loop-field-preserved : goal.walk_record-loop-field-preserved
walk_record-loop-field-preserved g t c =
    let v = c.loop-field.invariant in
    let d = c.in_ok-datum.ensures.walks in
    record {
      within = c.in_ok-datum.ensures.within;
      shallow = v.shallow;
      depth = c.in_ok-datum.ensures.depth ∙ v.depth;
      units = omega (arith, c.in_ok-datum.ensures.units, v.units);
      fields = fields.goes_on _ _ _ _ _ _ _ _ _ v.fields c.field-item.result c.loop-field-test.true c.field-item.is d.0 _ _ (at_depth _ _ _ _ _ _ v.depth ∙ d.1) c.push.new.group (λ h. c.in_ok-push.ensures.ok Fields v.fields.front [] d.0 h c.no_key.ensures d.2);
    }

pub walk_record-returns-clause-walks : goal.walk_record-returns-clause-walks
walk_record-returns-clause-walks g t c =
    let s = c.loop-field.invariant.fields in
    (RecordDatum (data_from s.front), fields.ends _ _ _ _ _ _ _ _ _ s c.loop-field-test.false, c.whole.ensures Fields s.front s.held)

-- ---- arrays and maps

pub walk_blocks-returns-in_err-further-clause-walks : goal.walk_blocks-returns-in_err-further-clause-walks
walk_blocks-returns-in_err-further-clause-walks g t c =
    let p = err_from_is_err_and c.from_residual-in_err-further.result c.from_residual-in_err-further.ensures.1 in
    rw (p.1, p.2) (fails_mapped g.S.Sink.may_lack (whole_of c.args.blocks.parts) c.in_err-further.field-0.0 _ (items.walk_fails _ _ _ _ _ _ _ _ c.parts.invariant.items g.S.Sink.may_lack c.in_err-further.field-0.0 _ _ c.in_err-further.ensures.walks))

pub walk_blocks-returns-then-not-further-clause-walks : goal.walk_blocks-returns-then-not-further-clause-walks
walk_blocks-returns-then-not-further-clause-walks g t c =
    let s = c.parts.invariant.items in
    let out = items.walks_out c.in_ok-further.further c.in_ok-further.place c.in_ok-further.opened c.parts.walk c.next.new.self _ c.if-not-further.true c.in_ok-further.ensures.walks in
    (whole_of c.args.blocks.parts s.front, ap (map_decoding (whole_of c.args.blocks.parts)) (items.ends _ _ _ _ _ _ _ _ s _ _ out), c.whole.ensures c.args.blocks.parts s.front s.held)

pub walk_blocks-returns-in_err-key-clause-walks : goal.walk_blocks-returns-in_err-key-clause-walks
walk_blocks-returns-in_err-key-clause-walks g t c =
    let p = err_from_is_err_and c.from_residual-in_err-key.result c.from_residual-in_err-key.ensures.1 in
    let on = items.walks_on c.in_ok-further.further c.in_ok-further.place c.in_ok-further.opened c.parts.walk c.next.new.self _ c.if-not-further.false c.in_ok-further.ensures.walks in
    let f = key_fails c.args.blocks.parts (deeper c.args.meter c.args.nodes.now c.args.bytes.now) c.args.bytes.now c.args.blocks.inner c.in_ok-further.place c.in_ok-further.opened g.S.Sink.may_lack c.in_err-key.field-0.0 c.in_err-key.ensures.walks in
    rw (p.1, p.2) (fails_mapped g.S.Sink.may_lack (whole_of c.args.blocks.parts) c.in_err-key.field-0.0 _ (items.item_fails _ _ _ _ _ _ _ _ c.parts.invariant.items c.next.new.self c.in_ok-further.place c.in_ok-further.opened on g.S.Sink.may_lack c.in_err-key.field-0.0 f))

pub walk_blocks-returns-in_err-datum-clause-walks : goal.walk_blocks-returns-in_err-datum-clause-walks
walk_blocks-returns-in_err-datum-clause-walks g t c =
    let p = err_from_is_err_and c.from_residual-in_err-datum.result c.from_residual-in_err-datum.ensures.1 in
    let on = items.walks_on c.in_ok-further.further c.in_ok-further.place c.in_ok-further.opened c.parts.walk c.next.new.self _ c.if-not-further.false c.in_ok-further.ensures.walks in
    let same = c.in_ok-key.ensures.depth ∙ (c.in_ok-further.ensures.item c.if-not-further.false).0 ∙ c.parts.invariant.depth in
    let key = c.in_ok-key.ensures.walks in
    let f = inner_fails g.S.Sink.may_lack _ _ _ _ _ _ c.in_err-datum.field-0.0 same c.in_err-datum.ensures.walks in
    let k = datum_fails c.args.blocks.parts (deeper c.args.meter c.args.nodes.now c.args.bytes.now) c.args.bytes.now c.args.blocks.inner c.in_ok-further.place c.in_ok-further.opened key.0 c.in_ok-key.start c.in_ok-key.keyed key.1 g.S.Sink.may_lack c.in_err-datum.field-0.0 f in
    rw (p.1, p.2) (fails_mapped g.S.Sink.may_lack (whole_of c.args.blocks.parts) c.in_err-datum.field-0.0 _ (items.item_fails _ _ _ _ _ _ _ _ c.parts.invariant.items c.next.new.self c.in_ok-further.place c.in_ok-further.opened on g.S.Sink.may_lack c.in_err-datum.field-0.0 k))

pub walk_blocks-parts-preserved : goal.walk_blocks-parts-preserved
walk_blocks-parts-preserved g t c =
    let v = c.parts.invariant in
    let on = items.walks_on c.in_ok-further.further c.in_ok-further.place c.in_ok-further.opened c.parts.walk c.next.new.self _ c.if-not-further.false c.in_ok-further.ensures.walks in
    let i = c.in_ok-further.ensures.item c.if-not-further.false in
    let same = c.in_ok-key.ensures.depth ∙ i.0 ∙ v.depth in
    let key = c.in_ok-key.ensures.walks in
    let d = c.in_ok-datum.ensures.walks in
    let e = part_ends c.args.blocks.parts (deeper c.args.meter c.args.nodes.now c.args.bytes.now) c.args.bytes.now c.args.blocks.inner c.in_ok-further.place c.in_ok-further.opened key.0 c.in_ok-key.start c.in_ok-key.keyed key.1 d.0 c.in_ok-datum.end c.in_ok-datum.last (at_depth _ _ _ _ _ _ same ∙ d.1) in
    record {
      within = c.in_ok-datum.ensures.within;
      shallow = v.shallow;
      depth = c.in_ok-datum.ensures.depth ∙ same;
      units = omega (arith, i.1, c.in_ok-key.ensures.units, c.in_ok-datum.ensures.units, v.units);
      items = items.goes_on _ _ _ _ _ _ _ _ v.items c.next.new.self c.in_ok-further.place c.in_ok-further.opened on (part c.args.blocks.parts key.0 d.0) c.in_ok-datum.end c.in_ok-datum.last e i.2 (omega (arith, i.1, c.in_ok-key.ensures.units, c.in_ok-datum.ensures.units)) c.push.new.group (λ h. c.in_ok-push.ensures.ok c.args.blocks.parts v.items.front key.0 d.0 h key.2 d.2);
    }
