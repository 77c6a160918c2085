-- Each step of resolution makes what the definition makes there.
use Rattle.std.proofs.Common.{rules, inl, inr, refl, sym, ◌∙◌}
use Rattle.std.proofs.lemmas.Result.{err_from_is_err_and}
use Rattle.resolver.proofs.Steps.{into_place, none_lacking, array_made, map_made, array_result, map_result, record_made, record_result}
use Rattle.resolver.proofs.Deeper.{at_first, falls, one_on}
use Rattle.resolver.proofs.Items.{pairs_begin, item_on, item_wrong, items_end, pair_on, pair_wrong, pairs_end, no_length}
use Rattle.resolver.proofs.Loop.{goes_wrong, goes_on, goes_out}
use Rattle.resolver.proofs.Within.{places_within, routes_within}
use Rattle.resolver.proofs.resolving.+resolve.Goals as goal

pub resolve_at-returns-in_default : goal.resolve_at-returns-in_default
resolve_at-returns-in_default t c = into_place _ _ _ _ c.args.datum c.in_default.not-Union c.resolve_placed.result c.resolve_placed.ensures

pub resolve_fields-loop-route-init : goal.resolve_fields-loop-route-init
resolve_fields-loop-route-init t c = record {
  goes = record { within = search rules; ready = refl; so_far = search rules };
  len = search rules;
}

pub resolve_fields-returns-in_err-value : goal.resolve_fields-returns-in_err-value
resolve_fields-returns-in_err-value t c =
    let p = err_from_is_err_and c.from_residual.result c.from_residual.ensures.1 in
    rw (p.1, p.2) (goes_wrong _ _ _ _ c.in-Some.route.now _ _ _ c.in-Some.datum _ _ c.loop-route.invariant.goes c.in-Some.ensures.steps.0 c.in-Some.ensures.steps.1.0 c.in_err-value.field-0.0 c.in_err-value.ensures.value)

pub resolve_fields-loop-route-preserved : goal.resolve_fields-loop-route-preserved
resolve_fields-loop-route-preserved t c = record {
  goes = goes_on _ _ _ _ c.in-Some.route.now _ _ _ c.in-Some.datum _ _ c.loop-route.invariant.goes c.in-Some.ensures.steps.0 c.in-Some.ensures.steps.1.0 c.in_ok-value.value _ c.in_ok-value.ensures.value c.keep-slots.ensures;
  len = search rules;
}

pub resolve_fields-returns : goal.resolve_fields-returns
resolve_fields-returns t c = goes_out _ _ _ _ _ _ _ c.loop-route.invariant.goes (elim c.in-None.ensures.steps [ inl a ↦ inl a.1.0 | inr b ↦ inr (sym c.loop-route.invariant.len ∙ b.1.0) ])

pub resolve_record-resolve_fields-requires : goal.resolve_record-resolve_fields-requires
resolve_record-resolve_fields-requires t c = (search rules, rw (c.deref-2.ensures.value, c.in_ok-routes.ensures) (places_within _ _ _ c.in-Some.rs.now c.in_ok-empty.empty.items c.in_ok-empty.ensures.each (routes_within _ _ _ _ c.in-Some.ensures.writer.below c.in-Some.ensures.reader.below)))

pub resolve_record-returns : goal.resolve_record-returns
resolve_record-returns t c =
    record_made _ _ _ _ _ _ _ _ c.in_ok-slots.slots.items c.in_ok-all.all c.in-Some.ensures.lists (none_lacking _ c.in_ok-lacking.lacking _ c.in_default-lacking.is (rw (c.deref.ensures.value, c.in_ok-routes.ensures) at c.in_ok-lacking.ensures)) c.in_ok-empty.ensures.none (rw (c.deref-2.ensures.value, c.in_ok-routes.ensures) at c.in_ok-slots.ensures) c.in_ok-all.ensures

pub resolve_inside-returns-in-Record : goal.resolve_inside-returns-in-Record
resolve_inside-returns-in-Record t c = record_result _ _ _ _ c.args.datum c.in-Record.fields c.in-Record.is c.resolve_record.result c.resolve_record.ensures

pub resolve_inside-returns-in-Array : goal.resolve_inside-returns-in-Array
resolve_inside-returns-in-Array t c = array_result _ _ _ _ c.args.datum c.in-Array.items c.in-Array.is c.resolve_array.result c.resolve_array.ensures

pub resolve_inside-returns-in-Map : goal.resolve_inside-returns-in-Map
resolve_inside-returns-in-Map t c = map_result _ _ _ _ c.args.datum c.in-Map.pairs c.in-Map.is c.resolve_map.result c.resolve_map.ensures

pub resolve_array-returns : goal.resolve_array-returns
resolve_array-returns t c = array_made _ _ _ _ (c.in-Some.item, c.in-Some.other) _ c.in_ok-all.all c.in-Some.ensures.nodes c.in_ok-all.ensures

pub resolve_map-returns : goal.resolve_map-returns
resolve_map-returns t c = map_made _ _ _ _ (c.in-Some.value, c.in-Some.other) _ c.in_ok-all.all c.in-Some.ensures.nodes c.in_ok-all.ensures

pub resolve_items-loop-item-preserved : goal.resolve_items-loop-item-preserved
resolve_items-loop-item-preserved t c = record {
  can = tt;
  finite = tt;
  len = search rules;
  so_far = item_on _ _ _ _ _ _ _ _ _ c.loop-item.invariant.so_far c.in-Some.ensures.steps.0 c.in_ok-datum.datum _ c.in_ok-push.ensures.items c.in_ok-datum.ensures;
}

pub resolve_items-returns-in_err-datum : goal.resolve_items-returns-in_err-datum
resolve_items-returns-in_err-datum t c =
    let p = err_from_is_err_and c.from_residual.result c.from_residual.ensures.1 in
    rw (p.1, p.2) (item_wrong _ _ _ _ _ _ _ _ _ c.loop-item.invariant.so_far c.in-Some.ensures.steps.0 c.in_err-datum.field-0.0 c.in_err-datum.ensures)

pub resolve_items-returns : goal.resolve_items-returns
resolve_items-returns t c = items_end _ _ _ _ _ _ _ c.loop-item.invariant.so_far (no_length _ (sym c.loop-item.invariant.len ∙ c.in-None.ensures.steps.0))

pub resolve_values-loop-pair-preserved : goal.resolve_values-loop-pair-preserved
resolve_values-loop-pair-preserved t c = record {
  can = tt;
  finite = tt;
  len = search rules;
  left = one_on _ _ _ _ c.loop-pair.invariant.left c.in-Some.ensures.steps.0;
  so_far = pair_on _ _ _ _ _ _ _ _ _ c.loop-pair.invariant.so_far c.in-Some.ensures.steps.0 c.in_ok-resolved.resolved _ c.in_ok-resolved.ensures.key c.in_ok-push.ensures.items c.in_ok-resolved.ensures.value;
}

pub resolve_values-returns-in_err-resolved : goal.resolve_values-returns-in_err-resolved
resolve_values-returns-in_err-resolved t c =
    let p = err_from_is_err_and c.from_residual.result c.from_residual.ensures.1 in
    rw (p.1, p.2) (pair_wrong _ _ _ _ _ _ _ _ _ c.loop-pair.invariant.so_far c.in-Some.ensures.steps.0 c.in_err-resolved.field-0.0 c.in_err-resolved.ensures.value)

pub resolve_values-returns : goal.resolve_values-returns
resolve_values-returns t c = pairs_end _ _ _ _ _ _ _ c.loop-pair.invariant.so_far (no_length _ (sym c.loop-pair.invariant.len ∙ c.in-None.ensures.steps.0))

pub resolve_values-loop-pair-init : goal.resolve_values-loop-pair-init
resolve_values-loop-pair-init t c = record {
  can = tt;
  finite = tt;
  len = search rules;
  so_far = search (rules, pairs_begin);
  left = at_first _ _ (search rules);
}

pub resolve_values-resolve_value-requires : goal.resolve_values-resolve_value-requires
resolve_values-resolve_value-requires t c = (falls _ t c.args.pairs.items _ _ _ c.decreases c.loop-pair.invariant.left c.in-Some.ensures.steps.0, (c.requires.writer, c.requires.reader))
