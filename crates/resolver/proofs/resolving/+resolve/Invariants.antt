-- What is done, with what is left, leads to the whole.
use Rattle.std.proofs.Common.{◌≡◌, length}
use Rattle.std.specs.Slice.Iter.{iter_rest}
use Rattle.std.specs.Vec.Iter.{into_iter_items, into_iter_len}
use Rattle.avro_types.specs.Datum.{data_of, pairs_of}
use Rattle.resolver.specs.Steps.{slots_of}
use Rattle.spec_avro.specs.Resolution.{resolved_fields, resolved_items, resolved_values}
use denote.Param.Weighed.{most}
use Rattle.avro_types.proofs.datum.Datum.TheLaws.{the_size}
use Rattle.std.proofs.Common.{◌+◌, ◌*◌, max}
use Rattle.resolver.proofs.Deeper.{IsLeft}
use Rattle.resolver.proofs.Items.{Rest, RestPairs}
use Rattle.resolver.proofs.Loop.{Goes}
use Rattle.resolver.proofs.resolving.+resolve.Given as goal

abbrev pub invariant-resolve_fields-loop-route : goal.invariant-resolve_fields-loop-route
invariant-resolve_fields-loop-route l = record {
  goes : Goes l.w l.r (length l.fn.slots.items) (iter_rest l.route-iterator.a) l.slots.items (into_iter_items l.route-iterator.b) (resolved_fields l.w l.r (slots_of l.fn.slots.items) l.routes (data_of l.fn.fields.items));
  len : into_iter_len l.route-iterator.b ≡ length (into_iter_items l.route-iterator.b);
}

abbrev pub invariant-resolve_items-loop-item : goal.invariant-resolve_items-loop-item
invariant-resolve_items-loop-item l = record {
  can : (goal.iterator-resolve_items-loop-item).can_next l.item-iterator;
  finite : (goal.iterator-resolve_items-loop-item).is_finite l.item-iterator;
  len : into_iter_len l.item-iterator ≡ length (into_iter_items l.item-iterator);
  so_far : Rest l.w l.r l.wn l.rn l.all.items (into_iter_items l.item-iterator) (resolved_items l.w l.r l.wn l.rn (data_of l.fn.items.items));
}

abbrev pub invariant-resolve_values-loop-pair : goal.invariant-resolve_values-loop-pair
invariant-resolve_values-loop-pair l = record {
  can : (goal.iterator-resolve_values-loop-pair).can_next l.pair-iterator;
  finite : (goal.iterator-resolve_values-loop-pair).is_finite l.pair-iterator;
  len : into_iter_len l.pair-iterator ≡ length (into_iter_items l.pair-iterator);
  left : IsLeft (into_iter_items l.pair-iterator) l.fn.pairs.items;
  so_far : RestPairs l.w l.r l.wn l.rn l.all.items (into_iter_items l.pair-iterator) (resolved_values l.w l.r l.wn l.rn (pairs_of l.fn.pairs.items));
}

-- The depth of the datum, and the calls that pass it on unchanged.
abbrev pub decreases-resolve_at : goal.decreases-resolve_at
decreases-resolve_at l = 8 * the_size l.datum + 2

abbrev pub decreases-resolve_placed : goal.decreases-resolve_placed
decreases-resolve_placed l = 8 * the_size l.datum + 1

abbrev pub decreases-resolve_inside : goal.decreases-resolve_inside
decreases-resolve_inside l = 8 * the_size l.datum

abbrev pub decreases-resolve_array : goal.decreases-resolve_array
decreases-resolve_array l = 8 * most the_size l.items.items + 5

abbrev pub decreases-resolve_items : goal.decreases-resolve_items
decreases-resolve_items l = 8 * most the_size l.items.items + 4

abbrev pub decreases-resolve_map : goal.decreases-resolve_map
decreases-resolve_map l = 8 * most (λ p. max 0 (max (the_size p.1) 0)) l.pairs.items + 5

abbrev pub decreases-resolve_values : goal.decreases-resolve_values
decreases-resolve_values l = 8 * most (λ p. max 0 (max (the_size p.1) 0)) l.pairs.items + 4

abbrev pub decreases-resolve_value : goal.decreases-resolve_value
decreases-resolve_value l = 8 * max 0 (max (the_size l.pair.1) 0) + 3

abbrev pub decreases-resolve_record : goal.decreases-resolve_record
decreases-resolve_record l = 8 * most the_size l.fields.items + 5

abbrev pub decreases-resolve_fields : goal.decreases-resolve_fields
decreases-resolve_fields l = 8 * most the_size l.fields.items + 4

abbrev pub decreases-resolve_field : goal.decreases-resolve_field
decreases-resolve_field l = 8 * the_size l.datum + 3
