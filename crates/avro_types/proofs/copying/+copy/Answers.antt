-- A pair more is copied.
use Rattle.std.proofs.Common.{rules, ◌≡◌, ◌<◌, length, string_bytes, ◌∙◌}
use Rattle.avro_types.specs.Datum.{datum_of}
use Rattle.avro_types.proofs.Copies.{one_pair_more}
use Rattle.avro_types.proofs.copying.+copy.Goals as goal

pub copy_pairs-loop-pair-preserved : goal.copy_pairs-loop-pair-preserved
copy_pairs-loop-pair-preserved t c =
    let lt : c.loop-pair.pair-index < length c.args.pairs.now = search rules in
    let key : string_bytes c.in_ok-key.key ≡ string_bytes c.pair-item.result.0 = search rules in
    let same : datum_of c.in_ok-datum.datum ≡ datum_of c.pair-item.result.1 = c.in_ok-datum.ensures in
    rw c.in_ok-push.ensures.items (one_pair_more c.loop-pair.copies.items c.args.pairs.now c.loop-pair.pair-index (c.in_ok-key.key, c.in_ok-datum.datum) c.pair-item.result lt c.pair-item.is key same ∙ c.loop-pair.invariant)
