use Rattle.std.proofs.Common.{◌≡◌, ◌+◌, ◌∷◌, ◌++◌, [], ℕ, slice_set, take, ap, sym, ◌∙◌, subst, arith}
use Rattle.std.proofs.lemmas.List.{take_more_set}
use Rattle.std.proofs.Math.Seq.{map-set_same}
use Rattle.embedding.specs.Batch.{IsBatch, IsItem, output_length, range_of}
use Rattle.spec_library.specs.Pair.{Pair}
use Rattle.embedding.proofs.Batches.{AreAlike, end_of, end_of-append, one_more}
use Rattle.embedding.proofs.owning.OwningTranscoder.report_batch.Goals as goal

pub loop-item-preserved : goal.loop-item-preserved
loop-item-preserved c =
    let kept = c.loop-item.invariant in let call = c.report_item-at in
    let pair = c.args.self.now in let payloads = c.args.payloads.now in
    let items = c.loop-item.items in let index = c.loop-item.item-index in let item = call.new.item in
    let done = take index items in
    let now : take (index + 1) (slice_set items index item) ≡ done ++ item ∷ [] =
    take_more_set items index item (omega (arith, c.loop-item.auto.items, c.loop-item-test.true)) in
    let room = c.loop-item.room in let room' = call.new.room in
    let front : take (end_of 0 done) room ≡ take (end_of 0 done) room' =
    subst (λ (n : ℕ). take n room ≡ take n room') kept.1 (sym call.ensures.before) in
    let alike : AreAlike (end_of 0 done) room room' = record { long = sym call.auto.room; front = front } in
    let last : IsItem pair payloads room' (end_of 0 done) item =
    subst (λ (it : Pair × ℕ). IsItem it.0 payloads room' it.1 item) (λ i. (kept.4 i, kept.1 i)) call.ensures.item in
    let batch = one_more pair payloads room room' 0 done item alike kept.0 last in (
      subst (IsBatch pair payloads room' 0) (sym now) batch,
      call.ensures.next ∙ ap (λ n. n + output_length item) kept.1 ∙ sym (end_of-append 0 done item)
          ∙ ap (end_of 0) (sym now),
      call.ensures.within,
      map-set_same range_of items index item _ call.ensures.asked ∙ kept.3,
      call.ensures.kept ∙ kept.4,
    )
