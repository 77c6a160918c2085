use Rattle.std.proofs.Common.{◌≡◌, ◌≤◌, length, map, take}
use Rattle.embedding.specs.Batch.{IsBatch, range_of}
use Rattle.embedding.proofs.Batches.{end_of}
use Rattle.embedding.proofs.owning.OwningTranscoder.report_batch.Given as goal

abbrev pub invariant-loop-item : goal.invariant-loop-item
invariant-loop-item l =
    IsBatch l.fn.self l.payloads l.room 0 (take l.item-index l.items)
    × (l.at ≡ end_of 0 (take l.item-index l.items))
    × (l.at ≤ length l.room)
    × (map range_of l.items ≡ map range_of l.fn.items)
    × (l.self ≡ l.fn.self)
