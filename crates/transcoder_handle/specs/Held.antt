-- What the memory of a handle is: the block of the transcoder that it is open on, with the right to free it; nothing
-- where it is closed.
use Rattle.std.specs.Prelude.{Option, Some, None}
use Rattle.std.specs.Borrow.{Fml}
use Rattle.std.specs.Box.Ownership.{box_owns}
use base.Fml.{ftrue}
use denote.RawPtr.{Ptr}
use Rattle.libc.specs.Heap.{chunk}
use Rattle.embedding.specs.contracts.owning.OwningTranscoder as transcoder

abbrev pub held_owns : Ptr → Option (transcoder.the_row).Denot → Fml
held_owns p (Some x) = box_owns (λ ty q. chunk ty q) transcoder.the_row p x
held_owns p None = ftrue
