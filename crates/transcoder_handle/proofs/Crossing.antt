-- That another thread may use a handle next: what it holds can be sent.
use base.Fraction.{full_share}
use base.Shift.{Keyless}
use mir.Raw.{raw}
use denote.Exit.{Exit, unchanged, leaves, hidden, under}
use denote.Memory.{lone}
use denote.Param.Send.{IsSend, Quiet, part_keyless, sendable}
use denote.RattleType.{RattleType}
use denote.RawPtr.{Ptr, block_ptr, null_ptr, lies_at}
use Rattle.std.specs.Prelude.{Option, Some, None}
use Rattle.std.proofs.Crossing.{crosses, frees}
use Rattle.std.proofs.Handle.{handle}
use Rattle.machine.proofs.MachineCrossing.{machine-send}
use Rattle.machine.proofs.Crossing.{pair-send}
use Rattle.embedding.specs.contracts.owning.OwningTranscoder as transcoder
use Rattle.transcoder_handle.specs.Held.{held_owns}

pub transcoder-send : IsSend transcoder.the_row
transcoder-send = search (pair-send, machine-send, crosses, sendable) depth 60 fits 20000

pub quiet : {D X : Type 0} (to : D → X) (e : Exit X) → Quiet e → Quiet (hidden (under to e))
quiet to unchanged q = λ x w. tt
quiet to (leaves L l S s r₀) q = λ d. q (to d)

lies : (R : RattleType) → IsSend R → (p : Ptr) (x : R.Denot) → Keyless (lies_at R full_share p x)
lies R s (block_ptr b o) x = part_keyless R s full_share x b o
lies R s null_ptr x = tt

-- what a handle owns has no key that a thread keeps
pub held-keyless : (p : Ptr) (x : Option (transcoder.the_row).Denot) → Keyless (held_owns p x)
held-keyless p (Some x) =
    (lies transcoder.the_row transcoder-send p x, frees.frees handle (raw (lone (transcoder.the_row).mir)) p)
held-keyless p None = tt
