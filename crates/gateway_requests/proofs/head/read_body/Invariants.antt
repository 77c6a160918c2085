-- What was received is followed by what was taken from the reader.
use Rattle.std.proofs.Common.{◌-◌, ◌≡◌, ◌++◌, List, ℕ, length}
use Rattle.std.specs.Io.KnownBytes.{Consumes}
use Rattle.gateway_requests.proofs.head.read_body.Given as goal

abbrev pub invariant-loop-chunk : goal.invariant-loop-chunk
invariant-loop-chunk g l = (taken : List ℕ) × (l.body.items ≡ l.fn.received ++ taken)
    × Consumes (g.R.Read.remaining l.fn.reader) (g.R.Read.remaining l.reader) taken

abbrev pub decreases-loop-chunk : goal.decreases-loop-chunk
decreases-loop-chunk g l = l.size - length l.body.items
