-- For a private clause: what reading the bytes of a number returns.
use Rattle.std.specs.Prelude.{◌≡◌, ℕ, ◌+◌, List, length, Result, Ok, Err}
use Rattle.spec_avro.specs.declared.malformed.MalformedKind.TheVariants.{BadNumber}
use Rattle.spec_decoding.specs.declared.fault.Fault.{Fault}
use Rattle.spec_decoding.specs.declared.fault.Fault.TheVariants as fault
use Rattle.spec_avro.specs.Number.{groups_sum}
use Rattle.spec_avro.specs.Defect.{Malformed, Need}
use Rattle.spec_decoding.specs.NumberDecoding.{Front, Ends, TooGreat, Open}

-- for a private clause: the groups put together, and the offset after their bytes
abbrev pub GivesGroups : Result (ℕ × ℕ) Fault → ℕ → Front → Type 0
GivesGroups (Ok r) at front =
    (bytes : List ℕ) × (front ≡ Ends bytes) × (r.0 ≡ groups_sum bytes) × (r.1 ≡ at + length bytes)
GivesGroups (Err (fault.Malformed kind place)) at front = (front ≡ TooGreat) × (kind ≡ BadNumber) × (place ≡ at)
GivesGroups (Err fault.Need) at front = front ≡ Open
GivesGroups (Err fault.NoMemory) at front = ⊥
