-- The defect that a failed decoding has. This project's own.
use Rattle.std.specs.Prelude.{◌≡◌, ℕ, ◌+◌}
use Rattle.spec_decoding.specs.Decoding.{Complete, Decoding, Failed}
use Rattle.spec_avro.specs.Defect.{Defect, Malformed, Need}
use Rattle.spec_avro.specs.Fault.{shifted}

-- what decoding gives at a defect of the bytes from an offset on
abbrev pub failing : {V : Type 0} → ℕ → Defect → Decoding V
failing at d = Failed (shifted at d)

-- where decoding gives no value, the bytes from the offset on have such a defect
abbrev pub HasDefect : {V : Type 0} → Decoding V → ℕ → (Defect → Type 0) → Type 0
HasDefect (Complete v to m) at P = Unit {0}
HasDefect (Failed (Malformed kind place)) at P = (offset : ℕ) × (place ≡ at + offset) × P (Malformed kind offset)
HasDefect (Failed Need) at P = P Need
