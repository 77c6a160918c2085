-- What the calls of a walk over blocks return (Avro 1.11, "Binary Encoding", arrays and maps).
use Rattle.std.specs.Prelude.{◌≡◌, ℕ, Option, Some, None, Result, Ok, Err, Bool, true, false}
use Rattle.spec_avro.specs.declared.meter.Meter.{Meter}
use Rattle.spec_decoding.specs.declared.fault.Fault.{Fault}
use Rattle.spec_decoding.specs.declared.fault.Fault.TheVariants as fault
use Rattle.spec_decoding.specs.Decoding.{Complete, Decoding, Failed}
use Rattle.spec_avro.specs.Defect.{Malformed, Need}
use Rattle.spec_decoding.specs.Walk.{Walk, first_walk}

-- what beginning at an offset returns, by what opening returned
abbrev pub Begins : ℕ → Result (Walk × Meter) Fault → Result Meter Fault → Type 0
Begins at (Ok r) opening = (opening ≡ Ok r.1) × (r.0 ≡ first_walk at)
Begins at (Err e) opening = opening ≡ Err e

-- what going on returns, and the walk that it leaves
abbrev pub Walks : Result (Bool × ℕ × Meter) Fault → Walk → Walk → Decoding (Option Walk) → Type 0
Walks (Ok r) old new decoding = WalksTo r.0 r.1 r.2 new decoding
  where
    WalksTo : Bool → ℕ → Meter → Walk → Decoding (Option Walk) → Type 0
    WalksTo true to m new decoding = decoding ≡ Complete (Some new) to m
    WalksTo false to m new decoding = decoding ≡ Complete None to m
Walks (Err fault.Need) old new decoding = (decoding ≡ Failed Need) × (new ≡ old)
Walks (Err (fault.Malformed kind at)) old new decoding = (decoding ≡ Failed (Malformed kind at)) × (new ≡ old)
Walks (Err fault.NoMemory) old new decoding = ⊥
