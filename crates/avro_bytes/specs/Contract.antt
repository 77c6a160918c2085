-- What calls that read, and calls that skip, answer of what decoding gives.
use Rattle.std.specs.Prelude.{◌≡◌, ℕ, Result, Ok, Err}
use Rattle.spec_avro.specs.declared.meter.Meter.{Meter}
use Rattle.spec_decoding.specs.declared.fault.Fault.{Fault}
use Rattle.spec_decoding.specs.declared.fault.Fault.TheVariants as fault
use Rattle.spec_decoding.specs.Decoding.{Complete, Decoding, Failed}
use Rattle.avro_bytes.specs.Decoding.{IsComplete}
use Rattle.spec_avro.specs.Defect.{Defect, Malformed, Need}

-- what reading answers, its value seen by view; and what decoding is like where memory ran out
abbrev pub Reads : {X V : Type 0} → (X → V) → (Decoding V → Type 0) → Result (X × ℕ × Meter) Fault → Decoding V → Type 0
Reads view Lacks (Ok r) decoding = decoding ≡ Complete (view r.0) r.1 r.2
Reads view Lacks (Err fault.Need) decoding = decoding ≡ Failed Need
Reads view Lacks (Err (fault.Malformed kind at)) decoding = decoding ≡ Failed (Malformed kind at)
Reads view Lacks (Err fault.NoMemory) decoding = Lacks decoding

-- where reading takes no memory, it never runs out
abbrev pub Never : {V : Type 0} → Decoding V → Type 0
Never decoding = ⊥

-- what reading answers where it takes no memory
abbrev pub Finds : {X V : Type 0} → (X → V) → Result (X × ℕ × Meter) Fault → Decoding V → Type 0
Finds view = Reads view Never

-- what reading answers where it takes memory only for a value that is there
abbrev pub Copies : {X V : Type 0} → (X → V) → Result (X × ℕ × Meter) Fault → Decoding V → Type 0
Copies view = Reads view IsComplete

-- where reading takes memory as it goes, it may run out of it wherever it is
abbrev pub Anywhere : {V : Type 0} → Decoding V → Type 0
Anywhere decoding = Unit {0}

-- what reading answers where it takes memory as it goes
abbrev pub Gathers : {X V : Type 0} → (X → V) → Result (X × ℕ × Meter) Fault → Decoding V → Type 0
Gathers view = Reads view Anywhere

-- a defect as a call reports it
abbrev pub fault_of : Defect → Fault
fault_of (Malformed kind at) = fault.Malformed kind at
fault_of Need = fault.Need

-- what skipping answers: all of it but the value
abbrev pub skipped : {V : Type 0} → Decoding V → Result (ℕ × Meter) Fault
skipped (Complete v to m) = Ok (to, m)
skipped (Failed d) = Err (fault_of d)

-- skipping answers what reading answers, less the value, unless memory ran out
abbrev pub AnswersAlike : {X : Type 0} → Result (X × ℕ × Meter) Fault → Result (ℕ × Meter) Fault → Type 0
AnswersAlike (Ok r) skip = skip ≡ Ok (r.1, r.2)
AnswersAlike (Err fault.Need) skip = skip ≡ Err fault.Need
AnswersAlike (Err (fault.Malformed kind at)) skip = skip ≡ Err (fault.Malformed kind at)
AnswersAlike (Err fault.NoMemory) skip = Unit {0}
