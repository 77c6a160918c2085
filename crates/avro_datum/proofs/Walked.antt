-- What a walk answered, of one decoding and of another that is made of it.
use Rattle.std.proofs.Common.{◌≡◌, ℕ, Option, Result, Ok, Err, sym, ap, ◌∙◌}
use Rattle.spec_avro.specs.declared.meter.Meter.{Meter}
use Rattle.spec_decoding.specs.declared.fault.Fault.{Fault}
use Rattle.spec_decoding.specs.declared.fault.Fault.TheVariants as fault
use Rattle.spec_decoding.specs.Walk.{Walk}
use Rattle.avro_bytes.specs.BlockDecoding.{Walks}
use Rattle.avro_bytes.specs.Contract.{Finds, skipped}
use Rattle.spec_decoding.specs.Decoding.{Complete, Decoding, Failed, ◌>>=◌}
use Rattle.avro_bytes.specs.Decoding.{map_decoding}
use Rattle.avro_datum.specs.Walking.{Failing, Walked}

-- ---- a fault that is passed on

pub fails_mapped : {A B : Type 0} (L : Type 0) (f : A → B) (e : Fault) (x : Decoding A) → Failing L e x → Failing L e (map_decoding f x)
fails_mapped L f fault.Need x h = ap (map_decoding f) h
fails_mapped L f (fault.Malformed kind at) x h = ap (map_decoding f) h
fails_mapped L f fault.NoMemory x h = h

pub fails_then : {A B : Type 0} (L : Type 0) (f : A → ℕ → Meter → Decoding B) (e : Fault) (x : Decoding A) → Failing L e x → Failing L e (x >>= f)
fails_then L f fault.Need x h = ap (λ y. y >>= f) h
fails_then L f (fault.Malformed kind at) x h = ap (λ y. y >>= f) h
fails_then L f fault.NoMemory x h = h

pub fails_weaker : {V L M : Type 0} (e : Fault) (x : Decoding V) → (L → M) → Failing L e x → Failing M e x
fails_weaker fault.Need x f h = h
fails_weaker (fault.Malformed kind at) x f h = h
fails_weaker fault.NoMemory x f h = f h

-- no more memory was asked for
pub fails_found : {X V : Type 0} (L : Type 0) (view : X → V) (e : Fault) (x : Decoding V) → Finds view (Err e) x → Failing L e x
fails_found L view fault.Need x h = h
fails_found L view (fault.Malformed kind at) x h = h
fails_found L view fault.NoMemory x h = absurd h

pub fails_to_go_on : (L : Type 0) (e : Fault) (old new : Walk) (x : Decoding (Option Walk)) → Walks (Err e) old new x → Failing L e x
fails_to_go_on L fault.Need old new x w = w.0
fails_to_go_on L (fault.Malformed kind at) old new x w = w.0
fails_to_go_on L fault.NoMemory old new x w = absurd w

-- ---- the same of another decoding

pub walked_as : {X V : Type 0} (Sees : X → V → Type 0) (L M : Decoding V → Type 0) (r : Result (X × ℕ × Meter) Fault) (x y : Decoding V) → y ≡ x → (L x → M y) → Walked Sees L r x → Walked Sees M r y
walked_as Sees L M (Ok v) x y e f w = (w.0, e ∙ w.1, w.2)
walked_as Sees L M (Err fault.Need) x y e f w = e ∙ w
walked_as Sees L M (Err (fault.Malformed kind at)) x y e f w = e ∙ w
walked_as Sees L M (Err fault.NoMemory) x y e f w = f w

-- ---- what was passed over, and was there

abbrev ended_at : ℕ × Meter → Result (ℕ × Meter) Fault
ended_at x = Ok x

same_end : {a b : ℕ × Meter} → ended_at a ≡ ended_at b → a ≡ b
same_end e = cc

pub was_passed : {V W : Type 0} (f : V → W) (x : Decoding V) (to : ℕ) (after : Meter) → Ok (to, after) ≡ skipped x → (w : W) × (map_decoding f x ≡ Complete w to after)
was_passed f (Complete v end last) to after e = (f v, ap (λ (p : ℕ × Meter). Complete (f v) p.0 p.1) (sym (same_end e)))
was_passed f (Failed d) to after e = absurd cc
