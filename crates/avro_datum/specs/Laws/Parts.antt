-- Steps that the laws share: mapped values, bytes after bytes, and meters.
use Rattle.std.proofs.Common.{◌≡◌, ◌≢◌, ℕ, List, [], ◌++◌, drop, Some, Result, Ok, Err, refl, sym, ap, ◌∙◌, append_assoc, arith}
use Rattle.std.proofs.lemmas.List.{length-append}
use Rattle.spec_avro.specs.declared.meter.Meter.{Meter}
use Rattle.spec_decoding.specs.declared.fault.Fault.{Fault}
use Rattle.spec_decoding.specs.declared.fault.Fault.TheVariants as fault
use Rattle.spec_avro.specs.Meter.{Counts}
use Rattle.avro_bytes.specs.Laws.Binds.{rest_after, complete_is}
use Rattle.avro_bytes.specs.Laws.Meters.{same_meter}
use Rattle.spec_decoding.specs.Decoding.{Complete, Decoding, Failed, inside}
use Rattle.avro_bytes.specs.Decoding.{Stands, map_decoding}
use Rattle.spec_avro.specs.Defect.{Malformed, Need}
use Rattle.avro_bytes.specs.Laws.Walks.{some_is}

pub counts_none : (m after : Meter) → m ≡ after → Counts 0 0 m after
counts_none m after e = record { deep = omega arith; many = omega arith; same_depth = sym (ap (λ (x : Meter). x.depth) e); counted = sym (ap (λ (x : Meter). x.units) e) ∙ omega arith }

pub counts_nothing : (m after : Meter) → Counts 0 0 m after → m ≡ after
counts_nothing m after t = same_meter m after (sym t.same_depth) (omega (arith, t.counted))

pub mapped : {A B : Type 0} (f : A → B) (decoding : Decoding A) (v : B) (to : ℕ) (after : Meter) → map_decoding f decoding ≡ Complete v to after → (a : A) × (decoding ≡ Complete a to after) × (v ≡ f a)
mapped f (Complete a mid m) v to after e = let w = complete_is e in (a, ap (λ (k : ℕ). Complete a k m) w.1 ∙ ap (λ (x : Meter). Complete a to x) w.2, sym w.0)
mapped f (Failed defect) v to after e = absurd cc

pub map_steady : {A B : Type 0} (f : A → B) (decoding further : Decoding A) → (decoding ≢ Failed Need → further ≡ decoding) → map_decoding f decoding ≢ Failed Need → map_decoding f further ≡ map_decoding f decoding
map_steady f (Complete a to m) further h c = ap (map_decoding f) (h (λ e. absurd cc))
map_steady f (Failed (Malformed kind at)) further h c = ap (map_decoding f) (h (λ e. absurd cc))
map_steady f (Failed Need) further h c = absurd (c refl)

pub inside_complete : {V : Type 0} (r : Result Meter Fault) (f : Meter → Decoding V) (v : V) (to : ℕ) (after : Meter) → inside r f ≡ Complete v to after → (within : Meter) × (r ≡ Ok within) × (f within ≡ Complete v to after)
inside_complete (Ok m) f v to after e = (m, refl, e)
inside_complete (Err fault.Need) f v to after e = absurd cc
inside_complete (Err (fault.Malformed kind at)) f v to after e = absurd cc
inside_complete (Err fault.NoMemory) f v to after e = absurd cc

pub inside_steady : {V : Type 0} (r : Result Meter Fault) (f g : Meter → Decoding V) → ((within : Meter) → r ≡ Ok within → f within ≢ Failed Need → g within ≡ f within) → inside r f ≢ Failed Need → inside r g ≡ inside r f
inside_steady (Ok m) f g h c = h m refl c
inside_steady (Err fault.Need) f g h c = refl
inside_steady (Err (fault.Malformed kind at)) f g h c = refl
inside_steady (Err fault.NoMemory) f g h c = refl

-- ---- places

pub stands_as : {P Q : List ℕ → Type 0} {all : List ℕ} {at to : ℕ} → ((bytes : List ℕ) → P bytes → Q bytes) → Stands P all at to → Stands Q all at to
stands_as f s = record { bytes = s.bytes; rest = s.rest; parts = s.parts; end = s.end; spelled = f s.bytes s.spelled }

-- one after the other
pub joined_stands : (P Q : List ℕ → Type 0) (all : List ℕ) (at mid to : ℕ) → Stands P all at mid → Stands Q all mid to → Stands (λ bytes. (front : List ℕ) × (rest : List ℕ) × (bytes ≡ front ++ rest) × P front × Q rest) all at to
joined_stands P Q all at mid to p q =
    let next : drop mid all ≡ p.rest = rest_after p.bytes p.rest all at mid p.parts p.end in
    record {
      bytes = p.bytes ++ q.bytes;
      rest = q.rest;
      parts = p.parts ∙ ap (λ (r : List ℕ). p.bytes ++ r) (sym next ∙ q.parts) ∙ sym (append_assoc p.bytes q.bytes q.rest);
      end = omega (arith, p.end, q.end, length-append p.bytes q.bytes);
      spelled = (p.bytes, q.bytes, refl, p.spelled, q.spelled);
    }

pub nowhere : (all : List ℕ) (at : ℕ) → Stands (λ bytes. bytes ≡ []) all at at
nowhere all at = record { bytes = []; rest = drop at all; parts = refl; end = omega arith; spelled = refl }
