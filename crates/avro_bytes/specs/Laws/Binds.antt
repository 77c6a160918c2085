-- One part after another: what is complete, what stays as it was decided, and what is faulty.
use Rattle.std.proofs.Common.{◌≡◌, ◌≢◌, ℕ, ◌+◌, ◌≤◌, List, ◌++◌, length, drop, refl, sym, ap, ◌∙◌, arith, add_assoc}
use Rattle.std.proofs.lemmas.List.{drop_at, drop-drop, length-append, length-drop}
use Rattle.spec_avro.specs.declared.meter.Meter.{Meter}
use Rattle.spec_decoding.specs.Decoding.{Complete, Decoding, Failed, ◌>>=◌}
use Rattle.avro_bytes.specs.Decoding.{Stands, map_decoding}
use Rattle.spec_avro.specs.Defect.{Defect, Malformed, Need}
use Rattle.avro_bytes.specs.Fault.{HasDefect, failing}
use Rattle.spec_avro.specs.Fault.{shifted}

pub complete_is : {V : Type 0} {v w : V} {to next : ℕ} {m after : Meter} → Complete v to m ≡ Complete w next after → (v ≡ w) × (to ≡ next) × (m ≡ after)
complete_is e = (cc, cc, cc)

-- a part that is complete, before another that is
pub record Then {A B : Type 0} (decoding : Decoding A) (f : A → ℕ → Meter → Decoding B) (v : B) (to : ℕ) (m : Meter) : Type 0 where
  pub first : A
  pub mid : ℕ
  pub meter : Meter
  pub first_is : decoding ≡ Complete first mid meter
  pub next_is : f first mid meter ≡ Complete v to m

pub then_complete : {A B : Type 0} (decoding : Decoding A) (f : A → ℕ → Meter → Decoding B) (v : B) (to : ℕ) (m : Meter) → (decoding >>= f) ≡ Complete v to m → Then decoding f v to m
then_complete (Complete a mid meter) f v to m e = record { first = a; mid = mid; meter = meter; first_is = refl; next_is = e }
then_complete (Failed d) f v to m e = absurd cc

pub then_steady : {A B : Type 0} (decoding further : Decoding A) (f g : A → ℕ → Meter → Decoding B) → (decoding ≢ Failed Need → further ≡ decoding) → ((a : A) (mid : ℕ) (m : Meter) → decoding ≡ Complete a mid m → f a mid m ≢ Failed Need → g a mid m ≡ f a mid m) → (decoding >>= f) ≢ Failed Need → (further >>= g) ≡ (decoding >>= f)
then_steady (Complete a mid m) further f g h k c = ap (λ (x : Decoding _). x >>= g) (h (λ e. absurd cc)) ∙ k a mid m refl c
then_steady (Failed (Malformed kind at)) further f g h k c = ap (λ (x : Decoding _). x >>= g) (h (λ e. absurd cc))
then_steady (Failed Need) further f g h k c = absurd (c refl)

-- ---- defects

pub defect_then : {A B : Type 0} (decoding : Decoding A) (f : A → ℕ → Meter → Decoding B) (at : ℕ) (P : Defect → Type 0) → HasDefect decoding at P → ((a : A) (mid : ℕ) (m : Meter) → decoding ≡ Complete a mid m → HasDefect (f a mid m) at P) → HasDefect (decoding >>= f) at P
defect_then (Complete a mid m) f at P h k = k a mid m refl
defect_then (Failed defect) f at P h k = h

pub defect_as : {V : Type 0} (decoding : Decoding V) (at : ℕ) (P Q : Defect → Type 0) → ((d : Defect) → P d → Q d) → HasDefect decoding at P → HasDefect decoding at Q
defect_as (Complete v to m) at P Q f h = tt
defect_as (Failed (Malformed kind place)) at P Q f h = (h.0, h.1, f (Malformed kind h.0) h.2)
defect_as (Failed Need) at P Q f h = f Need h

-- a defect of what comes after `len` bytes, with its offset counted from before them
pub defect_after : {V : Type 0} (decoding : Decoding V) (at len mid : ℕ) (P Q : Defect → Type 0) → mid ≡ at + len → ((d : Defect) → P d → Q (shifted len d)) → HasDefect decoding mid P → HasDefect decoding at Q
defect_after (Complete v to m) at len mid P Q e f h = tt
defect_after (Failed (Malformed kind place)) at len mid P Q e f h = (len + h.0, omega (arith, h.1), f (Malformed kind h.0) h.2)
defect_after (Failed Need) at len mid P Q e f h = f Need h

pub defect_map : {A B : Type 0} (f : A → B) (decoding : Decoding A) (at : ℕ) (P : Defect → Type 0) → HasDefect decoding at P → HasDefect (map_decoding f decoding) at P
defect_map f (Complete v to m) at P h = tt
defect_map f (Failed defect) at P h = h

pub failing_then : {A B : Type 0} (at : ℕ) (d : Defect) (f : A → ℕ → Meter → Decoding B) → (failing {V = A} at d >>= f) ≡ failing at d
failing_then at d f = refl

pub failing_map : {A B : Type 0} (at : ℕ) (d : Defect) (f : A → B) → map_decoding f (failing {V = A} at d) ≡ failing at d
failing_map at d f = refl

pub failing_shifted : {V : Type 0} (at len : ℕ) (d : Defect) → failing {V = V} (at + len) d ≡ failing at (shifted len d)
failing_shifted at len (Malformed kind offset) = ap (λ k. Failed (Malformed kind k)) (add_assoc at len offset)
failing_shifted at len Need = refl

-- ---- places

-- what comes after bytes that begin at an offset
pub rest_after : (bytes rest all : List ℕ) (at mid : ℕ) → drop at all ≡ bytes ++ rest → mid ≡ at + length bytes → drop mid all ≡ rest
rest_after bytes rest all at mid parts end = ap (λ (k : ℕ). drop k all) end ∙ sym (drop-drop (length bytes) at all) ∙ ap (drop (length bytes)) parts ∙ drop_at bytes rest (length bytes) refl

pub stands_within : (P : List ℕ → Type 0) (all : List ℕ) (at to : ℕ) → at ≤ length all → Stands P all at to → to ≤ length all
stands_within P all at to le s = omega (arith, s.end, ap length s.parts, length-drop at all, length-append s.bytes s.rest)
