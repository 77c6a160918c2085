-- A payload spells one datum or has one first fault: both are read off what decoding gives.
use Rattle.std.proofs.Common.{◌≡◌, ℕ, ◌+◌, ◌<◌, List, [], ◌∷◌, ◌++◌, length, refl, sym, ap, ◌∙◌, arith, inl, inr, ◌⊎◌}
use Rattle.std.proofs.lemmas.List.{append-nil, length-append}
use Rattle.std.proofs.lemmas.Bool.{cases_lt}
use Rattle.spec_avro.specs.declared.meter.Meter.{Meter}
use Rattle.spec_avro.specs.declared.malformed.MalformedKind.{MalformedKind}
use Rattle.spec_avro.specs.declared.malformed.MalformedKind.TheVariants.{Truncated, Trailing}
use Rattle.spec_avro.specs.Meter.{start}
use Rattle.avro_bytes.specs.Laws.Binds.{complete_is, stands_within}
use Rattle.spec_avro.specs.Node.{Node}
use Rattle.spec_avro.specs.Datum.{Datum}
use Rattle.avro_datum.specs.Decoding.{datum_at}
use Rattle.spec_avro.specs.FaultyDatum.{FirstFault, malformed, truncated, trailing}
use Rattle.spec_avro.specs.Payload.{IsPayload}
use Rattle.spec_avro.specs.Spelling.{Spells, Fits, units_of}
use Rattle.avro_datum.specs.Laws.Complete.{datum_complete}
use Rattle.avro_datum.specs.Laws.Told.{datum_told}
use Rattle.avro_datum.specs.Laws.OneForm.{datum_one_form}
use Rattle.avro_datum.specs.Laws.Sound.{datum_sound}
use Rattle.avro_datum.proofs.Payloads.{is_whole, is_trailing, is_truncated, is_malformed}
use Rattle.spec_decoding.specs.Decoding.{Complete, Decoding, Failed}
use Rattle.spec_avro.specs.Defect.{Malformed, Need}

abbrev pub units_after : Datum → Meter
units_after d = record { depth = 0; units = units_of d }

-- what decoding gives of bytes that begin with a spelling
begins : (nodes : List Node) (d : Datum) (front rest : List ℕ) → Spells nodes 0 d front → Fits d → datum_at nodes (front ++ rest) 0 0 start ≡ Complete d (length front) (units_after d)
begins nodes d front rest s fits =
    datum_complete nodes 0 [] front rest start d (units_after d) s (record { deep = fits.0; many = fits.1; same_depth = refl; counted = omega arith })
    ∙ ap (λ k. Complete d k (units_after d)) (let e : 0 + length front ≡ length front = omega arith in e)

pub decodes : (nodes : List Node) (payload : List ℕ) (d : Datum) → IsPayload nodes d payload → datum_at nodes payload 0 0 start ≡ Complete d (length payload) (units_after d)
decodes nodes payload d p = ap (λ (b : List ℕ). datum_at nodes b 0 0 start) (sym (append-nil payload)) ∙ begins nodes d payload [] p.spelled p.fits

-- the fault that decoding tells, where there is one
abbrev fault_of : List ℕ → Decoding Datum → MalformedKind × ℕ
fault_of payload (Complete d to m) = (Trailing, to)
fault_of payload (Failed (Malformed kind at)) = (kind, at)
fault_of payload (Failed Need) = (Truncated, length payload)

faults : (nodes : List Node) (payload : List ℕ) (kind : MalformedKind) (at : ℕ) → FirstFault nodes payload kind at → fault_of payload (datum_at nodes payload 0 0 start) ≡ (kind, at)
faults nodes payload kind at (malformed h) = ap (fault_of payload) (datum_told nodes 0 [] payload start (Malformed kind at) h) ∙ ap (λ k. (kind, k)) (let e : 0 + at ≡ at = omega arith in e)
faults nodes payload kind at (truncated h k p) = ap (fault_of payload) (datum_told nodes 0 [] payload start Need h) ∙ ap (λ x. (x, length payload)) (sym k) ∙ ap (λ x. (kind, x)) (sym p)
faults nodes payload kind at (trailing t k) =
    ap (λ (b : List ℕ). fault_of payload (datum_at nodes b 0 0 start)) t.parts ∙ ap (fault_of payload) (begins nodes t.datum t.front (t.first ∷ t.rest) t.spelled t.fits)
    ∙ ap (λ x. (x, length t.front)) (sym k) ∙ ap (λ x. (kind, x)) (sym t.place)

pub either : (nodes : List Node) (payload : List ℕ) (x : Decoding Datum) → datum_at nodes payload 0 0 start ≡ x → ((d : Datum) × IsPayload nodes d payload) ⊎ ((kind : MalformedKind) × (at : ℕ) × FirstFault nodes payload kind at)
either nodes payload (Complete d to m) e =
    let s = datum_sound nodes payload 0 0 start d to m e in
    let within = stands_within (Spells nodes 0 d) payload 0 to (omega arith) s.0 in
    elim (cases_lt to (length payload)) [
      | inl lt ↦ inr (Trailing, to, is_trailing nodes payload d to m e (λ same. absurd (omega arith)))
      | inr le ↦ inl (d, is_whole nodes payload d to m e (omega arith))
    ]
either nodes payload (Failed (Malformed kind at)) e = inr (kind, at, is_malformed nodes payload kind at e)
either nodes payload (Failed Need) e = inr (Truncated, length payload, is_truncated nodes payload e)

pub one_datum : (nodes : List Node) (payload : List ℕ) (d e : Datum) → IsPayload nodes d payload → IsPayload nodes e payload → d ≡ e
one_datum nodes payload d e p q = (datum_one_form nodes 0 d e payload payload [] [] p.spelled q.spelled refl).1

pub one_fault : (nodes : List Node) (payload : List ℕ) (kind other : MalformedKind) (at place : ℕ) → FirstFault nodes payload kind at → FirstFault nodes payload other place → (kind ≡ other) × (at ≡ place)
one_fault nodes payload kind other at place f g =
    let e = sym (faults nodes payload kind at f) ∙ faults nodes payload other place g in
    (ap (λ x. x.0) e, ap (λ x. x.1) e)

not_told : (payload : List ℕ) (d e : Datum) (m after : Meter) (to : ℕ) → Complete d (length payload) m ≡ Complete e to after → to < length payload → ⊥
not_told payload d e m after to same lt = let w = complete_is same in absurd (omega (arith, w.1))

pub never_both : (nodes : List Node) (payload : List ℕ) (d : Datum) (kind : MalformedKind) (at : ℕ) → IsPayload nodes d payload → FirstFault nodes payload kind at → ⊥
never_both nodes payload d kind at p (malformed h) = let e = sym (decodes nodes payload d p) ∙ datum_told nodes 0 [] payload start (Malformed kind at) h in absurd cc
never_both nodes payload d kind at p (truncated h k place) = let e = sym (decodes nodes payload d p) ∙ datum_told nodes 0 [] payload start Need h in absurd cc
never_both nodes payload d kind at p (trailing t k) =
    not_told payload d t.datum (units_after d) (units_after t.datum) (length t.front)
    (sym (decodes nodes payload d p) ∙ ap (λ (b : List ℕ). datum_at nodes b 0 0 start) t.parts ∙ begins nodes t.datum t.front (t.first ∷ t.rest) t.spelled t.fits)
    (omega (arith, ap length t.parts, length-append t.front (t.first ∷ t.rest)))
