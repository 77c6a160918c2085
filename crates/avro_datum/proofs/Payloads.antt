-- What a whole payload is, from what decoding gives at its first place.
use Rattle.std.proofs.Common.{◌≡◌, ◌≢◌, ℕ, List, [], ◌∷◌, ◌++◌, length, refl, sym, ap, subst, ◌∙◌, arith}
use Rattle.std.proofs.lemmas.List.{append-nil, length-append}
use Rattle.spec_avro.specs.declared.meter.Meter.{Meter}
use Rattle.spec_avro.specs.declared.malformed.MalformedKind.{MalformedKind}
use Rattle.spec_avro.specs.declared.malformed.MalformedKind.TheVariants.{Truncated, Trailing}
use Rattle.spec_avro.specs.Meter.{start, Counts}
use Rattle.spec_avro.specs.Node.{Node}
use Rattle.spec_avro.specs.Datum.{Datum}
use Rattle.avro_datum.specs.Decoding.{datum_at}
use Rattle.spec_avro.specs.FaultyDatum.{FaultyDatum, FirstFault, malformed, truncated, trailing}
use Rattle.spec_avro.specs.Payload.{IsPayload}
use Rattle.spec_avro.specs.Spelling.{Spells, Fits, depth_of, units_of}
use Rattle.avro_datum.specs.Laws.Defects.{datum_defect}
use Rattle.avro_datum.specs.Laws.Sound.{datum_sound}
use Rattle.spec_decoding.specs.Decoding.{Complete, Decoding, Failed}
use Rattle.spec_avro.specs.Defect.{Malformed, Need}
use Rattle.avro_bytes.specs.Fault.{HasDefect}

counted_fits : (d : Datum) (after : Meter) → Counts (depth_of d) (units_of d) start after → Fits d
counted_fits d after c = (c.deep, c.many)

nothing_after : (bytes rest : List ℕ) → length (bytes ++ rest) ≡ length bytes → rest ≡ []
nothing_after bytes [] e = refl
nothing_after bytes (b ∷ rest) e = absurd (omega (arith, length-append bytes (b ∷ rest)))

module _ (nodes : List Node) (payload : List ℕ) where
  pub is_whole : (d : Datum) (to : ℕ) (after : Meter) → datum_at nodes payload 0 0 start ≡ Complete d to after → to ≡ length payload → IsPayload nodes d payload
  is_whole d to after e end =
      let s = datum_sound nodes payload 0 0 start d to after e in
      let none : s.0.rest ≡ [] = nothing_after s.0.bytes s.0.rest (ap length (sym s.0.parts) ∙ sym end ∙ s.0.end ∙ omega arith) in
      let same : s.0.bytes ≡ payload = sym (s.0.parts ∙ ap (λ (x : List ℕ). s.0.bytes ++ x) none ∙ append-nil s.0.bytes) in
      record { spelled = subst (Spells nodes 0 d) same s.0.spelled; fits = counted_fits d after s.1 }

  trails : (d : Datum) (to : ℕ) (front rest : List ℕ) → payload ≡ front ++ rest → to ≡ length front → to ≢ length payload → Spells nodes 0 d front → Fits d → FirstFault nodes payload Trailing to
  trails d to front [] parts end more spelled fits = absurd (more (end ∙ sym (ap length (parts ∙ append-nil front))))
  trails d to front (b ∷ rest) parts end more spelled fits = trailing (record { datum = d; front = front; first = b; rest = rest; parts = parts; spelled = spelled; fits = fits; place = end }) refl

  pub is_trailing : (d : Datum) (to : ℕ) (after : Meter) → datum_at nodes payload 0 0 start ≡ Complete d to after → to ≢ length payload → FirstFault nodes payload Trailing to
  is_trailing d to after e more =
      let s = datum_sound nodes payload 0 0 start d to after e in
      trails d to s.0.bytes s.0.rest s.0.parts (s.0.end ∙ omega arith) more s.0.spelled (counted_fits d after s.1)

  defect_at : (x : Decoding Datum) → datum_at nodes payload 0 0 start ≡ x → HasDefect x 0 (FaultyDatum nodes 0 payload start)
  defect_at x e = subst (λ (y : Decoding Datum). HasDefect y 0 (FaultyDatum nodes 0 payload start)) e (datum_defect nodes payload 0 0 start)

  pub is_truncated : datum_at nodes payload 0 0 start ≡ Failed Need → FirstFault nodes payload Truncated (length payload)
  is_truncated e = truncated (defect_at (Failed Need) e) refl refl

  pub is_malformed : (kind : MalformedKind) (at : ℕ) → datum_at nodes payload 0 0 start ≡ Failed (Malformed kind at) → FirstFault nodes payload kind at
  is_malformed kind at e =
      let d = defect_at (Failed (Malformed kind at)) e in
      let place : d.0 ≡ at = omega (arith, d.1) in
      malformed (subst (λ (k : ℕ). FaultyDatum nodes 0 payload start (Malformed kind k)) place d.2)
