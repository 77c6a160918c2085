-- A payload has just one outcome, since it spells one datum or has one first fault.
use Rattle.std.proofs.Common.{◌≡◌, ℕ, List, length, Ok, Err, refl, sym, ap, ◌∙◌, inl, inr, ◌⊎◌}
use Rattle.std.proofs.lemmas.Bool.{cases_lt, lt-ltb, le-ltb}
use Rattle.std.specs.Prelude.{nat_lt, if◌then◌else◌}
use Rattle.spec_avro.specs.declared.malformed.MalformedKind.{MalformedKind}
use Rattle.spec_avro.specs.Datum.{Datum}
use Rattle.spec_avro.specs.Node.{Node}
use Rattle.spec_avro.specs.FaultyDatum.{FirstFault}
use Rattle.spec_avro.specs.Payload.{IsPayload}
use Rattle.spec_avro.specs.Writing.{written}
use Rattle.spec_avro.specs.declared.mismatch.Mismatch.{Mismatch}
use Rattle.spec_avro.specs.Outcome.{Outcome, Done, Mismatched, Malformed, OutputTooLarge}
use Rattle.spec_avro.specs.PayloadOutcome.{IsOutcome}
use Rattle.spec_avro.specs.Resolution.{Resolved, resolved}

-- the outcome of a datum, by what resolution makes of it
told : Resolved Datum → Outcome
told (Err m) = Mismatched m
told (Ok e) = if nat_lt 67108864 (length (written e)) then OutputTooLarge else Done (written e)

some_told : (W R : List Node) (payload : List ℕ) (d : Datum) (x : Resolved Datum) → IsPayload W d payload → resolved W R 0 0 d ≡ x → (o : Outcome) × IsOutcome W R payload o
some_told W R payload d (Err m) p e = (Mismatched m, (d, p, e))
some_told W R payload d (Ok f) p e =
    elim (cases_lt 67108864 (length (written f))) [
      | inl large ↦ (OutputTooLarge, (d, f, p, e, large))
      | inr fits ↦ (Done (written f), (d, f, p, e, refl, fits))
    ]

abbrev Either : Type 0
Either = (nodes : List Node) (payload : List ℕ) → ((d : Datum) × IsPayload nodes d payload) ⊎ ((kind : MalformedKind) × (at : ℕ) × FirstFault nodes payload kind at)

pub some_outcome : Either → (W R : List Node) (payload : List ℕ) → (o : Outcome) × IsOutcome W R payload o
some_outcome either W R payload =
    elim (either W payload) [
      | inl p ↦ some_told W R payload p.0 (resolved W R 0 0 p.0) p.1 refl
      | inr f ↦ (Malformed f.0 f.1, f.2)
    ]

-- an outcome of a payload that spells a datum is the outcome of the datum
abbrev IsTold : List Node → List Node → List ℕ → Outcome → Type 0
IsTold W R payload o = (d : Datum) × IsPayload W d payload × (o ≡ told (resolved W R 0 0 d))

mismatched_told : (W R : List Node) (payload : List ℕ) (m : Mismatch) → IsOutcome W R payload (Mismatched m) → IsTold W R payload (Mismatched m)
unfolding told
mismatched_told W R payload m o = (o.0, o.1, sym (ap told o.2))

large_told : (W R : List Node) (payload : List ℕ) → IsOutcome W R payload OutputTooLarge → IsTold W R payload OutputTooLarge
unfolding told
large_told W R payload o = (o.0, o.2, sym (ap told o.3 ∙ rw (lt-ltb 67108864 (length (written o.1)) o.4) refl))

done_told : (W R : List Node) (payload bytes : List ℕ) → IsOutcome W R payload (Done bytes) → IsTold W R payload (Done bytes)
unfolding told
done_told W R payload bytes o = (o.0, o.2, ap Done o.4 ∙ sym (ap told o.3 ∙ rw (le-ltb 67108864 (length (written o.1)) o.5) refl))

module _ (one_datum : (nodes : List Node) (payload : List ℕ) (d e : Datum) → IsPayload nodes d payload → IsPayload nodes e payload → d ≡ e)
    (one_fault : (nodes : List Node) (payload : List ℕ) (kind other : MalformedKind) (at place : ℕ) → FirstFault nodes payload kind at → FirstFault nodes payload other place → (kind ≡ other) × (at ≡ place))
    (never_both : (nodes : List Node) (payload : List ℕ) (d : Datum) (kind : MalformedKind) (at : ℕ) → IsPayload nodes d payload → ¬ (FirstFault nodes payload kind at)) where
  both_told : (W R : List Node) (payload : List ℕ) (a b : Outcome) → IsTold W R payload a → IsTold W R payload b → a ≡ b
  both_told W R payload a b p q = p.2 ∙ ap (λ (d : Datum). told (resolved W R 0 0 d)) (one_datum W payload p.0 q.0 p.1 q.1) ∙ sym q.2

  told_or_malformed : (W R : List Node) (payload : List ℕ) (o : Outcome) → IsOutcome W R payload o → IsTold W R payload o ⊎ ((kind : MalformedKind) × (at : ℕ) × (o ≡ Malformed kind at) × FirstFault W payload kind at)
  told_or_malformed W R payload (Done bytes) o = inl (done_told W R payload bytes o)
  told_or_malformed W R payload (Mismatched m) o = inl (mismatched_told W R payload m o)
  told_or_malformed W R payload OutputTooLarge o = inl (large_told W R payload o)
  told_or_malformed W R payload (Malformed kind at) o = inr (kind, at, refl, o)

  pub one_outcome : (W R : List Node) (payload : List ℕ) (a b : Outcome) → IsOutcome W R payload a → IsOutcome W R payload b → a ≡ b
  one_outcome W R payload a b p q =
      elim (told_or_malformed W R payload a p) [
        | inl t ↦ elim (told_or_malformed W R payload b q) [
          | inl u ↦ both_told W R payload a b t u
          | inr g ↦ absurd (never_both W payload t.0 g.0 g.1 t.1 g.3)
        ]
        | inr f ↦ elim (told_or_malformed W R payload b q) [
          | inl u ↦ absurd (never_both W payload u.0 f.0 f.1 u.1 f.3)
          | inr g ↦ (let e = one_fault W payload f.0 g.0 f.1 g.1 f.3 g.3 in f.2 ∙ ap (λ k. Malformed k f.1) e.0 ∙ ap (Malformed g.0) e.1 ∙ sym g.2)
        ]
      ]
