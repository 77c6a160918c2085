-- The steps to a field of a record that a search has found.
use Rattle.std.proofs.Common.{◌≡◌, ◌<◌, ◌+◌, ℕ, zero, suc, List, [], ◌∷◌, ◌++◌, length, true, Option, Some, None, Ok, arith, ap, ◌∙◌, slice_get, append_assoc}
use Rattle.serde_json.specs.Data.{Data}
use Rattle.spec_schema.specs.Draft.{Draft}
use Rattle.spec_schema.specs.Names.{null_namespace}
use Rattle.avro_schema_paths.specs.Places.{Path}
use Rattle.avro_schema_paths.specs.declared.step.Step.TheVariants as steps
use Rattle.avro_schema_faults.specs.Searching.{LeadsToField, Searches, SoughtIn, is_record}

below : (drafts : List Draft) (n : ℕ) → is_record (slice_get drafts n) ≡ true → n < length drafts
below [] n holds = absurd (let bad : ⊥ = cc in bad)
below (d ∷ ds) zero holds = omega arith
below (d ∷ ds) (suc n) holds = let lt = below ds n holds in omega (arith, lt)

pub leads-to-field : (E : Type 0) (r : Option ℕ) (d : Data) (node position : ℕ) (before mid more after : Path) → Searches {E = E} (Ok r) (SoughtIn d node) before mid → more ≡ mid ++ steps.Fields ∷ [] → after ≡ more ++ steps.At position ∷ [] → LeadsToField d node position before after
leads-to-field E (Some rest) d node position before mid more after (same, s) one two drafts adds holds =
    absurd (let lt = below drafts node holds in let e = s null_namespace [] drafts adds in omega (arith, lt, e))
leads-to-field E None d node position before mid more after (path, is, s) one two drafts adds holds =
    let found = (s null_namespace [] drafts adds).1 in
    let tail = steps.Fields ∷ steps.At position ∷ [] in
    let all : after ≡ (before ++ path) ++ tail = two ∙ ap (λ (q : Path). q ++ steps.At position ∷ []) (one ∙ ap (λ (q : Path). q ++ steps.Fields ∷ []) is) ∙ append_assoc (before ++ path) (steps.Fields ∷ []) (steps.At position ∷ []) in
    record {
      path = path;
      is = all ∙ append_assoc before path tail;
      record_is = record { value = found.value; enclosing = found.enclosing; heads = found.heads; comes = found.comes; form = found.form holds; number = found.number ∙ (let e : 0 + node ≡ node = omega arith in e) };
    }
