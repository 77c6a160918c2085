-- The loop that fills the slots: what is done, before what is left.
use Rattle.std.proofs.Common.{◌≡◌, ◌⊎◌, inl, inr, List, [], ◌∷◌, ◌++◌, length, option_map, Option, Some, refl, sym, ap, ◌∙◌}
use Rattle.avro_types.specs.declared.datum.Datum as rust
use Rattle.avro_types.specs.declared.kind.Field.{Field}
use Rattle.spec_avro.specs.Node.{FieldNode}
use Rattle.avro_types.specs.Node.{field_of, fields_of}
use Rattle.spec_avro.specs.Datum.{Datum, Data, no_more, more}
use Rattle.avro_types.specs.Datum.{datum_of, data_of}
use Rattle.spec_avro.specs.Options.{given, or_else}
use Rattle.spec_avro.specs.Resolution.{filled}
use Rattle.resolver.specs.Steps.{slots_of}
use Rattle.resolver.proofs.Items.{joined, joined_end, joined_push, no_length}

module _ (front : List rust.Datum) (fields : List Field) (slots : List (Option rust.Datum)) (whole : Data) (so_far : joined (data_of front) (filled (fields_of fields) (slots_of slots)) ≡ whole) where
  pub filled_on : (f : Field) (fs : List Field) (slot : Option rust.Datum) (rest : List (Option rust.Datum)) (d : rust.Datum) (now : List rust.Datum) → fields ≡ f ∷ fs → slots ≡ slot ∷ rest → Some (datum_of d) ≡ or_else (option_map datum_of slot) (field_of f).default → now ≡ front ++ d ∷ [] → joined (data_of now) (filled (fields_of fs) (slots_of rest)) ≡ whole
  filled_on f fs slot rest d now first next value pushed =
      let others = filled (fields_of fs) (slots_of rest) in
      let here : filled (fields_of fields) (slots_of slots) ≡ more (datum_of d) others =
      ap (λ (x : List Field). filled (fields_of x) (slots_of slots)) first
      ∙ ap (λ (x : List (Option rust.Datum)). filled (fields_of (f ∷ fs)) (slots_of x)) next
      ∙ ap (λ (o : Option Datum). given o others (λ d. more d others)) (sym value) in
      rw pushed (joined_push front d others ∙ ap (joined (data_of front)) (sym here) ∙ so_far)

  pub filled_end : (length fields ≡ 0) ⊎ (length slots ≡ 0) → data_of front ≡ whole
  filled_end (inl e) = sym (joined_end (data_of front)) ∙ ap (λ (x : List Field). joined (data_of front) (filled (fields_of x) (slots_of slots))) (sym (no_length fields e)) ∙ so_far
  filled_end (inr e) = sym (joined_end (data_of front)) ∙ ap (joined (data_of front)) (sym (no_slots (fields_of fields))) ∙ ap (λ (x : List (Option rust.Datum)). joined (data_of front) (filled (fields_of fields) (slots_of x))) (sym (no_length slots e)) ∙ so_far where
    no_slots : (fs : List FieldNode) → filled fs [] ≡ no_more
    no_slots [] = refl
    no_slots (f ∷ fs) = refl
