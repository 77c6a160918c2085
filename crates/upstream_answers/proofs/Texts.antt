-- What is kept of the members of a content, and bytes that are no text.
use Rattle.std.proofs.Common.{◌≡◌, ℕ, List, true, false, IsUtf8, refl, sym, ap, ◌∙◌, codes, Err, Option, Some, None, option_and_then, option_map}
use Rattle.std.specs.Option.{ok_or}
use Rattle.std.specs.Str.{is_utf8}
use Rattle.std.proofs.lemmas.Str.{IsUtf8-from_is_utf8, is_utf8-from_IsUtf8}
use Rattle.std.proofs.lemmas.Bool.{false_from_ne_true}
use Rattle.serde_json.specs.Data.{Data, null, boolean, number, string, array, object, no_items, item}
use Rattle.serde_json.specs.Find.{as_str, get}
use Rattle.gateway_bodies.specs.Members.{AreMembersOf, data_of, kept}
use Rattle.gateway_bodies.specs.declared.members.Members.{Members}
use Rattle.spec_service.specs.UpstreamContent.{has_no_references, is_avro, schema_of}
use Rattle.spec_service.specs.declared.upstream_content.ContentFault.TheVariants.{HasReferences, NoSchema, NotAvro}

-- what is asked of a value is known from what is kept of it
is_avro-kept : (o : Option Data) → is_avro (option_map kept o) ≡ is_avro o
is_avro-kept None = refl
is_avro-kept (Some null) = refl
is_avro-kept (Some (boolean b)) = refl
is_avro-kept (Some (number n)) = refl
is_avro-kept (Some (string s)) = refl
is_avro-kept (Some (array no_items)) = refl
is_avro-kept (Some (array (item d ds))) = refl
is_avro-kept (Some (object ms)) = refl

has_no_references-kept : (o : Option Data) → has_no_references (option_map kept o) ≡ has_no_references o
has_no_references-kept None = refl
has_no_references-kept (Some null) = refl
has_no_references-kept (Some (boolean b)) = refl
has_no_references-kept (Some (number n)) = refl
has_no_references-kept (Some (string s)) = refl
has_no_references-kept (Some (array no_items)) = refl
has_no_references-kept (Some (array (item d ds))) = refl
has_no_references-kept (Some (object ms)) = refl

text-kept : (o : Option Data) → option_and_then as_str (option_map kept o) ≡ option_and_then as_str o
text-kept None = refl
text-kept (Some null) = refl
text-kept (Some (boolean b)) = refl
text-kept (Some (number n)) = refl
text-kept (Some (string s)) = refl
text-kept (Some (array no_items)) = refl
text-kept (Some (array (item d ds))) = refl
text-kept (Some (object ms)) = refl

module _ (d : Data) (members : Members) (are : AreMembersOf d members) where
  type_in : is_avro (option_map data_of members.schema_type) ≡ is_avro (get (codes "schemaType") d)
  type_in = ap is_avro are.schema_type ∙ is_avro-kept (get (codes "schemaType") d)

  references_in : has_no_references (option_map data_of members.references) ≡ has_no_references (get
      (codes "references") d)
  references_in = ap has_no_references are.references ∙ has_no_references-kept (get (codes "references") d)

  text_in : option_and_then as_str (option_map data_of members.schema) ≡ option_and_then as_str (get (codes "schema") d)
  text_in = ap (option_and_then as_str) are.schema ∙ text-kept (get (codes "schema") d)

  -- the text that was kept, where its type is Avro and it has no references
  pub schema_by_members : is_avro (option_map data_of members.schema_type) ≡ true
      → has_no_references (option_map data_of members.references) ≡ true
      → ok_or (option_and_then as_str (option_map data_of members.schema)) NoSchema ≡ schema_of d
  schema_by_members avro none =
      let is : is_avro (get (codes "schemaType") d) ≡ true = sym type_in ∙ avro in
      let without : has_no_references (get (codes "references") d) ≡ true = sym references_in ∙ none in
      ap (λ o. ok_or o NoSchema) text_in ∙ rw (is, without) refl

  pub other_type : is_avro (option_map data_of members.schema_type) ≡ false → schema_of d ≡ Err NotAvro
  other_type other =
      let is : is_avro (get (codes "schemaType") d) ≡ false = sym type_in ∙ other in
      rw is refl

  pub some_references : is_avro (option_map data_of members.schema_type) ≡ true
      → has_no_references (option_map data_of members.references) ≡ false
      → schema_of d ≡ Err HasReferences
  some_references avro some =
      let is : is_avro (get (codes "schemaType") d) ≡ true = sym type_in ∙ avro in
      let with : has_no_references (get (codes "references") d) ≡ false = sym references_in ∙ some in
      rw (is, with) refl

pub is_text : (content : List ℕ) → IsUtf8 content → is_utf8 content ≡ true
is_text content is = is_utf8-from_IsUtf8 content is

pub is_no_text : (content : List ℕ) → (IsUtf8 content → ⊥) → is_utf8 content ≡ false
is_no_text content none = false_from_ne_true (is_utf8 content) (λ is. none (IsUtf8-from_is_utf8 content is))
