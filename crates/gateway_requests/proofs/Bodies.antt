-- What is kept of the members of a body, and bytes that are no text.
use Rattle.std.proofs.Common.{◌≡◌, ℕ, List, true, false, IsUtf8, refl, sym, ap, ap₂, ◌∙◌, codes, ◌&&◌, if◌then◌else◌, Err, Option, Some, None, option_and_then, option_map}
use Rattle.std.specs.Option.{ok_or}
use Rattle.std.specs.Str.{is_utf8}
use Rattle.std.proofs.lemmas.Str.{IsUtf8-from_is_utf8, is_utf8-from_IsUtf8}
use Rattle.std.proofs.lemmas.Bool.{false_from_ne_true}
use Rattle.serde_json.specs.Data.{Data, null, boolean, number, string, array, object, no_items, item}
use Rattle.serde_json.specs.Find.{as_str, get}
use Rattle.spec_service.specs.declared.fault.Fault.TheVariants.{BadBody}
use Rattle.gateway_bodies.specs.Members.{AreMembersOf, data_of, kept}
use Rattle.gateway_bodies.specs.declared.members.Members.{Members}
use Rattle.spec_service.specs.Body.{has_no_references, is_avro, text_in}

-- a test of a value has the same result on what is kept of it
pub is_avro-kept : (o : Option Data) → is_avro (option_map kept o) ≡ is_avro o
is_avro-kept None = refl
is_avro-kept (Some null) = refl
is_avro-kept (Some (boolean b)) = refl
is_avro-kept (Some (number n)) = refl
is_avro-kept (Some (string s)) = refl
is_avro-kept (Some (array no_items)) = refl
is_avro-kept (Some (array (item d ds))) = refl
is_avro-kept (Some (object ms)) = refl

pub has_no_references-kept : (o : Option Data) → has_no_references (option_map kept o) ≡ has_no_references o
has_no_references-kept None = refl
has_no_references-kept (Some null) = refl
has_no_references-kept (Some (boolean b)) = refl
has_no_references-kept (Some (number n)) = refl
has_no_references-kept (Some (string s)) = refl
has_no_references-kept (Some (array no_items)) = refl
has_no_references-kept (Some (array (item d ds))) = refl
has_no_references-kept (Some (object ms)) = refl

pub text-kept : (o : Option Data) → option_and_then as_str (option_map kept o) ≡ option_and_then as_str o
text-kept None = refl
text-kept (Some null) = refl
text-kept (Some (boolean b)) = refl
text-kept (Some (number n)) = refl
text-kept (Some (string s)) = refl
text-kept (Some (array no_items)) = refl
text-kept (Some (array (item d ds))) = refl
text-kept (Some (object ms)) = refl

-- the text that was kept is that of the object, where its type is Avro and it has no references
pub text_by_members : (d : Data) (members : Members) → AreMembersOf d members → is_avro (option_map data_of members.schema_type) ≡ true
    → has_no_references (option_map data_of members.references) ≡ true
    → ok_or (option_and_then as_str (option_map data_of members.schema)) BadBody ≡ text_in d
text_by_members d members are avro none =
    let is : is_avro (get (codes "schemaType") d) ≡ true = sym (is_avro-kept (get (codes "schemaType") d)) ∙ ap is_avro (sym are.schema_type) ∙ avro in
    let without : has_no_references (get (codes "references") d) ≡ true =
    sym (has_no_references-kept (get (codes "references") d)) ∙ ap has_no_references (sym are.references) ∙ none in
    let told : text_in d ≡ ok_or (option_and_then as_str (get (codes "schema") d)) BadBody =
    ap₂ (λ a b. if a && b then ok_or (option_and_then as_str (get (codes "schema") d)) BadBody else Err BadBody) is without in
    ap (λ o. ok_or (option_and_then as_str o) BadBody) are.schema ∙ ap (λ o. ok_or o BadBody) (text-kept (get (codes "schema") d)) ∙ sym told

pub is_text : (body : List ℕ) → IsUtf8 body → is_utf8 body ≡ true
is_text body is = is_utf8-from_IsUtf8 body is

pub is_no_text : (body : List ℕ) → (IsUtf8 body → ⊥) → is_utf8 body ≡ false
is_no_text body none = false_from_ne_true (is_utf8 body) (λ is. none (IsUtf8-from_is_utf8 body is))
