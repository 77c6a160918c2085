-- The full name that an object defines: what the relation says, and what the walk computes.
use Rattle.std.proofs.Common.{◌≡◌, ℕ, List, Bool, true, false, not, ◌&&◌, cond, Option, Some, None, is_none, Result, Ok, Err, refl, ◌∙◌, codes}
use Rattle.serde_json.specs.Data.{Data, null, boolean, number, string, array, object, Members}
use Rattle.serde_json.specs.Find.{get_member}
use Rattle.spec_schema.specs.declared.schema_error.SchemaError.{SchemaError}
use Rattle.spec_schema.specs.declared.schema_error.SchemaError.TheVariants.{BadName, Redefined}
use Rattle.spec_schema.specs.Draft.{Draft}
use Rattle.spec_schema.specs.Steps.{◌>>=◌, require}
use Rattle.spec_schema.specs.Head.{Head, heads_of, defined_at}
use Rattle.spec_avro.specs.FullNames.{has_dot, inside, is_full_name, unqualified}
use Rattle.spec_schema.specs.Names.{new_name, given_namespace, if_new}
use Rattle.spec_schema.specs.Word.{word_of, is_primitive}
use Rattle.spec_avro.specs.Node.{Names, names_of}
use Rattle.spec_schema.specs.Aliases.{new_names, type_aliases}
use Rattle.spec_schema.specs.Given.{AreTypeAliases}
use Rattle.avro_schema.proofs.GivenAttributes.{type_aliases_are, type_aliases_told}
use Rattle.avro_schema.proofs.Told.{Told}
use Rattle.spec_schema.specs.Declaring.{DefinesFullName, DefinesNames, GivesFullName, dotted, in_its_own, in_enclosing}
use Rattle.avro_schema.proofs.DefinedPlaces.{new_is-none, none_is-new}
use Rattle.avro_schema.proofs.WordCases.{no_primitive, no_primitive_is}

-- ---- the relation gives what is computed

new_is : (full : List ℕ) (heads : List Head) → is_full_name full ≡ true → is_primitive (word_of (unqualified full)) ≡ false → defined_at full heads ≡ None → if_new full heads ≡ Ok full
new_is full heads a b c = rw (a, b, c) refl

module _ (ms : Members) (enclosing : List ℕ) (heads : List Head) where
  given_is : {full : List ℕ} → GivesFullName ms enclosing full → new_name (get_member (codes "name") ms) (get_member (codes "namespace") ms) enclosing heads ≡ if_new full heads
  unfolding new_name
  given_is (dotted e dot) = rw (e, dot) refl
  given_is (in_its_own e dot own) = rw (e, dot, own) refl
  given_is (in_enclosing e dot own) = rw (e, dot, own) refl

pub name_is : (ms : Members) (enclosing : List ℕ) (before : List Draft) (full : List ℕ) → DefinesFullName ms enclosing before full → new_name (get_member (codes "name") ms) (get_member (codes "namespace") ms) enclosing (heads_of before) ≡ Ok full
name_is ms enclosing before full d = given_is ms enclosing (heads_of before) d.gives ∙ new_is full (heads_of before) d.by_rule (no_primitive_is (unqualified full) d.not_primitive) (new_is-none full before d.new)

-- ---- and what is computed holds

module _ (ms : Members) (enclosing : List ℕ) (before : List Draft) where
  told_new : (full : List ℕ) → GivesFullName ms enclosing full → (a b : Bool) (o : Option ℕ) → is_full_name full ≡ a → is_primitive (word_of (unqualified full)) ≡ b → defined_at full (heads_of before) ≡ o
      → Told (DefinesFullName ms enclosing before) (require (a && not b) BadName >>= λ _. require (is_none o) Redefined >>= λ _. Ok full)
  told_new full g true false None a b c = record { gives = g; by_rule = a; not_primitive = no_primitive (unqualified full) b; new = none_is-new full before c }
  told_new full g true false (Some n) a b c = tt
  told_new full g true true o a b c = tt
  told_new full g false b o x y z = tt

  if_told : (full : List ℕ) → GivesFullName ms enclosing full → Told (DefinesFullName ms enclosing before) (if_new full (heads_of before))
  if_told full g = told_new full g (is_full_name full) (is_primitive (word_of (unqualified full))) (defined_at full (heads_of before)) refl refl refl

  namespace_told : (s : List ℕ) → get_member (codes "name") ms ≡ Some (string s) → has_dot s ≡ false → (o : Option Data) → get_member (codes "namespace") ms ≡ o
      → Told (DefinesFullName ms enclosing before) (given_namespace o enclosing >>= λ own. if_new (inside own s) (heads_of before))
  namespace_told s e dot None own = if_told (inside enclosing s) (in_enclosing e dot own)
  namespace_told s e dot (Some (string t)) own = if_told (inside t s) (in_its_own e dot own)
  namespace_told s e dot (Some null) own = tt
  namespace_told s e dot (Some (boolean b)) own = tt
  namespace_told s e dot (Some (number n)) own = tt
  namespace_told s e dot (Some (array ds)) own = tt
  namespace_told s e dot (Some (object ns)) own = tt

  dot_told : (s : List ℕ) → get_member (codes "name") ms ≡ Some (string s) → (b : Bool) → has_dot s ≡ b
      → Told (DefinesFullName ms enclosing before) (cond b (Ok enclosing) (given_namespace (get_member (codes "namespace") ms) enclosing) >>= λ own. if_new (cond b s (inside own s)) (heads_of before))
  dot_told s e true dot = if_told s (dotted e dot)
  dot_told s e false dot = namespace_told s e dot (get_member (codes "namespace") ms) refl

  text_told : (o : Option Data) → get_member (codes "name") ms ≡ o → Told (DefinesFullName ms enclosing before) (new_name o (get_member (codes "namespace") ms) enclosing (heads_of before))
  unfolding new_name
  text_told None e = tt
  text_told (Some (string s)) e = dot_told s e (has_dot s) refl
  text_told (Some null) e = tt
  text_told (Some (boolean b)) e = tt
  text_told (Some (number n)) e = tt
  text_told (Some (array ds)) e = tt
  text_told (Some (object ns)) e = tt

  pub name_told : Told (DefinesFullName ms enclosing before) (new_name (get_member (codes "name") ms) (get_member (codes "namespace") ms) enclosing (heads_of before))
  name_told = text_told (get_member (codes "name") ms) refl

-- ---- with aliases

pub names_are : (ms : Members) (enclosing : List ℕ) (before : List Draft) (names : Names) → DefinesNames ms enclosing before names
    → new_names (get_member (codes "name") ms) (get_member (codes "namespace") ms) (get_member (codes "aliases") ms) enclosing (heads_of before) ≡ Ok names
unfolding new_names
names_are ms enclosing before names d = rw (name_is ms enclosing before names.full d.full_name, type_aliases_are (get_member (codes "aliases") ms) names.full names.aliases d.aliases) refl

module _ (ms : Members) (enclosing : List ℕ) (before : List Draft) where
  aliases_told : (full : List ℕ) → DefinesFullName ms enclosing before full → (r : Result (List (List ℕ)) SchemaError) → Told (AreTypeAliases (get_member (codes "aliases") ms) full) r
      → Told (DefinesNames ms enclosing before) (r >>= λ others. Ok (names_of full others))
  aliases_told full d (Ok others) h = record { full_name = d; aliases = h }
  aliases_told full d (Err e) h = tt

  full_told : (r : Result (List ℕ) SchemaError) → Told (DefinesFullName ms enclosing before) r
      → Told (DefinesNames ms enclosing before) (r >>= λ full. type_aliases full (get_member (codes "aliases") ms) >>= λ others. Ok (names_of full others))
  full_told (Ok full) d = aliases_told full d (type_aliases full (get_member (codes "aliases") ms)) (type_aliases_told (get_member (codes "aliases") ms) full)
  full_told (Err e) d = tt

  pub names_told : Told (DefinesNames ms enclosing before) (new_names (get_member (codes "name") ms) (get_member (codes "namespace") ms) (get_member (codes "aliases") ms) enclosing (heads_of before))
  unfolding new_names
  names_told = full_told (new_name (get_member (codes "name") ms) (get_member (codes "namespace") ms) enclosing (heads_of before)) (name_told ms enclosing before)
