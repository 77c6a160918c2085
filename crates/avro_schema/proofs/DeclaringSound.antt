-- What the walk gives is what the value declares.
use Rattle.std.proofs.Common.{◌≡◌, ℕ, ◌+◌, ◌<◌, ◌≤◌, List, [], ◌∷◌, ◌++◌, length, map, Bool, true, false, not, ◌&&◌, cond, Option, Some, None, option_map, Result, Ok, Err, refl, sym, ap, subst, ◌∙◌, codes, arith, append-nil, length-append, nat_lt}
use Rattle.std.specs.Ordering.{nat_cmp, match_ordering}
use Rattle.std.specs.Cmp.Lexicographic.{slice_cmp}
use Rattle.std.specs.declared.cmp.Ordering.{Ordering}
use Rattle.std.specs.declared.cmp.Ordering.TheVariants.{Less, Equal, Greater}
use Rattle.std.proofs.lemmas.Bool.{ltb-true}
use Rattle.serde_json.specs.Data.{Data, null, boolean, number, string, array, object, Items, no_items, item, Members, no_members, member}
use Rattle.serde_json.specs.Find.{get_member}
use Rattle.spec_avro.specs.declared.limits.TheConstants.{MOST_FIELDS, MOST_NODES}
use Rattle.spec_schema.specs.declared.schema_error.SchemaError.{SchemaError}
use Rattle.spec_schema.specs.declared.schema_error.SchemaError.TheVariants.{TooLarge, BadName, BadUnion}
use Rattle.spec_schema.specs.Attributes.{symbols_of, default_symbol, size_of}
use Rattle.avro_schema.specs.Contract.{object_as, object_walk, field_walk}
use Rattle.spec_schema.specs.Draft.{Draft, Whole, RecordDraft, DraftField, draft_field}
use Rattle.spec_schema.specs.Steps.{◌>>=◌, require}
use Rattle.spec_avro.specs.FullNames.{full_name, is_name, namespace_of}
use Rattle.spec_schema.specs.Head.{Head, ArrayHead, MapHead, UnionHead, Named, head_of, heads_of, defined_at, head_at, are_apart}
use Rattle.spec_schema.specs.Names.{field_name}
use Rattle.spec_schema.specs.Aliases.{field_aliases, new_names}
use Rattle.spec_avro.specs.Node.{Names, ArrayNode, MapNode, UnionNode, EnumNode, FixedNode}
use Rattle.spec_avro.specs.Symbols.{are_new, is_used}
use Rattle.spec_schema.specs.Walk.{added as added_to, Walk, apart_union, around, done, enum_of, field, fields, fields_after, field_of, fixed_of, followed_by, found, if_room, members, named, one_node, or_unknown, record_of, reference, union_of, walk}
use Rattle.spec_schema.specs.Word.{form_of}
use Rattle.avro_schema.proofs.Members.{walk-object, field-object}
use Rattle.avro_schema_names.proofs.DraftLists.{length-heads_of, heads_of-append}
use Rattle.spec_schema.specs.Declaring.{DeclareFields, DeclareMembers, Declares, DefinesNames, HasRoom, IsOf, a_field, a_fixed, a_map, a_member, a_primitive, a_record, a_reference, a_union, an_array, an_enum, another, no_more_fields, no_more_members}
use Rattle.spec_schema.specs.Given.{AreFieldAliases, IsDefaultSymbol, IsSize, IsSymbols}
use Rattle.avro_schema.proofs.GivenAttributes.{default_told, field_aliases_told, size_told, symbols_told}
use Rattle.avro_schema.proofs.Apart.{apart-types, new-distinct}
use Rattle.avro_schema.proofs.DefinedPlaces.{some_is-defined}
use Rattle.avro_schema.proofs.GivenNames.{names_told}
use Rattle.avro_schema.proofs.Told.{Told}
use Rattle.avro_schema.proofs.WordCases.{FormOf, is_record, is_enum, is_fixed, is_array, is_map, is_error, is_other, form_is, no_word, TextIs, primitive, left_out, other, text_is, no_primitive}

-- ---- what holds of what is given, if anything is

abbrev pub Given : {A : Type 0} → (A → List Draft → Type 0) → Result (A × List Draft) SchemaError → Type 0
Given D (Ok p) = D p.0 p.1
Given D (Err e) = Unit {0}

pub given-ok : {A : Type 0} (D : A → List Draft → Type 0) (r : Result (A × List Draft) SchemaError) → Given D r → (a : A) (added : List Draft) → r ≡ Ok (a, added) → D a added
given-ok D r g a added e = subst (Given D) e g

given-map : {A : Type 0} (D E : A → List Draft → Type 0) → ((a : A) (added : List Draft) → D a added → E a added) → (r : Result (A × List Draft) SchemaError) → Given D r → Given E r
given-map D E f (Ok p) g = f p.0 p.1 g
given-map D E f (Err e) g = tt

-- a step that adds no node, and what comes of it
given-told : {A B : Type 0} (P : A → Type 0) (E : B → List Draft → Type 0) (r : Result A SchemaError) (f : A → Result (B × List Draft) SchemaError) → Told P r → ((a : A) → P a → Given E (f a)) → Given E (r >>= f)
given-told P E (Ok a) f t h = h a t
given-told P E (Err e) f t h = tt

module _ (before : List Draft) where
  room_at : {A : Type 0} (E : A → List Draft → Type 0) (b : Bool) → nat_lt (length (heads_of before)) MOST_NODES ≡ b → (r : Result (A × List Draft) SchemaError) → (HasRoom before → Given E r) → Given E (cond b r (Err TooLarge))
  room_at E true e r h = h (omega (arith, ltb-true (length (heads_of before)) MOST_NODES e, length-heads_of before))
  room_at E false e r h = tt

  given-room : {A : Type 0} (E : A → List Draft → Type 0) (r : Result (A × List Draft) SchemaError) → (HasRoom before → Given E r) → Given E (cond (nat_lt (length (heads_of before)) MOST_NODES) r (Err TooLarge))
  given-room E r h = room_at E (nat_lt (length (heads_of before)) MOST_NODES) refl r h

  -- ---- one after another

  added_at : {A B : Type 0} (D : A → List Draft → Type 0) (E : B → List Draft → Type 0) (rest : A → Walk B) (enclosing : List ℕ) (r : Result (A × List Draft) SchemaError) → Given D r
      → ((a : A) (added : List Draft) → D a added → Given (λ b more. E b (added ++ more)) (rest a enclosing (heads_of (before ++ added))))
      → Given E (r >>= λ p. added_to p.1 (rest p.0 enclosing (heads_of before ++ heads_of p.1)))
  added_at D E rest enclosing (Err e) g h = tt
  added_at {B = B} D E rest enclosing (Ok p) g h = on (rest p.0 enclosing (heads_of before ++ heads_of p.1)) (subst (λ hs. Given (λ b more. E b (p.1 ++ more)) (rest p.0 enclosing hs)) (heads_of-append before p.1) (h p.0 p.1 g))
    where
      on : (r : Result (B × List Draft) SchemaError) → Given (λ b more. E b (p.1 ++ more)) r → Given E (added_to p.1 r)
      on (Ok q) g = g
      on (Err e) g = tt

  given-followed : {A B : Type 0} (D : A → List Draft → Type 0) (E : B → List Draft → Type 0) (w : Walk A) (rest : A → Walk B) (enclosing : List ℕ) → Given D (w enclosing (heads_of before))
      → ((a : A) (added : List Draft) → D a added → Given (λ b more. E b (added ++ more)) (rest a enclosing (heads_of (before ++ added)))) → Given E (followed_by w rest enclosing (heads_of before))
  unfolding followed_by
  given-followed D E w rest enclosing g h = added_at D E rest enclosing (w enclosing (heads_of before)) g h

given-mapped : {A B : Type 0} (D : A → List Draft → Type 0) (E : B → List Draft → Type 0) (w : Walk A) (f : A → B) (enclosing : List ℕ) (before : List Draft) → Given D (w enclosing (heads_of before)) → ((a : A) (added : List Draft) → D a added → E (f a) added)
    → Given E (followed_by w (λ x. done (f x)) enclosing (heads_of before))
given-mapped D E w f enclosing before g h = given-followed before D E w (λ x. done (f x)) enclosing g (λ a added d. subst (E (f a)) (sym (append-nil added)) (h a added d))

-- ---- a node before its parts

abbrev pub Sound : {A : Type 0} → (List ℕ → List Draft → A → List Draft → Type 0) → Walk A → Type 0
Sound D w = (enclosing : List ℕ) (before : List Draft) → Given (D enclosing before) (w enclosing (heads_of before))

module _ {A : Type 0} (D : List ℕ → List Draft → A → List Draft → Type 0) (w : Walk A) (sound : Sound D w) (make : A → Draft) (head : Head) (same : (a : A) → head_of (make a) ≡ head) (inner : List ℕ) (before : List Draft) where
  -- whatever node it becomes, the parts come after it
  behind : (a : A) (added : List Draft) → w inner (heads_of before ++ head ∷ []) ≡ Ok (a, added) → D inner (before ++ make a ∷ []) a added
  behind a added e = given-ok (D inner (before ++ make a ∷ [])) _ (sound inner (before ++ make a ∷ [])) a added (ap (w inner) (heads_of-append before (make a ∷ []) ∙ ap (λ h. heads_of before ++ h ∷ []) (same a)) ∙ e)

  given-around : (E : ℕ → List Draft → Type 0) → ((a : A) (added : List Draft) → D inner (before ++ make a ∷ []) a added → E (length before) (make a ∷ added)) → Given E (around make head w inner (heads_of before))
  unfolding around
  given-around E closes = go (w inner (heads_of before ++ head ∷ [])) refl
    where
      go : (r : Result (A × List Draft) SchemaError) → w inner (heads_of before ++ head ∷ []) ≡ r → Given E (r >>= λ p. Ok (length (heads_of before), make p.0 ∷ p.1))
      go (Ok p) e = subst (λ n. E n (make p.0 ∷ p.1)) (sym (length-heads_of before)) (closes p.0 p.1 (behind p.0 p.1 e))
      go (Err e) h = tt

-- ---- texts

text_given : (s enclosing : List ℕ) (before : List Draft) → TextIs s → Given (Declares (string s) enclosing before) (named s enclosing (heads_of before))
unfolding reference
text_given s enclosing before (primitive node p e is) = subst (λ (w : Walk ℕ). Given (Declares (string s) enclosing before) (w enclosing (heads_of before))) (sym e)
    (given-room before (Declares (string s) enclosing before) (one_node (Whole node) enclosing (heads_of before)) (λ lt. subst (λ n. Declares (string s) enclosing before n (Whole node ∷ [])) (sym (length-heads_of before)) (a_primitive p lt)))
text_given s enclosing before (left_out w e is) = subst (λ (w : Walk ℕ). Given (Declares (string s) enclosing before) (w enclosing (heads_of before))) (sym e) tt
text_given s enclosing before (other e none) = subst (λ (w : Walk ℕ). Given (Declares (string s) enclosing before) (w enclosing (heads_of before))) (sym e) (at (defined_at (full_name enclosing s) (heads_of before)) refl)
  where
    at : (o : Option ℕ) → defined_at (full_name enclosing s) (heads_of before) ≡ o → Given (Declares (string s) enclosing before) (found o)
    at None h = tt
    at (Some n) h = a_reference (no_primitive s none) (some_is-defined (full_name enclosing s) before n h)

-- ---- unions

union_given : (ds : Items) → Sound (λ enclosing before. DeclareMembers ds enclosing before) (members ds) → Sound (λ enclosing before. Declares (array ds) enclosing before) (if_room (union_of (members ds)))
unfolding union_of
union_given ds sound enclosing before = given-room before (Declares (array ds) enclosing before) (union_of (members ds) enclosing (heads_of before)) (λ lt. go lt (members ds enclosing (heads_of before ++ UnionHead ∷ [])) refl)
  where
    at : HasRoom before → (ns : List ℕ) (added : List Draft) → DeclareMembers ds enclosing (before ++ Whole (UnionNode ns) ∷ []) ns added → (b : Bool) → are_apart [] (map (head_at ((heads_of before ++ UnionHead ∷ []) ++ heads_of added)) ns) ≡ b
        → Given (Declares (array ds) enclosing before) (cond b (Ok (length (heads_of before), Whole (UnionNode ns) ∷ added)) (Err BadUnion))
    at lt ns added parts false e = tt
    at lt ns added parts true e =
        let own : heads_of (before ++ Whole (UnionNode ns) ∷ []) ≡ heads_of before ++ UnionHead ∷ [] = heads_of-append before (Whole (UnionNode ns) ∷ []) in
        let all : heads_of ((before ++ Whole (UnionNode ns) ∷ []) ++ added) ≡ (heads_of before ++ UnionHead ∷ []) ++ heads_of added = heads_of-append (before ++ Whole (UnionNode ns) ∷ []) added ∙ ap (λ hs. hs ++ heads_of added) own in
        subst (λ n. Declares (array ds) enclosing before n (Whole (UnionNode ns) ∷ added)) (sym (length-heads_of before)) (a_union lt parts (apart-types (map (head_at (heads_of ((before ++ Whole (UnionNode ns) ∷ []) ++ added))) ns) (ap (λ hs. are_apart [] (map (head_at hs) ns)) all ∙ e)))

    go : HasRoom before → (r : Result (List ℕ × List Draft) SchemaError) → members ds enclosing (heads_of before ++ UnionHead ∷ []) ≡ r → Given (Declares (array ds) enclosing before) (r >>= λ p. apart_union (heads_of before) ((heads_of before ++ UnionHead ∷ []) ++ heads_of p.1) p.0 p.1)
    go lt (Ok p) e = at lt p.0 p.1 (behind (λ enclosing before. DeclareMembers ds enclosing before) (members ds) sound (λ ns. Whole (UnionNode ns)) UnionHead (λ ns. refl) enclosing before p.0 p.1 e) (are_apart [] (map (head_at ((heads_of before ++ UnionHead ∷ []) ++ heads_of p.1)) p.0)) refl
    go lt (Err e) h = tt

-- ---- objects

abbrev pub Good : Data → Type 0
Good d = Sound (λ enclosing before. Declares d enclosing before) (walk d)

-- the value lists fields, after those of such names
abbrev pub FieldsAfter : Items → List (List ℕ) → List ℕ → List Draft → List DraftField → List Draft → Type 0
FieldsAfter ds names enclosing before fs added = DeclareFields ds enclosing before fs added × (are_new names (map (λ f. f.name) fs) ≡ true) × (length names + length fs ≤ MOST_FIELDS)

abbrev pub ListsFields : Data → List ℕ → List Draft → List DraftField → List Draft → Type 0
ListsFields d enclosing before fs added = (ds : Items) × (d ≡ array ds) × FieldsAfter ds [] enclosing before fs added

abbrev pub GoodFields : Data → Type 0
GoodFields d = Sound (ListsFields d) (fields d)

abbrev pub AllGood : Members → Type 0
AllGood ms = (k : List ℕ) (d : Data) → get_member k ms ≡ Some d → Good d × GoodFields d

module _ (ms : Members) (good : AllGood ms) (enclosing : List ℕ) (before : List Draft) where
  abbrev Own : ℕ → List Draft → Type 0
  Own n added = Declares (object ms) enclosing before n added

  array_given : IsOf (codes "array") ms → HasRoom before → (o : Option Data) → get_member (codes "items") ms ≡ o → Given Own (around (λ n. Whole (ArrayNode n)) ArrayHead (or_unknown (option_map walk o)) enclosing (heads_of before))
  unfolding around
  array_given is lt None e = tt
  array_given is lt (Some d) e = given-around (λ enclosing before. Declares d enclosing before) (walk d) (good (codes "items") d e).0 (λ n. Whole (ArrayNode n)) ArrayHead (λ n. refl) enclosing before Own (λ n added part. an_array is lt e part)

  map_given : IsOf (codes "map") ms → HasRoom before → (o : Option Data) → get_member (codes "values") ms ≡ o → Given Own (around (λ n. Whole (MapNode n)) MapHead (or_unknown (option_map walk o)) enclosing (heads_of before))
  unfolding around
  map_given is lt None e = tt
  map_given is lt (Some d) e = given-around (λ enclosing before. Declares d enclosing before) (walk d) (good (codes "values") d e).0 (λ n. Whole (MapNode n)) MapHead (λ n. refl) enclosing before Own (λ n added part. a_map is lt e part)

  other_given : (o : Option Data) → get_member (codes "type") ms ≡ o → form_of o ≡ form_of None → Given Own (or_unknown (option_map walk o) enclosing (heads_of before))
  other_given None e f = tt
  other_given (Some d) e f = given-map (Declares d enclosing before) Own (λ n added part. another e (no_word d f) part) (walk d enclosing (heads_of before)) ((good (codes "type") d e).0 enclosing before)

  record_fields : IsOf (codes "record") ms → HasRoom before → (names : Names) → DefinesNames ms enclosing before names → (o : Option Data) → get_member (codes "fields") ms ≡ o
      → Given Own (around (RecordDraft names) (Named names.full) (or_unknown (option_map fields o)) (namespace_of names.full) (heads_of before))
  unfolding around
  record_fields is lt names name None e = tt
  record_fields is lt names name (Some d) e = given-around (ListsFields d) (fields d) (good (codes "fields") d e).1 (RecordDraft names) (Named names.full) (λ fs. refl) (namespace_of names.full) before Own
      (λ fs added lists. a_record is lt name (e ∙ ap Some lists.1) lists.2.0 (new-distinct (map (λ f. f.name) fs) lists.2.1) (omega arith))

  record_given : IsOf (codes "record") ms → HasRoom before → Given Own (record_of (get_member (codes "name") ms) (get_member (codes "namespace") ms) (get_member (codes "aliases") ms) (option_map fields (get_member (codes "fields") ms)) enclosing (heads_of before))
  unfolding record_of
  record_given is lt = given-told (DefinesNames ms enclosing before) Own (new_names (get_member (codes "name") ms) (get_member (codes "namespace") ms) (get_member (codes "aliases") ms) enclosing (heads_of before)) _ (names_told ms enclosing before)
      (λ names name. record_fields is lt names name (get_member (codes "fields") ms) refl)

  enum_given : IsOf (codes "enum") ms → HasRoom before → Given Own (enum_of (get_member (codes "name") ms) (get_member (codes "namespace") ms) (get_member (codes "aliases") ms) (get_member (codes "symbols") ms) (get_member (codes "default") ms) enclosing (heads_of before))
  unfolding enum_of
  enum_given is lt = given-told (DefinesNames ms enclosing before) Own (new_names (get_member (codes "name") ms) (get_member (codes "namespace") ms) (get_member (codes "aliases") ms) enclosing (heads_of before)) _ (names_told ms enclosing before) (λ names name.
      given-told (IsSymbols (get_member (codes "symbols") ms)) Own (symbols_of (get_member (codes "symbols") ms)) _ (symbols_told (get_member (codes "symbols") ms)) (λ ss are.
      given-told (IsDefaultSymbol ss (get_member (codes "default") ms)) Own (default_symbol ss (get_member (codes "default") ms)) _ (default_told ss (get_member (codes "default") ms)) (λ default at.
      subst (λ n. Own n (Whole (EnumNode names ss default) ∷ [])) (sym (length-heads_of before)) (an_enum is lt name are at))))

  fixed_given : IsOf (codes "fixed") ms → HasRoom before → Given Own (fixed_of (get_member (codes "name") ms) (get_member (codes "namespace") ms) (get_member (codes "aliases") ms) (get_member (codes "size") ms) enclosing (heads_of before))
  unfolding fixed_of
  fixed_given is lt = given-told (DefinesNames ms enclosing before) Own (new_names (get_member (codes "name") ms) (get_member (codes "namespace") ms) (get_member (codes "aliases") ms) enclosing (heads_of before)) _ (names_told ms enclosing before) (λ names name.
      given-told (IsSize (get_member (codes "size") ms)) Own (size_of (get_member (codes "size") ms)) _ (size_told (get_member (codes "size") ms)) (λ size at.
      subst (λ n. Own n (Whole (FixedNode names size) ∷ [])) (sym (length-heads_of before)) (a_fixed is lt name at)))

  abbrev As : Option Data → Type 0
  As o = Given Own (object_as (form_of o) (object ms) enclosing (heads_of before))

  object_at : FormOf (get_member (codes "type") ms) → As (get_member (codes "type") ms)
  object_at (is_record e) = subst As (sym e) (given-room before Own _ (record_given e))
  object_at (is_enum e) = subst As (sym e) (given-room before Own _ (enum_given e))
  object_at (is_fixed e) = subst As (sym e) (given-room before Own _ (fixed_given e))
  object_at (is_array e) = subst As (sym e) (given-room before Own _ (λ lt. array_given e lt (get_member (codes "items") ms) refl))
  object_at (is_map e) = subst As (sym e) (given-room before Own _ (λ lt. map_given e lt (get_member (codes "values") ms) refl))
  object_at (is_error e) = subst As (sym e) tt
  object_at (is_other e) = subst (λ form. Given Own (object_as form (object ms) enclosing (heads_of before))) (sym e) (other_given (get_member (codes "type") ms) refl e)

  object_given : Given Own (walk (object ms) enclosing (heads_of before))
  unfolding object_walk
  object_given = subst (λ (w : Walk ℕ). Given Own (w enclosing (heads_of before))) (sym (walk-object ms)) (object_at (form_is (get_member (codes "type") ms)))

-- ---- fields

-- the object is a field of a new name
record IsField (ms : Members) (names : List (List ℕ)) (enclosing : List ℕ) (before : List Draft) (f : DraftField) (added : List Draft) : Type 0 where
  type : Data
  name : get_member (codes "name") ms ≡ Some (string f.name)
  by_rule : is_name f.name ≡ true
  fresh : is_used f.name names ≡ false
  few : length names < MOST_FIELDS
  others : AreFieldAliases (get_member (codes "aliases") ms) f.aliases
  at : get_member (codes "type") ms ≡ Some type
  part : Declares type enclosing before f.node added
  is : draft_field f.name f.aliases f.node (get_member (codes "default") ms) ≡ f

abbrev IsFieldName : Members → List (List ℕ) → List ℕ → Type 0
IsFieldName ms names s = (get_member (codes "name") ms ≡ Some (string s)) × (is_name s ≡ true) × (is_used s names ≡ false)

module _ (ms : Members) (names : List (List ℕ)) where
  rule_told : (s : List ℕ) → get_member (codes "name") ms ≡ Some (string s) → (a b : Bool) → is_name s ≡ a → is_used s names ≡ b → Told (IsFieldName ms names) (require (a && not b) BadName >>= λ _. Ok s)
  rule_told s e true false x y = (e, x, y)
  rule_told s e true true x y = tt
  rule_told s e false b x y = tt

  field_name_told : (o : Option Data) → get_member (codes "name") ms ≡ o → Told (IsFieldName ms names) (field_name o names)
  unfolding field_name
  field_name_told None e = tt
  field_name_told (Some (string s)) e = rule_told s e (is_name s) (is_used s names) refl refl
  field_name_told (Some null) e = tt
  field_name_told (Some (boolean b)) e = tt
  field_name_told (Some (number n)) e = tt
  field_name_told (Some (array ds)) e = tt
  field_name_told (Some (object ns)) e = tt

  module _ (good : AllGood ms) (enclosing : List ℕ) (before : List Draft) where
    abbrev Field : DraftField → List Draft → Type 0
    Field f added = IsField ms names enclosing before f added

    type_at : (s : List ℕ) → IsFieldName ms names s → length names < MOST_FIELDS → (others : List (List ℕ)) → AreFieldAliases (get_member (codes "aliases") ms) others → (o : Option Data) → get_member (codes "type") ms ≡ o
        → Given Field (or_unknown (option_map walk o) enclosing (heads_of before) >>= λ p. Ok (draft_field s others p.0 (get_member (codes "default") ms), p.1))
    type_at s name lt others are None e = tt
    type_at s name lt others are (Some d) e = on (walk d enclosing (heads_of before)) ((good (codes "type") d e).0 enclosing before)
      where
        on : (r : Result (ℕ × List Draft) SchemaError) → Given (Declares d enclosing before) r → Given (IsField ms names enclosing before) (r >>= λ p. Ok (draft_field s others p.0 (get_member (codes "default") ms), p.1))
        on (Ok p) g = record { type = d; name = name.0; by_rule = name.1; fresh = name.2; few = lt; others = are; at = e; part = g; is = refl }
        on (Err x) g = tt

    few_at : (b : Bool) → nat_lt (length names) MOST_FIELDS ≡ b
        → Given Field (cond b (field_of (get_member (codes "name") ms) (get_member (codes "aliases") ms) (option_map walk (get_member (codes "type") ms)) (get_member (codes "default") ms) names enclosing (heads_of before)) (Err TooLarge))
    unfolding field_of
    few_at false e = tt
    few_at true e =
        let lt = ltb-true (length names) MOST_FIELDS e in
        given-told (IsFieldName ms names) Field (field_name (get_member (codes "name") ms) names) _ (field_name_told (get_member (codes "name") ms) refl) (λ s name.
        given-told (AreFieldAliases (get_member (codes "aliases") ms)) Field (field_aliases (get_member (codes "aliases") ms)) _ (field_aliases_told (get_member (codes "aliases") ms)) (λ others are.
        type_at s name lt others are (get_member (codes "type") ms) refl))

    field_given : Given (IsField ms names enclosing before) (field (object ms) names enclosing (heads_of before))
    unfolding field_walk
    field_given = subst (λ (w : Walk DraftField). Given (IsField ms names enclosing before) (w enclosing (heads_of before))) (sym (field-object (object ms) names refl)) (few_at (nat_lt (length names) MOST_FIELDS) refl)

-- ---- values

member_at : (o : Ordering) (k l : List ℕ) (d e : Data) (rest : Option Data) → (rest ≡ Some e → Good e × GoodFields e) → Good d × GoodFields d → match_ordering o rest (Some d) rest ≡ Some e → Good e × GoodFields e
member_at Less k l d e rest f g h = f h
member_at Greater k l d e rest f g h = f h
member_at Equal k l d e rest f g h = let same : d ≡ e = cc in subst (λ x. Good x × GoodFields x) same g

no_data : (d : Data) → None ≡ Some d → ⊥
no_data d e = cc

fields_nil : (names : List (List ℕ)) (enclosing : List ℕ) (before : List Draft) → length names ≤ MOST_FIELDS → FieldsAfter no_items names enclosing before [] []
fields_nil names enclosing before few = (no_more_fields, refl, omega arith)

joined : (ms : Members) (ds : Items) (names : List (List ℕ)) (enclosing : List ℕ) (before : List Draft) (f : DraftField) (added : List Draft) (fs : List DraftField) (more : List Draft) → length names ≤ MOST_FIELDS → IsField ms names enclosing before f added
    → FieldsAfter ds (names ++ f.name ∷ []) enclosing (before ++ added) fs more → FieldsAfter (item (object ms) ds) names enclosing before (f ∷ fs) (added ++ more)
joined ms ds names enclosing before f added fs more few first rest = (
  subst (λ g. DeclareFields (item (object ms) ds) enclosing before (g ∷ fs) (added ++ more)) first.is (a_field first.name first.by_rule first.others first.at first.part rest.0),
  rw (first.fresh, rest.1) refl,
  omega (arith, rest.2, length-append names (f.name ∷ [])),
)

mutual
  unfolding walk followed_by

  pub good : (d : Data) → Good d
  good (string s) enclosing before = text_given s enclosing before (text_is s)
  good (array ds) enclosing before = union_given ds (good_members ds) enclosing before
  good (object ms) enclosing before = object_given ms (all_good ms) enclosing before
  good null enclosing before = tt
  good (boolean b) enclosing before = tt
  good (number n) enclosing before = tt

  good_members : (ds : Items) → Sound (λ enclosing before. DeclareMembers ds enclosing before) (members ds)
  good_members no_items enclosing before = no_more_members
  good_members (item d ds) enclosing before = given-followed before (Declares d enclosing before) (DeclareMembers (item d ds) enclosing before) (walk d) (λ n. followed_by (members ds) (λ ns. done (n ∷ ns))) enclosing (good d enclosing before) (λ n added first.
      given-mapped (DeclareMembers ds enclosing (before ++ added)) (λ ns more. DeclareMembers (item d ds) enclosing before ns (added ++ more)) (members ds) (λ ns. n ∷ ns) enclosing (before ++ added) (good_members ds enclosing (before ++ added)) (λ ns more rest. a_member first rest))

  all_good : (ms : Members) → AllGood ms
  all_good no_members k d e = absurd (no_data d e)
  all_good (member l d ms) k e h = member_at (slice_cmp nat_cmp k l) k l d e (get_member k ms) (all_good ms k e) (good d, good_fields d) h

  good_fields : (d : Data) → GoodFields d
  good_fields (array ds) enclosing before = given-map (FieldsAfter ds [] enclosing before) (ListsFields (array ds) enclosing before) (λ fs added h. (ds, refl, h)) (fields_after ds [] enclosing (heads_of before)) (good_fields_after ds [] (omega arith) enclosing before)
  good_fields null enclosing before = tt
  good_fields (boolean b) enclosing before = tt
  good_fields (number n) enclosing before = tt
  good_fields (string s) enclosing before = tt
  good_fields (object ms) enclosing before = tt

  good_fields_after : (ds : Items) (names : List (List ℕ)) → length names ≤ MOST_FIELDS → Sound (FieldsAfter ds names) (fields_after ds names)
  good_fields_after no_items names few enclosing before = fields_nil names enclosing before few
  good_fields_after (item (object ms) ds) names few enclosing before = given-followed before (IsField ms names enclosing before) (FieldsAfter (item (object ms) ds) names enclosing before) (field (object ms) names) (λ f. followed_by (fields_after ds (names ++ f.name ∷ [])) (λ fs. done (f ∷ fs))) enclosing (field_given ms names (all_good ms) enclosing before) (λ f added first.
      given-mapped (FieldsAfter ds (names ++ f.name ∷ []) enclosing (before ++ added)) (λ fs more. FieldsAfter (item (object ms) ds) names enclosing before fs (added ++ more)) (fields_after ds (names ++ f.name ∷ [])) (λ fs. f ∷ fs) enclosing (before ++ added)
      (good_fields_after ds (names ++ f.name ∷ []) (omega (arith, length-append names (f.name ∷ []), first.few)) enclosing (before ++ added)) (λ fs more rest. joined ms ds names enclosing before f added fs more few first rest))
  good_fields_after (item null ds) names few enclosing before = tt
  good_fields_after (item (boolean b) ds) names few enclosing before = tt
  good_fields_after (item (number n) ds) names few enclosing before = tt
  good_fields_after (item (string s) ds) names few enclosing before = tt
  good_fields_after (item (array es) ds) names few enclosing before = tt
