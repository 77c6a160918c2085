-- What a new name is, by its namespace and its last part.
use Rattle.std.proofs.Common.{◌≡◌, ℕ, Bool, true, false, eqb, ◌&&◌, not, List, [], ◌∷◌, ◌++◌, length, Option, Some, None, is_none, is_some, Ok, Err, refl, ap, ◌∙◌, arith}
use Rattle.std.proofs.lemmas.Bool.{eqb-true}
use Rattle.serde_json.specs.Data.{Data}
use Rattle.spec_schema.specs.declared.schema_error.SchemaError.{SchemaError}
use Rattle.spec_schema.specs.declared.schema_error.SchemaError.TheVariants.{BadName, Redefined}
use Rattle.spec_avro.specs.FullNames.{has_dot, full_name, inside, is_full_name, is_name, is_namespace, unqualified}
use Rattle.spec_schema.specs.Head.{Head, defined_at}
use Rattle.spec_schema.specs.Names.{if_new, new_name, text_of}
use Rattle.spec_schema.specs.Word.{is_primitive, word_of}
use Rattle.avro_types.specs.Laws.Dots.{dotted-behind, unqualified-inside}
use Rattle.avro_types.specs.Laws.NameParts.{full-inside}

-- ---- by its parts

either_false : (a b c : Bool) → (b && c) ≡ false → ((a && b) && c) ≡ false
either_false true b c e = e
either_false false b c e = refl

is_there : {A : Type 0} (o : Option A) → is_some o ≡ true → is_none o ≡ false
is_there None e = absurd (let no : ⊥ = cc in no)
is_there (Some a) e = refl

is_absent : {A : Type 0} (o : Option A) → is_some o ≡ false → is_none o ≡ true
is_absent None e = refl
is_absent (Some a) e = absurd (let no : ⊥ = cc in no)

module _ (namespace last : List ℕ) (none : has_dot last ≡ false) where
  by-parts : (is_full_name (inside namespace last) && not (is_primitive (word_of (unqualified (inside namespace last))))) ≡ ((is_namespace namespace && is_name last) && not (is_primitive (word_of last)))
  by-parts = rw (full-inside namespace last none, unqualified-inside namespace last none) refl

  pub new-bad_space : (heads : List Head) → is_namespace namespace ≡ false → if_new (inside namespace last) heads ≡ Err BadName
  new-bad_space heads e = rw (by-parts, e) refl

  pub new-bad_last : (heads : List Head) → (is_name last && not (is_primitive (word_of last))) ≡ false → if_new (inside namespace last) heads ≡ Err BadName
  new-bad_last heads e = rw (by-parts, either_false (is_namespace namespace) (is_name last) (not (is_primitive (word_of last))) e) refl

  module _ (heads : List Head) (enclosing : is_namespace namespace ≡ true) (own : (is_name last && not (is_primitive (word_of last))) ≡ true) where
    by-rule : (is_full_name (inside namespace last) && not (is_primitive (word_of (unqualified (inside namespace last))))) ≡ true
    by-rule = by-parts ∙ rw enclosing own

    pub new-used : is_some (defined_at (inside namespace last) heads) ≡ true → if_new (inside namespace last) heads ≡ Err Redefined
    new-used d = rw (by-rule, is_there (defined_at (inside namespace last) heads) d) refl

    pub new-fine : is_some (defined_at (inside namespace last) heads) ≡ false → if_new (inside namespace last) heads ≡ Ok (inside namespace last)
    new-fine d = rw (by-rule, is_absent (defined_at (inside namespace last) heads) d) refl

-- ---- a text with a dot, and one without

pub begins-bad : (last : List ℕ) (heads : List Head) → if_new (46 ∷ last) heads ≡ Err BadName
unfolding is_name
begins-bad last heads = refl

pub dotted : (s front back : List ℕ) → s ≡ front ++ 46 ∷ back → has_dot s ≡ true
dotted s front back e = ap has_dot e ∙ dotted-behind front back

pub dotted-full : (enclosing s front back : List ℕ) → s ≡ front ++ 46 ∷ back → full_name enclosing s ≡ s
dotted-full enclosing s front back e = rw (dotted s front back e) refl

pub undotted-full : (enclosing s : List ℕ) → has_dot s ≡ false → full_name enclosing s ≡ inside enclosing s
undotted-full enclosing s e = rw e refl

pub dotted-empty : (s front back : List ℕ) → s ≡ front ++ 46 ∷ back → eqb (length front) 0 ≡ true → s ≡ 46 ∷ back
dotted-empty s [] back e z = e
dotted-empty s (c ∷ cs) back e z = absurd (omega (arith, eqb-true (length (c ∷ cs)) 0 z))

pub dotted-some : (s front back : List ℕ) → s ≡ front ++ 46 ∷ back → eqb (length front) 0 ≡ false → s ≡ inside front back
dotted-some s [] back e z = absurd (let no : ⊥ = cc in no)
dotted-some s (c ∷ cs) back e z = e

-- ---- by the attributes

module _ (name namespace : Option Data) (enclosing : List ℕ) (heads : List Head) (s : List ℕ) (is : text_of name ≡ Ok s) where
  pub name-dotted : (front back : List ℕ) → s ≡ front ++ 46 ∷ back → new_name name namespace enclosing heads ≡ if_new s heads
  unfolding new_name
  name-dotted front back e = rw (is, dotted s front back e) refl

  pub name-inherited : has_dot s ≡ false → namespace ≡ None → new_name name namespace enclosing heads ≡ if_new (inside enclosing s) heads
  unfolding new_name
  name-inherited none e = rw (is, none, e) refl

  pub name-own : (own : List ℕ) → has_dot s ≡ false → (d : Data) → namespace ≡ Some d → text_of namespace ≡ Ok own → new_name name namespace enclosing heads ≡ if_new (inside own s) heads
  unfolding new_name
  name-own own none d e t = rw (is, none, e) (rw (rw e at t) refl)

  pub name-no_space : (x : SchemaError) → has_dot s ≡ false → (d : Data) → namespace ≡ Some d → text_of namespace ≡ Err x → new_name name namespace enclosing heads ≡ Err x
  unfolding new_name
  name-no_space x none d e t = rw (is, none, e) (rw (rw e at t) refl)
