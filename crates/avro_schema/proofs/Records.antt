-- The walk of a named type, step by step.
use Rattle.std.proofs.Common.{◌≡◌, ℕ, ◌<◌, List, [], ◌∷◌, ◌++◌, length, Option, Result, Ok, Err, refl, ◌∙◌, set}
use Rattle.serde_json.specs.Data.{Data}
use Rattle.spec_avro.specs.declared.limits.TheConstants.{MOST_NODES}
use Rattle.spec_schema.specs.declared.schema_error.SchemaError.{SchemaError}
use Rattle.avro_types.specs.declared.name.Name.{Name}
use Rattle.spec_schema.specs.Attributes.{symbols_of, default_symbol, size_of}
use Rattle.avro_schema.specs.Contract.{run}
use Rattle.spec_schema.specs.Draft.{Draft, Whole, RecordDraft, DraftField}
use Rattle.spec_schema.specs.Steps.{◌>>=◌}
use Rattle.spec_schema.specs.Head.{Named, heads_of}
use Rattle.spec_avro.specs.FullNames.{namespace_of}
use Rattle.spec_schema.specs.Aliases.{new_names}
use Rattle.spec_avro.specs.Node.{Names, EnumNode, FixedNode, names_of}
use Rattle.spec_schema.specs.Walk.{Walk, added, if_room, around, one_node, record_of, enum_of, fixed_of, or_unknown}
use Rattle.avro_schema.proofs.Runs.{run-if_room, closed, unclosed}

-- ---- records

module _ (name namespace aliases : Option Data) (fields : Option (Walk (List DraftField))) (enclosing : List ℕ) (ks : List Draft) where
  record_at : (r : Result Names SchemaError) → added ks (r >>= λ s. around (RecordDraft s) (Named s.full) (or_unknown fields) (namespace_of s.full) (heads_of ks))
      ≡ (r >>= λ s. run (around (RecordDraft s) (Named s.full) (or_unknown fields)) (namespace_of s.full) ks)
  unfolding run
  record_at (Ok s) = refl
  record_at (Err e) = refl

  pub run-record : length ks < MOST_NODES → run (if_room (record_of name namespace aliases fields)) enclosing ks
      ≡ (new_names name namespace aliases enclosing (heads_of ks) >>= λ s. run (around (RecordDraft s) (Named s.full) (or_unknown fields)) (namespace_of s.full) ks)
  unfolding record_of run
  run-record room = run-if_room (record_of name namespace aliases fields) enclosing ks room ∙ record_at (new_names name namespace aliases enclosing (heads_of ks))

  module _ (room : length ks < MOST_NODES) (s : Names) (is : new_names name namespace aliases enclosing (heads_of ks) ≡ Ok s) where
    pub record-done : (fs : List DraftField) (ms : List Draft) → run (or_unknown fields) (namespace_of s.full) (ks ++ RecordDraft (names_of s.full []) [] ∷ []) ≡ Ok (fs, ms)
        → run (if_room (record_of name namespace aliases fields)) enclosing ks ≡ Ok (length ks, set ms (length ks) (RecordDraft s fs))
    record-done fs ms e = run-record room ∙ rw is (closed (λ fs. RecordDraft s fs) (RecordDraft (names_of s.full []) []) (or_unknown fields) (namespace_of s.full) ks fs ms e)

    pub record-failed : (x : SchemaError) → run (or_unknown fields) (namespace_of s.full) (ks ++ RecordDraft (names_of s.full []) [] ∷ []) ≡ Err x
        → run (if_room (record_of name namespace aliases fields)) enclosing ks ≡ Err x
    record-failed x e = run-record room ∙ rw is (unclosed (λ fs. RecordDraft s fs) (RecordDraft (names_of s.full []) []) (or_unknown fields) (namespace_of s.full) ks x e)

-- the nodes, with a record that has no aliases or fields yet
pub pushed-record : (ks ls : List Draft) (name copy : Name) (aliases : List (List ℕ)) (fields : List DraftField) → ls ≡ ks ++ RecordDraft (names_of copy aliases) fields ∷ [] → copy ≡ name → aliases ≡ [] → fields ≡ []
    → ls ≡ ks ++ RecordDraft (names_of name []) [] ∷ []
pushed-record ks ls name copy aliases fields e same first none = rw (e, same, first, none) refl

-- ---- types without parts

-- a step, and then what adds nodes
added-bind : {A B : Type 0} (ns : List Draft) (r : Result A SchemaError) (f : A → Result (B × List Draft) SchemaError) → added ns (r >>= f) ≡ (r >>= λ a. added ns (f a))
added-bind ns (Ok a) f = refl
added-bind ns (Err e) f = refl

bind-same : {A B : Type 0} (r : Result A SchemaError) (f g : A → Result B SchemaError) → ((a : A) → f a ≡ g a) → (r >>= f) ≡ (r >>= g)
bind-same (Ok a) f g h = h a
bind-same (Err e) f g h = refl

module _ (name namespace aliases : Option Data) (enclosing : List ℕ) (ks : List Draft) (room : length ks < MOST_NODES) where
  pub run-enum : (symbols default : Option Data) → run (if_room (enum_of name namespace aliases symbols default)) enclosing ks
      ≡ (new_names name namespace aliases enclosing (heads_of ks) >>= λ s. symbols_of symbols >>= λ ss. default_symbol ss default >>= λ n. run (one_node (Whole (EnumNode s ss n))) enclosing ks)
  unfolding enum_of run
  run-enum symbols default =
      run-if_room (enum_of name namespace aliases symbols default) enclosing ks room
      ∙ added-bind ks (new_names name namespace aliases enclosing (heads_of ks)) _
      ∙ bind-same (new_names name namespace aliases enclosing (heads_of ks)) _ _ (λ s.
      added-bind ks (symbols_of symbols) _
      ∙ bind-same (symbols_of symbols) _ _ (λ ss.
      added-bind ks (default_symbol ss default) _))

  pub run-fixed : (size : Option Data) → run (if_room (fixed_of name namespace aliases size)) enclosing ks
      ≡ (new_names name namespace aliases enclosing (heads_of ks) >>= λ s. size_of size >>= λ n. run (one_node (Whole (FixedNode s n))) enclosing ks)
  unfolding fixed_of run
  run-fixed size =
      run-if_room (fixed_of name namespace aliases size) enclosing ks room
      ∙ added-bind ks (new_names name namespace aliases enclosing (heads_of ks)) _
      ∙ bind-same (new_names name namespace aliases enclosing (heads_of ks)) _ _ (λ s. added-bind ks (size_of size) _)
