-- Which schema an id of an upstream registry names. This project's own.
use Rattle.std.specs.Prelude.{◌≡◌, ℕ, List, Some, Ok}
use Rattle.spec_schema.specs.Schema.{Declaration}
use Rattle.spec_registry.specs.Path.{Path, IsPathOf}
use Rattle.spec_registry.specs.Accepting.{declaration_of}
use Rattle.spec_registry.specs.Receipt.{Shown}
use Rattle.spec_service.specs.UpstreamAnswer.{IsAnswer}
use Rattle.spec_service.specs.UpstreamContent.{schema_text}
use Rattle.spec_service.specs.UpstreamQuestion.{question_text}
use Rattle.spec_service.specs.declared.place.Place.{Place}

-- What was heard of the upstream, and what an earlier process had kept of it.
module _ (heard : List ℕ → List ℕ → Type 0) (kept : ℕ → List ℕ → Type 0) where
  -- the upstream was asked for the schema of the id, and answered with this status and content
  pub record WasAnswered (id : ℕ) (status : ℕ) (content : List ℕ) : Type 0 where
    pub place : Place
    pub received : List ℕ
    pub was_heard : heard (question_text place id) received
    pub is_answer : IsAnswer received status content

  -- the text of a schema that the upstream answered for the id, to this process or to an earlier one
  pub data IsTextOf (id : ℕ) (text : List ℕ) : Type 0 where
    answered : {content : List ℕ} → WasAnswered id 200 content → schema_text content ≡ Ok text → IsTextOf id text
    kept_before : kept id text → IsTextOf id text

  -- the schema is what such a text declares, which is kept
  pub record IsSchemaFor (id : ℕ) (schema : Declaration) : Type 0 where
    pub text : List ℕ
    pub is_text : IsTextOf id text
    pub is_kept : kept id text
    pub declares : declaration_of text ≡ Ok schema

-- an id, and the schema that it names
pub record Naming : Type 0 where
  pub id : ℕ
  pub schema : Declaration

-- the names of the cells of this process's registry, and of the first row of the table of ids
pub record Names : Type 0 where
  pub registry : List ℕ
  pub table : List ℕ

-- the naming was seen in the table
abbrev pub IsNamed : Names → Path Naming → Type 0
IsNamed names seen = IsPathOf names.table seen

-- the naming of the id was seen, with the schema of a receipt, which the upstream answered for the id
pub record IsNamingOf (heard : List ℕ → List ℕ → Type 0) (kept : ℕ → List ℕ → Type 0) (names : Names) (id : ℕ)
    (receipt : Shown) (seen : Path Naming) : Type 0 where
  pub is_named : IsNamed names seen
  pub id_is : seen.id ≡ id
  pub schema : Declaration
  pub shows : seen.last.1 ≡ Some (record { id = id; schema = schema })
  pub is_schema : IsSchemaFor heard kept id schema
  pub receipt_shows : receipt.schema ≡ Some schema
