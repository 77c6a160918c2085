-- Why the schema of an id of an upstream registry is not held. This project's own.
use Rattle.std.specs.Prelude.{◌≡◌, ℕ, List, true, Err, ⊤}
use Rattle.spec_schema.specs.declared.schema_error.SchemaError.{SchemaError}
use Rattle.spec_service.specs.declared.fault.Fault.{Fault}
use Rattle.spec_service.specs.declared.fault.Fault.TheVariants as faults
use Rattle.spec_registry.specs.Accepting.{declaration_of}
use Rattle.upstream_answers.specs.Content.{is_unknown}
use Rattle.spec_service.specs.UpstreamContent.{schema_text}
use Rattle.spec_service.specs.declared.upstream_content.ContentFault.{ContentFault}
use Rattle.spec_service.specs.declared.upstream_content.ContentFault.TheVariants as contents
use Rattle.spec_service.specs.UpstreamNaming.{IsTextOf, WasAnswered}

module _ (heard : List ℕ → List ℕ → Type 0) (kept : ℕ → List ℕ → Type 0) where
  -- the upstream answered that the id names no schema
  abbrev pub WasUnknown : ℕ → Type 0
  WasUnknown id = (content : List ℕ) × WasAnswered heard kept id 404 content × (is_unknown content ≡ true)

  -- the upstream answered a content that has no text of an Avro schema, for this reason
  abbrev pub WasOther : ℕ → ContentFault → Type 0
  WasOther id fault = (content : List ℕ) × WasAnswered heard kept id 200 content × (schema_text content ≡ Err fault)

  -- the upstream answered a text that is no schema, for this reason
  abbrev pub WasBad : ℕ → SchemaError → Type 0
  WasBad id error = (text : List ℕ) × IsTextOf heard kept id text × (declaration_of text ≡ Err error)

  -- why the schema of an id is not held; of what the network, memory and limits refuse nothing is said
  abbrev pub IsWhyUnheld : ℕ → Fault → Type 0
  IsWhyUnheld id faults.NoSchema = WasUnknown id
  IsWhyUnheld id faults.NotAvro = WasOther id contents.NotAvro
  IsWhyUnheld id faults.HasReferences = WasOther id contents.HasReferences
  IsWhyUnheld id (faults.BadSchema error) = WasBad id error
  IsWhyUnheld id (faults.Upstream fault) = ⊤
  IsWhyUnheld id faults.Full = ⊤
  IsWhyUnheld id faults.NoMemory = ⊤
  IsWhyUnheld id faults.Clash = ⊤
  IsWhyUnheld id faults.NotStored = ⊤
  IsWhyUnheld id fault = ⊥
