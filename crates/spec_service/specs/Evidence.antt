-- What an answer rests on, by what its receipts represent. This project's own.
use Rattle.spec_registry.specs.Receipt.{Shown}
use Rattle.spec_service.specs.declared.evidence.Evidence as rust
use Rattle.spec_service.specs.declared.sight.Sight as sights
use Rattle.spec_service.specs.declared.named_schema.NamedSchema as schemas

-- the receipts that an answer rests on
abbrev pub Evidence : Type 0
Evidence = rust.Evidence Shown

-- the receipt of a schema that an id names, and what shows that the id names it
abbrev pub NamedSchema : Type 0 → Type 0
NamedSchema E = schemas.NamedSchema Shown E

-- the schemas that an answer rests on, of a reader and of a writer
abbrev pub Sight : Type 0 → Type 0
Sight E = sights.Sight Shown E
