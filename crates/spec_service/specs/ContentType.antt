-- The names of the types of content (RFC 9110, section 8.3.1; Confluent Schema Registry API, "Content Types").
use Rattle.std.specs.Prelude.{ℕ, List, codes}
use Rattle.spec_service.specs.declared.content_type.ContentType.{ContentType}
use Rattle.spec_service.specs.declared.content_type.ContentType.TheVariants.{Json, OctetStream}

abbrev pub type_name : ContentType → List ℕ
type_name Json = codes "application/vnd.schemaregistry.v1+json"
type_name OctetStream = codes "application/octet-stream"
