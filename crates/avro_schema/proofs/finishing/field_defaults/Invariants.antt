use Rattle.std.proofs.Common.{◌≡◌, drop, option_map}
use Rattle.avro_types.specs.Datum.{datum_of}
use Rattle.avro_schema_names.specs.Draft.{drafts_of}
use Rattle.avro_schema.proofs.Finished.{fields_read, first_as}
use Rattle.avro_schema.proofs.OneByOne.{before}
use Rattle.avro_schema.proofs.finishing.field_defaults.Given as goal

abbrev pub invariant-loop-field : goal.invariant-loop-field
invariant-loop-field l =
    option_map (before (first_as (option_map datum_of)) l.defaults.items) (fields_read (drafts_of l.drafts) (drop l.field-index l.fields)) ≡ fields_read (drafts_of l.drafts) l.fields
