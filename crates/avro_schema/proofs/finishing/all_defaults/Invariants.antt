use Rattle.std.proofs.Common.{◌≡◌, drop, option_map}
use Rattle.avro_schema_names.specs.Draft.{drafts_of}
use Rattle.avro_schema.proofs.Finished.{first_as, nodes_read, row_of}
use Rattle.avro_schema.proofs.OneByOne.{before}
use Rattle.avro_schema.proofs.finishing.all_defaults.Given as goal

abbrev pub invariant-loop-draft : goal.invariant-loop-draft
invariant-loop-draft l =
    option_map (before (first_as row_of) l.all.items) (nodes_read (drafts_of l.drafts) (drop l.draft-index l.drafts)) ≡ nodes_read (drafts_of l.drafts) l.drafts
