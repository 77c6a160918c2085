use Rattle.std.proofs.Common.{◌≡◌, drop}
use Rattle.avro_schema_names.specs.Draft.{drafts_of}
use Rattle.avro_schema_faults.specs.DefaultPlaces.{first_bad}
use Rattle.avro_schema_faults.proofs.bad_defaults.first_bad.Given as goal

abbrev pub invariant-loop-node : goal.invariant-loop-node
invariant-loop-node l =
    first_bad (drafts_of l.drafts) l.node (drafts_of (drop l.node l.drafts)) ≡ first_bad (drafts_of l.drafts) 0 (drafts_of l.drafts)
