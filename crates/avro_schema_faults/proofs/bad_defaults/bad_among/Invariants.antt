use Rattle.std.proofs.Common.{◌≡◌, drop, map}
use Rattle.std.specs.List.{position_from}
use Rattle.avro_schema_names.specs.Draft.{draft_field_of, drafts_of}
use Rattle.avro_schema_faults.specs.DefaultPlaces.{is_bad}
use Rattle.avro_schema_faults.proofs.bad_defaults.bad_among.Given as goal

abbrev pub invariant-loop-i : goal.invariant-loop-i
invariant-loop-i l =
    position_from (is_bad (drafts_of l.drafts)) l.i (map draft_field_of (drop l.i l.fields))
    ≡ position_from (is_bad (drafts_of l.drafts)) 0 (map draft_field_of l.fields)
