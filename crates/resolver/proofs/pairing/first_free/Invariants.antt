-- No name so far is of a field without a partner.
use Rattle.std.proofs.Common.{◌≡◌, drop, map, string_bytes}
use Rattle.avro_types.specs.Node.{fields_of}
use Rattle.spec_avro.specs.Partners.{field_names, first_free}
use Rattle.resolver.proofs.pairing.first_free.Given as goal

abbrev pub invariant-loop-alias : goal.invariant-loop-alias
invariant-loop-alias l =
    first_free (field_names (fields_of l.ws)) l.partners (map string_bytes (drop l.alias-index l.aliases)) ≡ first_free (field_names (fields_of l.ws)) l.partners (map string_bytes l.aliases)
