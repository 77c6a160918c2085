use Rattle.std.proofs.Common.{◌≡◌, length, drop}
use Rattle.std.specs.Str.{chars}
use Rattle.avro_schema.proofs.DefaultValues.{bytes_from, bytes_after}
use Rattle.avro_schema.proofs.defaults.bytes_in.Given as goal

abbrev pub invariant-loop-c : goal.invariant-loop-c
invariant-loop-c l =
    bytes_after l.bytes.items (bytes_from (drop (length l.yielded) (chars l.text))) ≡ bytes_from (chars l.text)
