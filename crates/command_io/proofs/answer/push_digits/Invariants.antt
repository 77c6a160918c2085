-- What was appended, and the digits of what is left, are the digits of all.
use Rattle.std.proofs.Common.{◌≡◌, ◌++◌, string_bytes, length}
use Rattle.hex.specs.Hex.{encode_lower}
use Rattle.command_io.proofs.answer.push_digits.Given as goal

abbrev pub invariant-loop-rest : goal.invariant-loop-rest
invariant-loop-rest l = string_bytes l.output ++ encode_lower l.rest ≡ string_bytes l.fn.output ++ encode_lower l.fn.bytes

abbrev pub decreases-loop-rest : goal.decreases-loop-rest
decreases-loop-rest l = length l.rest
