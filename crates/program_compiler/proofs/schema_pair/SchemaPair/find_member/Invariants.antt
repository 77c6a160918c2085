-- The first of the candidates so far.
use Rattle.std.proofs.Common.{◌≡◌, ◌&&◌, take}
use Rattle.std.specs.List.{position_from}
use Rattle.spec_avro.specs.Matching.{matches}
use Rattle.program_compiler.specs.NamedTypes.{is_among}
use Rattle.program_compiler.proofs.schema_pair.SchemaPair.find_member.Given as goal

abbrev pub invariant-loop-candidate : goal.invariant-loop-candidate
invariant-loop-candidate l = l.first ≡ position_from (λ m. is_among m (take l.candidate-index l.candidates) && matches l.self.writer.now l.self.reader.now l.writer_node m) 0 l.members
