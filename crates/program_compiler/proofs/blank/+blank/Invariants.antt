-- What is left is written as no bytes where all are.
use Rattle.std.proofs.Common.{◌≡◌, drop, length}
use Rattle.std.specs.Prelude.{◌==◌}
use Rattle.avro_types.specs.Datum.{data_of}
use Rattle.spec_avro.specs.Writing.{written_data}
use Rattle.program_compiler.proofs.blank.+blank.Given as goal

abbrev pub invariant-are_blank-loop-datum : goal.invariant-are_blank-loop-datum
invariant-are_blank-loop-datum l = (length (written_data (data_of (drop l.datum-index l.each))) == 0) ≡ (length (written_data (data_of l.each)) == 0)
