-- Worked pairs have the programs that the compiler's table gives them.
use Rattle.std.proofs.Common.{refl}
use Rattle.spec_avro.specs.Shortest as S
use Rattle.spec_avro.specs.Writing.{written}
use Rattle.spec_avro.specs.Matching.{matches_within}
use Rattle.spec_machine.specs.Code.{code_of}
use Rattle.spec_machine.specs.Skipping.{skip_within}
use Rattle.program_definition.specs.Worked.{LongListHasItsProgram, PairHasItsProgram, ReaderHasItsProgram, RenamedHasItsProgram}
use Rattle.spec_machine.specs.Writing.{section, write_within}

pub of_long_list : LongListHasItsProgram
unfolding code_of section skip_within write_within matches_within S.shortest S.shortest_groups
of_long_list = refl

pub of_pair : PairHasItsProgram
unfolding code_of section skip_within write_within matches_within S.shortest S.shortest_groups
of_pair = refl

pub of_renamed : RenamedHasItsProgram
unfolding code_of section skip_within write_within matches_within S.shortest S.shortest_groups
of_renamed = refl

pub of_both : ReaderHasItsProgram
unfolding code_of section skip_within write_within matches_within S.shortest S.shortest_groups written
of_both = refl
