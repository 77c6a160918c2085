-- A worked program, run alone, comes to its states.
use Rattle.std.proofs.Common.{refl}
use Rattle.spec_decoding.specs.NumberDecoding.{number_at, number_front}
use Rattle.spec_decoding.specs.PositionDecoding.{position_at}
use Rattle.spec_avro.specs.Shortest as short
use Rattle.spec_machine.specs.State.{add}
use Rattle.spec_machine.specs.Row.{row_of}
use Rattle.spec_machine.specs.Alone.{rows_from}
use Rattle.program_correctness.specs.Worked.{CutIsTruncated, ElevenRowsEnd, HaltWaits, NoRowIsBehindTheEnd}

pub ends : ElevenRowsEnd
unfolding rows_from row_of number_at number_front position_at add short.shortest short.shortest_groups
ends = refl

pub no_more : NoRowIsBehindTheEnd
unfolding rows_from row_of number_at number_front position_at add short.shortest short.shortest_groups
no_more = refl

pub waits : HaltWaits
unfolding rows_from row_of number_at number_front position_at add short.shortest short.shortest_groups
waits = refl

pub cut : CutIsTruncated
unfolding rows_from row_of number_at number_front position_at add short.shortest short.shortest_groups
cut = refl
