-- The rows of worked programs come out as the table says.
use Rattle.std.proofs.Common.{refl}
use Rattle.spec_decoding.specs.BooleanDecoding.{boolean_at}
use Rattle.spec_decoding.specs.LengthDecoding.{length_at}
use Rattle.spec_decoding.specs.NumberDecoding.{number_at, number_front}
use Rattle.spec_avro.specs.Shortest as X
use Rattle.spec_machine.specs.State.{add}
use Rattle.spec_machine.specs.Row.{row_of}
use Rattle.isa.specs.Worked.{BooleanIsBad, LongIsTaken, TextIsBegun, rows}

pub long_taken : LongIsTaken
unfolding rows row_of number_at number_front add length_at X.shortest X.shortest_groups
long_taken = refl

pub text_begun : TextIsBegun
unfolding rows row_of number_at number_front add length_at X.shortest X.shortest_groups
text_begun = refl

pub boolean_bad : BooleanIsBad
unfolding row_of add boolean_at
boolean_bad = refl
