-- The numbers and the words of what calls come to. All of them are this project's own.
use Rattle.std.specs.Prelude.{ℕ, List, codes}
use Rattle.embedding.specs.declared.status.Status.{Status}
use Rattle.embedding.specs.declared.status.Status.TheVariants as statuses

abbrev pub code_of : Status → ℕ
code_of statuses.Done = 0
code_of statuses.RoomTooSmall = 1
code_of statuses.Mismatch = 2
code_of statuses.Malformed = 3
code_of statuses.OutputTooLarge = 4
code_of statuses.PayloadTooLarge = 5
code_of statuses.NoMemory = 6
code_of statuses.Closed = 7
code_of statuses.BadWriter = 8
code_of statuses.BadReader = 9
code_of statuses.ProgramTooLarge = 10
code_of statuses.CannotRead = 11
code_of statuses.BadEnvelope = 12
code_of statuses.OtherWriter = 13
code_of statuses.OutOfRange = 14

abbrev pub words_of : Status → List ℕ
words_of statuses.Done = codes "done"
words_of statuses.RoomTooSmall = codes "the room is too small for the output"
words_of statuses.Mismatch = codes "the reader has no place for the datum"
words_of statuses.Malformed = codes "the payload is no datum of the writer's schema"
words_of statuses.OutputTooLarge = codes "the output passes its limit"
words_of statuses.PayloadTooLarge = codes "the payload passes its limit"
words_of statuses.NoMemory = codes "out of memory"
words_of statuses.Closed = codes "no pair of schemas is open"
words_of statuses.BadWriter = codes "the writer's text is no schema"
words_of statuses.BadReader = codes "the reader's text is no schema"
words_of statuses.ProgramTooLarge = codes "the program of the pair passes a limit"
words_of statuses.CannotRead = codes "the reader cannot read all data of the writer"
words_of statuses.BadEnvelope = codes "the bytes are no message"
words_of statuses.OtherWriter = codes "the message has the id of another writer"
words_of statuses.OutOfRange = codes "the payload does not lie within the buffer"
