use Rattle.avro_datum.proofs.payload.read_all.Goals as goal
use Rattle.avro_datum.proofs.Payloads.{is_whole, is_trailing, is_truncated, is_malformed}

pub returns-then-to-payload : goal.returns-then-to-payload
returns-then-to-payload c = is_trailing _ _ _ _ _ c.in-Ok.ensures.reads c.if-to-payload.true

pub returns-else-to-payload : goal.returns-else-to-payload
returns-else-to-payload c = is_whole _ _ _ _ _ c.in-Ok.ensures.reads c.if-to-payload.false

pub returns-in-Err-Need : goal.returns-in-Err-Need
returns-in-Err-Need c = is_truncated _ _ (rw c.in-Err-Need.field-0-is at c.in-Err-Need.ensures.reads)

pub returns-in-Err-Malformed : goal.returns-in-Err-Malformed
returns-in-Err-Malformed c = is_malformed _ _ _ _ (rw c.in-Err-Malformed.field-0-is at c.in-Err-Malformed.ensures.reads)

pub returns-in-Err-NoMemory : goal.returns-in-Err-NoMemory
returns-in-Err-NoMemory c = rw c.in-Err-NoMemory.field-0-is at c.in-Err-NoMemory.ensures.reads
