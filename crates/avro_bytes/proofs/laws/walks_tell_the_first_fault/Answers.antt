use Rattle.avro_bytes.specs.Laws.BlockDefects.{bad_block_told, after_met, head_defect, head_told, within_defect, within_told}
use Rattle.avro_bytes.proofs.laws.walks_tell_the_first_fault.Goals as goal

pub returns-clause-within : goal.returns-clause-within
returns-clause-within c = λ walk all at m some. within_defect walk all at m some

pub returns-clause-within_told : goal.returns-clause-within_told
returns-clause-within_told c = λ walk all at m d some r. within_told walk all at m d some r

pub returns-clause-at_end : goal.returns-clause-at_end
returns-clause-at_end c = λ walk all at m none met. after_met walk all at m none met

pub returns-clause-head : goal.returns-clause-head
returns-clause-head c = λ all at m. head_defect all at m

pub returns-clause-head_told : goal.returns-clause-head_told
returns-clause-head_told c = λ before bytes m d f. head_told before bytes m d f

pub returns-clause-bad_block_told : goal.returns-clause-bad_block_told
returns-clause-bad_block_told c = λ walk all at m none bad. bad_block_told walk all at m none bad
