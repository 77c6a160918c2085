use Rattle.avro_bytes.specs.Laws.Walks.{end_takes, head_places, inside_keeps}
use Rattle.avro_bytes.proofs.laws.walks_stand_at_their_blocks.Goals as goal

pub returns-clause-head : goal.returns-clause-head
returns-clause-head c = λ walk next all at to m after e none. head_places walk next all at to m after e none

pub returns-clause-inside : goal.returns-clause-inside
returns-clause-inside c = λ walk next all at to m after e some. inside_keeps walk next all at to m after e some

pub returns-clause-end : goal.returns-clause-end
returns-clause-end c = λ walk all at to m after e. end_takes walk all at to m after e
