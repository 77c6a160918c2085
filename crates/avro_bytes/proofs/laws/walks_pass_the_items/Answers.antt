use Rattle.avro_bytes.specs.Laws.BlockEnds.{end_sound, first_remains, remains_first}
use Rattle.avro_bytes.specs.Laws.BlockSteps.{step_sound}
use Rattle.avro_bytes.specs.Laws.BlocksAgain.{end_complete, step_complete}
use Rattle.avro_bytes.specs.Laws.BlocksSame.{comes_or_ends, comes_same, ends_same, walk_steady}
use Rattle.avro_bytes.proofs.laws.walks_pass_the_items.Goals as goal

pub returns-clause-first : goal.returns-clause-first
returns-clause-first c = λ start at items bytes. (λ s. remains_first start at items bytes s, λ r. first_remains start at items bytes r)

pub returns-clause-step_sound : goal.returns-clause-step_sound
returns-clause-step_sound c = λ walk all at m next to after e. step_sound walk all at m next to after e

pub returns-clause-end_sound : goal.returns-clause-end_sound
returns-clause-end_sound c = λ walk all at m to after e. end_sound walk all at m to after e

pub returns-clause-step_complete : goal.returns-clause-step_complete
returns-clause-step_complete c = λ walk at item items bytes r. step_complete walk at item items bytes r

pub returns-clause-end_complete : goal.returns-clause-end_complete
returns-clause-end_complete c = λ walk before bytes more m r. end_complete walk before bytes more m r

pub returns-clause-steady : goal.returns-clause-steady
returns-clause-steady c = λ walk all more at m le e. walk_steady walk all more at m le e

pub returns-clause-one_item : goal.returns-clause-one_item
returns-clause-one_item c = λ walk at i j is js a b x y p q e. comes_same walk at i j is js a b x y p q e

pub returns-clause-item_or_end : goal.returns-clause-item_or_end
returns-clause-item_or_end c = λ walk at i is a b x y p r e. comes_or_ends walk at i is a b x y p r e

pub returns-clause-one_end : goal.returns-clause-one_end
returns-clause-one_end c = λ walk at a b x y r s e. ends_same walk at a b x y r s e
