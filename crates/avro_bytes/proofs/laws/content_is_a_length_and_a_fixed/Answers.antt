use Rattle.avro_bytes.specs.Laws.Blobs.{content_fails, content_is_fixed}
use Rattle.avro_bytes.proofs.laws.content_is_a_length_and_a_fixed.Goals as goal

pub returns-clause-fixed : goal.returns-clause-fixed
returns-clause-fixed c = λ bytes at n to m after e. content_is_fixed bytes at n to m after e

pub returns-clause-failed : goal.returns-clause-failed
returns-clause-failed c = λ bytes at m d e. content_fails bytes at m d e
