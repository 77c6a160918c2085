use Rattle.std.proofs.Common.{lit≤}
use Rattle.spec_avro.specs.Number.{int_limit, long_limit}
use Rattle.avro_bytes.specs.Laws.Tights.{tight_number_is_shortest}
use Rattle.avro_bytes.proofs.laws.tight_spelling_is_the_shortest.Goals as goal

pub returns-clause-long : goal.returns-clause-long
returns-clause-long c = λ n bytes a s t. tight_number_is_shortest long_limit n bytes (lit≤ tt) a s t

pub returns-clause-int : goal.returns-clause-int
returns-clause-int c = λ n bytes a s t. tight_number_is_shortest int_limit n bytes (lit≤ tt) a s t
