use Rattle.std.proofs.Common.{lit<, lit≤}
use Rattle.spec_avro.specs.Number.{int_limit, long_limit}
use Rattle.avro_bytes.specs.Laws.Shortests.{shortest_is_number, shortest_is_shortest}
use Rattle.avro_bytes.proofs.laws.shortest_spelling_is_shortest.Goals as goal

pub returns-clause-long : goal.returns-clause-long
returns-clause-long c = λ n fits. shortest_is_number long_limit n (lit< tt) (lit< tt) (lit≤ tt) fits

pub returns-clause-int : goal.returns-clause-int
returns-clause-int c = λ n fits. shortest_is_number int_limit n (lit< tt) (lit< tt) (lit≤ tt) fits

pub returns-clause-none_shorter : goal.returns-clause-none_shorter
returns-clause-none_shorter c = λ n bytes s. shortest_is_shortest long_limit n bytes s

pub returns-clause-no_int_shorter : goal.returns-clause-no_int_shorter
returns-clause-no_int_shorter c = λ n bytes s. shortest_is_shortest int_limit n bytes s
