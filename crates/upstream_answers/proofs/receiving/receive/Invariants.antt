-- What was received is what was taken from the reader, and each turn takes a byte more.
use Rattle.std.proofs.Common.{◌≡◌, ◌≤◌, ◌-◌, length}
use Rattle.std.specs.Io.KnownBytes.{Consumes}
use Rattle.upstream_answers.specs.Stages.{IsStageOf}
use Rattle.spec_service.specs.declared.upstream_limits.TheConstants.{MOST_ANSWER, MOST_FIELDS}
use Rattle.upstream_answers.proofs.receiving.receive.Given as goal

abbrev pub invariant-reads : goal.invariant-reads
invariant-reads g l = record {
  taken : Consumes (g.R.Read.remaining l.fn.reader) (g.R.Read.remaining l.reader) l.received.items;
  size : length l.received.items ≤ MOST_ANSWER;
  stage : IsStageOf (length l.received.items) l.stage;
  chunk : length l.chunk ≡ 4096;
  room : length l.headers ≡ MOST_FIELDS;
}

abbrev pub decreases-reads : goal.decreases-reads
decreases-reads g l = MOST_ANSWER - length l.received.items
