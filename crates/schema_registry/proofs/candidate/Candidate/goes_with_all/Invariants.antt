use Rattle.std.proofs.Common.{drop}
use Rattle.schema_registry.proofs.Safe.{Leaves}
use Rattle.schema_registry.proofs.candidate.Candidate.goes_with_all.Given as goal

abbrev pub invariant-loop-place : goal.invariant-loop-place
invariant-loop-place l = Leaves l.level l.self l.schemas l.ids (drop l.place l.ids)
