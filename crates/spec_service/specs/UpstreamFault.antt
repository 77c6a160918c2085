-- The names of the faults of an upstream registry. This project's own.
use Rattle.std.specs.Prelude.{ℕ, List, codes}
use Rattle.spec_service.specs.declared.upstream_fault.UpstreamFault.{UpstreamFault}
use Rattle.spec_service.specs.declared.upstream_fault.UpstreamFault.TheVariants as faults

abbrev pub name_of : UpstreamFault → List ℕ
name_of faults.Unreached = codes "not reached"
name_of faults.Late = codes "no answer in time"
name_of faults.BadAnswer = codes "bad answer"
name_of faults.Busy = codes "too many requests wait"
