-- A refusal of this process's registry says nothing of the upstream.
use Rattle.upstream_schemas.proofs.schemas.UpstreamSchemas.register.Goals as goal

pub returns-in-Err-clause-why : goal.returns-in-Err-clause-why
returns-in-Err-clause-why g c = c.fault_of.ensures c.args.id
