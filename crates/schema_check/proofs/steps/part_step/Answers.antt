-- Fields name nodes of their schema.
use Rattle.avro_types.specs.Node.{fields_of}
use Rattle.resolver.proofs.Within.{partners_within, routes_within}
use Rattle.schema_check.proofs.steps.part_step.Goals as goal

pub returns-in_ok-step-in-Record-Record-clause-within : goal.returns-in_ok-step-in-Record-Record-clause-within
returns-in_ok-step-in-Record-Record-clause-within c =
    let ws = (rw c.in-Record-Record.is-0 at c.kind.ensures.well_formed).0 in
    let rs = (rw c.in-Record-Record.is-1 at c.kind-2.ensures.well_formed).0 in
    rw (c.in_ok-step-in-Record-Record.ensures.next, c.deref.ensures.value, c.deref-in-Record-Record.ensures.value) (partners_within _ _ _ _ (routes_within _ _ (fields_of c.in-Record-Record.ws.items) (fields_of c.in-Record-Record.rs.items) ws rs))
