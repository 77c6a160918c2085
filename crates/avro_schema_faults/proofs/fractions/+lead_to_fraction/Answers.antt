use Rattle.std.proofs.Common.{arith, subst, Option}
use Rattle.serde_json.specs.View.{view}
use Rattle.avro_schema_paths.specs.declared.step.Step.{Step}
use Rattle.avro_schema_faults.specs.Fractions.{LeadsToFloat}
use Rattle.avro_schema_faults.proofs.FloatSteps.{float-there, fraction-here, fraction-within, step-depth}
use Rattle.avro_schema_faults.proofs.fractions.+lead_to_fraction.Goals as goal

pub lead_to_fraction-requires : goal.lead_to_fraction-requires
lead_to_fraction-requires t c =
    let leads = subst (λ (o : Option Step). LeadsToFloat o (view c.args.value.now)) c.in-Some.is c.step_to_float.ensures in
    let less = step-depth c.in-Some.step (view c.args.value.now) (view c.in-Some-step_in.part.now) c.in-Some-step_in.ensures in
    (omega (arith, less), float-there c.in-Some.step (view c.args.value.now) (view c.in-Some-step_in.part.now) c.in-Some-step_in.ensures leads)

pub returns-in-None : goal.returns-in-None
returns-in-None t c =
    let near = subst (λ (o : Option Step). LeadsToFloat o (view c.args.value.now)) c.in-None.is c.step_to_float.ensures in
    fraction-here (view c.args.value.now) c.args.trail.now.items c.requires near

pub returns-in_ok-push-in-Some-step_in : goal.returns-in_ok-push-in-Some-step_in
returns-in_ok-push-in-Some-step_in t c = fraction-within c.lead_to_fraction.result c.in-Some.step (view c.args.value.now) (view c.in-Some-step_in.part.now) c.args.trail.now.items c.push.new.self.items c.lead_to_fraction.new.trail.items c.in-Some-step_in.ensures c.in_ok-push-in-Some-step_in.ensures.items c.lead_to_fraction.ensures
