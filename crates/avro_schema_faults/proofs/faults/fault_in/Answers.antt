use Rattle.std.proofs.Common.{◌≡◌, ◌≢◌, true, refl}
use Rattle.serde_json.specs.View.{view}
use Rattle.spec_schema.specs.declared.schema_error.SchemaError.TheVariants.{NoMemory}
use Rattle.avro_schema_faults.proofs.Found.{fault-found, number-found}
use Rattle.avro_schema_faults.proofs.faults.fault_in.Goals as goal

pub returns-then-has_float : goal.returns-then-has_float
returns-then-has_float c = number-found (view c.args.value.now) _ c.if-has_float.ensures refl c.new-path.result.items c.new-path.ensures.items c.in_ok-lead_to_fraction.ensures

pub returns-in-Err-2 : goal.returns-in-Err-2
returns-in-Err-2 c =
    let known : c.in-Err.error ≢ NoMemory = λ same. let yes : c.eq.result ≡ true = rw (c.eq.ensures, same) refl in let not = c.if-eq.false in let no : ⊥ = cc in no in
    fault-found (view c.args.value.now) _ c.if-has_float.ensures known c.in-Err.ensures
