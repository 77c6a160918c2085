use Rattle.serde_json.specs.Data.{depth}
use Rattle.serde_json.specs.View.{view}
use Rattle.avro_schema_faults.proofs.fractions.+lead_to_fraction.Given as goal

abbrev pub decreases-lead_to_fraction : goal.decreases-lead_to_fraction
decreases-lead_to_fraction l = depth (view l.value.now)
