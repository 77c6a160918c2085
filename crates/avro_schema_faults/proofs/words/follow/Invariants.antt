use Rattle.std.proofs.Common.{◌≡◌, drop}
use Rattle.serde_json.specs.View.{view}
use Rattle.avro_schema_paths.specs.Following.{follow}
use Rattle.avro_schema_faults.proofs.words.follow.Given as goal

abbrev pub invariant-loop-step : goal.invariant-loop-step
invariant-loop-step l = follow (drop l.step-index l.path) (view l.found) ≡ follow l.path (view l.value)
