-- The steps so far.
use Rattle.std.proofs.Common.{◌≡◌, ◌++◌, take}
use Rattle.std.specs.List.{AllByRecursion}
use Rattle.std.specs.Prelude.{string_bytes}
use Rattle.avro_schema_paths.specs.Pointers.{HasShortPosition, pointer_of}
use Rattle.avro_schema_paths.proofs.pointers.push_steps.Given as goal

abbrev pub invariant-loop-step : goal.invariant-loop-step
invariant-loop-step l = (string_bytes l.text ≡ string_bytes l.fn.text ++ pointer_of (take l.step-index l.path)) × AllByRecursion HasShortPosition (take l.step-index l.path)
