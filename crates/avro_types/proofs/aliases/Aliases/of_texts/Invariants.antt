-- Those so far are found.
use Rattle.std.proofs.Common.{take}
use Rattle.std.specs.Arc.{arc_str_bytes}
use Rattle.avro_types.specs.Aliases.{AreFound}
use Rattle.avro_types.proofs.aliases.Aliases.of_texts.Given as goal

abbrev pub invariant-loop-text : goal.invariant-loop-text
invariant-loop-text l = AreFound (arc_str_bytes l.namespace) (take l.text-index l.fn.texts.items) l.relative l.qualified
