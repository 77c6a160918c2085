use Rattle.std.proofs.Common.{◌≡◌, ◌++◌, length, take}
use Rattle.std.specs.List.{flat_map}
use Rattle.spec_machine.specs.ImageSpelling.{long}
use Rattle.avro_loader.proofs.saving.put_section.Given as goal

abbrev pub invariant-loop-thing : goal.invariant-loop-thing
invariant-loop-thing g l = l.out.items ≡ l.fn.out.items ++ (long (length l.things) ++ flat_map g.T.Thing.spelled (take l.thing-index l.things))
