use Rattle.std.proofs.Common.{◌≡◌, ◌++◌, length, take}
use Rattle.std.specs.List.{flat_map}
use Rattle.spec_machine.specs.ImageSpelling.{long}
use Rattle.spec_machine.specs.Image.{constant}
use Rattle.avro_loader.proofs.saving.put_constants.Given as goal

abbrev pub invariant-loop-number : goal.invariant-loop-number
invariant-loop-number l = l.out.items ≡ l.fn.out.items ++ (long (length l.constants) ++ flat_map constant (take l.number l.constants))
