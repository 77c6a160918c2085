use Rattle.std.proofs.Common.{◌≡◌, ◌++◌, length, take}
use Rattle.std.specs.List.{flat_map}
use Rattle.spec_machine.specs.ImageSpelling.{long}
use Rattle.spec_machine.specs.Image.{section}
use Rattle.avro_loader.proofs.saving.put_tables.Given as goal

abbrev pub invariant-loop-number : goal.invariant-loop-number
invariant-loop-number g l = l.out.items ≡ l.fn.out.items ++ (long (length l.tables) ++ flat_map (section g.T.Thing.spelled) (take l.number l.tables))
