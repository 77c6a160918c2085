-- What reads a field of the writer's, after its slot. This project's own.
use Rattle.std.specs.Prelude.{List}
use Rattle.spec_avro.specs.Node.{Node}
use Rattle.spec_avro.specs.declared.place.Route.{Route}
use Rattle.spec_avro.specs.Options.{given}
use Rattle.spec_machine.specs.Statements.{Statement}
use Rattle.spec_machine.specs.Skipping.{K}
use Rattle.spec_machine.specs.Writing.{X}

abbrev pub read_code : List Node → List Node → Route → List Statement
read_code W R route = given route.partner (K W route.node) (λ p. X W R route.node p.node)
