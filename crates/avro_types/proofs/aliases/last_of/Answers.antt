use Rattle.avro_types.specs.Laws.Dots.{none-undotted}
use Rattle.avro_types.proofs.AliasPlaces.{last-alone, last-behind}
use Rattle.avro_types.proofs.aliases.last_of.Goals as goal

pub returns-in-Some : goal.returns-in-Some
returns-in-Some c = λ own. last-behind own c.args.text.now c.in-Some.field-0-0.now c.in-Some.last.now c.in-Some.ensures.cases

pub returns-in-None : goal.returns-in-None
returns-in-None c = λ own. last-alone own c.args.text.now (none-undotted c.args.text.now c.in-None.ensures.cases)
