use Rattle.std.proofs.Common.{◌∙◌, ap}
use Rattle.spec_avro.specs.Symbols.{place_of}
use Rattle.avro_types.proofs.SymbolPositions.{position-within}
use Rattle.avro_types.proofs.symbols.Symbols.position_of.Goals as goal

pub returns-clause-place : goal.returns-clause-place
returns-clause-place c = c.copied.ensures ∙ c.get.ensures.value ∙ c.self.invariant c.args.text.now ∙ ap (place_of c.args.text.now) c.self.view_is

pub returns-clause-within : goal.returns-clause-within
returns-clause-within c = position-within c.args.text.now c.args.self.now c.copied.result (c.copied.ensures ∙ c.get.ensures.value ∙ c.self.invariant c.args.text.now ∙ ap (place_of c.args.text.now) c.self.view_is)
