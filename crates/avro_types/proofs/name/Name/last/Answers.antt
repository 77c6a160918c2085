use Rattle.std.proofs.Common.{◌∙◌, sym, ap, string_bytes}
use Rattle.std.specs.Arc.{arc_str_bytes}
use Rattle.spec_avro.specs.FullNames.{unqualified}
use Rattle.avro_types.specs.Laws.Dots.{unqualified-inside}
use Rattle.avro_types.specs.Laws.NameParts.{name-undotted}
use Rattle.avro_types.proofs.name.Name.last.Goals as goal

pub returns : goal.returns
returns c =
    let parts = c.self.inside in
    c.as_str.ensures.value
    ∙ sym (unqualified-inside (arc_str_bytes parts.namespace) (string_bytes parts.last) (name-undotted (string_bytes parts.last) c.self.invariant.last_is))
    ∙ ap unqualified c.self.view_is
