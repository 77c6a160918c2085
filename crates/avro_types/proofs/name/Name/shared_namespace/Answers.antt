use Rattle.std.proofs.Common.{◌∙◌, sym, ap, string_bytes}
use Rattle.std.specs.Arc.{arc_str_bytes}
use Rattle.spec_avro.specs.FullNames.{is_namespace, namespace_of}
use Rattle.avro_types.specs.Laws.Dots.{namespace-inside}
use Rattle.avro_types.specs.Laws.NameParts.{name-undotted}
use Rattle.avro_types.proofs.name.Name.shared_namespace.Goals as goal

pub returns-clause-text : goal.returns-clause-text
returns-clause-text c =
    let parts = c.self.inside in
    c.in_ok-clone.ensures.cases
    ∙ sym (namespace-inside (arc_str_bytes parts.namespace) (string_bytes parts.last) (name-undotted (string_bytes parts.last) c.self.invariant.last_is))
    ∙ ap namespace_of c.self.view_is

pub returns-clause-by_rule : goal.returns-clause-by_rule
returns-clause-by_rule c = ap is_namespace c.in_ok-clone.ensures.cases ∙ c.self.invariant.namespace_is
