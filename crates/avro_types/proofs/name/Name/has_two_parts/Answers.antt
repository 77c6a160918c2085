use Rattle.std.proofs.Common.{◌≡◌, ◌∙◌, sym, ap, string_bytes}
use Rattle.std.specs.Arc.{arc_str_bytes}
use Rattle.spec_avro.specs.FullNames.{namespace_of, unqualified}
use Rattle.avro_types.specs.Laws.Dots.{namespace-inside, unqualified-inside}
use Rattle.avro_types.specs.Laws.NameParts.{name-undotted}
use Rattle.avro_types.proofs.name.Name.has_two_parts.Goals as goal

pub returns-clause-parts : goal.returns-clause-parts
returns-clause-parts c =
    let p = c.self.inside in
    let undotted = name-undotted (string_bytes p.last) c.self.invariant.last_is in
    let namespace : namespace_of c.args.self.now ≡ arc_str_bytes p.namespace = ap namespace_of (sym c.self.view_is) ∙ namespace-inside (arc_str_bytes p.namespace) (string_bytes p.last) undotted in
    let last : unqualified c.args.self.now ≡ string_bytes p.last = ap unqualified (sym c.self.view_is) ∙ unqualified-inside (arc_str_bytes p.namespace) (string_bytes p.last) undotted in
    rw (namespace, last) c.self.invariant

pub returns-clause-joined : goal.returns-clause-joined
returns-clause-joined c =
    let p = c.self.inside in
    let undotted = name-undotted (string_bytes p.last) c.self.invariant.last_is in
    let namespace : namespace_of c.args.self.now ≡ arc_str_bytes p.namespace = ap namespace_of (sym c.self.view_is) ∙ namespace-inside (arc_str_bytes p.namespace) (string_bytes p.last) undotted in
    let last : unqualified c.args.self.now ≡ string_bytes p.last = ap unqualified (sym c.self.view_is) ∙ unqualified-inside (arc_str_bytes p.namespace) (string_bytes p.last) undotted in
    rw (namespace, last) c.self.view_is
