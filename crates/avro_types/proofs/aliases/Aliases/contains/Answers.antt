use Rattle.std.proofs.Common.{◌≡◌, ◌&&◌, ◌||◌}
use Rattle.std.specs.Arc.{arc_str_bytes}
use Rattle.std.specs.BTreeSet.{contains_text}
use Rattle.std.specs.Str.{bytes_eq}
use Rattle.avro_types.specs.Aliases.{stands_under}
use Rattle.spec_avro.specs.Symbols.{is_used}
use Rattle.avro_types.proofs.AliasPlaces.{found-alone, found-name, found-under}
use Rattle.avro_types.proofs.aliases.Aliases.contains.Goals as goal

pub returns-then-is_relative : goal.returns-then-is_relative
returns-then-is_relative c =
    let a = c.self.inside in
    let namespace = c.namespace-namespace.result.now in
    let last = c.last-last.result.now in
    let found : is_used c.args.name.now c.args.self.now ≡ ((bytes_eq namespace (arc_str_bytes a.namespace) && contains_text a.relative last) || stands_under a.qualified namespace last) =
    rw (c.namespace-namespace.ensures, c.last-last.ensures) (found-name (arc_str_bytes a.namespace) a.texts.items a.relative a.qualified c.self.invariant c.args.self.now c.self.view_is c.args.name.now c.has_two_parts.ensures.parts c.has_two_parts.ensures.joined) in
    found-alone c.is_relative.result (bytes_eq namespace (arc_str_bytes a.namespace) && contains_text a.relative last) (stands_under a.qualified namespace last) (is_used c.args.name.now c.args.self.now) found c.is_relative.ensures c.if-is_relative.true

pub returns-else-is_relative : goal.returns-else-is_relative
returns-else-is_relative c =
    let a = c.self.inside in
    let namespace = c.namespace-namespace.result.now in
    let last = c.last-last.result.now in
    let found : is_used c.args.name.now c.args.self.now ≡ ((bytes_eq namespace (arc_str_bytes a.namespace) && contains_text a.relative last) || stands_under a.qualified namespace last) =
    rw (c.namespace-namespace.ensures, c.last-last.ensures) (found-name (arc_str_bytes a.namespace) a.texts.items a.relative a.qualified c.self.invariant c.args.self.now c.self.view_is c.args.name.now c.has_two_parts.ensures.parts c.has_two_parts.ensures.joined) in
    found-under c.is_relative.result c.stands_under.result (bytes_eq namespace (arc_str_bytes a.namespace) && contains_text a.relative last) (stands_under a.qualified namespace last) (is_used c.args.name.now c.args.self.now) found c.is_relative.ensures c.if-is_relative.false c.stands_under.ensures
