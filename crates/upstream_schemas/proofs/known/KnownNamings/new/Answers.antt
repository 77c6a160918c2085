-- The tag of each slot has the names of the cells.
use Rattle.std.proofs.Common.{◌∙◌, ap, rules}
use Rattle.upstream_schemas.specs.Known.{names_of}
use Rattle.upstream_schemas.proofs.Tags.{names_of_tag}
use Rattle.upstream_schemas.proofs.known.KnownNamings.new.Goals as goal

pub returns : goal.returns
returns g c = (search rules, λ j d lt. ap names_of (c.loop.invariant.2 j d lt ∙ c.of-tag.ensures) ∙ names_of_tag c.args.cells.now)
