-- The names that a tag has are those that it was made of.
use Rattle.std.proofs.Common.{◌≡◌}
use Rattle.std.proofs.Math.Seq.{take-append_seam, drop-append_seam}
use Rattle.upstream_schemas.specs.Known.{names_of, tag_of}
use Rattle.spec_service.specs.UpstreamNaming.{Names}

pub names_of_tag : (names : Names) → names_of (tag_of names) ≡ names
names_of_tag names = λ i. record {
  registry = take-append_seam names.registry names.table i;
  table = drop-append_seam names.registry names.table i;
}
