-- The text was kept before.
use Rattle.std.proofs.Common.{string_bytes}
use Rattle.spec_service.specs.UpstreamNaming.{kept_before}
use Rattle.upstream_schemas.proofs.schemas.UpstreamSchemas.hold.Goals as goal

pub register-requires : goal.register-requires
register-requires g c = kept_before c.requires

pub put-requires : goal.put-requires
put-requires g c = record {
  text = string_bytes c.args.text.now;
  is_text = kept_before c.requires;
  is_kept = c.requires;
  declares = c.in_ok-own.ensures.schema;
}
