use Rattle.upstream_fetching.proofs.Kept.{on-ok, origin_of}
use Rattle.upstream_fetching.proofs.kept_upstream.KeptUpstreamUpstream.keep.Goals as goal

pub returns : goal.returns
returns g c = on-ok c.keep_in.result _ (origin_of _ _ _ _ c.requires)
