use Rattle.avro_datum.proofs.Gathering.{field_added, item_added, pair_added}
use Rattle.avro_datum.proofs.sink.KeepSink.push.Goals as goal

pub returns-in_ok-push-in-Fields-clause-ok : goal.returns-in_ok-push-in-Fields-clause-ok
returns-in_ok-push-in-Fields-clause-ok c p xs k d h same s = field_added _ _ _ c.in_ok-push-in-Fields.ensures.items p xs k d (rw c.in-Fields.is at h) s

pub returns-in_ok-push-in-Items-clause-ok : goal.returns-in_ok-push-in-Items-clause-ok
returns-in_ok-push-in-Items-clause-ok c p xs k d h same s = item_added _ _ _ c.in_ok-push-in-Items.ensures.items p xs k d (rw c.in-Items.is at h) s

pub returns-in_ok-push-in-Pairs-clause-ok : goal.returns-in_ok-push-in-Pairs-clause-ok
returns-in_ok-push-in-Pairs-clause-ok c p xs k d h same s = pair_added _ _ _ _ c.in_ok-push-in-Pairs.ensures.items p xs k d (rw c.in-Pairs.is at h) same s
