-- The values so far are those of the names so far.
use Rattle.std.proofs.Common.{◌≡◌, map, string_bytes, take}
use Rattle.serde_json.specs.View.{view}
use Rattle.serde_json.specs.Data.{string}
use Rattle.gateway_requests.proofs.replies.name_values.Given as goal

abbrev pub invariant-loop-name : goal.invariant-loop-name
invariant-loop-name l = map view l.values.items ≡ map string (map string_bytes (take l.name-index l.names))
