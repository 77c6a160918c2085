use Rattle.std.proofs.Common.{List, ℕ, string_bytes, subst}
use Rattle.schema_report.specs.Faults.{HasPlaceOf}
use Rattle.schema_report.proofs.report.bad_line.Goals as goal

pub returns : goal.returns
returns c = record {
  before = string_bytes c.push_place.new.output;
  place = subst (λ (o : List ℕ). HasPlaceOf c.args.line.now c.args.error o (string_bytes c.push_place.new.output)) c.in_ok-text.ensures c.in_ok-push_place.ensures;
  whole = c.in_ok-push_str.ensures.bytes;
}
