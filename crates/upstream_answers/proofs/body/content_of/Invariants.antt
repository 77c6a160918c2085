-- What is waited for at first is what is waited for now, after the content so far.
use Rattle.std.proofs.Common.{◌≡◌, ◌≤◌, ◌↔◌, ℕ, List, [], length}
use Rattle.spec_service.specs.declared.upstream_limits.TheConstants.{MOST_CONTENT, MOST_FIELDS}
use Rattle.upstream_answers.specs.Parts.{HasContent}
use Rattle.upstream_answers.proofs.body.content_of.Given as goal

abbrev pub invariant-pieces : goal.invariant-pieces
invariant-pieces l = record {
  same : (whole : List ℕ)
      → HasContent l.fn.first l.fn.received [] whole ↔ HasContent l.decoder l.unread l.content.items whole;
  size : length l.content.items ≤ MOST_CONTENT;
  room : length l.trailers ≡ MOST_FIELDS;
}

abbrev pub decreases-pieces : goal.decreases-pieces
decreases-pieces l = length l.unread
