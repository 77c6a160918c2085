-- The schema that the text is of.
use Rattle.std.proofs.Common.{ℕ, List, inr, refl, ap, ◌∙◌}
use Rattle.serde_json.specs.Written.{compact_text}
use Rattle.spec_service.specs.Answer.{Replied}
use Rattle.spec_service.specs.Replies.{schema_data}
use Rattle.gateway_core.proofs.named.tell_text.Goals as goal

pub returns-in_ok-schema_text-in-Ok : goal.returns-in_ok-schema_text-in-Ok
returns-in_ok-schema_text-in-Ok g c =
    let shown = ap (λ (t : List ℕ). compact_text (schema_data t)) c.text-text.ensures in
    rw c.schema.ensures.same (inr (record {
      named = record { receipt = c.in-Ok.named.receipt; seen = c.in-Ok.named.seen };
      sight_is = refl;
      is_named = c.in-Ok.ensures.named;
      answer_is = rw c.schema.ensures.schema (ap Replied (c.in_ok-schema_text-in-Ok.ensures ∙ shown));
    }))
