-- What is asked by the head and the body that have come.
use Rattle.std.proofs.Common.{◌≡◌, ◌∙◌, Err, ap, subst, sym}
use Rattle.httparse.specs.Spans.{span_bytes}
use Rattle.spec_service.specs.Asking.{asked_for}
use Rattle.spec_service.specs.Path.{path_of}
use Rattle.gateway_requests.specs.Request.{request_of}
use Rattle.gateway_requests.specs.Steps.{Tells}
use Rattle.spec_service.specs.declared.action.Action.{Action}
use Rattle.gateway_requests.specs.Stages.{IsHead, IsMessageHead, follows, is_whole}
use Rattle.gateway_requests.proofs.Receiving.{begun_tells, body_ended, body_whole, each_tells, message_small, refused_tells}
use Rattle.gateway_requests.proofs.reception.Reception.into_request.Goals as goal

pub returns-in-Head-clause-ended : goal.returns-in-Head-clause-ended
returns-in-Head-clause-ended c = λ some.
    begun_tells c.args.self c.self.inside.head.items c.self.inside.stage (sym c.self.view_is) c.in-Head.is (rw c.in-Head.is at c.self.invariant).0 some

pub returns-in-Text-clause-whole : goal.returns-in-Text-clause-whole
returns-in-Text-clause-whole c =
    let known : IsHead c.self.inside.head.items c.in-Text.headed = rw c.in-Text.is at c.self.invariant in
    let path_is : c.as_bytes-path.result.now ≡ path_of known.head.target =
    c.as_bytes-path.ensures.value ∙ c.path_of.ensures
    ∙ ap path_of (c.of.ensures ∙ ap (λ z. span_bytes z c.in-Text.headed.target) c.deref.ensures.value ∙ known.target_is) in
    body_whole c.args.self c.self.inside.head.items c.in-Text.body.items c.self.inside.stage c.in-Text.headed c.as_bytes-path.result.now _
    c.request_of.result (sym c.self.view_is) (ap follows c.in-Text.is) (ap is_whole c.in-Text.is) known path_is c.whole_text-body.ensures
    c.request_of.ensures.tells

pub returns-in-Text-clause-ended : goal.returns-in-Text-clause-ended
returns-in-Text-clause-ended c = λ some.
    let known : IsHead c.self.inside.head.items c.in-Text.headed = rw c.in-Text.is at c.self.invariant in
    let path_is : c.as_bytes-path.result.now ≡ path_of known.head.target =
    c.as_bytes-path.ensures.value ∙ c.path_of.ensures
    ∙ ap path_of (c.of.ensures ∙ ap (λ z. span_bytes z c.in-Text.headed.target) c.deref.ensures.value ∙ known.target_is) in
    body_ended c.args.self c.self.inside.head.items c.in-Text.body.items c.self.inside.stage c.in-Text.headed c.as_bytes-path.result.now _
    c.request_of.result (sym c.self.view_is) (ap follows c.in-Text.is) (ap is_whole c.in-Text.is) known path_is c.whole_text-body.ensures
    c.request_of.ensures.tells

pub returns-in-Message-clause-whole : goal.returns-in-Message-clause-whole
returns-in-Message-clause-whole c =
    let standing : IsMessageHead c.self.inside.head.items c.in-Message.headed = rw c.in-Message.is at c.self.invariant in
    let known : IsHead c.self.inside.head.items c.in-Message.headed = standing.0 in
    let told : Tells request_of c.transcoding_of.result
    (asked_for c.as_bytes-path-in-Message.result.now c.whole_message-message.result c.in-Message.headed.chosen.action) =
    let P : Action → Type 0 = λ a.
    Tells request_of c.transcoding_of.result (asked_for c.as_bytes-path-in-Message.result.now c.whole_message-message.result a) in
    subst P (sym standing.1) c.transcoding_of.ensures.tells in
    let path_is : c.as_bytes-path-in-Message.result.now ≡ path_of known.head.target =
    c.as_bytes-path-in-Message.ensures.value ∙ c.path_of-in-Message.ensures
    ∙ ap path_of (c.of-in-Message.ensures ∙ ap (λ z. span_bytes z c.in-Message.headed.target) c.deref-in-Message.ensures.value ∙ known.target_is) in
    body_whole c.args.self c.self.inside.head.items c.in-Message.message c.self.inside.stage c.in-Message.headed
    c.as_bytes-path-in-Message.result.now _ c.transcoding_of.result (sym c.self.view_is) (ap follows c.in-Message.is)
    (ap is_whole c.in-Message.is) known path_is c.whole_message-message.ensures
    told

pub returns-in-Message-clause-ended : goal.returns-in-Message-clause-ended
returns-in-Message-clause-ended c = λ some.
    let standing : IsMessageHead c.self.inside.head.items c.in-Message.headed = rw c.in-Message.is at c.self.invariant in
    let known : IsHead c.self.inside.head.items c.in-Message.headed = standing.0 in
    let told : Tells request_of c.transcoding_of.result
    (asked_for c.as_bytes-path-in-Message.result.now c.whole_message-message.result c.in-Message.headed.chosen.action) =
    let P : Action → Type 0 = λ a.
    Tells request_of c.transcoding_of.result (asked_for c.as_bytes-path-in-Message.result.now c.whole_message-message.result a) in
    subst P (sym standing.1) c.transcoding_of.ensures.tells in
    let path_is : c.as_bytes-path-in-Message.result.now ≡ path_of known.head.target =
    c.as_bytes-path-in-Message.ensures.value ∙ c.path_of-in-Message.ensures
    ∙ ap path_of (c.of-in-Message.ensures ∙ ap (λ z. span_bytes z c.in-Message.headed.target) c.deref-in-Message.ensures.value ∙ known.target_is) in
    body_ended c.args.self c.self.inside.head.items c.in-Message.message c.self.inside.stage c.in-Message.headed
    c.as_bytes-path-in-Message.result.now _ c.transcoding_of.result (sym c.self.view_is) (ap follows c.in-Message.is)
    (ap is_whole c.in-Message.is) known path_is c.whole_message-message.ensures
    told

pub returns-in-Message-clause-size : goal.returns-in-Message-clause-size
returns-in-Message-clause-size c =
    let standing : IsMessageHead c.self.inside.head.items c.in-Message.headed = rw c.in-Message.is at c.self.invariant in
    message_small c.in-Message.headed.chosen.body_length c.in-Message.message _ c.transcoding_of.result c.whole_message-message.ensures
    standing.0.small c.transcoding_of.ensures.size

pub returns-clause-whole : goal.returns-clause-whole
returns-clause-whole c = λ done.
    refused_tells c.args.self c.self.inside.head.items c.self.inside.stage c.in-Refused.fault (sym c.self.view_is) c.in-Refused.is
    (rw c.in-Refused.is at c.self.invariant)

pub returns-clause-ended : goal.returns-clause-ended
returns-clause-ended c = λ some.
    each_tells c.args.self.bytes (Err c.in-Refused.fault)
    (refused_tells c.args.self c.self.inside.head.items c.self.inside.stage c.in-Refused.fault (sym c.self.view_is) c.in-Refused.is
    (rw c.in-Refused.is at c.self.invariant))
