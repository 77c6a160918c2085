-- Bytes that are refused, whatever follows.
use Rattle.std.proofs.Common.{◌≡◌, ◌≤◌, ◌∙◌, length, sym, arith, rules}
use Rattle.httparse.specs.Grammar.{HasNoRequest}
use Rattle.httparse.specs.Spans.{RequestOverflows}
use Rattle.spec_service.specs.declared.limits.TheConstants.{MOST_FIELDS, MOST_HEAD}
use Rattle.gateway_requests.specs.Stages.{IsAfterHead, is_refused}
use Rattle.gateway_requests.proofs.Receiving.{full_each, overflow_each, refused_stands}
use Rattle.gateway_requests.proofs.reception.stage_of.Goals as goal

pub returns-then-is_refused-clause-stands : goal.returns-then-is_refused-clause-stands
returns-then-is_refused-clause-stands c =
    let after : IsAfterHead c.in-Ok-Complete.head.len c.args.bytes.now.items c.stage_after_head-stage.result =
    rw (c.deref-in-Ok-Complete.ensures.value) at c.stage_after_head-stage.ensures in
    refused_stands c.in-Ok-Complete.head.len c.args.bytes.now.items c.stage_after_head-stage.result after
    (sym c.is_refused.ensures ∙ c.if-is_refused.true)

pub returns-in-Ok-Partial-2-clause-stands : goal.returns-in-Ok-Partial-2-clause-stands
returns-in-Ok-Partial-2-clause-stands c =
    let none : HasNoRequest c.args.bytes.now.items = search rules in
    full_each c.args.bytes.now.items none (search (rules, arith))

pub returns-in-Err-clause-stands : goal.returns-in-Err-clause-stands
returns-in-Err-clause-stands c =
    let over : RequestOverflows MOST_FIELDS c.args.bytes.now.items = search rules in
    overflow_each c.args.bytes.now.items over
