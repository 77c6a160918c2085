-- What a head says that was found.
use Rattle.std.proofs.Common.{◌≡◌, ◌∙◌, Ok, Err}
use Rattle.std.proofs.lemmas.List.{take_rest}
use Rattle.gateway_requests.proofs.Fronts.{is_allowed}
use Rattle.spec_service.specs.Front.{IsAllowed}
use Rattle.spec_service.specs.Asking.{chosen}
use Rattle.gateway_requests.proofs.Receiving.{after_head, fault_each, is_head, memory_each}
use Rattle.gateway_requests.proofs.reception.stage_after_head.Goals as goal

pub returns-in-Err : goal.returns-in-Err
returns-in-Err c =
    let at = c.requires.head.1 in
    fault_each c.args.bytes.now c.args.headers.now c.args.head.now c.requires.head.0 c.in-Err.fault at
    (is_allowed c.args.bytes.now c.args.headers.now c.args.head.now c.requires.head.0 at c.requires.within c.requires.few c.requires.fields)
    (c.choose.ensures.chosen c.requires.head.0 at ∙ c.in-Err.is)

pub returns-in-Ok-body_stage : goal.returns-in-Ok-body_stage
returns-in-Ok-body_stage c =
    let at = c.requires.head.1 in
    after_head c.args.head.now.len c.args.bytes.now _ _ c.in-Ok-body_stage.stage
    (is_head c.args.bytes.now c.args.headers.now c.args.head.now c.requires.head.0 c.in-Ok.chosen at c.requires.within
    (is_allowed c.args.bytes.now c.args.headers.now c.args.head.now c.requires.head.0 at c.requires.within c.requires.few c.requires.fields)
    (c.choose.ensures.chosen c.requires.head.0 at ∙ c.in-Ok.is) c.in-Ok.ensures.size)
    (take_rest c.args.bytes.now c.args.head.now.len) c.in-Ok-body_stage.ensures

pub returns-in-Err-body_stage : goal.returns-in-Err-body_stage
returns-in-Err-body_stage c =
    let at = c.requires.head.1 in
    memory_each c.args.bytes.now c.args.headers.now c.args.head.now c.requires.head.0 at
    (is_allowed c.args.bytes.now c.args.headers.now c.args.head.now c.requires.head.0 at c.requires.within c.requires.few c.requires.fields)
