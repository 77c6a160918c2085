-- The level of a name, or none.
use Rattle.std.proofs.Common.{◌≡◌, Some, None, sym, ap}
use Rattle.std.specs.Option.{ok_or}
use Rattle.spec_service.specs.declared.fault.Fault.TheVariants.{BadLevel}
use Rattle.spec_registry.specs.Level.{level_named}
use Rattle.schema_registry.proofs.Levels.{level-read}
use Rattle.gateway_requests.proofs.json_body.known_level.Goals as goal

pub returns-in-Ok : goal.returns-in-Ok
returns-in-Ok c =
    let e : level_named c.args.name.now ≡ Some c.in-Ok.level = sym (level-read _ _ c.in-Ok.ensures) in
    sym (ap (λ o. ok_or o BadLevel) e)

pub returns-in-Err : goal.returns-in-Err
returns-in-Err c =
    let e : level_named c.args.name.now ≡ None = sym (level-read _ _ c.in-Err.ensures) in
    sym (ap (λ o. ok_or o BadLevel) e)
