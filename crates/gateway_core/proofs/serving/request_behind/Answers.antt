-- What is asked by the head, the path and the body.
use Rattle.std.proofs.Common.{◌≡◌, Ok, Err, drop, refl, ap, ◌∙◌}
use Rattle.std.proofs.lemmas.List.{take_rest}
use Rattle.spec_service.specs.Asking.{chosen}
use Rattle.spec_service.specs.Path.{path_of}
use Rattle.gateway_core.proofs.Asked.{fault_asks, memory_asks, request_asks}
use Rattle.gateway_core.proofs.serving.request_behind.Goals as goal

pub returns-in-Err-clause-ok : goal.returns-in-Err-clause-ok
returns-in-Err-clause-ok g c = λ h at.
    let is : chosen h ≡ Err c.in-Err.fault = c.choose.ensures.chosen h at ∙ c.in-Err.is in
    (Err c.in-Err.fault, λ _. refl, fault_asks h c.in-Err.fault _ _ is)

pub returns-in-Ok-read_body-clause-ok : goal.returns-in-Ok-read_body-clause-ok
returns-in-Ok-read_body-clause-ok g c = λ h at.
    let is : chosen h ≡ Ok c.in-Ok.chosen = c.choose.ensures.chosen h at ∙ c.in-Ok.is in
    let path_is : c.as_bytes-path.result.now ≡ path_of h.target =
    c.as_bytes-path.ensures.value ∙ c.path_of.ensures ∙ ap path_of (c.of.ensures ∙ at.path) in
    request_asks h c.in-Ok.chosen (g.R.Read.remaining c.args.reader.now) _ (drop c.args.head.now.len c.args.received.now)
    c.as_bytes-path.result.now _ _ c.request_of.result
    is (take_rest c.args.received.now c.args.head.now.len) path_is refl c.in-Ok-read_body.ensures.body c.request_of.ensures.tells

pub returns-in-Err-NoMemory-clause-ok : goal.returns-in-Err-NoMemory-clause-ok
returns-in-Err-NoMemory-clause-ok g c = λ h at.
    let some = memory_asks h (g.R.Read.remaining c.args.reader.now) (drop c.args.head.now.len c.args.received.now) in
    (some.0, λ no. absurd (no refl), some.1)
