use Rattle.std.proofs.Common.{◌≡◌, ◌∙◌, ◌++◌, [], ◌∷◌, Ok, ap, string_bytes}
use Rattle.spec_registry.specs.Accepting.{declaration_of}
use Rattle.schema_registry.specs.Keeping.{KeptRegistration, kept_in}
use Rattle.schema_registry.proofs.Restarts.{one_more, one_text, new_after, kept_failed, kept_done, kept_back}
use Rattle.schema_registry.proofs.kept_registry.KeptRegistry.register_new.Goals as goal

pub invariant_of-self : goal.invariant_of-self
invariant_of-self g c =
    let old = c.self.inside.registry in
    let s = string_bytes c.args.subject in
    let t = string_bytes c.args.text in
    let asks = c.requires.asks in
    let declares : declaration_of t ≡ Ok c.args.schema.now = ap declaration_of (one_text s t s asks.text asks.command_is) ∙ asks.declares in
    let decided = rw (← c.self.view_is) at c.requires.decided in
    let crash = rw (c.deref.ensures, c.deref-2.ensures) at c.keep_registration.ensures.crash in
    kept_failed g.K.Keeper.keeps g.K.Keeper.leaves g.K.Keeper.spoils g.K.Keeper.is_open c.self.inside.keeper c.keep_registration.new.self old (KeptRegistration c.args.id s t ∷ []) c.self.invariant
    (record { refused = c.in_err-keep_registration.ensures.refused; crash = crash; readable = c.keep_registration.ensures.readable; closed = c.keep_registration.ensures.closed }) (one_more old s t c.args.schema.now asks.subject_is declares c.args.id decided)

pub invariant_of-self-in-Ok : goal.invariant_of-self-in-Ok
invariant_of-self-in-Ok g c =
    let old = c.self.inside.registry in
    let s = string_bytes c.args.subject in
    let t = string_bytes c.args.text in
    let id = c.args.id in
    let asks = c.requires.asks in
    let new = c.register_decided.new.self in
    let declares : declaration_of t ≡ Ok c.args.schema.now = ap declaration_of (one_text s t s asks.text asks.command_is) ∙ asks.declares in
    let decided = rw (← c.self.view_is) at c.requires.decided in
    let kept_new : kept_in new ≡ kept_in old ++ KeptRegistration id s t ∷ [] = ap kept_in c.in-Ok.ensures.ok ∙ new_after old s t c.args.schema.now asks.subject_is declares id decided in
    let has = (rw (c.deref.ensures, c.deref-2.ensures) at c.in_ok-keep_registration.ensures.kept) (kept_in old) (c.self.invariant.whole c.in_ok-keep_registration.ensures.open) in
    let now : g.K.Keeper.keeps c.keep_registration.new.self (kept_in new) = rw kept_new has in
    kept_done g.K.Keeper.keeps g.K.Keeper.leaves g.K.Keeper.spoils g.K.Keeper.is_open c.keep_registration.new.self new now c.leaves_what_it_has.ensures.crash c.leaves_what_it_has.ensures.readable

pub invariant_of-self-in-Err : goal.invariant_of-self-in-Err
invariant_of-self-in-Err g c =
    let old = c.self.inside.registry in
    let s = string_bytes c.args.subject in
    let t = string_bytes c.args.text in
    let id = c.args.id in
    let asks = c.requires.asks in
    let new = c.register_decided.new.self in
    let new_is : new ≡ old = c.in-Err.ensures.err in
    let declares : declaration_of t ≡ Ok c.args.schema.now = ap declaration_of (one_text s t s asks.text asks.command_is) ∙ asks.declares in
    let decided = rw (← c.self.view_is) at c.requires.decided in
    let has = (rw (c.deref.ensures, c.deref-2.ensures) at c.in_ok-keep_registration.ensures.kept) (kept_in old) (c.self.invariant.whole c.in_ok-keep_registration.ensures.open) in
    rw new_is (kept_back g.K.Keeper.keeps g.K.Keeper.leaves g.K.Keeper.spoils g.K.Keeper.is_open c.keep_registration.new.self c.take_back.new.self old (KeptRegistration id s t) has c.take_back.ensures.taken c.take_back.ensures.crash c.take_back.ensures.readable
    (one_more old s t c.args.schema.now asks.subject_is declares id decided))
