use Rattle.std.proofs.Common.{◌≡◌, ◌∙◌, ◌++◌, [], ◌∷◌, ap, option_map, string_bytes}
use Rattle.schema_registry.specs.Keeping.{KeptLevel, kept_in}
use Rattle.schema_registry.proofs.Restarts.{one_level_more, level_after, kept_failed, kept_done, kept_back}
use Rattle.schema_registry.proofs.kept_registry.KeptRegistry.set_free_level.Goals as goal

pub invariant_of-self : goal.invariant_of-self
invariant_of-self g c =
    let old = c.self.inside.registry in
    let told = rw (← c.self.view_is) at c.requires in
    kept_failed g.K.Keeper.keeps g.K.Keeper.leaves g.K.Keeper.spoils g.K.Keeper.is_open c.self.inside.keeper c.keep_level.new.self old (KeptLevel (option_map string_bytes c.args.subject) c.args.level ∷ []) c.self.invariant
    (record { refused = c.in-Err.ensures.refused; crash = c.keep_level.ensures.crash; readable = c.keep_level.ensures.readable; closed = c.keep_level.ensures.closed }) (one_level_more old _ c.args.level told)

pub invariant_of-self-in-Ok : goal.invariant_of-self-in-Ok
invariant_of-self-in-Ok g c =
    let old = c.self.inside.registry in
    let s = option_map string_bytes c.args.subject in
    let new = c.apply.new.self in
    let kept_new : kept_in new ≡ kept_in old ++ KeptLevel s c.args.level ∷ [] = ap kept_in c.in-Ok.ensures.ok ∙ level_after old s c.args.level in
    let has = c.in_default.ensures.kept (kept_in old) (c.self.invariant.whole c.in_default.ensures.open) in
    let now : g.K.Keeper.keeps c.keep_level.new.self (kept_in new) = rw kept_new has in
    kept_done g.K.Keeper.keeps g.K.Keeper.leaves g.K.Keeper.spoils g.K.Keeper.is_open c.keep_level.new.self new now c.leaves_what_it_has.ensures.crash c.leaves_what_it_has.ensures.readable

pub invariant_of-self-in-Err-apply : goal.invariant_of-self-in-Err-apply
invariant_of-self-in-Err-apply g c =
    let old = c.self.inside.registry in
    let new = c.apply.new.self in
    let new_is : new ≡ old = c.in-Err-apply.ensures.err in
    let told = rw (← c.self.view_is) at c.requires in
    let has = c.in_default.ensures.kept (kept_in old) (c.self.invariant.whole c.in_default.ensures.open) in
    rw new_is (kept_back g.K.Keeper.keeps g.K.Keeper.leaves g.K.Keeper.spoils g.K.Keeper.is_open c.keep_level.new.self c.take_back.new.self old (KeptLevel (option_map string_bytes c.args.subject) c.args.level) has
    c.take_back.ensures.taken c.take_back.ensures.crash c.take_back.ensures.readable (one_level_more old _ c.args.level told))
