use Rattle.schema_registry.specs.Command.{command_of}
use Rattle.schema_registry.proofs.Restarts.{kept_quiet, quiet_again}
use Rattle.schema_registry.proofs.kept_registry.KeptRegistry.register_known.Goals as goal

pub invariant_of-self : goal.invariant_of-self
invariant_of-self g c =
    let old = c.self.inside.registry in
    let decided = rw (← c.self.view_is) at c.requires.decided in
    kept_quiet g.K.Keeper.keeps g.K.Keeper.leaves g.K.Keeper.spoils g.K.Keeper.is_open c.register_decided.result c.self.inside.keeper old c.register_decided.new.self (command_of c.args.command)
    (quiet_again old (command_of c.args.command) c.args.schema.now c.args.decision c.requires.asks decided c.requires.known)
    c.register_decided.ensures.ok c.register_decided.ensures.err c.self.invariant
