use Rattle.registry_store.proofs.store.CommandStore.append.Goals as goal

pub returns-in-Ok-clause-last : goal.returns-in-Ok-clause-last
returns-in-Ok-clause-last g c = (c.args.self.now.journal.gate, c.in-Ok.ensures.last.0, c.in-Ok.ensures.last.1)
