use Rattle.std.proofs.Common.{◌≡◌, ap, subst, sym, true}
use Rattle.std.specs.Prelude.{is_some}
use Rattle.machine_store.specs.Frames.{walk_of}
use Rattle.machine_store.specs.Store.{around_items}
use Rattle.machine.specs.Contract.{GrowsBy, closing_bytes}
use Rattle.machine.specs.Running.{Running}
use Rattle.machine.proofs.Appending.{store_closed, store_grew}
use Rattle.machine.proofs.machine.Machine.close_blocks.Goals as goal

pub returns-clause-appends : goal.returns-clause-appends
returns-clause-appends c =
    let i = c.self.inside in
    store_grew i.store c.close_blocks.new.self (around_items i.store.store.frames) c.args.self.now.layout.arena (ap (λ (r : Running). r.layout.arena) c.self.view_is) c.close_blocks.result c.close_blocks.ensures.arena c.close_blocks.ensures.refused

pub returns-clause-joins : goal.returns-clause-joins
returns-clause-joins c =
    let i = c.self.inside in
    let b = c.close_blocks.new.self in
    let blocks = subst (λ (r : Running). is_some (walk_of r.state.store.frames) ≡ true) (sym c.self.view_is) c.requires.blocks in
    subst (λ (r : Running). GrowsBy (closing_bytes r.state.store.frames b.store.frames) c.args.self.now.layout.arena b.store b.layout.arena) c.self.view_is
    (store_closed i.store b c.args.self.now.layout.arena (ap (λ (r : Running). r.layout.arena) c.self.view_is) c.close_blocks.result blocks c.close_blocks.ensures.closed c.close_blocks.ensures.arena c.close_blocks.ensures.refused)

pub returns-then-is_err-clause-joins : goal.returns-then-is_err-clause-joins
returns-then-is_err-clause-joins c =
    let i = c.self.inside in
    let b = c.close_blocks.new.self in
    let blocks = subst (λ (r : Running). is_some (walk_of r.state.store.frames) ≡ true) (sym c.self.view_is) c.requires.blocks in
    subst (λ (r : Running). GrowsBy (closing_bytes r.state.store.frames b.store.frames) c.args.self.now.layout.arena b.store b.layout.arena) c.self.view_is
    (store_closed i.store b c.args.self.now.layout.arena (ap (λ (r : Running). r.layout.arena) c.self.view_is) c.close_blocks.result blocks c.close_blocks.ensures.closed c.close_blocks.ensures.arena c.close_blocks.ensures.refused)
