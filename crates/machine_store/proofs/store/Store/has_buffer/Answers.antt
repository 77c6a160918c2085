use Rattle.std.proofs.Common.{◌∙◌, ◌∷◌, ap, refl, reverse, sym}
use Rattle.std.specs.Prelude.{is_some}
use Rattle.machine_store.proofs.Viewing.{buffer-shown, is-there}
use Rattle.machine_store.proofs.store.Store.has_buffer.Goals as goal

pub returns : goal.returns
returns c =
    let i = c.self.inside in
    let there = is-there i.top i.below.items c.deref.result.now i.buffers c.args.at c.len.result c.place_named.result c.self.invariant.places c.deref.ensures.value c.len.ensures c.place_named.ensures in
    c.is_some.ensures ∙ there ∙ sym (ap is_some (buffer-shown (i.top ∷ reverse i.below.items) i.buffers i.units i.mark i.over c.args.at c.args.self.now _ c.self.view_is refl))
