use Rattle.std.proofs.Common.{◌∙◌, ◌∷◌, ℕ, List, ap, length, reverse, slice_get, sym}
use Rattle.std.specs.Prelude.{option_map}
use Rattle.std.proofs.lemmas.List.{length-map}
use Rattle.machine_store.specs.declared.store.Frame.{Frame}
use Rattle.machine_store.specs.Segments.{bytes_of}
use Rattle.machine_store.specs.Store.{Held, texts_of}
use Rattle.machine_store.specs.Viewing.{frame_numbered, view_in, view_of}
use Rattle.machine_store.proofs.Viewing.{frame-seen}
use Rattle.machine_store.proofs.store.Store.frame_at.Goals as goal

pub returns : goal.returns
returns c =
    let i = c.self.inside in
    let fs = i.top ∷ reverse i.below.items in
    let n = length i.buffers.slots in
    c.view_numbered.ensures
    ∙ ap view_in (ap (λ (xs : List Frame). frame_numbered c.args.number (i.top ∷ reverse xs) c.len.result) c.deref.ensures.value
    ∙ ap (λ (k : ℕ). frame_numbered c.args.number fs k) c.len.ensures)
    ∙ sym (frame-seen fs (texts_of i.buffers) i.buffers.slots c.args.number n c.self.invariant.places (sym (length-map i.buffers.slots (bytes_of i.buffers.arena))))
    ∙ ap (λ (h : Held). option_map view_of (slice_get (reverse h.store.frames) c.args.number)) c.self.view_is
