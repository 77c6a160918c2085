use Rattle.std.proofs.Common.{◌≡◌, ◌∙◌, ◌∷◌, ◌++◌, List, ℕ, ap, reverse}
use Rattle.std.proofs.lemmas.Result.{on_ok_weaker}
use Rattle.machine_store.specs.Segments.{bytes_of}
use Rattle.machine_store.specs.Buffers.{segments_at}
use Rattle.machine_store.proofs.Viewing.{buffer-shown, grown-on-ok, is-placed, none-named, none-placed, pushed-buffer, same-on-err}
use Rattle.machine_store.proofs.store.Store.push_buffer.Goals as goal

pub unreachable-requires : goal.unreachable-requires
unreachable-requires c =
    let i = c.self.inside in
    let none = none-placed i.top i.below.items c.deref.result.now i.buffers c.args.at c.len.result c.place_named.result c.self.invariant.places c.deref.ensures.value c.len.ensures c.place_named.ensures c.in_default.is in
    none-named _ c.requires (buffer-shown (i.top ∷ reverse i.below.items) i.buffers i.units i.mark i.over c.args.at c.args.self.now _ c.self.view_is none)

pub write-requires : goal.write-requires
write-requires c =
    let i = c.self.inside in
    (is-placed i.top i.below.items c.deref.result.now i.buffers c.args.at c.len.result c.place_named.result c.self.invariant.places c.deref.ensures.value c.len.ensures c.place_named.ensures c.in-Some.place c.in-Some.is).there

pub returns-clause-pushed : goal.returns-clause-pushed
returns-clause-pushed c =
    let i = c.self.inside in
    let p = is-placed i.top i.below.items c.deref.result.now i.buffers c.args.at c.len.result c.place_named.result c.self.invariant.places c.deref.ensures.value c.len.ensures c.place_named.ensures c.in-Some.place c.in-Some.is in
    let told = buffer-shown (i.top ∷ reverse i.below.items) i.buffers i.units i.mark i.over c.args.at c.args.self.now _ c.self.view_is p.bytes in
    let bytes : c.deref-2.result.now ≡ bytes_of i.buffers.arena (segments_at i.buffers c.in-Some.place) = c.deref-2.ensures.value ∙ c.in_ok-write.ensures ∙ ap (λ (x : List ℕ). x ++ bytes_of i.buffers.arena (segments_at i.buffers c.in-Some.place)) c.new-bytes.ensures.items in
    on_ok_weaker c.extend_from_slice.result (λ e. pushed-buffer _ c.args.out.now.items _ _ told (e ∙ ap (λ (x : List ℕ). c.args.out.now.items ++ x) bytes)) (grown-on-ok c.extend_from_slice.result c.extend_from_slice.new.self.items c.args.out.now.items c.deref-2.result.now c.extend_from_slice.ensures.items)

pub returns-clause-refused : goal.returns-clause-refused
returns-clause-refused c = same-on-err c.extend_from_slice.result c.extend_from_slice.new.self.items c.args.out.now.items c.deref-2.result.now c.extend_from_slice.ensures.items
