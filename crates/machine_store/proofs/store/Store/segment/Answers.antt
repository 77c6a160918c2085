use Rattle.std.proofs.Common.{◌≤◌, ◌∙◌, ◌∷◌, List, ap, arith, length, reverse, slice_get, sym}
use Rattle.std.proofs.lemmas.Option.{slice_get_past}
use Rattle.spec_avro.specs.declared.limits.TheConstants.{MOST_OUTPUT}
use Rattle.machine_store.specs.declared.ropes.Segment.{Segment}
use Rattle.machine_store.specs.Buffers.{segments_at}
use Rattle.machine_store.proofs.Viewing.{buffer-shown, few-segments, is-placed, none-named, none-placed, segments-named}
use Rattle.machine_store.proofs.store.Store.segment.Goals as goal

pub unreachable-requires : goal.unreachable-requires
unreachable-requires c =
    let i = c.self.inside in
    let none = none-placed i.top i.below.items c.deref.result.now i.buffers c.args.at c.len.result c.place_named.result c.self.invariant.places c.deref.ensures.value c.len.ensures c.place_named.ensures c.in_default.is in
    none-named _ c.requires (buffer-shown (i.top ∷ reverse i.below.items) i.buffers i.units i.mark i.over c.args.at c.args.self.now _ c.self.view_is none)

pub returns-then-number-ge-MOST_OUTPUT : goal.returns-then-number-ge-MOST_OUTPUT
returns-then-number-ge-MOST_OUTPUT c =
    let i = c.self.inside in
    let p = is-placed i.top i.below.items c.deref.result.now i.buffers c.args.at c.len.result c.place_named.result c.self.invariant.places c.deref.ensures.value c.len.ensures c.place_named.ensures c.in-Some.place c.in-Some.is in
    let few = few-segments i.buffers c.in-Some.place MOST_OUTPUT c.are_laid.ensures p.there (omega (arith, c.self.invariant.counts, c.self.invariant.fits)) in
    let past : length (segments_at i.buffers c.in-Some.place) ≤ c.args.number = omega (arith, few, c.if-number-ge-MOST_OUTPUT.true) in
    sym (ap (λ (x : List Segment). slice_get x c.args.number) (segments-named (i.top ∷ reverse i.below.items) i.buffers i.units i.mark i.over c.args.at c.args.self.now c.in-Some.place c.self.view_is p) ∙ slice_get_past (segments_at i.buffers c.in-Some.place) c.args.number past)

pub segment-requires-clause-there : goal.segment-requires-clause-there
segment-requires-clause-there c =
    let i = c.self.inside in
    (is-placed i.top i.below.items c.deref.result.now i.buffers c.args.at c.len.result c.place_named.result c.self.invariant.places c.deref.ensures.value c.len.ensures c.place_named.ensures c.in-Some.place c.in-Some.is).there

pub returns : goal.returns
returns c =
    let i = c.self.inside in
    let p = is-placed i.top i.below.items c.deref.result.now i.buffers c.args.at c.len.result c.place_named.result c.self.invariant.places c.deref.ensures.value c.len.ensures c.place_named.ensures c.in-Some.place c.in-Some.is in
    c.segment.ensures ∙ ap (λ (x : List Segment). slice_get x c.args.number) (sym (segments-named (i.top ∷ reverse i.below.items) i.buffers i.units i.mark i.over c.args.at c.args.self.now c.in-Some.place c.self.view_is p))
