use Rattle.std.proofs.Common.{◌≡◌, ◌∙◌, ◌∷◌, ℕ, ap, arith, length, reverse}
use Rattle.std.proofs.lemmas.List.{length-reverse}
use Rattle.spec_avro.specs.declared.meter.Meter.{Meter}
use Rattle.machine_store.specs.Store.{Held, meter_of, texts_of}
use Rattle.machine_store.proofs.Keeping.{depth}
use Rattle.machine_store.proofs.store.Store.meter.Goals as goal

pub returns : goal.returns
returns c =
    let i = c.self.inside in
    let fs = i.top ∷ reverse i.below.items in
    let deep = depth fs (texts_of i.buffers) (length i.buffers.slots) c.self.invariant.places in
    let n : c.len.result ≡ length c.args.self.now.store.frames = omega (arith, c.len.ensures, deep, length-reverse i.below.items, ap (λ (x : Held). length x.store.frames) c.self.view_is) in
    let m : Meter = record { depth = c.len.result; units = i.units } in
    ap (λ (k : ℕ). record m { depth = k }) n ∙ ap (λ (k : ℕ). record (meter_of c.args.self.now) { units = k }) (ap (λ (x : Held). x.units) c.self.view_is)
