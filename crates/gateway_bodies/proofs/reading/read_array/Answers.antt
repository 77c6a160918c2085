-- No items, or some.
use Rattle.std.proofs.Common.{◌≡◌, None, length, refl, arith}
use Rattle.json.specs.Json.{after_end_array, value}
use Rattle.serde_json.specs.Data.{no_items}
use Rattle.gateway_bodies.proofs.Keeping.{array_has_items}
use Rattle.gateway_bodies.proofs.Turns.{items_over}
use Rattle.gateway_bodies.proofs.reading.read_array.Goals as goal

pub returns-then-take_end_array-clause-ok : goal.returns-then-take_end_array-clause-ok
returns-then-take_end_array-clause-ok c =
    let ts = c.args.reader.now in
    (no_items, items_over (value c.args.depth) (length ts) ts c.take_end_array.new.self (omega arith) (grind arith), refl)

pub returns-clause-ok : goal.returns-clause-ok
returns-clause-ok c =
    let ts = c.args.reader.now in
    let going : (after_end_array ts ≡ None) × (c.take_end_array.new.self ≡ ts) = grind arith in
    let done = rw going.1 at c.in_ok-pass_items.ensures.ok in
    (done.0, done.1, array_has_items (value c.args.depth) (length ts) ts c.pass_items.new.reader done.0 going.0 done.1)
