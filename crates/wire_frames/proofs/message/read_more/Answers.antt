-- What was taken follows what had come.
use Rattle.std.proofs.Common.{rules, arith, ℕ, List, ◌≡◌, ◌+◌, ◌++◌, ◌∙◌, ap, take}
use Rattle.std.proofs.lemmas.List.{length-drop, length-take-le}
use Rattle.wire_frames.proofs.Moved.{kept_front, moved}
use Rattle.wire_frames.proofs.message.read_more.Goals as goal

pub returns-in-Ok-clause-received : goal.returns-in-Ok-clause-received
returns-in-Ok-clause-received g c =
    let kept : take c.len-had.result c.deref_mut.result.now ≡ c.args.bytes.now.items =
    kept_front c.len-had.result (c.len-had.result + c.min-step.result) c.deref_mut.result.now c.args.bytes.now.items _
    (c.deref_mut.ensures.value ∙ c.in_ok-resize.ensures.items) (search (rules, arith)) (search (rules, arith)) in
    record {
      more = take c.in-Ok.count c.read.new.buf;
      consumes = c.in-Ok.ensures.bytes.0;
      long = length-take-le c.in-Ok.count c.read.new.buf c.in-Ok.ensures.bound.0;
      follows = c.truncate.ensures.items
          ∙ moved c.len-had.result _ c.in-Ok.count c.resize.new.self.len c.deref_mut.result.now c.read.new.buf _
          (search (rules, arith)) c.in-Ok.ensures.bound.0 (search (rules, arith, length-drop))
          ∙ ap (λ (z : List ℕ). z ++ take c.in-Ok.count c.read.new.buf) kept;
      at_end = search (rules, arith, length-drop);
    }
