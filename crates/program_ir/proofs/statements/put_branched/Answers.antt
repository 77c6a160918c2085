-- All parts are begun; then one part more, with a jump after it or none.
use Rattle.std.proofs.Common.{◌≡◌, ◌∙◌, ◌++◌, ◌-◌, ◌+◌, ◌∷◌, [], ap, sym, arith}
use Rattle.std.specs.Vec.Iter.{into_iter_items}
use Rattle.std.proofs.Math.ListN.{drop_of_length-le}
use Rattle.std.proofs.lemmas.Grind.{common_steps}
use Rattle.spec_machine.specs.Statements.{Branch, begins, one_of}
use Rattle.program_ir.specs.Statements.{statements_in, parts_in}
use Rattle.program_ir.proofs.Branched.{branch_put, part_on, room}
use Rattle.program_ir.proofs.statements.put_branched.Goals as goal

pub loop-part-2-init : goal.loop-part-2-init
loop-part-2-init c =
    let all : into_iter_items c.into_iter-part-iterator.result ≡ c.args.parts.items = c.into_iter-part-iterator.ensures.into_iter_gives.0 in
    let none = drop_of_length-le c.deref-part-items.result.now c.loop-part-test.false in
    record {
      so_far = λ W R.
          let fars : c.loop-part.fars.items ≡ begins 1 (parts_in W R c.args.parts.items) = grind (arith, common_steps, none, c.loop-part.invariant.begun W R) in
          branch_put W R (statements_in W R c.args.statements.now.items) _ c.loop-part.fars.items _ _ all (c.in_ok-put.ensures W R ∙ ap (λ ls. statements_in W R ls ++ Branch c.loop-part.fars.items ∷ []) c.loop-part.invariant.same) fars;
      far = grind (arith, common_steps);
      left = grind (arith, common_steps);
    }

pub loop-part-2-preserved : goal.loop-part-2-preserved
loop-part-2-preserved c =
    let far : c.loop-part-2.far - (c.len-in-loop-part-2.result + 1) ≡ room (into_iter_items c.next.new.self) = grind (arith, common_steps) in
    record {
      so_far = λ W R.
          let next : into_iter_items c.loop-part-2.part-iterator ≡ c.in-Some.part ∷ into_iter_items c.next.new.self = c.in-Some.ensures.steps.0 in
          part_on W R (statements_in W R c.loop-part-2.statements.items) _ _ c.in-Some.part _ _ (c.in_ok-put_all.ensures W R) far (c.in_ok-put_jump.ensures W R)
          ∙ ap (λ ps. statements_in W R c.loop-part-2.statements.items ++ one_of (parts_in W R ps)) (sym next) ∙ c.loop-part-2.invariant.so_far W R;
      far = far;
      left = grind (arith, common_steps);
    }
