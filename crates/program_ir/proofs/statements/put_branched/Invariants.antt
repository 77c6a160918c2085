-- What is begun, and how far, of all parts; then the statements so far, before those of the parts that are left.
use Rattle.std.proofs.Common.{◌≡◌, ◌+◌, ◌≤◌, ◌++◌, List, length, drop}
use Rattle.std.specs.Vec.{vec_capacity}
use Rattle.std.specs.Vec.Iter.{into_iter_items, into_iter_len}
use Rattle.spec_avro.specs.Node.{Node}
use Rattle.spec_machine.specs.Statements.{begins, branched, one_of}
use Rattle.program_ir.specs.Statements.{statements_in, parts_in}
use Rattle.program_ir.proofs.Branched.{room}
use Rattle.program_ir.proofs.statements.put_branched.Given as goal

abbrev pub invariant-loop-part : goal.invariant-loop-part
invariant-loop-part l = record {
  begun : (W R : List Node) → l.fars.items ++ begins (l.far + 1) (parts_in W R (drop l.part-index l.part-items)) ≡ begins 1 (parts_in W R l.part-items);
  far : l.far + room (drop l.part-index l.part-items) ≡ room l.part-items;
  fits : l.far ≤ vec_capacity l.statements;
  same : l.statements.items ≡ l.fn.statements.items;
}

abbrev pub invariant-loop-part-2 : goal.invariant-loop-part-2
invariant-loop-part-2 l = record {
  so_far : (W R : List Node) → statements_in W R l.statements.items ++ one_of (parts_in W R (into_iter_items l.part-iterator)) ≡ statements_in W R l.fn.statements.items ++ branched (parts_in W R l.fn.parts.items);
  far : l.far ≡ room (into_iter_items l.part-iterator);
  left : into_iter_len l.part-iterator ≡ length (into_iter_items l.part-iterator);
}
