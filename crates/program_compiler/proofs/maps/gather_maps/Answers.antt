-- One statement more, and none left.
use Rattle.std.proofs.Common.{◌∙◌, ◌++◌, sym, ap, map, append-nil}
use Rattle.std.proofs.Math.ListN.{drop_of_length-le}
use Rattle.spec_machine.specs.Numbering.{entry_of, maps_of, named_in}
use Rattle.program_ir.specs.Statements.{statements_in}
use Rattle.program_compiler.proofs.Jumps.{maps_on}
use Rattle.program_compiler.proofs.maps.gather_maps.Goals as goal

pub loop-statement-preserved : goal.loop-statement-preserved
loop-statement-preserved c = record {
  shared = c.in_ok-push_named.ensures.shared;
  so_far = maps_on c.args.writer.now c.args.reader.now c.args.statements.now c.loop-statement.statement-index c.statement-item.result c.loop-statement-test.true c.statement-item.is c.args.misses.now _ _ _ c.in_ok-push_named.ensures.pushed c.loop-statement.invariant.so_far;
}

pub returns : goal.returns
returns c = sym (append-nil c.loop-statement.row.maps) ∙ ap (λ ls. c.loop-statement.row.maps ++ map (map (entry_of c.args.misses.now)) (named_in maps_of (statements_in c.args.writer.now c.args.reader.now ls))) (sym (drop_of_length-le c.args.statements.now c.loop-statement-test.false)) ∙ c.loop-statement.invariant.so_far
