-- What is linked, with the constants and the misses.
use Rattle.std.proofs.Common.{◌∙◌}
use Rattle.spec_machine.specs.Numbering.{numbered}
use Rattle.program_ir.specs.Statements.{statements_in}
use Rattle.program_compiler.specs.Walking.{start_at}
use Rattle.program_compiler.proofs.Assembled.{linked_parts, misses_are, none_linked}
use Rattle.program_compiler.proofs.assembling.parts_with_constants.Goals as goal

pub returns-in-Err : goal.returns-in-Err
returns-in-Err c =
    let statements = statements_in c.args.w.now c.args.r.now c.args.section_statements.now.statements in
    none_linked statements (numbered (start_at c.args.section_statements.now) statements) c.in-Err.error c.linked_tables.result c.in-Err.is c.linked_tables.ensures

pub returns-in-Ok : goal.returns-in-Ok
returns-in-Ok c =
    let statements = statements_in c.args.w.now c.args.r.now c.args.section_statements.now.statements in
    let misses = misses_are (start_at c.args.section_statements.now) c.args.w.now c.args.r.now _ _ c.statements.ensures c.in_ok-misses.misses c.in_ok-misses.ensures in (
      c.requires.whole,
      linked_parts statements (numbered (start_at c.args.section_statements.now) statements) c.in-Ok.code c.in-Ok.maps c.in-Ok.jumps _ _ c.linked_tables.result c.in-Ok.is c.linked_tables.ensures
          (c.into_list.ensures ∙ c.requires.constants) (c.into_list-in-Ok.ensures ∙ misses),
    )

pub linked_tables-requires-clause-misses : goal.linked_tables-requires-clause-misses
linked_tables-requires-clause-misses c = misses_are (start_at c.args.section_statements.now) c.args.w.now c.args.r.now _ _ c.statements.ensures c.in_ok-misses.misses c.in_ok-misses.ensures
