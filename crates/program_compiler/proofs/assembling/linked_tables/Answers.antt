-- Where a limit is passed there is no program, and else all is that of all statements.
use Rattle.std.proofs.Common.{sym, ap, ◌∙◌}
use Rattle.spec_machine.specs.Numbering.{constants_in, misses_in}
use Rattle.program_ir.specs.Statements.{statements_in}
use Rattle.program_compiler.specs.Walking.{start_at}
use Rattle.program_compiler.proofs.Assembled.{code_is, jumps_are, many_misses, maps_are, none_assembled, wide_statements}
use Rattle.program_compiler.proofs.Jumps.{at_none}
use Rattle.program_compiler.proofs.Linked.{at_some}
use Rattle.program_compiler.proofs.assembling.linked_tables.Goals as goal

pub returns-then-len-gt-MOST_TABLES : goal.returns-then-len-gt-MOST_TABLES
returns-then-len-gt-MOST_TABLES c = λ whole prog. many_misses (start_at c.args.tables.now.section_statements.now) c.args.w.now c.args.r.now _ _ c.statements-statements.ensures c.args.tables.now.misses.now c.len.result c.len.ensures c.requires.misses c.if-len-gt-MOST_TABLES.true prog

pub returns-in_default : goal.returns-in_default
returns-in_default c = λ whole prog. wide_statements (start_at c.args.tables.now.section_statements.now) c.args.w.now c.args.r.now _ _ c.statements-statements.ensures (at_none _ _ _ c.in_default.is (c.in_ok-jumps.ensures c.args.w.now c.args.r.now)) prog

pub returns-in-Err : goal.returns-in-Err
returns-in-Err c =
    let W = c.args.w.now in
    let R = c.args.r.now in
    let back = sym c.statements-statements.ensures in
    let constants = c.requires.constants ∙ ap (λ l. constants_in (statements_in W R l)) back in
    let misses = c.requires.misses ∙ ap (λ l. misses_in (statements_in W R l)) back in
    none_assembled (start_at c.args.tables.now.section_statements.now) W R _ _ c.statements-statements.ensures _ _ constants misses c.in-Err.error c.link.result c.in-Err.is (c.link.ensures W)

pub returns-in-Ok : goal.returns-in-Ok
returns-in-Ok c =
    let W = c.args.w.now in
    let R = c.args.r.now in
    let back = sym c.statements-statements.ensures in
    let constants = c.requires.constants ∙ ap (λ l. constants_in (statements_in W R l)) back in
    let misses = c.requires.misses ∙ ap (λ l. misses_in (statements_in W R l)) back in
    let starts = start_at c.args.tables.now.section_statements.now in (
      code_is starts W R _ _ c.statements-statements.ensures _ _ constants misses c.in-Ok.code c.link.result c.in-Ok.is (c.link.ensures W),
      maps_are starts W R _ _ c.statements-statements.ensures _ _ constants misses c.in_ok-maps.maps c.in_ok-maps.ensures,
      jumps_are starts W R _ _ c.statements-statements.ensures c.in-Some.jumps (at_some _ _ _ _ c.in-Some.is (c.in_ok-jumps.ensures W R)),
    )
