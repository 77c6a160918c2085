-- A program that was taken is the pair's, and where there is none the pair has none.
use Rattle.std.proofs.Common.{◌∙◌, sym, subst}
use Rattle.spec_machine.specs.Range.{IsProgram}
use Rattle.program_compiler.proofs.Compiled.{compiled, none_compiled, none_of_parts, refused, taken_parts, walked}
use Rattle.program_compiler.proofs.compiling.compile.Goals as goal

pub returns-in-Ok-new : goal.returns-in-Ok-new
returns-in-Ok-new c =
    let section_statements = walked c.args.writer.now c.args.reader.now c.in-Ok.section_statements _ c.in-Ok.is c.walk.ensures in
    let parts = taken_parts c.args.writer.now c.args.reader.now c.in-Ok.section_statements c.in-Ok-parts_of_statements.parts _ c.in-Ok-parts_of_statements.is c.parts_of_statements.ensures in
    compiled c.args.writer.now c.args.reader.now c.in-Ok.section_statements section_statements _ c.in-Ok-new.program parts.0 parts.1 (sym c.in-Ok-new.is ∙ c.new.ensures.judged)

pub returns-in-Ok-parts_of_statements : goal.returns-in-Ok-parts_of_statements
returns-in-Ok-parts_of_statements c =
    let section_statements = walked c.args.writer.now c.args.reader.now c.in-Ok.section_statements _ c.in-Ok.is c.walk.ensures in
    let parts = taken_parts c.args.writer.now c.args.reader.now c.in-Ok.section_statements c.in-Ok-parts_of_statements.parts _ c.in-Ok-parts_of_statements.is c.parts_of_statements.ensures in
    none_compiled c.args.writer.now c.args.reader.now c.in-Ok.section_statements section_statements c.program_is_in_range.ensures
    (λ whole prog. refused c.in-Err-new.field-0 _ c.in-Err-new.is (c.new.ensures.exact.1 (subst IsProgram (sym parts.1) prog)))

pub returns : goal.returns
returns c =
    let section_statements = walked c.args.writer.now c.args.reader.now c.in-Ok.section_statements _ c.in-Ok.is c.walk.ensures in
    none_of_parts c.args.writer.now c.args.reader.now c.in-Ok.section_statements section_statements c.program_is_in_range.ensures c.in-Err-parts_of_statements.error _ c.in-Err-parts_of_statements.is c.parts_of_statements.ensures
